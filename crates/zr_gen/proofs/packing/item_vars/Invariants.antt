use Rattle.std.proofs.Common.{◌≡◌, map}
use Rattle.std.specs.List.{range_with_len}
use Rattle.zr_game.specs.Players.{var_of}
use Rattle.zr_gen.specs.Packing.{item_var}
use Rattle.zr_gen.proofs.packing.item_vars.Given as goal

abbrev pub invariant-loop-k : goal.invariant-loop-k
invariant-loop-k l = map var_of l.list.items ≡ map item_var (range_with_len 0 l.k)
