use Rattle.std.proofs.Common.{map}
use Rattle.zr_game.specs.Players.{var_of}
use Rattle.zr_source.specs.Names.{var_name}
use Rattle.zr_game.specs.Players.{pair_of}
use Rattle.zr_write.specs.Canonical.{pair_data}
use Rattle.zr_write.proofs.Grown.{Stands}
use Rattle.zr_write.proofs.rows.pairs_value.Given as goal

abbrev pub invariant-loop-pair : goal.invariant-loop-pair
invariant-loop-pair l = Stands (λ pair. pair_data (map var_name (map var_of l.vars)) (pair_of pair)) l.pairs l.pair-index l.items.items
