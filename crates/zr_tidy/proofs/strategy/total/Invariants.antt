use Rattle.std.proofs.Common.{◌≡◌, map, take}
use Rattle.zr_game.specs.Profiles.{total}
use Rattle.zr_mix.specs.Mixtures.{part_of}
use Rattle.zr_tidy.proofs.strategy.total.Given as goal

abbrev pub invariant-loop-part : goal.invariant-loop-part
invariant-loop-part l = l.sum ≡ total (map part_of (take l.part-index l.parts))
