use Rattle.std.proofs.Common.{map}
use Rattle.zr_mix.specs.Mixtures.{part_of}
use Rattle.zr_tidy.specs.Places.{AreBefore}
use Rattle.zr_tidy.proofs.merge.place_of.Given as goal

abbrev pub invariant-loop-k : goal.invariant-loop-k
invariant-loop-k l = AreBefore l.k (map part_of l.parts) l.point
