use Rattle.std.proofs.Common.{[], map, take, All}
use Rattle.zr_base.specs.Points.{IsPoint}
use Rattle.zr_mix.specs.Mixtures.{part_of}
use Rattle.zr_tidy.specs.Merges.{AreMerged}
use Rattle.zr_tidy.proofs.merge.merged.Given as goal

abbrev pub invariant-loop-part : goal.invariant-loop-part
invariant-loop-part l = record {
  merged : AreMerged [] (map part_of (take l.part-index l.raw)) (map part_of l.parts.items);
  points : All (λ part. IsPoint part.point.num part.point.den) l.parts.items;
}
