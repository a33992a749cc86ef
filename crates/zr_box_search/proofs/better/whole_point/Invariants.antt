use Rattle.std.proofs.Common.{◌≡◌, All, int_div, map, take}
use Rattle.zr_base.specs.Steps.{IsNarrow}
use Rattle.zr_box_search.proofs.better.whole_point.Given as goal

abbrev pub invariant-loop-v : goal.invariant-loop-v
invariant-loop-v l = record {
  items : l.values.items ≡ map (λ n. int_div n l.point.den) (take l.v l.point.num);
  narrow : All IsNarrow l.values.items;
}
