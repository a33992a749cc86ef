use Rattle.std.proofs.Common.{◌≡◌, ◌+◌, ◌*◌, ◌+ℤ◌, drop}
use Rattle.zr_base.specs.Sums.{sum_products}
use Rattle.zr_boxes.specs.Paths.{box_of}
use Rattle.zr_box_search.specs.Sides.{end_pairs, high_end, low_end}
use Rattle.zr_box_search.specs.Sizes.{IsUpTo, number_size, product_size}
use Rattle.zr_box_search.proofs.slope.cross_ends.Given as goal

abbrev pub invariant-loop-count : goal.invariant-loop-count
invariant-loop-count l = record {
  low : l.sum.low +ℤ sum_products (end_pairs low_end (box_of l.leaves) l.v (drop l.count l.cross))
      ≡ l.own +ℤ sum_products (end_pairs low_end (box_of l.leaves) l.v l.cross);
  high : l.sum.high
      +ℤ sum_products (end_pairs high_end (box_of l.leaves) l.v (drop l.count l.cross))
      ≡ l.own +ℤ sum_products (end_pairs high_end (box_of l.leaves) l.v l.cross);
  least : IsUpTo (number_size + l.count * product_size) l.sum.low;
  greatest : IsUpTo (number_size + l.count * product_size) l.sum.high;
}
