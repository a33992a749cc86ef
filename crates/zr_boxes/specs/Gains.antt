-- The least gain of a player by playing a point against a box: a sum of products of ends of ranges.
use Rattle.std.specs.Prelude.{ℕ, ◌==◌, ℤ, pos, ◌+ℤ◌, Bool, ◌||◌, List, length, map, if◌then◌else◌}
use Rattle.std.specs.List.{All, filter, list_any}
use Rattle.zr_base.specs.Sums.{sum_products, sum_to}
use Rattle.zr_base.specs.Terms.{coef_at}
use Rattle.zr_base.specs.Points.{PointOf, num_of}
use Rattle.zr_game.specs.declared.player.CrossTerm.{CrossTerm}
use Rattle.zr_game.specs.Players.{PlayerOf}
use Rattle.zr_boxes.specs.Boxes.{BoxOf}
use Rattle.zr_boxes.specs.declared.range.End.{End}
use Rattle.zr_boxes.specs.declared.range.End.TheVariants.{Least, Greatest}
use Rattle.zr_boxes.specs.declared.range.Range.{Range}
use Rattle.zr_boxes.specs.Ranges.{HasRange, end_at, least_product, range_of, shifted}

-- the cross terms of variable v
abbrev pub cross_of_var : PlayerOf → ℕ → List CrossTerm
cross_of_var player v = filter (λ t. t.own == v) player.cross

-- the variable stands in the player's own terms or in its cross terms
abbrev pub counts : PlayerOf → ℕ → Bool
counts player v = list_any (λ t. t.0 == v) player.cost || list_any (λ t. t.own == v) player.cross

-- the bounds in the box that such variables need, and those of the other players in cross terms,
-- are there
pub record IsBounded (player : PlayerOf) (i : ℕ) (box : BoxOf) : Type 0 where
  pub own : All (λ t. HasRange box i t.0) player.cost
  pub cross : All (λ t. HasRange box i t.own) player.cross
  pub others : All (λ t. HasRange box t.player t.var) player.cross

-- each number of a cross term of v with the other variable at the end where their product is least,
-- or greatest
abbrev pub end_terms : End → PlayerOf → BoxOf → ℕ → List (ℤ × ℤ)
end_terms end player box v =
    map (λ t. (t.coef, end_at end t.coef (range_of box t.player t.var))) (cross_of_var player v)

-- the slope of the cost along v in the box: the own number, and the cross terms from the least to
-- the greatest
abbrev pub slope_range : PlayerOf → BoxOf → ℕ → Range
slope_range player box v = record {
  low = coef_at player.cost v +ℤ sum_products (end_terms Least player box v);
  high = coef_at player.cost v +ℤ sum_products (end_terms Greatest player box v);
}

-- how far v is from the point, times the point's denominator
abbrev pub way_range : ℕ → BoxOf → PointOf → ℕ → Range
way_range i box x v = shifted x.den (num_of x v) (range_of box i v)

-- the part of variable v in the least gain: the least product of how far v is from the point and of
-- the slope along v; nothing where v doesn't count
abbrev pub var_gain : PlayerOf → ℕ → BoxOf → PointOf → ℕ → ℤ
var_gain player i box x v =
    if counts player v then least_product (way_range i box x v) (slope_range player box v)
    else pos 0

-- the sum of the variables' parts
abbrev pub least_gain : PlayerOf → ℕ → BoxOf → PointOf → ℤ
least_gain player i box x = sum_to (length player.vars) (var_gain player i box x)
