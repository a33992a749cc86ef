-- The steps by which the least gain is made, each of which may be too wide.
use Rattle.std.specs.Prelude.{ℕ, zero, suc, ℤ, pos, neg_ℤ, Result, Ok, if◌then◌else◌}
use Rattle.zr_base.specs.declared.step.Wide.{Wide}
use Rattle.zr_base.specs.Steps.{cross_of, ◌>>=◌}
use Rattle.zr_base.specs.Sums.{sum_step, sum_steps}
use Rattle.zr_base.specs.Terms.{coef_at}
use Rattle.zr_base.specs.Points.{PointOf, num_of}
use Rattle.zr_game.specs.Players.{PlayerOf}
use Rattle.zr_boxes.specs.Boxes.{BoxOf}
use Rattle.zr_boxes.specs.declared.range.End.TheVariants.{Least, Greatest}
use Rattle.zr_boxes.specs.declared.range.Range.{Range}
use Rattle.zr_boxes.specs.Ranges.{lesser_of, range_of}
use Rattle.zr_boxes.specs.Gains.{counts, end_terms}

-- `d * x - p` at both ends
abbrev pub way_range_steps : ℤ → ℤ → Range → Result Range Wide
way_range_steps d p r = do
  low ← sum_step (neg_ℤ p) (d, r.low)
  high ← sum_step (neg_ℤ p) (d, r.high)
  Ok (record { low = low; high = high })

-- the slope's least value and its greatest, each summed from the own number on
abbrev pub slope_range_steps : PlayerOf → BoxOf → ℕ → Result Range Wide
slope_range_steps player box v = do
  low ← sum_steps (coef_at player.cost v) (end_terms Least player box v)
  high ← sum_steps (coef_at player.cost v) (end_terms Greatest player box v)
  Ok (record { low = low; high = high })

-- the products of the ends, lower ends first, and the least of them
abbrev pub product_steps : Range → Range → Result ℤ Wide
product_steps r s = do
  a ← cross_of (r.low, s.low) (pos 0, pos 0)
  b ← cross_of (r.low, s.high) (pos 0, pos 0)
  c ← cross_of (r.high, s.low) (pos 0, pos 0)
  d ← cross_of (r.high, s.high) (pos 0, pos 0)
  Ok (lesser_of (lesser_of a b) (lesser_of c d))

-- what variable v adds
abbrev pub var_steps : PlayerOf → ℕ → BoxOf → PointOf → ℕ → Result ℤ Wide
var_steps player i box x v = do
  way ← way_range_steps x.den (num_of x v) (range_of box i v)
  slope ← slope_range_steps player box v
  product_steps way slope

-- the gain so far, and what v adds to it where it counts
abbrev pub next_gain : PlayerOf → ℕ → BoxOf → PointOf → ℤ → ℕ → Result ℤ Wide
next_gain player i box x gain v =
    if counts player v then (var_steps player i box x v >>= λ least. sum_step gain (least, pos 1))
    else Ok gain

-- the gain so far, and what n variables from v on add to it
abbrev pub gain_steps : PlayerOf → ℕ → BoxOf → PointOf → ℤ → ℕ → ℕ → Result ℤ Wide
gain_steps player i box x gain v zero = Ok gain
gain_steps player i box x gain v (suc n) =
    next_gain player i box x gain v >>= λ more. gain_steps player i box x more (suc v) n
