-- Ranges of whole numbers, and the values that sums and products take over them.
use Rattle.std.specs.Prelude.{ℕ, ℤ, pos, ◌-ℤ◌, ◌*ℤ◌, int_lt, if◌then◌else◌, IsSome}
use Rattle.std.specs.Option.{unwrap_or}
use Rattle.zr_boxes.specs.declared.range.End.{End}
use Rattle.zr_boxes.specs.declared.range.End.TheVariants.{Least, Greatest}
use Rattle.zr_boxes.specs.declared.range.Range.{Range}
use Rattle.zr_boxes.specs.Boxes.{BoxOf}

-- variable v of player i has both bounds
pub record HasRange (box : BoxOf) (i v : ℕ) : Type 0 where
  pub low : IsSome ((box i).low v)
  pub high : IsSome ((box i).high v)

-- from its lower bound to its upper one; 0 stands for one that it hasn't
abbrev pub range_of : BoxOf → ℕ → ℕ → Range
range_of box i v = record {
  low = unwrap_or ((box i).low v) (pos 0);
  high = unwrap_or ((box i).high v) (pos 0);
}

-- where x runs over the range, `d * x - p`
abbrev pub shifted : ℤ → ℤ → Range → Range
shifted d p r = record { low = d *ℤ r.low -ℤ p; high = d *ℤ r.high -ℤ p }

-- of the two ends of the range the one at which a times x is least, or greatest; in a box without
-- profiles the lower bound may be above the upper one
abbrev pub end_at : End → ℤ → Range → ℤ
end_at Least a r = if int_lt (a *ℤ r.high) (a *ℤ r.low) then r.high else r.low
end_at Greatest a r = if int_lt (a *ℤ r.low) (a *ℤ r.high) then r.high else r.low

-- the lesser of two numbers
abbrev pub lesser_of : ℤ → ℤ → ℤ
lesser_of a b = if int_lt b a then b else a

-- the least product of an end of the one range and an end of the other
abbrev pub least_product : Range → Range → ℤ
least_product r s =
    lesser_of (lesser_of (r.low *ℤ s.low) (r.low *ℤ s.high))
    (lesser_of (r.high *ℤ s.low) (r.high *ℤ s.high))
