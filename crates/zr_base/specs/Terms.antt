-- Numbers listed by column: the terms of a row, a cost or a pair.
use Rattle.std.specs.Prelude.{ℕ, ◌+◌, ◌<◌, ◌≤◌, ℤ, pos, ◌+ℤ◌, ◌*ℤ◌, ◌==◌, if◌then◌else◌, List, [], ◌∷◌}
use Rattle.zr_base.specs.Steps.{IsNarrow}

abbrev pub Terms : Type 0
Terms = List (ℕ × ℤ)

-- the number at column j, which is 0 where none is listed
abbrev pub coef_at : Terms → ℕ → ℤ
coef_at [] j = pos 0
coef_at (t ∷ ts) j = if t.0 == j then t.1 else coef_at ts j

-- the columns ascend from `low` on and are below `columns`, and each number has the property
abbrev pub AscendWith : (ℤ → Type 0) → ℕ → ℕ → Terms → Type 0
AscendWith P low columns [] = Unit {0}
AscendWith P low columns (t ∷ ts) = (low ≤ t.0) × (t.0 < columns) × P t.1 × AscendWith P (t.0 + 1) columns ts

-- the columns ascend from `low` on and are below `columns`, and no number is too wide
abbrev pub Ascends : ℕ → ℕ → Terms → Type 0
Ascends low columns ts = AscendWith IsNarrow low columns ts

-- the sum of the terms at numbers p
abbrev pub value_at : Terms → (ℕ → ℤ) → ℤ
value_at [] p = pos 0
value_at (t ∷ ts) p = t.1 *ℤ p t.0 +ℤ value_at ts p
