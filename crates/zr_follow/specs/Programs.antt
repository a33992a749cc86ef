-- Linear programs over variables that are at least 0, and multipliers of their rows.
use Rattle.std.specs.Prelude.{◌≡◌, ℕ, ◌<◌, ℤ, pos, ◌+ℤ◌, ◌*ℤ◌, ◌<ℤ◌, ◌≤ℤ◌, ◌⊎◌}
use Rattle.zr_base.specs.Sums.{sum_to}

-- the least of `aim 0 * y 0 + ..` over all y of at least 0 with `coef r 0 * y 0 + .. <= le r` for
-- each row r
pub record Program : Type 0 where
  pub columns : ℕ
  pub rows : ℕ
  pub coef : ℕ → ℕ → ℤ
  pub le : ℕ → ℤ
  pub aim : ℕ → ℤ

-- f 0 * y 0 + .. over the program's variables
abbrev pub along : Program → (ℕ → ℤ) → (ℕ → ℤ) → ℤ
along program f y = sum_to program.columns (λ j. f j *ℤ y j)

-- the fractions `y j / e` are at least 0 and meet the rows
pub record IsIn (program : Program) (y : ℕ → ℤ) (e : ℤ) : Type 0 where
  pub point : (pos 0) <ℤ e
  pub low : (j : ℕ) → j < program.columns → (pos 0) ≤ℤ y j
  pub rows : (r : ℕ) → r < program.rows → along program (program.coef r) y ≤ℤ (program.le r *ℤ e)

-- at no fractions that the program allows is the aim lower than at `x j / d`
abbrev pub IsLeast : Program → (ℕ → ℤ) → ℤ → Type 0
IsLeast program x d =
    (y : ℕ → ℤ) (e : ℤ) → IsIn program y e
    → (along program program.aim x *ℤ e) ≤ℤ (along program program.aim y *ℤ d)

-- t times the aim's number at column j, plus the rows' numbers there times their multipliers
abbrev pub reduced : Program → ℤ → (ℕ → ℤ) → ℕ → ℤ
reduced program t m j = t *ℤ program.aim j +ℤ sum_to program.rows (λ r. m r *ℤ program.coef r j)

-- multipliers `m r / t` of the rows at `x j / d`: each variable is at the bound 0 or has no reduced
-- number, and each row is met with equality or has no multiplier
pub record AreMultipliers (program : Program) (x : ℕ → ℤ) (d t : ℤ) (m : ℕ → ℤ) : Type 0 where
  pub scale : (pos 0) <ℤ t
  pub low : (r : ℕ) → r < program.rows → (pos 0) ≤ℤ m r
  pub columns : (j : ℕ) → j < program.columns
      → ((pos 0) ≤ℤ reduced program t m j) × ((x j ≡ pos 0) ⊎ (reduced program t m j ≡ pos 0))
  pub rows : (r : ℕ) → r < program.rows
      → (m r ≡ pos 0) ⊎ (along program (program.coef r) x ≡ program.le r *ℤ d)

abbrev pub HasMultipliers : Program → (ℕ → ℤ) → ℤ → Type 0
HasMultipliers program x d = (t : ℤ) × (m : ℕ → ℤ) × AreMultipliers program x d t m
