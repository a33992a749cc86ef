-- The basic form of a basis, its basic solution, and its basic directions.
-- Row r has the slack column `columns + r`; the value has the column after the slacks, and the
-- right sides come last.
use Rattle.std.specs.Prelude.{◌≡◌, ◌≢◌, ℕ, ◌+◌, ◌<◌, ◌≤◌, ℤ, pos, ◌+ℤ◌, ◌-ℤ◌, ◌*ℤ◌, ◌<ℤ◌, neg_ℤ, unsigned_abs}
use Rattle.std.specs.Int.{◌∣◌}
use Rattle.zr_base.specs.Sums.{sum_to}
use Rattle.zr_basis.specs.Programs.{Program}

abbrev pub value_column : Program → ℕ
value_column p = p.columns + p.rows

abbrev pub right_column : Program → ℕ
right_column p = p.columns + p.rows + 1

-- e is a sum of multiples of the program's equations, `coef r * x + slack r = le r` and `value -
-- aim * x = 0`; what stands at the columns of the slacks and of the value are the multipliers
pub record CombinesEquations (p : Program) (e : ℕ → ℤ) : Type 0 where
  pub columns : (j : ℕ) → j < p.columns
      → e j ≡ sum_to p.rows (λ r. e (p.columns + r) *ℤ p.coef r j) -ℤ e (value_column p) *ℤ p.aim j
  pub right : e (right_column p) ≡ sum_to p.rows (λ r. e (p.columns + r) *ℤ p.le r)

-- e holds where the columns have the values `x j / d`
abbrev pub HoldsAt : Program → (ℕ → ℤ) → (ℕ → ℤ) → ℤ → Type 0
HoldsAt p e x d = sum_to (value_column p) (λ j. e j *ℤ x j) ≡ e (right_column p) *ℤ d

-- each row's slack is what its left side leaves
abbrev pub AreSlacks : Program → (ℕ → ℤ) → ℤ → Type 0
AreSlacks p x d =
    (r : ℕ) → r < p.rows → sum_to p.columns (λ j. p.coef r j *ℤ x j) +ℤ x
    (p.columns + r) ≡ p.le r *ℤ d

-- no divisor above 1 is common to the first `width` numbers
abbrev pub IsPrimitive : ℕ → (ℕ → ℤ) → Type 0
IsPrimitive width e = (d : ℕ) → ((j : ℕ) → j < width → d ∣ unsigned_abs (e j)) → d ≡ 1

-- the basis has a column for each row of the program, and the value's; each has its equation, which
-- is above zero there, zero at the others, and without a common divisor
pub record IsBasicForm (p : Program) (basis : ℕ → ℕ) (form : ℕ → ℕ → ℤ) : Type 0 where
  pub columns : (i : ℕ) → i < p.rows → basis i < value_column p
  pub value : basis p.rows ≡ value_column p
  pub combination : (i : ℕ) → i ≤ p.rows → CombinesEquations p (form i)
  pub own : (i : ℕ) → i ≤ p.rows → (pos 0) <ℤ form i (basis i)
  pub other : (i k : ℕ) → i ≤ p.rows → k ≤ p.rows → i ≢ k → form i (basis k) ≡ pos 0
  pub primitive : (i : ℕ) → i ≤ p.rows → IsPrimitive (p.columns + p.rows + 2) (form i)

-- the column isn't in the basis
abbrev pub IsFree : Program → (ℕ → ℕ) → ℕ → Type 0
IsFree p basis col = (col < value_column p) × ((i : ℕ) → i < p.rows → col ≢ basis i)

-- the columns have the values `x j / d`: zero off the basis, and what the equations say on it
pub record IsBasicSolution (p : Program) (basis : ℕ → ℕ) (form : ℕ → ℕ → ℤ) (x : ℕ → ℤ)
    (d : ℤ) : Type 0 where
  pub positive : (pos 0) <ℤ d
  pub on : (i : ℕ) → i < p.rows → form i (basis i) *ℤ x (basis i) ≡ form i (right_column p) *ℤ d
  pub off : (j : ℕ) → j < value_column p → ((i : ℕ) → i < p.rows → j ≢ basis i) → x j ≡ pos 0

-- x raises column col by d, no other column off the basis, and those on it as the equations say
pub record IsBasicDirection (p : Program) (basis : ℕ → ℕ) (form : ℕ → ℕ → ℤ) (col : ℕ) (x : ℕ → ℤ)
    (d : ℤ) : Type 0 where
  pub positive : (pos 0) <ℤ d
  pub raised : x col ≡ d
  pub on : (i : ℕ) → i < p.rows → form i (basis i) *ℤ x (basis i) ≡ neg_ℤ (form i col) *ℤ d
  pub off : (j : ℕ) → j < value_column p → j ≢ col → ((i : ℕ) → i < p.rows → j ≢ basis i)
      → x j ≡ pos 0
