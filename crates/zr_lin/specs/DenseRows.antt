-- Rows with a number of any size in each column: where they hold, how they combine, and what no point can meet.
use Rattle.std.specs.Prelude.{◌≡◌, ℕ, ◌<◌, ℤ, pos, ◌*ℤ◌, ◌<ℤ◌, ◌≤ℤ◌, Bool, true, false, ◌||◌, List, [], ◌∷◌, map, ◌⊎◌}
use Rattle.zr_base.specs.Sums.{sum_products, sum_to}
use Rattle.zr_base.specs.Terms.{Terms, AscendWith}

-- `coef 0 * x 0 + coef 1 * x 1 + .. <= le`, or `<` where it is strict
pub record DenseRow : Type 0 where
  pub coef : ℕ → ℤ
  pub le : ℤ
  pub strict : Bool

-- `a <= b`, or `a < b` where it is strict
abbrev pub IsBelow : Bool → ℤ → ℤ → Type 0
IsBelow false a b = a ≤ℤ b
IsBelow true a b = a <ℤ b

-- the row holds at the fractions `p j / d`
abbrev pub DenseHolds : ℕ → (ℕ → ℤ) → ℤ → DenseRow → Type 0
DenseHolds columns p d row = IsBelow row.strict (sum_to columns (λ j. row.coef j *ℤ p j)) (row.le *ℤ d)

-- the fractions `p j / d` meet row 0, .., row (count - 1)
abbrev pub DenseSolves : ℕ → ℕ → (ℕ → DenseRow) → (ℕ → ℤ) → ℤ → Type 0
DenseSolves columns count row p d =
    ((pos 0) <ℤ d) × ((k : ℕ) → k < count → DenseHolds columns p d (row k))

abbrev pub HasDenseSolution : ℕ → ℕ → (ℕ → DenseRow) → Type 0
HasDenseSolution columns count row = (p : ℕ → ℤ) × (d : ℤ) × DenseSolves columns count row p d

abbrev pub HasNoDenseSolution : ℕ → ℕ → (ℕ → DenseRow) → Type 0
HasNoDenseSolution columns count row = (p : ℕ → ℤ) (d : ℤ) → DenseSolves columns count row p d → ⊥

-- multipliers by row: row numbers ascend and are below `count`, and each multiplier is at least 1
abbrev pub AreMultipliers : ℕ → Terms → Type 0
AreMultipliers count mult = AscendWith (λ z. (pos 1) ≤ℤ z) 0 count mult

-- each multiplier with its row's number at column j
abbrev pub column_products : (ℕ → DenseRow) → Terms → ℕ → List (ℤ × ℤ)
column_products row mult j = map (λ t. (t.1, (row t.0).coef j)) mult

-- each multiplier with its row's right side
abbrev pub right_products : (ℕ → DenseRow) → Terms → List (ℤ × ℤ)
right_products row mult = map (λ t. (t.1, (row t.0).le)) mult

-- one of the multiplied rows is strict
abbrev pub uses_strict : (ℕ → DenseRow) → Terms → Bool
uses_strict row [] = false
uses_strict row (t ∷ ts) = (row t.0).strict || uses_strict row ts

-- the sum of the rows, each times its multiplier, which is strict where one of them is
abbrev pub combination : (ℕ → DenseRow) → Terms → DenseRow
combination row mult = record {
  coef = λ j. sum_products (column_products row mult j);
  le = sum_products (right_products row mult);
  strict = uses_strict row mult;
}

-- the left side is zero in each column, and the right side is below zero, or is zero and the row is strict
abbrev pub IsContradiction : ℕ → DenseRow → Type 0
IsContradiction columns row =
    ((j : ℕ) → j < columns → row.coef j ≡ pos 0) × ((row.le <ℤ (pos 0)) ⊎ ((row.le ≡ pos 0) × (row.strict ≡ true)))

-- the multipliers refute the rows: their combination is a contradiction
abbrev pub Refutes : ℕ → (ℕ → DenseRow) → Terms → Type 0
Refutes columns row mult = IsContradiction columns (combination row mult)

-- some multipliers refute row 0, .., row (count - 1)
abbrev pub HasRefutation : ℕ → ℕ → (ℕ → DenseRow) → Type 0
HasRefutation columns count row = (mult : Terms) × AreMultipliers count mult × Refutes columns row mult
