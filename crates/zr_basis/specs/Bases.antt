-- Bases: different columns in any order, and when two bases are the same.
use Rattle.std.specs.Prelude.{◌≡◌, ◌≢◌, ◌↔◌, ℕ, ◌<◌}

-- `basis 0`, .., `basis (size - 1)` are different columns below `columns`
pub record IsBasis (columns size : ℕ) (basis : ℕ → ℕ) : Type 0 where
  pub below : (i : ℕ) → i < size → basis i < columns
  pub different : (i k : ℕ) → i < size → k < size → i ≢ k → basis i ≢ basis k

-- column j is one of the basis's
abbrev pub HasColumn : ℕ → (ℕ → ℕ) → ℕ → Type 0
HasColumn size basis j = (i : ℕ) × (i < size) × (basis i ≡ j)

-- both have the same columns
abbrev pub IsSameBasis : ℕ → (ℕ → ℕ) → (ℕ → ℕ) → Type 0
IsSameBasis size a b = (j : ℕ) → HasColumn size a j ↔ HasColumn size b j

abbrev pub IsOtherBasis : ℕ → (ℕ → ℕ) → (ℕ → ℕ) → Type 0
IsOtherBasis size a b = IsSameBasis size a b → ⊥

-- the basis with column col in the place of its column `row`
abbrev pub Exchanges : (ℕ → ℕ) → ℕ → ℕ → (ℕ → ℕ) → Type 0
Exchanges basis row col next =
    (next row ≡ col) × ((i : ℕ) → i ≢ row → next i ≡ basis i)
