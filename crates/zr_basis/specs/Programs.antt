-- Linear programs over columns that are at least 0.
use Rattle.std.specs.Prelude.{ℕ, ℤ, ◌*ℤ◌}
use Rattle.zr_base.specs.Sums.{sum_to}

-- `aim * x` is to be least over `x >= 0` with `coef r * x <= le r` for each row r
pub record Program : Type 0 where
  pub columns : ℕ
  pub rows : ℕ
  pub coef : ℕ → ℕ → ℤ
  pub le : ℕ → ℤ
  pub aim : ℕ → ℤ

-- the aim's value at the numerators x
abbrev pub aim_at : Program → (ℕ → ℤ) → ℤ
aim_at p x = sum_to p.columns (λ j. p.aim j *ℤ x j)
