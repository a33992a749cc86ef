-- Runs of the method by the lexicographic rules.
use Rattle.std.specs.Prelude.{◌≡◌, ℕ, suc, ◌+◌, ◌<◌, ◌≤◌, ◌⊎◌}
use Rattle.zr_basis.specs.Programs.{Program}
use Rattle.zr_basis.specs.Bases.{Exchanges}
use Rattle.zr_basis.specs.Orders.{Order, IsOrder, IsColumnOrder, IsValueOrder}
use Rattle.zr_basis.specs.Stages.{Stage, IsShort, IsFeasibleForm, IsDualFeasibleForm}
use Rattle.zr_basis.specs.Primal.{IsPrimalDue, Drops}
use Rattle.zr_basis.specs.Dual.{AreDirectionsPositive, IsDualDue, Rises}

-- while a right side is below zero the basic solution rises in the order, then none is below zero,
-- and from there the value's vector, read by the basis of `start`, falls
abbrev pub Falls : (p : Program) → Order → Stage p → Stage p → Stage p → Type 0
Falls p order start old new =
    (IsShort p old.form × IsFeasibleForm p new.form)
    ⊎ ((IsShort p old.form × IsShort p new.form
    × Rises p order old.basis old.form new.basis new.form)
    ⊎ (IsFeasibleForm p old.form × IsFeasibleForm p new.form
    × Drops p start.basis old.form new.form))

-- each stage up to the last falls from the one before
abbrev pub AreFalling : (p : Program) → Order → Stage p → ℕ → (ℕ → Stage p) → Type 0
AreFalling p order start last stage =
    (n : ℕ) → n < last → Falls p order start (stage n) (stage (suc n))

-- a pivot by the dual rule leads from the one stage to the other
abbrev pub IsDualStep : (p : Program) → Order → Stage p → Stage p → Type 0
IsDualStep p order old new =
    (row : ℕ) × (col : ℕ) × IsDualDue p order old.basis old.form row col
    × Exchanges old.basis row col new.basis

-- a pivot by the primal rule, with vectors that are read by the basis of `start`, leads from the
-- one stage to the other
abbrev pub IsPrimalStep : (p : Program) → Stage p → Stage p → Stage p → Type 0
IsPrimalStep p start old new =
    (row : ℕ) × (col : ℕ) × IsPrimalDue p start.basis old.form row col
    × Exchanges old.basis row col new.basis

-- at the first stage the directions are positive in the order; pivots by the dual rule come first,
-- up to a stage `turn` with no right side below zero, and then pivots by the primal rule, with
-- vectors that are read by that stage's basis
pub record IsRun (p : Program) (order : Order) (turn last : ℕ) (stage : ℕ → Stage p) : Type 0 where
  pub ordered : IsOrder p order
  pub positive : AreDirectionsPositive p order (stage 0).basis (stage 0).form
  pub duals : (n : ℕ) → n < last → n < turn → IsDualStep p order (stage n) (stage (suc n))
  pub feasible : turn ≤ last → IsFeasibleForm p (stage turn).form
  pub primals : (n : ℕ) → n < last → turn ≤ n
      → IsPrimalStep p (stage turn) (stage n) (stage (suc n))

-- a run, its order, how many pivots it has, and at which stage the primal rule begins
pub record Run (p : Program) : Type 0 where
  pub order : Order
  pub pivots : ℕ
  pub turn : ℕ
  pub stage : ℕ → Stage p
  pub follows : IsRun p order turn pivots stage

-- the run begins at the slacks, with the columns in their order
abbrev pub IsFromSlacks : (p : Program) → Run p → Type 0
IsFromSlacks p run =
    ((i : ℕ) → i ≤ p.rows → (run.stage 0).basis i ≡ p.columns + i) × IsColumnOrder p run.order

-- the run begins at this basis, where the value falls along no column, with the value first in the
-- order
abbrev pub IsFromBasis : (p : Program) → (ℕ → ℕ) → Run p → Type 0
IsFromBasis p basis run =
    ((run.stage 0).basis ≡ basis) × IsDualFeasibleForm p (run.stage 0).form
    × IsValueOrder p basis run.order

-- the stage that it comes to
abbrev pub end_of : (p : Program) → Run p → Stage p
end_of p run = run.stage run.pivots

-- the stage at which the primal rule begins
abbrev pub turn_of : (p : Program) → Run p → Stage p
turn_of p run = run.stage run.turn
