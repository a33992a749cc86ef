-- Where runs begin and end, and why a basic solution or a basic direction can't be had.
use Rattle.std.specs.Prelude.{◌≡◌, ℕ, ℤ, List}
use Rattle.zr_simplex.specs.declared.basic.Halt.{Halt}
use Rattle.zr_simplex.specs.declared.basic.Halt.TheVariants as AHalt
use Rattle.zr_simplex.specs.declared.basic.Miss.{Miss}
use Rattle.zr_simplex.specs.declared.basic.Miss.TheVariants as AMiss
use Rattle.zr_basis.specs.Programs.{Program}
use Rattle.zr_basis.specs.Orders.{Order}
use Rattle.zr_basis.specs.Runs.{Run, end_of}
use Rattle.zr_io.specs.declared.purse.Purse.{Purse}
use Rattle.zr_lin.specs.declared.stuck.Step.{Step}
use Rattle.zr_lin.specs.declared.stuck.Step.TheVariants as AStep
use Rattle.zr_simplex.specs.Causes.{CountsPivots, IsStuckAfter}
use Rattle.zr_simplex.specs.Tableaus.{Equations, basis_of, form_of, order_of}
use Rattle.zr_simplex.specs.StuckSteps.{IsWideAt, IsWideStep}

-- a step of the numerators, or of their common multiple, is too wide
abbrev pub HaltsAt : ℕ → (ℕ → ℕ) → (ℕ → ℕ → ℤ) → (ℕ → ℤ) → Halt → Type 0
HaltsAt rows basis form value AHalt.NoMemory = Unit {0}
HaltsAt rows basis form value (AHalt.Wide at) = IsWideAt rows basis form value at.row at.wide

-- a step of the basic solution
abbrev pub IsPointStep : Step → Type 0
IsPointStep (AStep.Point row) = Unit {0}
IsPointStep _ = ⊥

-- a step of the basic direction of this column
abbrev pub IsRayStep : ℕ → Step → Type 0
IsRayStep column (AStep.Ray row col) = col ≡ column
IsRayStep column _ = ⊥

-- want of memory; or the step of the basic form is one of these, and too wide
abbrev pub IsMiss : Program → (ℕ → ℕ) → (ℕ → ℕ → ℤ) → (Step → Type 0) → Miss → Type 0
IsMiss p basis form Among AMiss.NoMemory = Unit {0}
IsMiss p basis form Among (AMiss.Wide step w) = IsWideStep p basis form step w × Among step

-- where a run begins, and in which order its directions are compared
pub record Origin : Type 0 where
  pub order : Order
  pub basis : ℕ → ℕ
  pub form : ℕ → ℕ → ℤ

-- the kept equations, with the columns in the order of the list
abbrev pub origin_of : Equations → List ℕ → Origin
origin_of t columns = record { order = order_of columns; basis = basis_of t; form = form_of t }

-- the run begins there
pub record IsFrom (p : Program) (origin : Origin) (run : Run p) : Type 0 where
  pub order : run.order ≡ origin.order
  pub basis : (run.stage 0).basis ≡ origin.basis
  pub form : (run.stage 0).form ≡ origin.form

-- want of memory; or a run from there, of the counted pivots, comes to the basis, and there the
-- step is due and too wide
abbrev pub IsMissAfter : Program → Origin → Purse → Purse → (ℕ → ℕ) → Miss → Type 0
IsMissAfter p origin old new basis AMiss.NoMemory = Unit {0}
IsMissAfter p origin old new basis (AMiss.Wide step w) =
    IsStuckAfter p (IsFrom p origin) old new basis step w

-- a run from there, of the counted pivots, comes to this basis and form
abbrev pub HasRun : Program → Origin → Purse → Purse → (ℕ → ℕ) → (ℕ → ℕ → ℤ) → Type 0
HasRun p origin old new basis form =
    (run : Run p) × IsFrom p origin run × CountsPivots old new run.pivots
    × ((end_of p run).basis ≡ basis) × ((end_of p run).form ≡ form)
