-- What the method has counted, and why it stops without an answer.
use Rattle.std.specs.Prelude.{◌≡◌, ℕ, ◌+◌, ◌-◌, ◌^◌, ◌<◌, ◌≤◌, ◌⊎◌, ℤ, slice_index}
use Rattle.zr_base.specs.declared.step.Wide.{Wide as AWide}
use Rattle.zr_io.specs.declared.purse.Purse.{Purse}
use Rattle.zr_lin.specs.declared.stuck.Step.{Step}
use Rattle.zr_lin.specs.declared.stuck.Step.TheVariants as AStep
use Rattle.zr_basis.specs.Programs.{Program}
use Rattle.zr_basis.specs.BasicForms.{value_column}
use Rattle.zr_basis.specs.Choices.{choose}
use Rattle.zr_basis.specs.Primal.{IsPrimalDue}
use Rattle.zr_basis.specs.Dual.{IsDualDue}
use Rattle.zr_basis.specs.Runs.{Run, end_of, turn_of}
use Rattle.zr_simplex.specs.declared.program.LpAnswer.{LpAnswer}
use Rattle.zr_simplex.specs.declared.program.Stop.{Stop}
use Rattle.zr_simplex.specs.declared.program.Stop.TheVariants.{NoMemory, Wide}
use Rattle.zr_simplex.specs.Answers.{IsBasicAnswer}
use Rattle.zr_simplex.specs.Ends.{IsLeastAt, IsEndlessAt}
use Rattle.zr_simplex.specs.StuckSteps.{IsStuck, IsWideStep}

-- the count rose by so many, or stands at its last value, which they would reach or pass
abbrev pub CountsUp : ℕ → ℕ → ℕ → Type 0
CountsUp old new many =
    (new ≡ old + many) ⊎ ((new ≡ 2 ^ 64 - 1) × (2 ^ 64 - 1 ≤ old + many))

-- so many pivots were counted, and nothing else
pub record CountsPivots (old new : Purse) (pivots : ℕ) : Type 0 where
  pub count : CountsUp old.pivots new.pivots pivots
  pub limit : new.limit ≡ old.limit
  pub branches : new.branches ≡ old.branches
  pub cuts : new.cuts ≡ old.cuts

-- the pivots were fewer than the ways to choose the columns of a basis
abbrev pub CountsFew : Program → Purse → Purse → Type 0
CountsFew p old new =
    (pivots : ℕ) × (pivots < choose (value_column p) p.rows) × CountsPivots old new pivots

-- a run that begins so, of the counted pivots, comes to a basic form, and there the answer is due
abbrev pub IsReachedAnswer : (p : Program) → (Run p → Type 0) → Purse → Purse → LpAnswer → Type 0
IsReachedAnswer p Begins old new a =
    (run : Run p) × Begins run × CountsPivots old new run.pivots
    × IsBasicAnswer p (end_of p run).basis (end_of p run).form a

-- the step is one of a point or a ray that is due at the form
abbrev pub IsEndStep : Program → (ℕ → ℕ → ℤ) → Step → Type 0
IsEndStep p form (AStep.Pivot row col at_row at_col) = ⊥
IsEndStep p form (AStep.Point row) = IsLeastAt p form ⊎ ((col : ℕ) × IsEndlessAt p form col)
IsEndStep p form (AStep.Ray row col) = IsEndlessAt p form col

-- a pivot is due where the run comes to, by the dual rule or by the primal one
abbrev pub IsPivotDue : (p : Program) → Run p → ℕ → ℕ → Type 0
IsPivotDue p run row col =
    IsDualDue p run.order (end_of p run).basis (end_of p run).form row col
    ⊎ ((run.turn ≤ run.pivots) × IsPrimalDue p (turn_of p run).basis (end_of p run).form row col)

-- the step is one of the pivot, the point or the ray that is due where the run comes to
abbrev pub IsDueStep : (p : Program) → Run p → Step → Type 0
IsDueStep p run (AStep.Pivot row col at_row at_col) = IsPivotDue p run row col
IsDueStep p run (AStep.Point row) = IsEndStep p (end_of p run).form (AStep.Point row)
IsDueStep p run (AStep.Ray row col) = IsEndStep p (end_of p run).form (AStep.Ray row col)

-- a run that begins so, of the counted pivots, comes to the basis, and there the step is due and
-- too wide
abbrev pub IsStuckAfter : (p : Program) → (Run p → Type 0) → Purse → Purse → (ℕ → ℕ) → Step → AWide
    → Type 0
IsStuckAfter p Begins old new basis step wide =
    (run : Run p) × Begins run × CountsPivots old new run.pivots × ((end_of p run).basis ≡ basis)
    × IsDueStep p run step × IsWideStep p (end_of p run).basis (end_of p run).form step wide

-- want of memory; or the kept basis, which the pivots of a run that begins so reach, is stuck at
-- the kept step, which is due
abbrev pub IsCause : (p : Program) → (Run p → Type 0) → Purse → Purse → Stop → Type 0
IsCause p Begins old new NoMemory = Unit {0}
IsCause p Begins old new (Wide stuck) =
    IsStuck p stuck × IsStuckAfter p Begins old new
    (λ i. slice_index stuck.basis.items i) stuck.step stuck.wide
