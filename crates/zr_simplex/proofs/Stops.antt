-- A stop at the end of a run.
use Rattle.std.proofs.Common.{◌≡◌, ◌≤◌, ℕ, ◌+◌, ℤ, sym, ap, ◌∙◌, subst, List, length, slice_index, Ok, Err}
use Rattle.std.specs.Prelude.{Result, IfOk, IfErr}
use Rattle.zr_base.specs.declared.step.Wide.{Wide}
use Rattle.zr_io.specs.declared.purse.Purse.{Purse}
use Rattle.zr_lin.specs.declared.stuck.Step.{Step}
use Rattle.zr_lin.specs.declared.stuck.Step.TheVariants as AStep
use Rattle.zr_basis.specs.Programs.{Program}
use Rattle.zr_basis.specs.BasicForms.{IsBasicForm}
use Rattle.zr_basis.specs.Runs.{IsFromBasis, IsFromSlacks, Run, end_of}
use Rattle.zr_basis.specs.Orders.{IsColumnOrder, IsValueOrder}
use Rattle.zr_basis.specs.Stages.{IsDualFeasibleForm}
use Rattle.zr_simplex.specs.declared.basic.Miss.{Miss}
use Rattle.zr_simplex.specs.declared.basic.Miss.TheVariants as AMiss
use Rattle.zr_simplex.specs.declared.program.LpAnswer.{LpAnswer}
use Rattle.zr_simplex.specs.declared.program.Stop.{Stop}
use Rattle.zr_simplex.specs.declared.program.Stop.TheVariants as AStop
use Rattle.zr_simplex.specs.Answers.{IsBasicAnswer}
use Rattle.zr_simplex.specs.StuckSteps.{IsWideStep}
use Rattle.zr_simplex.specs.Causes.{IsCause, IsDueStep, IsEndStep, IsReachedAnswer, IsStuckAfter}
use Rattle.zr_simplex.specs.Halts.{HasRun, IsFrom, IsMiss, IsMissAfter, Origin}

-- each step of an end is due there
due_at_end : (p : Program) (run : Run p) (step : Step) → IsEndStep p (end_of p run).form step → IsDueStep p run step
due_at_end p run (AStep.Pivot row col at_row at_col) due = absurd due
due_at_end p run (AStep.Point row) due = due
due_at_end p run (AStep.Ray row col) due = due

module _ (p : Program) (origin : Origin) (old new : Purse) (basis : ℕ → ℕ) (form : ℕ → ℕ → ℤ) where
  miss_after : HasRun p origin old new basis form → (miss : Miss) → IsMiss p basis form (IsEndStep p form) miss → IsMissAfter p origin old new basis miss
  miss_after ends AMiss.NoMemory is = tt
  miss_after (run, from, counts, basis_is, form_is) (AMiss.Wide step wide) (is, among) =
      (run, from, counts, basis_is, due_at_end p run step (rw form_is among), rw (basis_is, form_is) is)

  pub end_misses : {T : Type 0} (r : Result T Miss) → HasRun p origin old new basis form → IfErr r (IsMiss p basis form (IsEndStep p form)) → IfErr r (IsMissAfter p origin old new basis)
  end_misses (Ok x) ends is = tt
  end_misses (Err miss) ends is = miss_after ends miss is

  pub end_answers : {E : Type 0} (r : Result LpAnswer E) → HasRun p origin old new basis form → IfOk r (IsBasicAnswer p basis form) → IfOk r (IsReachedAnswer p (IsFrom p origin) old new)
  end_answers (Ok a) (run, from, counts, basis_is, form_is) is =
      (run, from, counts, rw (basis_is, form_is) is)
  end_answers (Err e) ends is = tt

module _ (p : Program) (Begins Starts : Run p → Type 0) (old new : Purse) where
  -- what is kept of a stop
  pub stuck_if : (kept : List ℕ) (step : Step) (wide : Wide) → length kept ≡ p.rows + 1 → IsStuckAfter p Begins old new (λ i. slice_index kept i) step wide → (length kept ≡ p.rows + 1) × (form : ℕ → ℕ → ℤ) × IsBasicForm p (λ i. slice_index kept i) form × IsWideStep p (λ i. slice_index kept i) form step wide
  stuck_if kept step wide long (run, begins, counts, basis_is, due, is) = (
    long,
    (end_of p run).form,
    subst (λ b. IsBasicForm p b (end_of p run).form) basis_is (end_of p run).basic,
    subst (λ b. IsWideStep p b (end_of p run).form step wide) basis_is is,
  )

  -- runs that begin in the one way begin in the other too
  pub cause_too : ((run : Run p) → Begins run → Starts run) → (stop : Stop) → IsCause p Begins old new stop → IsCause p Starts old new stop
  cause_too same AStop.NoMemory is = tt
  cause_too same (AStop.Wide stuck) (is, (run, begins, counts, basis_is, due, wide)) =
      (is, (run, same run begins, counts, basis_is, due, wide))

  pub answer_too : ((run : Run p) → Begins run → Starts run) → (a : LpAnswer) → IsReachedAnswer p Begins old new a → IsReachedAnswer p Starts old new a
  answer_too same a (run, begins, counts, is) = (run, same run begins, counts, is)

  pub causes_too : {T : Type 0} → ((run : Run p) → Begins run → Starts run) → (r : Result T Stop) → IfErr r (IsCause p Begins old new) → IfErr r (IsCause p Starts old new)
  causes_too same (Ok x) is = tt
  causes_too same (Err stop) is = cause_too same stop is

  pub answers_too : {T E : Type 0} → ((run : Run p) → Begins run → Starts run) → (answer : T → LpAnswer) (r : Result T E) → IfOk r (λ x. IsReachedAnswer p Begins old new (answer x)) → IfOk r (λ x. IsReachedAnswer p Starts old new (answer x))
  answers_too same answer (Ok x) is = answer_too same (answer x) is
  answers_too same answer (Err e) is = tt

-- where runs begin
pub from_slacks : (p : Program) (o : Origin) → ((i : ℕ) → i ≤ p.rows → o.basis i ≡ p.columns + i) → IsColumnOrder p o.order → (run : Run p) → IsFrom p o run → IsFromSlacks p run
from_slacks p o slacks columns run from = (
  (λ i h. ap (λ b. b i) from.basis ∙ slacks i h),
  subst (λ r. IsColumnOrder p r) (sym from.order) columns,
)

pub from_basis : (p : Program) (o : Origin) → IsDualFeasibleForm p o.form → IsValueOrder p o.basis o.order → (run : Run p) → IsFrom p o run → IsFromBasis p o.basis run
from_basis p o dual value run from = (
  from.basis,
  subst (λ f. IsDualFeasibleForm p f) (sym from.form) dual,
  subst (λ r. IsValueOrder p o.basis r) (sym from.order) value,
)
