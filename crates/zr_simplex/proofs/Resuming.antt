-- What going on and solving afresh come to together, and what is kept of it.
use Rattle.std.proofs.Common.{◌≡◌, ℕ, inr, Option, Some, None, MatchOption, Ok, Err}
use Rattle.std.specs.Prelude.{Result, IfOk, IfErr, List}
use Rattle.zr_io.specs.declared.purse.Purse.{Purse}
use Rattle.zr_basis.specs.Programs.{Program}
use Rattle.zr_basis.specs.Runs.{IsFromSlacks}
use Rattle.zr_basis.specs.Stages.{IsDualFeasibleForm}
use Rattle.zr_simplex.specs.declared.program.LpAnswer.{LpAnswer}
use Rattle.zr_simplex.specs.declared.program.LpAnswer.TheVariants.{Best, Empty, Unbounded}
use Rattle.zr_simplex.specs.declared.program.Stop.{Stop}
use Rattle.zr_simplex.specs.Answers.{IsBasicAnswer}
use Rattle.zr_simplex.specs.Causes.{IsCause, IsReachedAnswer}
use Rattle.zr_simplex.specs.Dues.{IsTableau}
use Rattle.zr_simplex.specs.Tableaus.{Equations, basis_of, form_of}
use Rattle.zr_simplex.specs.Resumes.{HasLeast, IsGivenUp, IsNoLeast, IsOpenAnswer, IsOpenCause, KeepsBasis, basis_kept}

module _ (p : Program) (basis : Option (List ℕ)) (old mid new : Purse) (given : IsGivenUp p basis old mid) where
  pub open_answers : {T E : Type 0} (answer : T → LpAnswer) (r : Result T E) → IfOk r (λ x. IsReachedAnswer p (IsFromSlacks p) mid new (answer x)) → IfOk r (λ x. IsOpenAnswer p basis old new (answer x))
  open_answers answer (Ok x) is = inr (mid, given, is)
  open_answers answer (Err e) is = tt

  pub open_causes : {T : Type 0} (r : Result T Stop) → IfErr r (IsCause p (IsFromSlacks p) mid new) → IfErr r (IsOpenCause p basis old new)
  open_causes (Ok x) is = tt
  open_causes (Err stop) is = (mid, given, is)

-- at a basis with the least value it falls along no column
least_dual : (p : Program) (t : Equations) (a : LpAnswer) → HasLeast a → IsBasicAnswer p (basis_of t) (form_of t) a → IsDualFeasibleForm p (form_of t)
least_dual p t (Best point scale value mult extra) least is = is.0.1
least_dual p t (Empty mult extra) least is = absurd least
least_dual p t (Unbounded point ray) least is = absurd least

module _ (p : Program) (t : Equations) (a : LpAnswer) (kept : IsTableau p t) (is : IsBasicAnswer p (basis_of t) (form_of t) a) where
  pub keeps : (r : Option Equations) → MatchOption r (IsNoLeast a) (λ t2. (t2 ≡ t) × HasLeast a) → KeepsBasis p (basis_kept r) a
  keeps None without = without
  keeps (Some t2) same = rw same.0 (form_of t, kept.form, is)

  pub keeps_tableau : (r : Option Equations) → MatchOption r (IsNoLeast a) (λ t2. (t2 ≡ t) × HasLeast a) → MatchOption r (Unit {0}) (λ t2. IsTableau p t2 × IsDualFeasibleForm p (form_of t2))
  keeps_tableau None without = tt
  keeps_tableau (Some t2) same = rw same.0 (kept, least_dual p t a same.1 is)
