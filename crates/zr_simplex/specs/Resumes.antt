-- A program that goes on from where its last solution ended.
use Rattle.std.specs.Prelude.{◌≡◌, ℕ, ℤ, ◌⊎◌, Option, None, Some, List, [], ◌∷◌, ◌++◌, slice_index}
use Rattle.zr_io.specs.declared.purse.Purse.{Purse}
use Rattle.zr_basis.specs.Programs.{Program}
use Rattle.zr_basis.specs.BasicForms.{IsBasicForm}
use Rattle.zr_basis.specs.Runs.{IsFromBasis, IsFromSlacks}
use Rattle.zr_simplex.specs.declared.program.Lp.{Lp}
use Rattle.zr_simplex.specs.declared.program.LpAnswer.{LpAnswer}
use Rattle.zr_simplex.specs.declared.program.LpAnswer.TheVariants.{Best, Empty, Unbounded}
use Rattle.zr_simplex.specs.declared.program.Stop.{Stop}
use Rattle.zr_simplex.specs.Tableaus.{Equations}
use Rattle.zr_simplex.specs.Answers.{IsBasicAnswer}
use Rattle.zr_simplex.specs.Causes.{CountsFew, IsCause, IsReachedAnswer}

-- a program, and the basis from which its next solution goes on, if there is one
pub record OpenProgram : Type 0 where
  pub lp : Lp
  pub basis : Option (List ℕ)

-- the basis of the kept equations, if there are any
abbrev pub basis_kept : Option Equations → Option (List ℕ)
basis_kept None = None
basis_kept (Some t) = Some t.basis

-- the slack of the new row, which takes the number of the value's column, has come into the basis;
-- or none is kept
abbrev pub IsAppended : ℕ → Option (List ℕ) → Option (List ℕ) → Type 0
IsAppended value old None = Unit {0}
IsAppended value None (Some new) = ⊥
IsAppended value (Some old) (Some new) = new ≡ old ++ value ∷ []

-- a run from the basis leads to the answer
abbrev pub IsResumedAnswer : Program → Option (List ℕ) → Purse → Purse → LpAnswer → Type 0
IsResumedAnswer p None old new a = ⊥
IsResumedAnswer p (Some basis) old new a =
    IsReachedAnswer p (IsFromBasis p (λ i. slice_index basis i)) old new a

-- there is no basis to go on from; or going on from it, by few pivots, stopped for a cause
abbrev pub IsGivenUp : Program → Option (List ℕ) → Purse → Purse → Type 0
IsGivenUp p None old new = new ≡ old
IsGivenUp p (Some basis) old new =
    (stop : Stop) × IsCause p (IsFromBasis p (λ i. slice_index basis i)) old new stop
    × CountsFew p old new

-- a run from the basis leads to the answer; or going on was given up, and then a run from the
-- slacks does
abbrev pub IsOpenAnswer : Program → Option (List ℕ) → Purse → Purse → LpAnswer → Type 0
IsOpenAnswer p basis old new a =
    IsResumedAnswer p basis old new a
    ⊎ ((mid : Purse) × IsGivenUp p basis old mid × IsReachedAnswer p (IsFromSlacks p) mid new a)

-- going on was given up, and then the run from the slacks stopped for this cause
abbrev pub IsOpenCause : Program → Option (List ℕ) → Purse → Purse → Stop → Type 0
IsOpenCause p basis old new stop =
    (mid : Purse) × IsGivenUp p basis old mid × IsCause p (IsFromSlacks p) mid new stop

-- the pivots were few; where there was a basis to go on from, those from it and then those from the
-- slacks
abbrev pub CountsOpenFew : Program → Option (List ℕ) → Purse → Purse → Type 0
CountsOpenFew p None old new = CountsFew p old new
CountsOpenFew p (Some basis) old new = (mid : Purse) × CountsFew p old mid × CountsFew p mid new

-- the answer has a least value
abbrev pub HasLeast : LpAnswer → Type 0
HasLeast (Best point scale value mult extra) = Unit {0}
HasLeast (Empty mult extra) = ⊥
HasLeast (Unbounded point ray) = ⊥

-- the answer has no least value
abbrev pub IsNoLeast : LpAnswer → Type 0
IsNoLeast (Best point scale value mult extra) = ⊥
IsNoLeast (Empty mult extra) = Unit {0}
IsNoLeast (Unbounded point ray) = Unit {0}

-- where the answer has a least value, the basis off which it is read is kept
abbrev pub KeepsBasis : Program → Option (List ℕ) → LpAnswer → Type 0
KeepsBasis p None a = IsNoLeast a
KeepsBasis p (Some basis) a =
    (form : ℕ → ℕ → ℤ) × IsBasicForm p (λ i. slice_index basis i) form
    × IsBasicAnswer p (λ i. slice_index basis i) form a
