-- Stuck questions of branches, and the aims that may be asked.
use Rattle.std.specs.Prelude.{◌≡◌, ℕ, ◌<◌, ℤ, pos, negsuc, ◌⊎◌, List, length, slice_index}
use Rattle.zr_game.specs.Players.{PlayerOf}
use Rattle.zr_game.specs.Leaves.{at_column}
use Rattle.zr_lin.specs.declared.stuck.Stuck.{Stuck}
use Rattle.zr_basis.specs.Programs.{Program}
use Rattle.zr_basis.specs.Runs.{IsFromSlacks, Run, end_of}
use Rattle.zr_simplex.specs.Programs.{numbers}
use Rattle.zr_simplex.specs.StuckSteps.{IsStuck}
use Rattle.zr_simplex.specs.Causes.{IsDueStep}
use Rattle.zr_asked.specs.declared.question.Move.{Move}
use Rattle.zr_asked.specs.declared.question.Asked.{Asked}
use Rattle.zr_asked.specs.declared.question.Asked.TheVariants.{Branch, Choices}
use Rattle.zr_asked.specs.declared.question.AskedLp.{AskedLp}
use Rattle.zr_asked.specs.Branches.{branch_program}
use Rattle.zr_asked.specs.Paths.{IsOpenPath, branch}

-- which lists of numbers may be the aim of a question
abbrev pub Aims : Type 1
Aims = List ℤ → Type 0

-- a number for each variable, all zero
abbrev pub IsZeroAim : PlayerOf → Aims
IsZeroAim player aim =
    (length aim ≡ length player.vars)
    × ((j : ℕ) → j < length player.vars → numbers aim j ≡ pos 0)

-- z at variable v, and zero at all others
abbrev pub IsVariableAim : PlayerOf → ℕ → ℤ → Aims
IsVariableAim player v z aim =
    (v < length player.vars) × (length aim ≡ length player.vars)
    × ((j : ℕ) → j < length player.vars → numbers aim j ≡ at_column v z j)

-- zero, or plus or minus one variable
abbrev pub IsPlainAim : PlayerOf → Aims
IsPlainAim player aim =
    IsZeroAim player aim
    ⊎ ((v : ℕ) × (IsVariableAim player v (pos 1) aim ⊎ IsVariableAim player v (negsuc 0) aim))

-- from the slacks, pivots by the rules come to the kept basis, and there the kept step is due
abbrev pub IsReached : Program → Stuck → Type 0
IsReached p stuck =
    (run : Run p) × IsFromSlacks p run
    × ((end_of p run).basis ≡ (λ i. slice_index stuck.basis.items i))
    × IsDueStep p run stuck.step

-- the least of the aim on a branch can't be had: to the branch leads an open path, and of the
-- question's program the kept step, to which the method comes, is too wide
pub record IsStuckBranch (player : PlayerOf) (path : List Move) (aim : List ℤ)
    (stuck : Stuck) : Type 0 where
  pub path_is : IsOpenPath player path
  pub stuck_is : IsStuck (branch_program player (branch player path) (numbers aim)) stuck
  pub reached : IsReached (branch_program player (branch player path) (numbers aim)) stuck

-- the kept question is one of player i with one of these aims, and is stuck
abbrev pub IsStuckQuestion : ℕ → PlayerOf → Aims → Asked → Stuck → Type 0
IsStuckQuestion i player MayAsk (Branch p path aim) stuck =
    (p ≡ i) × MayAsk aim.items × IsStuckBranch player path.items aim.items stuck
IsStuckQuestion i player MayAsk (Choices path) stuck = ⊥

abbrev pub IsStuckAsked : ℕ → PlayerOf → Aims → AskedLp → Type 0
IsStuckAsked i player MayAsk asked =
    IsStuckQuestion i player MayAsk asked.question asked.stuck
