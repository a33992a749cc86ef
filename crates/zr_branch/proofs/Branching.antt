-- What the question of a branch is asked with, and why it stops.
use Rattle.std.proofs.Common.{◌≡◌, ℕ, ◌+◌, ◌-◌, ◌^◌, ◌<◌, ◌≤◌, sym, subst, refl, ℤ, pos, ◌≤ℤ◌, arith, Option, Some, None, List, slice_index, ⊎_elim}
use Rattle.std.proofs.lemmas.Int.{ints}
use Rattle.zr_io.specs.declared.purse.Purse.{Purse}
use Rattle.zr_lin.specs.declared.stuck.Stuck.{Stuck}
use Rattle.zr_game.specs.Players.{PlayerOf}
use Rattle.zr_game.specs.Leaves.{root_leaf}
use Rattle.zr_basis.specs.Programs.{Program}
use Rattle.zr_basis.specs.Runs.{IsFromSlacks}
use Rattle.zr_simplex.specs.Causes.{CountsFew, IsCause, IsStuckAfter}
use Rattle.zr_simplex.specs.Programs.{numbers}
use Rattle.zr_simplex.specs.StuckSteps.{IsStuck}
use Rattle.zr_tree.proofs.SettledLeaves.{IsRaised, root_keeps}
use Rattle.zr_asked.specs.declared.question.Move.{Move}
use Rattle.zr_asked.specs.Branches.{branch_program}
use Rattle.zr_asked.specs.Paths.{IsOpenPath, branch}
use Rattle.zr_asked.specs.Stuck.{IsReached, IsStuckBranch}
use Rattle.zr_asked.proofs.PresentRows.{path_keeps}
use Rattle.zr_branch.specs.declared.reply.AskStop.{AskStop}
use Rattle.zr_branch.specs.declared.reply.AskStop.TheVariants as AStop
use Rattle.zr_branch.specs.Columns.{KeepsLows}
use Rattle.zr_branch.specs.Replies.{CountsPivotsAlone, IsAskCause, KeepsStuck}

raised : (o : Option ℤ) (low : ℤ) → (pos 0) ≤ℤ low → IsRaised o low
    → (kept : ℤ) × (o ≡ Some kept) × ((pos 0) ≤ℤ kept)
raised None low up h = absurd h
raised (Some a) low up h = (a, refl, omega (arith, ints, up, h))

pub keeps_lows : (player : PlayerOf) (path : List Move) → KeepsLows player (branch player path)
keeps_lows player path v low e up =
    let keeps = path_keeps player (root_leaf player) path (root_keeps player) in
    raised ((branch player path).low v) low up (keeps.lows v low e)

pub pivots_alone : (p : Program) (old new : Purse) → old.pivots < 2 ^ 64 → CountsFew p old new
    → CountsPivotsAlone old new
pivots_alone p old new small few = record {
  pivots = ⊎_elim (λ (e : new.pivots ≡ old.pivots + few.0). omega (arith, e))
      (λ (e : (new.pivots ≡ 2 ^ 64 - 1) × (2 ^ 64 - 1 ≤ old.pivots + few.0)).
      let f = e.0 in omega (arith, f, small)) few.2.count;
  limit = few.2.limit;
  branches = few.2.branches;
  cuts = few.2.cuts;
}

pub stuck_branch : (player : PlayerOf) (path : List Move) (aim : List ℤ) (stuck : Stuck)
    (old new : Purse) → IsOpenPath player path
    → IsStuck (branch_program player (branch player path) (numbers aim)) stuck
    → IsStuckAfter (branch_program player (branch player path) (numbers aim))
    (IsFromSlacks (branch_program player (branch player path) (numbers aim))) old new
    (λ i. slice_index stuck.basis.items i) stuck.step stuck.wide
    → IsStuckBranch player path aim stuck
stuck_branch player path aim stuck old new open_is is after = record {
  path_is = open_is;
  stuck_is = is;
  reached = (after.0, after.1, after.3, after.4);
}

pub ask_cause : (i : ℕ) (player : PlayerOf) (path : List Move) (aim : List ℤ) (stuck : Stuck)
    (stop : AskStop) → KeepsStuck i path aim stuck stop → IsStuckBranch player path aim stuck
    → IsAskCause i player path aim stop
ask_cause i player path aim stuck AStop.NoMemory keeps is = tt
ask_cause i player path aim stuck (AStop.Wide asked) keeps is =
    (keeps.0, subst (IsStuckBranch player path aim) (sym keeps.1) is)
