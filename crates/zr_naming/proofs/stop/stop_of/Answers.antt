use Rattle.std.proofs.Common.{ℕ, ℤ, sym, subst, List}
use Rattle.zr_lin.specs.declared.stuck.Stuck.{Stuck}
use Rattle.zr_game.specs.Players.{PlayerOf}
use Rattle.zr_asked.specs.declared.question.Asked.{Asked}
use Rattle.zr_asked.specs.declared.question.Asked.TheVariants.{Branch, Choices}
use Rattle.zr_asked.specs.declared.question.Move.{Move}
use Rattle.zr_asked.specs.Stuck.{Aims, IsPlainAim, IsStuckBranch, IsStuckQuestion}
use Rattle.zr_branch.specs.Replies.{IsQuestion}
use Rattle.zr_naming.proofs.stop.stop_of.Goals as goal

stuck_question : (i : ℕ) (player : PlayerOf) (may : Aims) (path : List Move) (aim : List ℤ)
    (question : Asked) (stuck : Stuck) → may aim → IsQuestion i path aim question
    → IsStuckBranch player path aim stuck → IsStuckQuestion i player may question stuck
stuck_question i player may path aim (Branch p q a) stuck ok this is = (
  this.0,
  subst may (sym this.2) ok,
  subst (λ (x : List ℤ). IsStuckBranch player q.items x stuck) (sym this.2)
      (subst (λ (x : List Move). IsStuckBranch player x aim stuck) (sym this.1) is),
)
stuck_question i player may path aim (Choices path_) stuck ok this is = absurd this

pub returns-in-Wide : goal.returns-in-Wide
returns-in-Wide c i player path aim plain cause =
    let is = rw c.in-Wide.is at cause in
    stuck_question i player (IsPlainAim player) path aim c.in-Wide.asked.question
    c.in-Wide.asked.stuck plain is.0 is.1
