use Rattle.zr_game.proofs.Checks.{Checked}
use Rattle.zr_source.specs.SourceForms.{IsLeaderForm}
use Rattle.zr_source.specs.Sources.{leader_of}
use Rattle.zr_source.proofs.form.are_leaders.Given as goal

abbrev pub invariant-loop-leader : goal.invariant-loop-leader
invariant-loop-leader l = Checked l.leader-index (λ i leader. IsLeaderForm (leader_of leader))
    l.leaders l.all
