use Rattle.zr_game.specs.Forms.{IsPlayerForm}
use Rattle.zr_game.proofs.Checks.{Checked}
use Rattle.zr_source.proofs.FormTests.{base_of}
use Rattle.zr_source.specs.Sources.{bases, leaders_of}
use Rattle.zr_source.proofs.form.are_bases.Given as goal

abbrev pub invariant-loop-i : goal.invariant-loop-i
invariant-loop-i l = Checked l.i (λ i leader. IsPlayerForm (bases (leaders_of l.leaders)) i
    (base_of leader)) l.leaders l.all
