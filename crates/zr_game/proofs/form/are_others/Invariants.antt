use Rattle.std.proofs.Common.{◌≡◌, map}
use Rattle.zr_game.specs.Counts.{var_count}
use Rattle.zr_game.specs.Players.{GameOf}
use Rattle.zr_game.specs.Forms.{IsOtherForm}
use Rattle.zr_game.proofs.Checks.{Checked}
use Rattle.zr_game.proofs.form.are_others.Given as goal

abbrev pub invariant-loop-t : goal.invariant-loop-t
invariant-loop-t l =
    (game : GameOf) → map var_count game ≡ l.counts
    → Checked l.t-index (λ v t. IsOtherForm game l.i t) l.others l.all
