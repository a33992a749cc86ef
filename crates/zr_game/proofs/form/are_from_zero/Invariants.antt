use Rattle.std.proofs.Common.{map}
use Rattle.zr_game.specs.Players.{var_of}
use Rattle.zr_game.specs.Forms.{IsFromZero}
use Rattle.zr_game.proofs.Checks.{Checked}
use Rattle.zr_game.proofs.form.are_from_zero.Given as goal

abbrev pub invariant-loop-pair : goal.invariant-loop-pair
invariant-loop-pair l =
    Checked l.pair-index (λ v pair. IsFromZero (map var_of l.vars) pair.var) l.pairs l.all
