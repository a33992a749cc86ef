use Rattle.zr_game.specs.Players.{pair_of}
use Rattle.zr_game.specs.Forms.{IsPairForm}
use Rattle.zr_game.proofs.Checks.{Checked}
use Rattle.zr_game.proofs.form.are_pairs.Given as goal

abbrev pub invariant-loop-pair : goal.invariant-loop-pair
invariant-loop-pair l = Checked l.pair-index (λ v pair. IsPairForm l.columns (pair_of pair)) l.pairs
    l.all
