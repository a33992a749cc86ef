use Rattle.zr_game.specs.Forms.{IsCoefficient}
use Rattle.zr_game.proofs.Checks.{Ascending}
use Rattle.zr_game.proofs.form.are_terms.Given as goal

abbrev pub invariant-loop-column : goal.invariant-loop-column
invariant-loop-column l = Ascending IsCoefficient l.columns l.coef l.column-index l.low l.all
