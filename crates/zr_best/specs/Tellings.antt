-- What a player's answer is, once the least value of its aim was searched for.
use Rattle.std.specs.Prelude.{◌≡◌, ℤ, Result, Ok, Err, List}
use Rattle.zr_base.specs.declared.step.Wide.{Wide}
use Rattle.zr_base.specs.Fractions.{Fraction}
use Rattle.zr_game.specs.Players.{GameOf, PlayerOf}
use Rattle.zr_tree.specs.declared.tree.Tree.{Tree}
use Rattle.zr_bnb.specs.declared.answer.LeastAnswer.{LeastAnswer}
use Rattle.zr_bnb.specs.declared.answer.LeastAnswer.TheVariants.{At, Below, Empty}
use Rattle.zr_report.specs.declared.answer.Answer.{Answer}
use Rattle.zr_report.specs.declared.answer.Answer.TheVariants as AnAnswer
use Rattle.zr_best.specs.Aims.{least_cost}
use Rattle.zr_best.specs.declared.stop.BestStop.{BestStop}
use Rattle.zr_best.specs.declared.stop.BestStop.TheVariants as AStop

-- the cost with its tree, where its steps are narrow
abbrev pub least_told : Tree → Result Fraction Wide → Result Answer BestStop
least_told tree (Ok cost) = Ok (AnAnswer.Least cost tree)
least_told tree (Err w) = Err (AStop.Step w)

-- the answer where that was found of the slope times `by`
abbrev pub IsTold : GameOf → PlayerOf → List Fraction → ℤ → LeastAnswer → Result Answer BestStop → Type 0
IsTold game player means by (At point value tree) result =
    result ≡ least_told tree (least_cost game player means by value)
IsTold game player means by (Empty tree) result = Unit {0}
IsTold game player means by (Below base dir) result = result ≡ Ok (AnAnswer.Below base dir)
