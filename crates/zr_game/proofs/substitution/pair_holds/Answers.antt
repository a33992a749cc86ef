use Rattle.std.proofs.Common.{rules, ◌∙◌, sym, refl, FitsSigned}
use Rattle.std.specs.Int.{w128}
use Rattle.std.proofs.lemmas.Int.{to_z-of_z}
use Rattle.zr_game.specs.Players.{pair_of}
use Rattle.zr_game.proofs.FeasibleLaws.{slack_is}
use Rattle.zr_game.proofs.substitution.pair_holds.Goals as goal

pub returns : goal.returns
returns c =
    let e = sym c.slack_at.ensures ∙ c.in_ok-slack.was in
    let s = slack_is (pair_of c.args.pair.now) c.args.point.now c.in_ok-slack.slack e in
    let f : FitsSigned w128 c.in_ok-slack.slack = search rules in
    let g : FitsSigned w128 c.num.result = search rules in
    (rw e refl, rw (s, c.num.ensures.value) at (simp to_z-of_z at c.is_complementary.ensures))
