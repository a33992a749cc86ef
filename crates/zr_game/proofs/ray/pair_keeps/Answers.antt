use Rattle.std.proofs.Common.{rules, get_or, length, sym, refl, ◌∙◌, pos, FitsSigned}
use Rattle.std.specs.Int.{w128}
use Rattle.std.proofs.lemmas.Int.{to_z-of_z}
use Rattle.zr_game.specs.Forms.{IsCoefficient}
use Rattle.zr_game.specs.Players.{pair_of}
use Rattle.zr_game.proofs.FeasibleLaws.{slack_is}
use Rattle.zr_game.proofs.RaySums.{along_is}
use Rattle.zr_game.proofs.TermColumns.{columns_exist}
use Rattle.zr_game.proofs.ray.pair_keeps.Goals as goal

pub along-requires : goal.along-requires
along-requires c =
    rw c.as_slice.ensures (columns_exist IsCoefficient 0 (length c.args.dir.now)
    c.args.pair.now.coef.items c.requires.form.coef)

pub returns : goal.returns
returns c =
    let e = sym (rw c.as_slice.ensures at c.along.ensures) ∙ c.in_ok-change.was in
    let s = along_is c.args.pair.now.coef.items c.args.dir.now c.in_ok-change.change e in
    let k = slack_is (pair_of c.args.pair.now) c.args.base.now c.in-Ok.slack
    (sym c.slack_at.ensures ∙ c.in-Ok.is) in
    let f : FitsSigned w128 c.in_ok-change.change = search rules in
    let g : FitsSigned w128 c.in-Ok.slack = search rules in
    let n : FitsSigned w128 c.num.result = search rules in
    let d : FitsSigned w128 (get_or c.args.dir.now c.args.pair.now.var (pos 0)) = search rules in
    let told = rw c.num.ensures.value at (simp to_z-of_z at c.stays_complementary.ensures) in
    (rw e refl, rw (s, k) at told)
