use Rattle.std.proofs.Common.{sym, ap, ◌∙◌, map}
use Rattle.std.proofs.lemmas.Result.{MatchResult-weaker, on_ok_weaker}
use Rattle.zr_game.specs.Games.{game_of}
use Rattle.zr_cases.specs.Cases.{bnode_of}
use Rattle.zr_cases.proofs.Forests.{boxes_of}
use Rattle.zr_boxes.specs.Boxes.{root_box}
use Rattle.zr_boxes.proofs.Descent.{no_equilibrium}
use Rattle.zr_boxes.proofs.PassLaws.{exact_told, right_if}
use Rattle.zr_boxes.proofs.check.box_refuted.Goals as goal

pub returns-clause-exact : goal.returns-clause-exact
returns-clause-exact c t e =
    let game = game_of c.args.game.now in
    let listed = e ∙ ap (map bnode_of) (sym c.deref.ensures.value) in
    let ok = on_ok_weaker c.walk.result (λ h. h t listed) c.walk.ensures.ok in
    let err = MatchResult-weaker c.walk.result c.walk.ensures.err (λ u h. h)
    (λ fault h. h t listed) in
    exact_told game t (root_box game) c.walk.result ok err

pub returns-clause-sound : goal.returns-clause-sound
returns-clause-sound c =
    let game = game_of c.args.game.now in
    let t = boxes_of (map bnode_of c.args.tree.now.nodes.items) c.args.tree.now.whole.whole in
    let listed = t.1 ∙ ap (map bnode_of) (sym c.deref.ensures.value) in
    on_ok_weaker c.walk.result (λ h. no_equilibrium game c.args.game.now.sound t.0
    (right_if game t.0 (root_box game) (h t.0 listed)).0) c.walk.ensures.ok
