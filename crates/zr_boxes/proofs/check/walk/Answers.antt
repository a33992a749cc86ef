use Rattle.std.proofs.Common.{arith, ◌∙◌}
use Rattle.std.proofs.lemmas.Result.{err_from_is_err_and}
use Rattle.zr_game.specs.Games.{game_of}
use Rattle.zr_game.proofs.Items.{item}
use Rattle.zr_cases.specs.Cases.{bnode_of}
use Rattle.zr_cases.specs.Forms.{IsBoxForm}
use Rattle.zr_boxes.proofs.Moves.{standing_first, standing_last, standing_next, standing_stopped}
use Rattle.zr_boxes.proofs.check.walk.Goals as goal

pub loop-k-init : goal.loop-k-init
loop-k-init c =
    let s = c.start.ensures in
    let d = s.depth in
    (record {
      standing = standing_first (game_of c.args.game.now) c.args.nodes.now c.start.new.path s.root
          s.depth;
      path = s.path;
      places = s.places;
      depth = omega (arith, d);
    })

pub visit-requires-clause-node : goal.visit-requires-clause-node
visit-requires-clause-node c =
    item bnode_of IsBoxForm c.args.nodes.now c.loop-k.k c.index-nodes-k.result c.requires.nodes
    c.loop-k-test.true c.index-nodes-k.is

pub returns-in_err-visit-clause-err : goal.returns-in_err-visit-clause-err
returns-in_err-visit-clause-err c =
    let p = err_from_is_err_and c.from_residual.result c.from_residual.ensures.1 in
    rw (p.1, p.2) (standing_stopped (game_of c.args.game.now) c.args.nodes.now c.loop-k.k
    c.index-nodes-k.result c.loop-k-test.true c.index-nodes-k.is c.loop-k.path
    c.loop-k.invariant.standing _ c.in_err-visit.ensures.err)

pub loop-k-preserved : goal.loop-k-preserved
loop-k-preserved c =
    let i = c.loop-k.invariant in
    let e = c.in_ok-visit.ensures in
    let d = e.entered.depth in
    let n = i.depth in
    (record {
      standing = standing_next (game_of c.args.game.now) c.args.nodes.now c.loop-k.k
          c.index-nodes-k.result c.loop-k-test.true c.index-nodes-k.is c.loop-k.path i.standing
          c.visit.new.path e.ok e.entered.due;
      path = e.entered.path;
      places = e.entered.places ∙ i.places;
      depth = omega (arith, d, n);
    })

pub returns-clause-ok : goal.returns-clause-ok
returns-clause-ok c =
    standing_last (game_of c.args.game.now) c.args.nodes.now c.loop-k.k c.loop-k.path
    c.loop-k-test.false c.loop-k.invariant.standing
