use Rattle.std.proofs.Common.{arith, refl, ◌∙◌}
use Rattle.std.proofs.lemmas.Result.{err_from_is_err_and}
use Rattle.zr_game.specs.Players.{player_of}
use Rattle.zr_game.proofs.Items.{item}
use Rattle.zr_tree.specs.Nodes.{node_of}
use Rattle.zr_tree.specs.Form.{IsNodeForm}
use Rattle.zr_tree.specs.Tasks.{end_rule, end_wide}
use Rattle.zr_tree.proofs.Moves.{size_on, standing_first, standing_last, standing_next, standing_stopped}
use Rattle.zr_tree.proofs.check.walk.Goals as goal

pub loop-k-init : goal.loop-k-init
loop-k-init c =
    let s = c.start.ensures in
    let d = s.depth in
    (record {
      standing = standing_first (end_rule c.args.task (player_of c.args.player.now)) (end_wide c.args.task (player_of c.args.player.now)) (player_of c.args.player.now) c.args.nodes.now c.start.new.path s.leaf s.depth;
      path = s.path;
      size = s.size;
      sums = refl;
      depth = omega (arith, d);
    })

pub visit-requires-clause-node : goal.visit-requires-clause-node
visit-requires-clause-node c =
    item node_of IsNodeForm c.args.nodes.now c.loop-k.k c.index-nodes-k.result c.requires.nodes c.loop-k-test.true c.index-nodes-k.is

pub returns-in_err-visit-clause-err : goal.returns-in_err-visit-clause-err
returns-in_err-visit-clause-err c =
    let p = err_from_is_err_and c.from_residual.result c.from_residual.ensures.1 in
    let i = c.loop-k.invariant in
    let e = c.in_err-visit.ensures in
    rw (p.1, p.2) (standing_stopped (end_rule c.args.task (player_of c.args.player.now)) (end_wide c.args.task (player_of c.args.player.now)) (player_of c.args.player.now) c.args.nodes.now c.loop-k.k c.index-nodes-k.result c.loop-k-test.true c.index-nodes-k.is c.loop-k.room.path i.standing _ e.err)

pub loop-k-preserved : goal.loop-k-preserved
loop-k-preserved c =
    let i = c.loop-k.invariant in
    let e = c.in_ok-visit.ensures in
    let d = e.entered.depth in
    let n = i.depth in
    (record {
      standing = standing_next (end_rule c.args.task (player_of c.args.player.now)) (end_wide c.args.task (player_of c.args.player.now)) (player_of c.args.player.now) c.args.nodes.now c.loop-k.k c.index-nodes-k.result c.loop-k-test.true c.index-nodes-k.is c.loop-k.room.path i.standing c.visit.new.room.path e.ok e.entered.due;
      path = e.entered.path;
      size = size_on c.args.room.now.path c.loop-k.room.path c.visit.new.room.path i.size e.size;
      sums = e.sums ∙ i.sums;
      depth = omega (arith, d, n);
    })

pub returns-clause-ok : goal.returns-clause-ok
returns-clause-ok c =
    let i = c.loop-k.invariant in
    standing_last (end_rule c.args.task (player_of c.args.player.now)) (end_wide c.args.task (player_of c.args.player.now)) (player_of c.args.player.now) c.args.nodes.now c.loop-k.k c.loop-k.room.path c.loop-k-test.false i.standing
