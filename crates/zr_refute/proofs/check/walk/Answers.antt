use Rattle.std.proofs.Common.{arith, refl, ◌∙◌}
use Rattle.std.proofs.lemmas.Result.{err_from_is_err_and}
use Rattle.zr_game.specs.Games.{game_of}
use Rattle.zr_game.proofs.Items.{item}
use Rattle.zr_cases.specs.Cases.{rnode_of}
use Rattle.zr_cases.specs.Forms.{IsCaseForm}
use Rattle.zr_system.specs.Regions.{leaves_of}
use Rattle.zr_refute.proofs.Moves.{standing_first, standing_last, standing_next, standing_stopped}
use Rattle.zr_refute.proofs.check.walk.Goals as goal

pub loop-n-init : goal.loop-n-init
loop-n-init c =
    let game = game_of c.args.game.now in
    let leaves = leaves_of c.args.leaves.now in
    record {
      standing = standing_first game leaves c.args.kind c.args.nodes.now
          (record { choices = c.args.table.now.path.choices; depth = 0 }) refl;
      path = record { exist = λ k d h. absurd (omega (arith, h)); depth = omega arith };
      room = refl;
      depth = omega arith;
    }

pub visit-requires-clause-node : goal.visit-requires-clause-node
visit-requires-clause-node c =
    item rnode_of IsCaseForm c.args.nodes.now c.loop-n.n c.index-nodes-n.result c.requires.nodes
    c.loop-n-test.true c.index-nodes-n.is

pub returns-in_err-visit-clause-err : goal.returns-in_err-visit-clause-err
returns-in_err-visit-clause-err c =
    let p = err_from_is_err_and c.from_residual.result c.from_residual.ensures.1 in
    let i = c.loop-n.invariant in
    let e = c.in_err-visit.ensures in
    rw (p.1, p.2) (standing_stopped (game_of c.args.game.now) (leaves_of c.args.leaves.now)
    c.args.kind c.args.nodes.now c.loop-n.n c.index-nodes-n.result c.loop-n-test.true
    c.index-nodes-n.is c.loop-n.table.path i.standing _ e.err)

pub loop-n-preserved : goal.loop-n-preserved
loop-n-preserved c =
    let i = c.loop-n.invariant in
    let e = c.in_ok-visit.ensures in
    let d = e.entered.depth in
    let n = i.depth in
    record {
      standing = standing_next (game_of c.args.game.now) (leaves_of c.args.leaves.now) c.args.kind
          c.args.nodes.now c.loop-n.n c.index-nodes-n.result c.loop-n-test.true c.index-nodes-n.is
          c.loop-n.table.path i.standing c.visit.new.table.path e.ok e.entered.due;
      path = e.entered.path;
      room = e.room ∙ i.room;
      depth = omega (arith, d, n);
    }

pub returns-clause-ok : goal.returns-clause-ok
returns-clause-ok c =
    standing_last (game_of c.args.game.now) (leaves_of c.args.leaves.now) c.args.kind
    c.args.nodes.now c.loop-n.n c.loop-n.table.path c.loop-n-test.false c.loop-n.invariant.standing
