use Rattle.std.proofs.Common.{arith, ap, length, map}
use Rattle.zr_game.specs.Games.{game_of}
use Rattle.zr_cases.specs.Cases.{bnode_of}
use Rattle.zr_cases.proofs.Forests.{boxes_of}
use Rattle.zr_boxes.specs.Boxes.{root_box}
use Rattle.zr_check.proofs.BoxLines.{box_fault_below, boxes_listed}
use Rattle.zr_check.proofs.boxes.check_box_tree.Goals as goal

pub at_line-requires : goal.at_line-requires
at_line-requires c =
    let game = game_of c.args.game.now in
    let t = boxes_of (map bnode_of c.args.tree.now.nodes.items) c.args.tree.now.whole.whole in
    let w = box_fault_below game 0 (root_box game) t.0 c.in-Err.fault
    (c.in-Err.ensures.err t.0 t.1) in
    let s = boxes_listed t.0 in
    let l = ap length t.1 in
    omega (arith, w, s, l, c.requires.lines)

pub returns-in-Ok-clause-ok : goal.returns-in-Ok-clause-ok
returns-in-Ok-clause-ok c =
    let t = boxes_of (map bnode_of c.args.tree.now.nodes.items) c.args.tree.now.whole.whole in
    (t.0, t.1, c.in-Ok.ensures.ok t.0 t.1)

pub returns-in-Err-clause-err : goal.returns-in-Err-clause-err
returns-in-Err-clause-err c =
    let t = boxes_of (map bnode_of c.args.tree.now.nodes.items) c.args.tree.now.whole.whole in
    (t.0, c.in-Err.fault, t.1, c.in-Err.ensures.err t.0 t.1, c.at_line.ensures)
