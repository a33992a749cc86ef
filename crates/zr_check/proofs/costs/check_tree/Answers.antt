use Rattle.std.proofs.Common.{rules, arith, ap, length, map, FitsSigned}
use Rattle.std.specs.Int.{w128}
use Rattle.std.proofs.lemmas.Int.{to_z-of_z}
use Rattle.zr_game.specs.Games.{game_of}
use Rattle.zr_game.specs.Leaves.{bound_with, root_leaf}
use Rattle.zr_game.proofs.Items.{at_number}
use Rattle.zr_tree.specs.Nodes.{node_of}
use Rattle.zr_tree.proofs.Forests.{tree_of}
use Rattle.zr_tree.proofs.Greatest.{at_most_greatest}
use Rattle.zr_check.proofs.BoundSteps.{fault_within, size_listed}
use Rattle.zr_check.proofs.costs.check_tree.Goals as goal

pub bounds-requires-clause-columns : goal.bounds-requires-clause-columns
bounds-requires-clause-columns c player is =
    let g = at_most_greatest (λ player. length player.vars) (game_of c.args.game.now) c.args.i player is in
    omega (arith, g, c.requires.columns)

pub at_line-requires : goal.at_line-requires
at_line-requires c =
    let r : FitsSigned w128 c.args.right = search rules in
    let who = at_number (game_of c.args.game.now) c.args.i c.requires.number in
    let t = tree_of (map node_of c.args.tree.now.nodes.items) c.args.tree.now.whole.whole in
    let e = simp to_z-of_z at c.in-Err.ensures.err in
    let w = fault_within who.0 (bound_with c.args.left.now c.args.right) 0 (root_leaf who.0) t.0 c.in-Err.fault (e who.0 who.1 t.0 t.1) in
    let s = size_listed t.0 in
    let l = ap length t.1 in
    omega (arith, w, s, l, c.requires.lines)

pub returns-in-Ok-clause-ok : goal.returns-in-Ok-clause-ok
returns-in-Ok-clause-ok c player is =
    let r : FitsSigned w128 c.args.right = search rules in
    let t = tree_of (map node_of c.args.tree.now.nodes.items) c.args.tree.now.whole.whole in
    let e = simp to_z-of_z at c.in-Ok.ensures.ok in
    (t.0, t.1, e player is t.0 t.1)

pub returns-in-Err-clause-err : goal.returns-in-Err-clause-err
returns-in-Err-clause-err c player is =
    let r : FitsSigned w128 c.args.right = search rules in
    let t = tree_of (map node_of c.args.tree.now.nodes.items) c.args.tree.now.whole.whole in
    let e = simp to_z-of_z at c.in-Err.ensures.err in
    (t.0, c.in-Err.fault, t.1, e player is t.0 t.1, c.at_line.ensures)
