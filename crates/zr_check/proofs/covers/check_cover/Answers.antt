use Rattle.std.proofs.Common.{arith, ap, length, map, []}
use Rattle.std.proofs.lemmas.List.{length-map}
use Rattle.zr_game.specs.Games.{game_of}
use Rattle.zr_game.specs.Leaves.{root_leaf}
use Rattle.zr_game.proofs.Items.{at_number}
use Rattle.zr_tree.specs.Covers.{KeepsCover}
use Rattle.zr_tree.specs.CoverSteps.{IsWideForCover}
use Rattle.zr_tree.specs.Nodes.{node_of}
use Rattle.zr_tree.proofs.Forests.{tree_of}
use Rattle.zr_tree.proofs.Greatest.{at_most_greatest}
use Rattle.zr_check.proofs.BoundSteps.{fault_below, size_listed}
use Rattle.zr_check.proofs.covers.check_cover.Goals as goal

pub cover-requires-clause-nodes : goal.cover-requires-clause-nodes
cover-requires-clause-nodes c =
    let n = c.requires.scratch.nodes 0 [] (omega arith) in
    let l = length-map c.args.tree.now.nodes.items node_of in
    omega (arith, n, l)

pub cover-requires-clause-columns : goal.cover-requires-clause-columns
cover-requires-clause-columns c player is =
    let g = at_most_greatest (λ player. length player.vars) (game_of c.args.game.now) c.args.i
    player is in
    let m = c.requires.scratch.columns in
    omega (arith, g, m)

pub at_line-requires : goal.at_line-requires
at_line-requires c =
    let who = at_number (game_of c.args.game.now) c.args.i c.requires.number in
    let t = tree_of (map node_of c.args.tree.now.nodes.items) c.args.tree.now.whole.whole in
    let w = fault_below (KeepsCover who.0) (IsWideForCover who.0) who.0 0 (root_leaf who.0) t.0
    c.in-Err.fault (c.in-Err.ensures.err who.0 who.1 t.0 t.1) in
    let s = size_listed t.0 in
    let l = ap length t.1 in
    omega (arith, w, s, l, c.requires.lines)

pub returns-in-Ok-clause-ok : goal.returns-in-Ok-clause-ok
returns-in-Ok-clause-ok c player is =
    let t = tree_of (map node_of c.args.tree.now.nodes.items) c.args.tree.now.whole.whole in
    (t.0, t.1, c.in-Ok.ensures.ok player is t.0 t.1)

pub returns-in-Err-clause-err : goal.returns-in-Err-clause-err
returns-in-Err-clause-err c player is =
    let t = tree_of (map node_of c.args.tree.now.nodes.items) c.args.tree.now.whole.whole in
    (t.0, c.in-Err.fault, t.1, c.in-Err.ensures.err player is t.0 t.1, c.at_line.ensures)
