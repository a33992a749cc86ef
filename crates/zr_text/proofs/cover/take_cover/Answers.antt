use Rattle.std.proofs.Common.{map}
use Rattle.std.proofs.lemmas.Result.{err_from_is_err_and}
use Rattle.zr_game.specs.Named.{named_of}
use Rattle.zr_tree.specs.Nodes.{node_of}
use Rattle.zr_form.specs.Lines.{lines_of}
use Rattle.zr_text.proofs.TextSteps.{cover_no_named, cover_no_tree, cover_taken}
use Rattle.zr_text.proofs.cover.take_cover.Goals as goal

pub returns-in_err-tree : goal.returns-in_err-tree
returns-in_err-tree c =
    let p = err_from_is_err_and c.from_residual.result c.from_residual.ensures.1 in
    rw (p.1, p.2) (cover_no_tree (lines_of c.args.bytes.now) c.in_err-tree.field-0.0 c.in_err-tree.ensures)

pub returns-in_err-items : goal.returns-in_err-items
returns-in_err-items c =
    let p = err_from_is_err_and c.from_residual-in_err-items.result c.from_residual-in_err-items.ensures.1 in
    rw (p.1, p.2) (cover_no_named (lines_of c.args.bytes.now) (lines_of c.in_ok-tree.rest.now) (map node_of c.in_ok-tree.tree.nodes.items) c.in_err-items.field-0.0 c.in_ok-tree.ensures c.in_err-items.ensures)

pub returns : goal.returns
returns c =
    cover_taken (lines_of c.args.bytes.now) (lines_of c.in_ok-tree.rest.now) (lines_of c.in_ok-items.rest.now) (map node_of c.in_ok-tree.tree.nodes.items) (map named_of c.in_ok-items.items.items) c.in_ok-tree.ensures c.in_ok-items.ensures
