use Rattle.std.proofs.Common.{map}
use Rattle.std.proofs.lemmas.Result.{err_from_is_err_and}
use Rattle.zr_tree.specs.Nodes.{node_of}
use Rattle.zr_form.specs.Lines.{lines_of}
use Rattle.zr_text.proofs.ReadingSteps.{empty_ended, empty_no_end, empty_no_tree}
use Rattle.zr_text.proofs.reading.take_empty.Goals as goal

pub returns-in_err-tree : goal.returns-in_err-tree
returns-in_err-tree c =
    let p = err_from_is_err_and c.from_residual.result c.from_residual.ensures.1 in
    λ players. rw (p.1, p.2) (empty_no_tree c.args.player players (lines_of c.args.bytes.now) c.in_err-tree.field-0.0 c.in_err-tree.ensures)

pub returns-in_err-rest : goal.returns-in_err-rest
returns-in_err-rest c =
    let p = err_from_is_err_and c.from_residual-in_err-rest.result c.from_residual-in_err-rest.ensures.1 in
    λ players. rw (p.1, p.2) (empty_no_end c.args.player players (lines_of c.args.bytes.now) (lines_of c.in_ok-tree.rest.now) (map node_of c.in_ok-tree.tree.nodes.items) c.in_err-rest.field-0.0 c.in_ok-tree.ensures c.in_err-rest.ensures)

pub returns : goal.returns
returns c =
    λ players. empty_ended c.args.player players (lines_of c.args.bytes.now) (lines_of c.in_ok-tree.rest.now) (lines_of c.in_ok-rest.rest.now) (map node_of c.in_ok-tree.tree.nodes.items) c.in_ok-tree.ensures c.in_ok-rest.ensures
