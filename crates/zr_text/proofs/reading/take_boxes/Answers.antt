use Rattle.std.proofs.Common.{map}
use Rattle.std.proofs.lemmas.Result.{err_from_is_err_and}
use Rattle.zr_cases.specs.Cases.{bnode_of}
use Rattle.zr_form.specs.Lines.{lines_of}
use Rattle.zr_text.proofs.ReadingSteps.{boxes_ended, boxes_no_end, boxes_no_tree}
use Rattle.zr_text.proofs.reading.take_boxes.Goals as goal

pub returns-in_err-tree : goal.returns-in_err-tree
returns-in_err-tree c =
    let p = err_from_is_err_and c.from_residual.result c.from_residual.ensures.1 in
    λ players. rw (p.1, p.2) (boxes_no_tree players (lines_of c.args.bytes.now) c.in_err-tree.field-0.0 c.in_err-tree.ensures)

pub returns-in_err-rest : goal.returns-in_err-rest
returns-in_err-rest c =
    let p = err_from_is_err_and c.from_residual-in_err-rest.result c.from_residual-in_err-rest.ensures.1 in
    λ players. rw (p.1, p.2) (boxes_no_end players (lines_of c.args.bytes.now) (lines_of c.in_ok-tree.rest.now) (map bnode_of c.in_ok-tree.tree.nodes.items) c.in_err-rest.field-0.0 c.in_ok-tree.ensures c.in_err-rest.ensures)

pub returns : goal.returns
returns c =
    λ players. boxes_ended players (lines_of c.args.bytes.now) (lines_of c.in_ok-tree.rest.now) (lines_of c.in_ok-rest.rest.now) (map bnode_of c.in_ok-tree.tree.nodes.items) c.in_ok-tree.ensures c.in_ok-rest.ensures
