use Rattle.std.proofs.Common.{◌≡◌, ◌<◌, ◌≤◌, ◌+◌, ◌-◌, ◌∷◌, ◌++◌, [], ℕ, ap, arith, map, length, true, false}
use Rattle.std.proofs.lemmas.List.{map_push}
use Rattle.std.proofs.lemmas.Result.{err_from_is_err_and}
use Rattle.zr_cases.specs.Forms.{box_count}
use Rattle.zr_cases.specs.Cases.{BNodeOf, bnode_of, CutNode, EmptyNode, DeviateNode}
use Rattle.zr_form.specs.Lines.{by_fields, fields_of, lines_of}
use Rattle.zr_form.specs.Reading.{items_read}
use Rattle.zr_form.proofs.Composing.{items_end, items_line_on, so_far_begins}
use Rattle.zr_form.proofs.Placing.{items_first_stops, items_placed_stops, placed_reads}
use Rattle.zr_form.proofs.Walking.{line_is, shorter}
use Rattle.zr_lines.specs.Reader.{box_at, boxes_read}
use Rattle.zr_lines.proofs.box_lines.take_boxes.Goals as goal

at_most_two : (n : BNodeOf) → box_count n ≤ 2
at_most_two (CutNode i v at) = omega arith
at_most_two (EmptyNode i mult) = omega arith
at_most_two (DeviateNode i x) = omega arith

pub loop-due-init : goal.loop-due-init
unfolding boxes_read
loop-due-init c = record {
  room = omega arith;
  so_far = so_far_begins (map bnode_of c.new-nodes.result.items) (items_read (by_fields (box_at true)) box_count (lines_of c.args.bytes.now) 1) (items_read (by_fields (box_at false)) box_count (lines_of c.args.bytes.now) 1) (ap (map bnode_of) c.new-nodes.ensures.items);
}

pub returns-in_err-line : goal.returns-in_err-line
returns-in_err-line c =
    let p = err_from_is_err_and c.from_residual.result c.from_residual.ensures.1 in
    rw (p.1, p.2) (items_first_stops (box_at true) (box_at false) box_count (map bnode_of c.loop-due.nodes.items) c.loop-due.rest.now c.loop-due.due c.in_err-line.field-0.0 (boxes_read true (lines_of c.args.bytes.now)) (boxes_read false (lines_of c.args.bytes.now))
    c.in_err-line.ensures (omega arith) c.loop-due.invariant.so_far)

pub returns-in_err-node : goal.returns-in_err-node
returns-in_err-node c =
    let p = err_from_is_err_and c.from_residual-in_err-node.result
    c.from_residual-in_err-node.ensures.1 in
    rw (p.1, p.2) (items_placed_stops bnode_of (box_at true) (box_at false) box_count (map bnode_of c.loop-due.nodes.items) c.loop-due.rest.now c.in_ok-line.line.now c.in_ok-line.after.now c.loop-due.due c.in_ok-box_line.field-0 c.in_err-node.field-0.0
    (boxes_read true (lines_of c.args.bytes.now)) (boxes_read false (lines_of c.args.bytes.now)) (line_is c.loop-due.rest.now c.in_ok-line.line.now c.in_ok-line.after.now c.in_ok-line.ensures) (omega arith) c.in_ok-box_line.ensures c.in_err-node.ensures c.loop-due.invariant.so_far)

pub loop-due-smaller : goal.loop-due-smaller
loop-due-smaller c = shorter c.loop-due.rest.now c.in_ok-line.line.now c.in_ok-line.after.now (line_is c.loop-due.rest.now c.in_ok-line.line.now c.in_ok-line.after.now c.in_ok-line.ensures)

pub loop-due-preserved : goal.loop-due-preserved
loop-due-preserved c =
    let fs = fields_of c.in_ok-line.line.now in
    let l = line_is c.loop-due.rest.now c.in_ok-line.line.now c.in_ok-line.after.now c.in_ok-line.ensures in
    let s : length c.in_ok-line.after.now < length c.loop-due.rest.now = shorter c.loop-due.rest.now c.in_ok-line.line.now c.in_ok-line.after.now l in
    let two : box_count (bnode_of c.in_ok-node.node) ≤ 2 = at_most_two (bnode_of c.in_ok-node.node) in
    let n : c.loop-due.due - 1 + c.count_of_boxes.result ≡ (c.loop-due.due - 1) + box_count (bnode_of c.in_ok-node.node) = ap (λ (z : ℕ). (c.loop-due.due - 1) + z) c.count_of_boxes.ensures in
    let e =
    placed_reads bnode_of (box_at true fs) (box_at false fs)
    (length c.loop-due.rest.now) c.in_ok-box_line.field-0 c.in_ok-node.node
    c.in_ok-box_line.ensures c.in_ok-node.ensures in
    let p : map bnode_of c.push.new.self.items ≡ map bnode_of c.loop-due.nodes.items ++ bnode_of c.in_ok-node.node ∷ [] = rw c.in_ok-push.ensures.items (map_push _ c.loop-due.nodes.items c.in_ok-node.node) in
    record {
      room = omega (arith, c.count_of_boxes.ensures);
      so_far = rw p (items_line_on (box_at true) (box_at false) box_count (map bnode_of c.loop-due.nodes.items) c.loop-due.rest.now c.in_ok-line.line.now c.in_ok-line.after.now c.loop-due.due (c.loop-due.due - 1 + c.count_of_boxes.result) (bnode_of c.in_ok-node.node)
          (boxes_read true (lines_of c.args.bytes.now)) (boxes_read false (lines_of c.args.bytes.now)) l (omega arith) n e c.loop-due.invariant.so_far);
    }

pub returns : goal.returns
returns c =
    items_end (by_fields (box_at true)) (by_fields (box_at false)) box_count (map bnode_of c.loop-due.nodes.items) (lines_of c.loop-due.rest.now) c.loop-due.due (boxes_read true (lines_of c.args.bytes.now)) (boxes_read false (lines_of c.args.bytes.now))
    (omega arith) c.loop-due.invariant.so_far
