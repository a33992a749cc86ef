use Rattle.std.proofs.Common.{◌≡◌, ◌<◌, ◌≤◌, ◌+◌, ◌-◌, ◌∷◌, ◌++◌, [], ℕ, ap, arith, map, length, true, false}
use Rattle.std.proofs.lemmas.List.{map_push}
use Rattle.std.proofs.lemmas.Result.{err_from_is_err_and}
use Rattle.zr_tree.specs.Form.{child_count}
use Rattle.zr_tree.specs.Nodes.{NodeOf, node_of, SplitNode, ChooseNode, ProofNode, KnownNode, LooseNode}
use Rattle.zr_form.specs.Lines.{by_fields, fields_of, lines_of}
use Rattle.zr_form.specs.Reading.{items_read}
use Rattle.zr_form.proofs.Composing.{items_end, items_line_on, so_far_begins}
use Rattle.zr_form.proofs.Placing.{items_first_stops, items_placed_stops, placed_reads}
use Rattle.zr_form.proofs.Walking.{line_is, shorter}
use Rattle.zr_lines.specs.Reader.{node_at, tree_read}
use Rattle.zr_lines.proofs.tree.take_nodes.Goals as goal

at_most_two : (n : NodeOf) → child_count n ≤ 2
at_most_two (SplitNode v at) = omega arith
at_most_two (ChooseNode p) = omega arith
at_most_two (ProofNode scale mult) = omega arith
at_most_two (KnownNode x) = omega arith
at_most_two LooseNode = omega arith

pub loop-due-init : goal.loop-due-init
unfolding tree_read
loop-due-init c = record {
  room = omega arith;
  so_far = so_far_begins (map node_of c.new-nodes.result.items) (items_read (by_fields (node_at true c.args.ends)) child_count (lines_of c.args.bytes.now) 1) (items_read (by_fields (node_at false c.args.ends)) child_count (lines_of c.args.bytes.now) 1) (ap (map node_of) c.new-nodes.ensures.items);
}

pub returns-in_err-line : goal.returns-in_err-line
returns-in_err-line c =
    let p = err_from_is_err_and c.from_residual.result c.from_residual.ensures.1 in
    rw (p.1, p.2) (items_first_stops (node_at true c.args.ends) (node_at false c.args.ends) child_count (map node_of c.loop-due.nodes.items) c.loop-due.rest.now c.loop-due.due c.in_err-line.field-0.0 (tree_read true c.args.ends (lines_of c.args.bytes.now)) (tree_read false c.args.ends (lines_of c.args.bytes.now))
    c.in_err-line.ensures (omega arith) c.loop-due.invariant.so_far)

pub returns-in_err-node : goal.returns-in_err-node
returns-in_err-node c =
    let p = err_from_is_err_and c.from_residual-in_err-node.result
    c.from_residual-in_err-node.ensures.1 in
    rw (p.1, p.2) (items_placed_stops node_of (node_at true c.args.ends) (node_at false c.args.ends) child_count (map node_of c.loop-due.nodes.items) c.loop-due.rest.now c.in_ok-line.line.now c.in_ok-line.after.now c.loop-due.due c.in_ok-node_line.field-0 c.in_err-node.field-0.0
    (tree_read true c.args.ends (lines_of c.args.bytes.now)) (tree_read false c.args.ends (lines_of c.args.bytes.now)) (line_is c.loop-due.rest.now c.in_ok-line.line.now c.in_ok-line.after.now c.in_ok-line.ensures) (omega arith) c.in_ok-node_line.ensures c.in_err-node.ensures c.loop-due.invariant.so_far)

pub loop-due-smaller : goal.loop-due-smaller
loop-due-smaller c = shorter c.loop-due.rest.now c.in_ok-line.line.now c.in_ok-line.after.now (line_is c.loop-due.rest.now c.in_ok-line.line.now c.in_ok-line.after.now c.in_ok-line.ensures)

pub loop-due-preserved : goal.loop-due-preserved
loop-due-preserved c =
    let fs = fields_of c.in_ok-line.line.now in
    let l = line_is c.loop-due.rest.now c.in_ok-line.line.now c.in_ok-line.after.now c.in_ok-line.ensures in
    let s : length c.in_ok-line.after.now < length c.loop-due.rest.now = shorter c.loop-due.rest.now c.in_ok-line.line.now c.in_ok-line.after.now l in
    let two : child_count (node_of c.in_ok-node.node) ≤ 2 = at_most_two (node_of c.in_ok-node.node) in
    let n : c.loop-due.due - 1 + c.count_of_children.result ≡ (c.loop-due.due - 1) + child_count (node_of c.in_ok-node.node) = ap (λ (z : ℕ). (c.loop-due.due - 1) + z) c.count_of_children.ensures in
    let e =
    placed_reads node_of (node_at true c.args.ends fs) (node_at false c.args.ends fs)
    (length c.loop-due.rest.now) c.in_ok-node_line.field-0 c.in_ok-node.node
    c.in_ok-node_line.ensures c.in_ok-node.ensures in
    let p : map node_of c.push.new.self.items ≡ map node_of c.loop-due.nodes.items ++ node_of c.in_ok-node.node ∷ [] = rw c.in_ok-push.ensures.items (map_push _ c.loop-due.nodes.items c.in_ok-node.node) in
    record {
      room = omega (arith, c.count_of_children.ensures);
      so_far = rw p (items_line_on (node_at true c.args.ends) (node_at false c.args.ends) child_count (map node_of c.loop-due.nodes.items) c.loop-due.rest.now c.in_ok-line.line.now c.in_ok-line.after.now c.loop-due.due (c.loop-due.due - 1 + c.count_of_children.result) (node_of c.in_ok-node.node)
          (tree_read true c.args.ends (lines_of c.args.bytes.now)) (tree_read false c.args.ends (lines_of c.args.bytes.now)) l (omega arith) n e c.loop-due.invariant.so_far);
    }

pub returns : goal.returns
returns c =
    items_end (by_fields (node_at true c.args.ends)) (by_fields (node_at false c.args.ends)) child_count (map node_of c.loop-due.nodes.items) (lines_of c.loop-due.rest.now) c.loop-due.due (tree_read true c.args.ends (lines_of c.args.bytes.now)) (tree_read false c.args.ends (lines_of c.args.bytes.now))
    (omega arith) c.loop-due.invariant.so_far
