use Rattle.std.proofs.Common.{arith, ◌≡◌, ◌≤◌, ◌+◌, ap, subst, suc, ℕ, Some, List, slice_get, length, map, take}
use Rattle.std.proofs.lemmas.List.{length-map}
use Rattle.std.proofs.lemmas.Result.{err_from_is_err_and}
use Rattle.zr_game.specs.Games.{game_of}
use Rattle.zr_game.proofs.Items.{at_number, found, item}
use Rattle.zr_tree.specs.Nodes.{node_of}
use Rattle.zr_tree.specs.Scratches.{Places}
use Rattle.zr_cert.specs.declared.cert.Bound.{Bound}
use Rattle.zr_cert.specs.Certs.{BoundOf, bound_of}
use Rattle.zr_cert.specs.Lines.{bound_lines, sum_lines}
use Rattle.zr_check.proofs.BoundWalks.{BoundsTo, all_bounds, bounds_refused, next_bound}
use Rattle.zr_check.proofs.LineSums.{lines_more, lines_within}
use Rattle.zr_check.proofs.costs.check_bounds.Goals as goal

lines : (list : List Bound) (i first line : ℕ) (bound : Bound) → slice_get (map bound_of list) i ≡ Some (bound_of bound) → line ≡ first + sum_lines bound_lines (take i (map bound_of list)) → line + bound_lines (bound_of bound) ≤ first + sum_lines bound_lines (map bound_of list)
lines list i first line bound there at =
    let more = lines_more bound_lines (map bound_of list) i (bound_of bound) there in
    let all = lines_within bound_lines (map bound_of list) (suc i) in
    omega (arith, more, all, at)

pub check_bound-requires-clause-lines : goal.check_bound-requires-clause-lines
check_bound-requires-clause-lines c =
    let there = found bound_of c.args.list.now c.loop-i.i c.index-list-i.result c.loop-i-test.true c.index-list-i.is in
    let l = lines c.args.list.now c.loop-i.i c.args.line c.loop-i.line c.index-list-i.result there c.loop-i.invariant.at in
    omega (arith, l, c.requires.lines)

pub check_bound-requires-clause-nodes : goal.check_bound-requires-clause-nodes
check_bound-requires-clause-nodes c =
    let n = item bound_of (λ (b : BoundOf). length b.tree ≤ c.args.bench.now.scratch.nodes) c.args.list.now c.loop-i.i c.index-list-i.result c.requires.trees c.loop-i-test.true c.index-list-i.is in
    let s = ap (λ (p : Places). p.nodes) c.loop-i.invariant.same.scratch in
    omega (arith, n, s)

pub returns-in_err-check_bound-clause-err : goal.returns-in_err-check_bound-clause-err
returns-in_err-check_bound-clause-err c mixtures are begin =
    let p = err_from_is_err_and c.from_residual.result c.from_residual.ensures.1 in
    let who = at_number (game_of c.args.game.now) c.loop-i.i (omega (arith, c.loop-i-test.true, c.requires.count)) in
    let there = found bound_of c.args.list.now c.loop-i.i c.index-list-i.result c.loop-i-test.true c.index-list-i.is in
    rw (p.1, p.2) (bounds_refused (game_of c.args.game.now) (map bound_of c.args.list.now) c.args.means.now c.args.line c.loop-i.i c.loop-i.line c.args.bench.now c.loop-i.bench c.loop-i.invariant who.0 who.1 (bound_of c.index-list-i.result) there mixtures are begin _ (c.in_err-check_bound.ensures.err who.0 who.1 mixtures are))

pub overflow_add-line : goal.overflow_add-line
overflow_add-line c =
    let there = found bound_of c.args.list.now c.loop-i.i c.index-list-i.result c.loop-i-test.true c.index-list-i.is in
    let l = lines c.args.list.now c.loop-i.i c.args.line c.loop-i.line c.index-list-i.result there c.loop-i.invariant.at in
    let n = length-map c.index-list-i.result.tree.nodes.items node_of in
    omega (arith, l, n, c.requires.lines, c.len.ensures, c.index-list-i.result.tree.nodes.ok.0)

pub overflow_add-line-in-loop-i : goal.overflow_add-line-in-loop-i
overflow_add-line-in-loop-i c =
    let there = found bound_of c.args.list.now c.loop-i.i c.index-list-i.result c.loop-i-test.true c.index-list-i.is in
    let l = lines c.args.list.now c.loop-i.i c.args.line c.loop-i.line c.index-list-i.result there c.loop-i.invariant.at in
    let n = length-map c.index-list-i.result.tree.nodes.items node_of in
    omega (arith, l, n, c.requires.lines, c.len.ensures, c.index-list-i.result.tree.nodes.ok.0)

pub loop-i-preserved : goal.loop-i-preserved
loop-i-preserved c =
    let who = at_number (game_of c.args.game.now) c.loop-i.i (omega (arith, c.loop-i-test.true, c.requires.count)) in
    let there = found bound_of c.args.list.now c.loop-i.i c.index-list-i.result c.loop-i-test.true c.index-list-i.is in
    let n = length-map c.index-list-i.result.tree.nodes.items node_of in
    let count : length (bound_of c.index-list-i.result).tree ≡ c.len.result = omega (arith, n, c.len.ensures, c.index-list-i.result.tree.nodes.ok.0) in
    subst (λ k. BoundsTo (game_of c.args.game.now) (map bound_of c.args.list.now) c.args.means.now c.args.line (c.loop-i.i + 1) (c.loop-i.line + (1 + k)) c.args.bench.now c.check_bound.new.bench) count (next_bound (game_of c.args.game.now) (map bound_of c.args.list.now) c.args.means.now c.args.line c.loop-i.i c.loop-i.line c.args.bench.now c.loop-i.bench c.loop-i.invariant who.0 who.1 (bound_of c.index-list-i.result) there (c.in_ok-check_bound.ensures.ok who.0 who.1) c.check_bound.new.bench c.in_ok-check_bound.ensures.places)

pub returns-clause-ok : goal.returns-clause-ok
returns-clause-ok c =
    all_bounds (game_of c.args.game.now) (map bound_of c.args.list.now) c.args.means.now c.args.line c.loop-i.i c.loop-i.line c.args.bench.now c.loop-i.bench c.loop-i.invariant (omega (arith, c.loop-i-test.false, c.requires.count))
