use Rattle.std.proofs.Common.{◌≡◌, ◌+◌, ◌*◌, ap, ◌∙◌, false, map}
use Rattle.std.proofs.lemmas.List.{length_push, map_push}
use Rattle.std.proofs.lemmas.List.Elements.{All-push}
use Rattle.zr_lin.specs.Ineqs.{IneqOf, IsIneq, ineq_of}
use Rattle.zr_simplex.proofs.tests.made.made_rows.Goals as goal

pub loop-i-preserved : goal.loop-i-preserved
loop-i-preserved c =
    let inv = c.loop-i.invariant in
    let row = c.in_ok-made_row.field-0 in
    let columns = c.args.shape.parts * c.args.shape.stride in
    rw (c.in_ok-push.ensures.items, map_push ineq_of c.loop-i.rows.items row) (record {
      count = length_push c.loop-i.rows.items row ∙ ap (λ n. n + 1) inv.count;
      rows = All-push (IsIneq columns) (map ineq_of c.loop-i.rows.items) (ineq_of row) inv.rows c.in_ok-made_row.ensures.row;
      weak = All-push (λ (r : IneqOf). r.strict ≡ false) (map ineq_of c.loop-i.rows.items) (ineq_of row) inv.weak c.in_ok-made_row.ensures.weak;
    })
