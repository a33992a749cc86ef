use Rattle.std.proofs.Common.{rules, ◌≡◌, arith, ap, ◌∙◌, inr, length, FitsSigned}
use Rattle.std.specs.Int.{w128}
use Rattle.std.proofs.lemmas.List.{with_items_is}
use Rattle.std.specs.Vec.{with_items}
use Rattle.zr_simplex.specs.Programs.{numbers}
use Rattle.zr_simplex.proofs.Kept.{zeros_at}
use Rattle.zr_simplex.proofs.basic.over_basis.Goals as goal
use Rattle.zr_simplex.proofs.basic.over_basis.Goals.{After-fill}

made : (c : After-fill) → (with_items c.in-Ok-zeros.all c.fill.new.places).items ≡ c.fill.new.places
made c = with_items_is c.in-Ok-zeros.all c.fill.new.places (search rules)

pub returns-in-Ok-fill-clause-on : goal.returns-in-Ok-fill-clause-on
returns-in-Ok-fill-clause-on c i h =
    let at = goal.at.returns-in-Ok-fill-clause-on c in
    let e : c.len-rows.result ≡ length c.args.lp.now.rows.items = search rules in
    rw (made at.After-fill) (c.in-Ok-fill.ensures.on i (omega (arith, e, h)))

pub returns-in-Ok-fill-clause-off : goal.returns-in-Ok-fill-clause-off
returns-in-Ok-fill-clause-off c j out =
    let at = goal.at.returns-in-Ok-fill-clause-off c in
    let e : c.len-rows.result ≡ length c.args.lp.now.rows.items = search rules in
    rw (made at.After-fill) (c.in-Ok-fill.ensures.off j (λ i h. out i (omega (arith, e, h))) ∙ ap (λ xs. numbers xs j) c.deref_mut.ensures.value ∙ zeros_at c.in-Ok-zeros.all.items j c.in-Ok-zeros.ensures.zeros)

pub returns-in-Err-fill-clause-halts : goal.returns-in-Err-fill-clause-halts
returns-in-Err-fill-clause-halts c =
    let e : c.len-rows.result ≡ length c.args.lp.now.rows.items = search rules in
    let d : FitsSigned w128 c.in-Ok.den = search rules in
    let w = rw e at c.in-Err-fill.ensures.err in
    (w.0, inr w.1)
