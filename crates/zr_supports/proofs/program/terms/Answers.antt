use Rattle.std.proofs.Common.{rules, ◌≡◌, ◌+◌, arith, sym, subst, FitsSigned}
use Rattle.std.specs.Int.{w128}
use Rattle.std.proofs.lemmas.Int.{to_z-of_z}
use Rattle.zr_base.specs.Terms.{Ascends, Terms}
use Rattle.zr_system.proofs.RowTerms.{ascends_more}
use Rattle.zr_supports.proofs.program.terms.Goals as goal

pub loop-j-preserved : goal.loop-j-preserved
loop-j-preserved c =
    let j = c.loop-j.j in
    let z = c.narrow_at.result in
    let fits : FitsSigned w128 z = search rules in
    let made = simp to_z-of_z at c.in_ok-push_term.ensures in
    subst (λ (ts : Terms). Ascends 0 (j + 1) ts) (sym made)
    (ascends_more 0 j z c.loop-j.list.items (omega arith) c.narrow_at.ensures c.loop-j.invariant)
