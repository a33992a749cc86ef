use Rattle.std.proofs.Common.{arith, ◌<◌, ◌^◌}
use Rattle.zr_cert.proofs.form.is_verdict.Goals as goal

pub returns-in-NoneEmpty : goal.returns-in-NoneEmpty
returns-in-NoneEmpty c =
    let told = rw c.deref-in-NoneEmpty.ensures.value at c.are_empty_nodes.ensures in
    let fits : c.in-NoneEmpty.player < 2 ^ 32 = omega arith in
    rw c.in-NoneEmpty.is (λ h. (fits, record { whole = c.in-NoneEmpty.tree.whole; each = told.0 h }), λ h. told.1 h.1.each)
