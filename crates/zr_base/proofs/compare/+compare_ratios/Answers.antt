use Rattle.std.proofs.Common.{◌≡◌, ◌%◌, ◌⊎◌, ◌∙◌, ap₂, arith, mul_comm, nat_cmp}
use Rattle.zr_base.proofs.Orders.{by_quotients, by_rests, by_zero}
use Rattle.zr_base.proofs.compare.+compare_ratios.Goals as goal

pub returns-then-left-right : goal.returns-then-left-right
returns-then-left-right t c =
    let a = c.args in
    c.cmp.ensures ∙ by_quotients a.a a.b a.c a.d c.requires.below_left c.requires.below_right c.if-left-right.true

pub returns-then-left_rest-eq0 : goal.returns-then-left_rest-eq0
returns-then-left_rest-eq0 t c =
    let a = c.args in
    let zero : (a.a % a.b ≡ 0) ⊎ (a.c % a.d ≡ 0) = grind arith in
    c.cmp-then-left_rest-eq0.ensures ∙ by_zero (a.a % a.b) a.b (a.c % a.d) a.d c.requires.below_left c.requires.below_right zero ∙ by_rests a.a a.b a.c a.d c.if-left-right.false

pub returns : goal.returns
returns t c =
    let a = c.args in
    c.compare_ratios.ensures ∙ ap₂ nat_cmp (mul_comm a.d (a.a % a.b)) (mul_comm a.b (a.c % a.d)) ∙ by_rests a.a a.b a.c a.d c.if-left-right.false
