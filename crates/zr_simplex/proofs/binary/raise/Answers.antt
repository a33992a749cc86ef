use Rattle.std.proofs.Common.{rules, ◌≡◌, ◌+◌, ◌*◌, ◌^◌, arith, true, false, get_or, ap, ◌∙◌}
use Rattle.std.proofs.Math.Nat.{pow-succ'}
use Rattle.zr_simplex.proofs.Digits.{digit_cleared, digit_set}
use Rattle.zr_simplex.proofs.binary.raise.Goals as goal

pub returns-then-not-digits-i-clause-number : goal.returns-then-not-digits-i-clause-number
returns-then-not-digits-i-clause-number c =
    let xs = c.loop-i.digits in
    let i = c.loop-i.i in
    let digit : get_or xs i false ≡ false = search rules in
    digit_set xs i (omega (arith, c.loop-i-test.true, c.loop-i.auto.digits)) digit ∙ c.loop-i.invariant

pub loop-i-preserved : goal.loop-i-preserved
loop-i-preserved c =
    let xs = c.loop-i.digits in
    let i = c.loop-i.i in
    let digit : get_or xs i false ≡ true = search rules in
    let cleared = digit_cleared xs i (omega (arith, c.loop-i-test.true, c.loop-i.auto.digits)) digit in
    let power : 2 ^ (i + 1) ≡ 2 * 2 ^ i = ap (λ n. 2 ^ n) (omega arith) ∙ pow-succ' 2 i in
    let before = c.loop-i.invariant in
    omega (arith, cleared, power, before)
