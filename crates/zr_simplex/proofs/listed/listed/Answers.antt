use Rattle.std.proofs.Common.{rules, ◌≡◌, ◌≢◌, ◌+◌, ℕ, ℤ, pos, ◌≤ℤ◌, arith, sym, ap, ◌∙◌, FitsSigned, of_z}
use Rattle.std.proofs.lemmas.Int.{ints, to_z-of_z}
use Rattle.std.specs.Int.{w128}
use Rattle.zr_base.specs.Steps.{IsNarrow}
use Rattle.zr_simplex.specs.Answers.{signed}
use Rattle.zr_simplex.specs.Tableaus.{form_of}
use Rattle.zr_simplex.proofs.Lists.{ascends_more, ascends_push, numbers_push, numbers_skip}
use Rattle.zr_simplex.proofs.Bits.{bits_are}
use Rattle.zr_simplex.proofs.listed.listed.Goals as goal
use Rattle.zr_simplex.proofs.listed.listed.Goals.{then-value-ne0+in_ok-push, else-value-ne0, After-with_sign-value}

value : (c : After-with_sign-value) → c.with_sign-value.result ≡ signed c.args.negated (form_of c.args.tableau.now c.args.row (c.args.from + c.loop-k.k))
value c =
    let n : FitsSigned w128 c.number.result = search rules in
    rw c.number.ensures.value at (simp to_z-of_z at c.with_sign-value.ensures.value)

pub loop-k-preserved : goal.loop-k-preserved
loop-k-preserved c =
    let at = goal.at.loop-k-preserved c in
    let v = value at.After-with_sign-value in
    let inv = c.loop-k.invariant in
    let k = c.loop-k.k in
    let xs = c.loop-k.list.items in
    let f : ℕ → ℤ = λ j. signed c.args.negated (form_of c.args.tableau.now c.args.row (c.args.from + j)) in
    let fits : FitsSigned w128 c.with_sign-value.result = search rules in
    let x = c.with_sign-value.result in
    elim c.if-value-ne0.branch [
      | then-value-ne0+in_ok-push w ↦
          let apart : x ≢ pos 0 = λ e. w.if-value-ne0.true (ap (of_z w128) e) in
          let above = rw (← v) at (c.requires.sign k c.loop-k-test.true) in
          rw (w.list-is, w.in_ok-push.ensures.items) (simp to_z-of_z (record {
            ascends = ascends_push IsNarrow 0 k k (k + 1) xs x (omega arith) (omega arith) (omega arith) inv.ascends c.with_sign-value.ensures.narrow;
            multipliers = ascends_push (λ z. (pos 1) ≤ℤ z) 0 k k (k + 1) xs x (omega arith) (omega arith) (omega arith) inv.multipliers (omega (arith, ints, above, apart));
            numbers = numbers_push IsNarrow xs k f inv.ascends inv.numbers x (sym v);
          }))
      | else-value-ne0 w ↦
          let zero : x ≡ pos 0 = bits_are x 0 fits (omega arith) w.if-value-ne0.false in
          rw w.list-is (record {
            ascends = ascends_more IsNarrow 0 k (k + 1) xs (omega arith) inv.ascends;
            multipliers = ascends_more (λ z. (pos 1) ≤ℤ z) 0 k (k + 1) xs (omega arith) inv.multipliers;
            numbers = numbers_skip IsNarrow xs k f inv.ascends inv.numbers (sym v ∙ zero);
          })
    ]
