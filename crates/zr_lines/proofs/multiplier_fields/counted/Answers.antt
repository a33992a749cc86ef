use Rattle.std.proofs.Common.{rules, ◌≡◌, true, false, subst, Option, ℕ, ℤ}
use Rattle.std.specs.Prelude.{option_copied, option_map}
use Rattle.std.specs.Global.{Vec}
use Rattle.zr_form.specs.Code.{left_of}
use Rattle.zr_lines.specs.Fits.{ascend}
use Rattle.zr_lines.specs.Reader.{multipliers}
use Rattle.zr_lines.proofs.NodeSteps.{counted_falls, counted_not, counted_ok, counted_short}
use Rattle.zr_lines.proofs.multiplier_fields.counted.Goals.{else-len-count-via-then-len-count+else-ascends, else-len-count-via-else-len-count}
use Rattle.zr_lines.proofs.multiplier_fields.counted.Goals as goal

pub returns-in_default : goal.returns-in_default
returns-in_default c =
    let fs = left_of (option_copied c.args.left) in
    let m = subst (λ (o : Option (Vec (ℕ × ℤ))). option_map (λ v. v.items) o ≡ multipliers true fs) c.in_default.is c.in_ok-mult.ensures in
    counted_not true c.args.count fs m

pub returns-then-ascends : goal.returns-then-ascends
returns-then-ascends c =
    let fs = left_of (option_copied c.args.left) in
    let m = subst (λ (o : Option (Vec (ℕ × ℤ))). option_map (λ v. v.items) o ≡ multipliers true fs) c.in-Some.is c.in_ok-mult.ensures in
    counted_ok true c.args.count fs c.in-Some.mult.items m (search rules) (search rules)

pub returns-else-len-count : goal.returns-else-len-count
returns-else-len-count c =
    let fs = left_of (option_copied c.args.left) in
    let m = subst (λ (o : Option (Vec (ℕ × ℤ))). option_map (λ v. v.items) o ≡ multipliers true fs) c.in-Some.is c.in_ok-mult.ensures in
    elim c.else-len-count.branch [
      | else-len-count-via-then-len-count+else-ascends w ↦
          let a : ascend c.in-Some.mult.items ≡ false = search rules in
          counted_falls true c.args.count fs c.in-Some.mult.items m (search rules) a
      | else-len-count-via-else-len-count w ↦ counted_short true c.args.count fs c.in-Some.mult.items m (search rules)
    ]
