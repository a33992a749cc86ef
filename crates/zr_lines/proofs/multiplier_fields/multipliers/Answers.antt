use Rattle.std.proofs.Common.{◌≡◌, arith, ap, length, true, Option, Bor}
use Rattle.std.specs.Prelude.{option_copied}
use Rattle.zr_form.specs.Code.{left_of}
use Rattle.zr_form.specs.Lines.{fields_of}
use Rattle.zr_form.specs.Reading.{Bytes}
use Rattle.zr_lines.specs.Reader.{multipliers}
use Rattle.zr_lines.proofs.NodeSteps.{list_ends}
use Rattle.zr_lines.proofs.multiplier_fields.multipliers.Goals as goal

pub loop-rest-smaller : goal.loop-rest-smaller
loop-rest-smaller c =
    let e : length (left_of (option_copied c.loop-rest.rest)) ≡ length (fields_of c.in-Some.line.now) = ap (λ (o : Option (Bor Bytes)). length (left_of (option_copied o))) c.in-Some.is in
    omega (arith, c.in-Some-multiplier.ensures.shorter, e)

pub returns : goal.returns
unfolding multipliers
returns c =
    let left = left_of (option_copied c.args.left) in
    let rest = left_of (option_copied c.loop-rest.rest) in
    list_ends c.loop-rest.mult.items (multipliers true rest) (multipliers true left) (ap (λ (o : Option (Bor Bytes)). multipliers true (left_of (option_copied o))) c.in_default.is) c.loop-rest.invariant
