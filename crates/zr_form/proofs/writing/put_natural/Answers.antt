use Rattle.std.proofs.Common.{rules, arith, ◌≡◌, sym, ◌∙◌, ap, ◌++◌, List, ℕ}
use Rattle.std.specs.Fmt.{decimal as std_decimal}
use Rattle.zr_form.proofs.Numbers.{same_decimal}
use Rattle.zr_form.proofs.writing.put_natural.Goals as goal

pub returns : goal.returns
returns c =
    let t : c.as_bytes.result.now ≡ std_decimal c.args.n = search rules in
    c.in_ok-extend_from_slice.ensures.items ∙ ap (λ (z : List ℕ). c.args.out.now.items ++ z) (t ∙ sym (same_decimal c.args.n (omega arith)))
