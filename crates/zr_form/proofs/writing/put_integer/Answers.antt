use Rattle.std.proofs.Common.{rules, arith, ◌≡◌, sym, ◌∙◌, ap, ◌++◌, List, ℕ}
use Rattle.std.proofs.lemmas.Int.{ints}
use Rattle.std.specs.Fmt.{signed_decimal}
use Rattle.zr_form.proofs.Numbers.{same_signed}
use Rattle.zr_form.proofs.writing.put_integer.Goals as goal

pub returns : goal.returns
returns c =
    let t : c.as_bytes.result.now ≡ signed_decimal c.args.n = search rules in
    c.in_ok-extend_from_slice.ensures.items ∙ ap (λ (z : List ℕ). c.args.out.now.items ++ z) (t ∙ sym (same_signed c.args.n (omega (arith, ints))))
