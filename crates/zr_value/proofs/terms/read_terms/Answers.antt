use Rattle.std.proofs.Common.{◌≡◌, Ok, refl}
use Rattle.serde_json.specs.View.{view}
use Rattle.zr_value.specs.Terms.{terms_in}
use Rattle.zr_value.proofs.TermLaws.{numbers_are_right}
use Rattle.zr_value.proofs.terms.read_terms.Goals as goal

pub returns-clause-numbers : goal.returns-clause-numbers
returns-clause-numbers c =
    let ts = c.in_ok-without_zeros.field-0.items in
    let e : terms_in c.args.names.now (view c.args.value.now) ≡ Ok ts =
    rw (c.in_ok-items.ensures) (rw (c.in_ok-all.ensures) (rw (c.in_ok-without_zeros.ensures) refl)) in
    numbers_are_right c.args.names.now (view c.args.value.now) ts e
