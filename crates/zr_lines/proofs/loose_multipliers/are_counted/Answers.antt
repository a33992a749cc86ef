use Rattle.std.proofs.Common.{◌≡◌, ◌==◌, ℕ, ◌<◌, arith, false, true, length, List, [], Some, None, Option, Bor, ap, sym, ◌∙◌}
use Rattle.std.specs.Prelude.{option_copied, nat_le}
use Rattle.zr_form.specs.Code.{left_of}
use Rattle.zr_form.specs.Fields.{and_more}
use Rattle.zr_form.specs.Lines.{fields_of}
use Rattle.zr_form.specs.Numbers.{natural}
use Rattle.zr_form.specs.Reading.{Bytes}
use Rattle.zr_lines.specs.Reader.{multipliers}
use Rattle.zr_lines.proofs.LooseSteps.{index_found, index_missing, narrow_above, narrow_same, pair_taken, pairs_begin, pairs_counted, pairs_fall, pairs_few, pairs_on, pairs_stop, positive_missing}
use Rattle.zr_lines.proofs.NodeSteps.{pair_no_by, pair_no_slot}
use Rattle.zr_lines.proofs.loose_multipliers.are_counted.Goals as goal

abbrev fields : Option (Bor Bytes) → List Bytes
fields left = left_of (option_copied left)

pub loop-rest-init : goal.loop-rest-init
loop-rest-init c = pairs_begin (multipliers false (fields c.args.left)) (length (fields c.args.left))

pub returns-in_default-any_natural : goal.returns-in_default-any_natural
returns-in_default-any_natural c =
    let line = c.in-Some.line.now in
    let e = index_missing (Some c.in-Some.line) c.in_default-any_natural.ensures in
    let none : multipliers false (fields c.loop-rest.rest) ≡ None = ap (λ (o : Option (Bor Bytes)). multipliers false (fields o)) c.in-Some.is ∙ pair_no_slot false line (fields_of line) e in
    λ n counted. pairs_stop (fields c.args.left) (multipliers false (fields c.loop-rest.rest)) c.loop-rest.pairs c.loop-rest.last (length (fields c.loop-rest.rest)) (length (fields c.args.left)) c.loop-rest.invariant none n

pub returns-in_default-any_positive : goal.returns-in_default-any_positive
returns-in_default-any_positive c =
    let line = c.in-Some.line.now in
    let slot = index_found (Some c.in-Some.line) c.in-Some-any_natural.slot c.in-Some-any_natural.after c.in-Some-any_natural.ensures in
    let by = positive_missing c.in-Some-any_natural.after c.in_default-any_positive.ensures in
    let gs = fields c.in-Some-any_natural.after in
    let none : multipliers false (fields c.loop-rest.rest) ≡ None = ap (λ (o : Option (Bor Bytes)). multipliers false (fields o)) c.in-Some.is ∙ pair_no_by false (fields_of line) gs gs slot.0 slot.2 by in
    λ n counted. pairs_stop (fields c.args.left) (multipliers false (fields c.loop-rest.rest)) c.loop-rest.pairs c.loop-rest.last (length (fields c.loop-rest.rest)) (length (fields c.args.left)) c.loop-rest.invariant none n

pub returns-then-not-is_above : goal.returns-then-not-is_above
returns-then-not-is_above c =
    let p = pair_taken c.in-Some.line c.in-Some-any_natural.slot c.in-Some-any_positive.field-0-0 c.in-Some-any_natural.after c.in-Some-any_positive.after c.in-Some-any_natural.ensures c.in-Some-any_positive.ensures in
    let inv = c.loop-rest.invariant in
    let low : nat_le inv.least p.pair.0 ≡ false = sym (c.is_above.ensures inv.least p.pair.0 inv.floor p.spelled) ∙ c.if-not-is_above.true in
    let later = multipliers false (fields c.in-Some-any_positive.after) in
    let e : multipliers false (fields c.loop-rest.rest) ≡ and_more (Some p.pair) later = ap (λ (o : Option (Bor Bytes)). multipliers false (fields o)) c.in-Some.is ∙ p.read in
    λ n counted. pairs_fall (fields c.args.left) (multipliers false (fields c.loop-rest.rest)) c.loop-rest.pairs c.loop-rest.last (length (fields c.loop-rest.rest)) (length (fields c.args.left)) inv p.pair later low e n

pub overflow_add-pairs : goal.overflow_add-pairs
overflow_add-pairs c =
    let p = pair_taken c.in-Some.line c.in-Some-any_natural.slot c.in-Some-any_positive.field-0-0 c.in-Some-any_natural.after c.in-Some-any_positive.after c.in-Some-any_natural.ensures c.in-Some-any_positive.ensures in
    let l : length (fields c.loop-rest.rest) ≡ length (fields_of c.in-Some.line.now) = ap (λ (o : Option (Bor Bytes)). length (fields o)) c.in-Some.is in
    let r = c.loop-rest.invariant.room in
    let s = p.shorter in
    record { fits = omega (arith, r, l, s, c.requires) }

pub loop-rest-smaller : goal.loop-rest-smaller
loop-rest-smaller c =
    let p = pair_taken c.in-Some.line c.in-Some-any_natural.slot c.in-Some-any_positive.field-0-0 c.in-Some-any_natural.after c.in-Some-any_positive.after c.in-Some-any_natural.ensures c.in-Some-any_positive.ensures in
    let l : length (fields c.loop-rest.rest) ≡ length (fields_of c.in-Some.line.now) = ap (λ (o : Option (Bor Bytes)). length (fields o)) c.in-Some.is in
    let s = p.shorter in
    omega (arith, l, s)

pub loop-rest-preserved : goal.loop-rest-preserved
loop-rest-preserved c =
    let p = pair_taken c.in-Some.line c.in-Some-any_natural.slot c.in-Some-any_positive.field-0-0 c.in-Some-any_natural.after c.in-Some-any_positive.after c.in-Some-any_natural.ensures c.in-Some-any_positive.ensures in
    let inv = c.loop-rest.invariant in
    let high : nat_le inv.least p.pair.0 ≡ true = sym (c.is_above.ensures inv.least p.pair.0 inv.floor p.spelled) ∙ c.if-not-is_above.false in
    let later = multipliers false (fields c.in-Some-any_positive.after) in
    let e : multipliers false (fields c.loop-rest.rest) ≡ and_more (Some p.pair) later = ap (λ (o : Option (Bor Bytes)). multipliers false (fields o)) c.in-Some.is ∙ p.read in
    let l : length (fields c.loop-rest.rest) ≡ length (fields_of c.in-Some.line.now) = ap (λ (o : Option (Bor Bytes)). length (fields o)) c.in-Some.is in
    let s = p.shorter in
    let few : length (fields c.in-Some-any_positive.after) < length (fields c.loop-rest.rest) = omega (arith, l, s) in
    pairs_on (fields c.args.left) (multipliers false (fields c.loop-rest.rest)) c.loop-rest.pairs c.loop-rest.last (length (fields c.loop-rest.rest)) (length (fields c.args.left)) inv p.pair c.in-Some-any_natural.slot later (length (fields c.in-Some-any_positive.after)) p.spelled high e few

pub returns-in-None : goal.returns-in-None
unfolding multipliers
returns-in-None c =
    let e : multipliers false (fields c.loop-rest.rest) ≡ Some [] = ap (λ (o : Option (Bor Bytes)). multipliers false (fields o)) c.in_default.is in
    λ n counted.
    let high = narrow_above (natural c.args.count.now) n c.in-None.ensures counted in
    let fits = c.loop-rest.auto.pairs-fits.fits in
    let few : c.loop-rest.pairs < n = omega (arith, high, fits) in
    pairs_few (fields c.args.left) (multipliers false (fields c.loop-rest.rest)) c.loop-rest.pairs c.loop-rest.last (length (fields c.loop-rest.rest)) (length (fields c.args.left)) c.loop-rest.invariant e n few

pub returns-in-Some-natural : goal.returns-in-Some-natural
unfolding multipliers
returns-in-Some-natural c =
    let e : multipliers false (fields c.loop-rest.rest) ≡ Some [] = ap (λ (o : Option (Bor Bytes)). multipliers false (fields o)) c.in_default.is in
    λ n counted.
    let same = narrow_same (natural c.args.count.now) c.in-Some-natural.n n c.in-Some-natural.ensures counted in
    pairs_counted (fields c.args.left) (multipliers false (fields c.loop-rest.rest)) c.loop-rest.pairs c.loop-rest.last (length (fields c.loop-rest.rest)) (length (fields c.args.left)) c.loop-rest.invariant e n (c.in-Some-natural.n == c.loop-rest.pairs) (ap (λ (z : ℕ). z == c.loop-rest.pairs) same)
