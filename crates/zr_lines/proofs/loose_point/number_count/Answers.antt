use Rattle.std.proofs.Common.{◌∙◌, ◌+◌, ap, sym, arith, length, false, List, ℤ, ℕ, Option, Some, Bor}
use Rattle.std.specs.Prelude.{option_copied, option_map}
use Rattle.zr_form.specs.Bounds.{is_narrow}
use Rattle.zr_form.specs.Code.{left_of}
use Rattle.zr_form.specs.Fields.{integers}
use Rattle.zr_form.specs.Lines.{fields_of}
use Rattle.zr_form.specs.Reading.{Bytes}
use Rattle.zr_lines.proofs.LooseSteps.{integer_found, integer_missing}
use Rattle.zr_lines.proofs.PointSteps.{count_begins, count_ends, count_on, count_shorter, count_stops}
use Rattle.zr_lines.proofs.loose_point.number_count.Goals as goal

abbrev fields : Option (Bor Bytes) → List Bytes
fields left = left_of (option_copied left)

abbrev counted : ℕ → Option (Bor Bytes) → Option ℕ
counted k left = option_map (λ (ns : List ℤ). k + length ns) (integers (is_narrow false) (fields left))

pub loop-rest-init : goal.loop-rest-init
loop-rest-init c = record { room = omega arith; so_far = count_begins (integers (is_narrow false) (fields c.args.left)) }

pub returns-in_default-any_integer : goal.returns-in_default-any_integer
returns-in_default-any_integer c =
    let e = integer_missing (Some c.in-Some.line) c.in_default-any_integer.ensures in
    sym (ap (counted c.loop-rest.count) c.in-Some.is ∙ ap (option_map (λ (ns : List ℤ). c.loop-rest.count + length ns)) (count_stops c.in-Some.line.now (fields_of c.in-Some.line.now) e)) ∙ c.loop-rest.invariant.so_far

pub loop-rest-smaller : goal.loop-rest-smaller
loop-rest-smaller c =
    let n = integer_found (Some c.in-Some.line) c.in-Some-any_integer.field-0-0 c.in-Some-any_integer.after c.in-Some-any_integer.ensures in
    omega (arith, count_shorter (fields_of c.in-Some.line.now) (fields c.in-Some-any_integer.after) n.0 n.1, ap (λ (o : Option (Bor Bytes)). length (fields o)) c.in-Some.is)

pub overflow_add-count : goal.overflow_add-count
overflow_add-count c =
    let n = integer_found (Some c.in-Some.line) c.in-Some-any_integer.field-0-0 c.in-Some-any_integer.after c.in-Some-any_integer.ensures in
    omega (arith, count_shorter (fields_of c.in-Some.line.now) (fields c.in-Some-any_integer.after) n.0 n.1, ap (λ (o : Option (Bor Bytes)). length (fields o)) c.in-Some.is, c.loop-rest.invariant.room, c.requires)

pub loop-rest-preserved : goal.loop-rest-preserved
loop-rest-preserved c =
    let n = integer_found (Some c.in-Some.line) c.in-Some-any_integer.field-0-0 c.in-Some-any_integer.after c.in-Some-any_integer.ensures in
    record {
      room = omega (arith, count_shorter (fields_of c.in-Some.line.now) (fields c.in-Some-any_integer.after) n.0 n.1, ap (λ (o : Option (Bor Bytes)). length (fields o)) c.in-Some.is, c.loop-rest.invariant.room);
      so_far = sym (ap (counted c.loop-rest.count) c.in-Some.is ∙ count_on (fields_of c.in-Some.line.now) (fields c.in-Some-any_integer.after) n.0 c.loop-rest.count n.1) ∙ c.loop-rest.invariant.so_far;
    }

pub returns : goal.returns
unfolding integers
returns c = sym (ap Some (count_ends c.loop-rest.count)) ∙ ap (counted c.loop-rest.count) (sym c.in_default.is) ∙ c.loop-rest.invariant.so_far
