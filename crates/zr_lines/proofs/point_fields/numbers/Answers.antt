use Rattle.std.proofs.Common.{rules, ◌≡◌, ◌∷◌, ◌++◌, [], ap, arith, length, sym, true, ◌∙◌, FitsSigned, List, ℤ, Option, Bor}
use Rattle.std.specs.Int.{w128}
use Rattle.std.specs.Prelude.{option_copied}
use Rattle.std.proofs.lemmas.Int.{to_z-of_z}
use Rattle.zr_form.specs.Bounds.{is_narrow}
use Rattle.zr_form.specs.Code.{left_of}
use Rattle.zr_form.specs.Fields.{integers}
use Rattle.zr_form.specs.Reading.{Bytes}
use Rattle.zr_form.proofs.Parsing.{fields_first}
use Rattle.zr_lines.proofs.PointSteps.{numbers_next, numbers_stop}
use Rattle.zr_lines.proofs.NodeSteps.{list_begins, list_ends, list_on, list_stops}
use Rattle.zr_lines.proofs.point_fields.numbers.Goals as goal

abbrev fields : Option (Bor Bytes) → List Bytes
fields left = left_of (option_copied left)

abbrev whole : Option (Bor Bytes) → Option (List ℤ)
whole left = integers (is_narrow true) (fields left)

pub loop-rest-init : goal.loop-rest-init
loop-rest-init c = list_begins c.new-nums.result.items (whole c.args.left) c.new-nums.ensures.items

pub returns-in_default-number : goal.returns-in_default-number
returns-in_default-number c =
    let f = c.next_field.result.0.now in
    let gs = fields c.next_field.result.1 in
    let cut = ap fields c.in-Some.is ∙ fields_first c.in-Some.line.now f c.next_field.result.1 c.next_field.ensures.before c.next_field.ensures.after in
    let none = numbers_stop true (fields c.loop-rest.rest) gs f cut (sym c.in_default-number.ensures) in
    list_stops c.loop-rest.nums.items (whole c.loop-rest.rest) (whole c.args.left) none c.loop-rest.invariant

pub loop-rest-smaller : goal.loop-rest-smaller
loop-rest-smaller c =
    let f = c.next_field.result.0.now in
    let cut = ap fields c.in-Some.is ∙ fields_first c.in-Some.line.now f c.next_field.result.1 c.next_field.ensures.before c.next_field.ensures.after in
    omega (arith, ap length cut)

pub loop-rest-preserved : goal.loop-rest-preserved
loop-rest-preserved c =
    let f = c.next_field.result.0.now in
    let gs = fields c.next_field.result.1 in
    let cut = ap fields c.in-Some.is ∙ fields_first c.in-Some.line.now f c.next_field.result.1 c.next_field.ensures.before c.next_field.ensures.after in
    let next = numbers_next true (fields c.loop-rest.rest) gs f c.in-Some-number.n cut (sym c.in-Some-number.ensures) in
    let fits : FitsSigned w128 c.in-Some-number.n = search rules in
    let pushed : c.push.new.self.items ≡ c.loop-rest.nums.items ++ c.in-Some-number.n ∷ [] = simp to_z-of_z at c.in_ok-push.ensures.items in
    rw pushed (list_on c.loop-rest.nums.items c.in-Some-number.n (whole c.loop-rest.rest) (integers (is_narrow true) gs) (whole c.args.left) next c.loop-rest.invariant)

pub returns : goal.returns
unfolding integers
returns c =
    list_ends c.loop-rest.nums.items (whole c.loop-rest.rest) (whole c.args.left) (ap whole c.in_default.is) c.loop-rest.invariant
