use Rattle.std.proofs.Common.{rules, ◌≡◌, ◌∙◌, ap, length, sym, subst, true, false, FitsSigned, ℤ, Option}
use Rattle.std.specs.Global.{Vec}
use Rattle.std.specs.Int.{w128}
use Rattle.std.specs.Prelude.{option_copied, option_map}
use Rattle.std.proofs.lemmas.Int.{to_z-of_z}
use Rattle.zr_form.specs.Bounds.{is_narrow}
use Rattle.zr_form.specs.Code.{left_of}
use Rattle.zr_form.specs.Fields.{integers}
use Rattle.zr_lines.specs.Reader.{is_some_count, point_at, point_with}
use Rattle.zr_lines.proofs.PointSteps.{failed_numbers, made_of, no_den, no_numbers, point_made, same_point}
use Rattle.zr_lines.proofs.point_fields.point.Goals as goal

pub returns-in_default : goal.returns-in_default
unfolding point_at
returns-in_default c =
    let fs = left_of (option_copied c.args.left) in
    no_den true point_with is_some_count fs fs c.in_default.ensures

pub returns-in_default-2 : goal.returns-in_default-2
unfolding point_at
returns-in_default-2 c =
    let fs = left_of (option_copied c.args.left) in
    let gs = left_of (option_copied c.in-Some.rest) in
    let d : FitsSigned w128 c.in-Some.den = search rules in
    let m = subst (λ (o : Option (Vec ℤ)). option_map (λ v. v.items) o ≡ integers (is_narrow true) gs) c.in_default-2.is c.in_ok-nums.ensures in
    no_numbers true point_with is_some_count fs gs c.in-Some.den c.in-Some.ensures m

pub returns-then-is_empty : goal.returns-then-is_empty
unfolding point_at
returns-then-is_empty c =
    let fs = left_of (option_copied c.args.left) in
    let gs = left_of (option_copied c.in-Some.rest) in
    let d : FitsSigned w128 c.in-Some.den = search rules in
    let m = subst (λ (o : Option (Vec ℤ)). option_map (λ v. v.items) o ≡ integers (is_narrow true) gs) c.in-Some-2.is c.in_ok-nums.ensures in
    let none : length c.in-Some-2.nums.items ≡ 0 = search rules in
    failed_numbers true point_with is_some_count fs gs c.in-Some.den c.in-Some.ensures c.in-Some-2.nums.items m (ap is_some_count none)

pub unreachable-requires : goal.unreachable-requires
unfolding point_at
unreachable-requires c =
    let fs = left_of (option_copied c.args.left) in
    let gs = left_of (option_copied c.in-Some.rest) in
    let d : FitsSigned w128 c.in-Some.den = search rules in
    let m = subst (λ (o : Option (Vec ℤ)). option_map (λ v. v.items) o ≡ integers (is_narrow true) gs) c.in-Some-2.is c.in_ok-nums.ensures in
    let some : is_some_count (length c.in-Some-2.nums.items) ≡ true = search rules in
    let e = made_of true point_with is_some_count fs gs c.in-Some.den c.in-Some.ensures c.in-Some-2.nums.items m some in
    let t : false ≡ true = (simp to_z-of_z at c.in-Err.ensures.valid.1) (point_made fs (point_with c.in-Some.den c.in-Some-2.nums.items) e) in
    absurd cc

pub returns : goal.returns
unfolding point_at
returns c =
    let fs = left_of (option_copied c.args.left) in
    let gs = left_of (option_copied c.in-Some.rest) in
    let d : FitsSigned w128 c.in-Some.den = search rules in
    let m = subst (λ (o : Option (Vec ℤ)). option_map (λ v. v.items) o ≡ integers (is_narrow true) gs) c.in-Some-2.is c.in_ok-nums.ensures in
    let some : is_some_count (length c.in-Some-2.nums.items) ≡ true = search rules in
    let e = made_of true point_with is_some_count fs gs c.in-Some.den c.in-Some.ensures c.in-Some-2.nums.items m some in
    let den : c.in-Ok.point.den ≡ c.in-Some.den = simp to_z-of_z at c.in-Ok.ensures.ok.1 in
    same_point c.in-Some.den c.in-Some-2.nums.items c.in-Ok.point c.in-Ok.ensures.ok.0 den ∙ sym e
