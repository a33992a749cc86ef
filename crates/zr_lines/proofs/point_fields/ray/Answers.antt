use Rattle.std.proofs.Common.{rules, ◌≡◌, ◌≢◌, ◌+◌, ◌/◌, ◌∙◌, length, sym, subst, take, drop, true, false, FitsSigned, ℕ, ℤ, Option}
use Rattle.std.specs.Global.{Vec}
use Rattle.std.specs.Int.{w128}
use Rattle.std.specs.Prelude.{option_copied, option_map}
use Rattle.std.proofs.lemmas.Int.{to_z-of_z}
use Rattle.zr_base.specs.Points.{IsPoint}
use Rattle.zr_form.specs.Bounds.{is_narrow}
use Rattle.zr_form.specs.Code.{left_of}
use Rattle.zr_form.specs.Fields.{integers}
use Rattle.zr_lines.specs.Reader.{is_two_lists, ray_at, ray_with}
use Rattle.zr_lines.proofs.PointSteps.{base_made, failed_numbers, made_of, no_den, no_numbers, same_ray, second_half, two_none, two_odd, two_some}
use Rattle.zr_lines.proofs.point_fields.ray.Goals as goal

pub returns-in_default : goal.returns-in_default
unfolding ray_at
returns-in_default c =
    let fs = left_of (option_copied c.args.left) in
    no_den true ray_with is_two_lists fs fs c.in_default.ensures

pub returns-in_default-2 : goal.returns-in_default-2
unfolding ray_at
returns-in_default-2 c =
    let fs = left_of (option_copied c.args.left) in
    let gs = left_of (option_copied c.in-Some.rest) in
    let d : FitsSigned w128 c.in-Some.den = search rules in
    let m = subst (λ (o : Option (Vec ℤ)). option_map (λ v. v.items) o ≡ integers (is_narrow true) gs) c.in_default-2.is c.in_ok-nums.ensures in
    no_numbers true ray_with is_two_lists fs gs c.in-Some.den c.in-Some.ensures m

pub returns-then-half-eq0 : goal.returns-then-half-eq0
unfolding ray_at
returns-then-half-eq0 c =
    let fs = left_of (option_copied c.args.left) in
    let gs = left_of (option_copied c.in-Some.rest) in
    let d : FitsSigned w128 c.in-Some.den = search rules in
    let m = subst (λ (o : Option (Vec ℤ)). option_map (λ v. v.items) o ≡ integers (is_narrow true) gs) c.in-Some-2.is c.in_ok-nums.ensures in
    let none : length c.in-Some-2.nums.items / 2 ≡ 0 = search rules in
    failed_numbers true ray_with is_two_lists fs gs c.in-Some.den c.in-Some.ensures c.in-Some-2.nums.items m (two_none (length c.in-Some-2.nums.items) none)

pub returns-then-half-len : goal.returns-then-half-len
unfolding ray_at
returns-then-half-len c =
    let fs = left_of (option_copied c.args.left) in
    let gs = left_of (option_copied c.in-Some.rest) in
    let d : FitsSigned w128 c.in-Some.den = search rules in
    let m = subst (λ (o : Option (Vec ℤ)). option_map (λ v. v.items) o ≡ integers (is_narrow true) gs) c.in-Some-2.is c.in_ok-nums.ensures in
    let n : ℕ = length c.in-Some-2.nums.items in
    let odd : n / 2 + n / 2 ≢ n = search rules in
    failed_numbers true ray_with is_two_lists fs gs c.in-Some.den c.in-Some.ensures c.in-Some-2.nums.items m (two_odd n odd)

pub unreachable-requires : goal.unreachable-requires
unfolding ray_at
unreachable-requires c =
    let fs = left_of (option_copied c.args.left) in
    let gs = left_of (option_copied c.in-Some.rest) in
    let d : FitsSigned w128 c.in-Some.den = search rules in
    let m = subst (λ (o : Option (Vec ℤ)). option_map (λ v. v.items) o ≡ integers (is_narrow true) gs) c.in-Some-2.is c.in_ok-nums.ensures in
    let n : ℕ = length c.in-Some-2.nums.items in
    let some : n / 2 ≢ 0 = search rules in
    let even : n / 2 + n / 2 ≡ n = search rules in
    let e = made_of true ray_with is_two_lists fs gs c.in-Some.den c.in-Some.ensures c.in-Some-2.nums.items m (two_some n some even) in
    let first : c.truncate.new.self.items ≡ take (n / 2) c.in-Some-2.nums.items = search rules in
    let point : IsPoint c.truncate.new.self.items c.in-Some.den = rw first (base_made fs c.in-Some.den c.in-Some-2.nums.items e) in
    let t : false ≡ true = (simp to_z-of_z at c.in-Err.ensures.valid.1) point in
    absurd cc

pub returns : goal.returns
unfolding ray_at
returns c =
    let fs = left_of (option_copied c.args.left) in
    let gs = left_of (option_copied c.in-Some.rest) in
    let d : FitsSigned w128 c.in-Some.den = search rules in
    let m = subst (λ (o : Option (Vec ℤ)). option_map (λ v. v.items) o ≡ integers (is_narrow true) gs) c.in-Some-2.is c.in_ok-nums.ensures in
    let n : ℕ = length c.in-Some-2.nums.items in
    let some : n / 2 ≢ 0 = search rules in
    let even : n / 2 + n / 2 ≡ n = search rules in
    let e = made_of true ray_with is_two_lists fs gs c.in-Some.den c.in-Some.ensures c.in-Some-2.nums.items m (two_some n some even) in
    let first : c.truncate.new.self.items ≡ take (n / 2) c.in-Some-2.nums.items = search rules in
    let half : c.len-half.result / 2 ≡ n / 2 = search rules in
    let second : c.in_ok-dir.dir.items ≡ drop (n / 2) c.in-Some-2.nums.items =
    second_half c.in-Some-2.nums.items c.deref.result.now c.in_ok-dir.dir.items (c.len-half.result / 2) (n / 2) c.in_ok-dir.ensures.items c.deref.ensures.value half in
    let den : c.in-Ok.base.den ≡ c.in-Some.den = simp to_z-of_z at c.in-Ok.ensures.ok.1 in
    same_ray c.in-Some.den c.in-Some-2.nums.items c.truncate.new.self.items c.in_ok-dir.dir.items c.in-Ok.base c.in-Ok.ensures.ok.0 den first second ∙ sym e
