-- The fields of points and rays are forms.
use Rattle.std.proofs.Common.{◌≡◌, ℕ, ◌+◌, ◌/◌, ◌%◌, ◌<◌, ◌==◌, Bool, true, List, [], ◌∷◌, ◌++◌, map, length, take, drop, sym, refl, ap, ap₂, ◌∙◌, subst, arith, ℤ}
use Rattle.std.specs.Prelude.{nat_lt}
use Rattle.std.specs.List.{AllByRecursion}
use Rattle.std.proofs.lemmas.Bool.{eq-eqb, eqb-true, lt-ltb, ltb-true}
use Rattle.std.proofs.Math.Seq.{drop-append_seam, take-append_seam}
use Rattle.std.proofs.lemmas.List.{length-append, length-take-le, map-append, take-append-drop}
use Rattle.zr_base.specs.Points.{PointOf}
use Rattle.zr_game.specs.Named.{NamedOf, NamedPoint, NamedRay}
use Rattle.zr_form.specs.Bounds.{Passes, is_narrow, is_positive}
use Rattle.zr_form.specs.Fields.{integer_read, integers}
use Rattle.zr_form.specs.Numbers.{signed}
use Rattle.zr_form.specs.Reading.{Bytes}
use Rattle.zr_form.proofs.Fields.{integer_exact, integers_whole, join_whole_form, only_whole}
use Rattle.zr_form.proofs.Lines.{IsWhole}
use Rattle.zr_form.proofs.Words.{both_true}
use Rattle.zr_lines.specs.Fits.{FitsPoint, FitsRay}
use Rattle.zr_lines.specs.Reader.{is_some_count, is_two_lists, numbers_at, point_at, point_with, ray_at, ray_with}
use Rattle.zr_lines.specs.Spelling.{point_fields}
use Rattle.zr_lines.proofs.Limits.{both}

abbrev FitsNumbers : Bool → (ℕ → Bool) → List ℤ → Type 0
FitsNumbers strict test nums = AllByRecursion (Passes (is_narrow strict)) nums × (test (length nums) ≡ true)

numbers_whole : (strict : Bool) (test : ℕ → Bool) → IsWhole (FitsNumbers strict test) (map signed) (numbers_at strict test)
unfolding numbers_at
numbers_whole strict test =
    only_whole (λ nums. test (length nums)) (AllByRecursion (Passes (is_narrow strict))) (map signed) (integers (is_narrow strict)) (integers_whole (is_narrow strict))

pub point_whole : (strict : Bool) → IsWhole (FitsPoint strict) point_fields (point_at strict)
unfolding point_at
point_whole strict =
    join_whole_form {X = ℤ} {Y = List ℤ} {Z = PointOf} point_with (Passes (is_positive strict)) (λ den. signed den ∷ []) (integer_read (is_positive strict))
    (λ den. FitsNumbers strict is_some_count) (λ den. map signed) (λ den. numbers_at strict is_some_count) (FitsPoint strict) point_fields
    (integer_exact (is_positive strict)) (λ den f. numbers_whole strict is_some_count)
    (λ den nums f g. (record { den = f; some = ltb-true 0 (length nums) g.1; nums = g.0 }, refl))
    (λ x f. (x.den, x.num, f.den, (f.nums, lt-ltb 0 (length x.num) f.some), refl, refl))

-- ---- rays

abbrev pub FitsRayOf : Bool → NamedOf → Type 0
FitsRayOf strict (NamedPoint x) = ⊥
FitsRayOf strict (NamedRay base dir) = FitsRay strict base dir

abbrev pub ray_fields : NamedOf → List Bytes
ray_fields (NamedPoint x) = point_fields x
ray_fields (NamedRay base dir) = point_fields base ++ map signed dir

pub both_halves : (n : ℕ) → is_two_lists n ≡ true → (n / 2 + n / 2 ≡ n) × (0 < n / 2)
both_halves n e =
    let h = both_true (nat_lt 0 n) (n % 2 == 0) e in
    let some : 0 < n = ltb-true 0 n h.0 in
    let even : n % 2 ≡ 0 = eqb-true (n % 2) 0 h.1 in
    (omega arith, omega arith)

pub twice : (n : ℕ) → 0 < n → is_two_lists (n + n) ≡ true
twice n some =
    let even : (n + n) % 2 ≡ 0 = omega arith in
    both (nat_lt 0 (n + n)) ((n + n) % 2 == 0) (lt-ltb 0 (n + n) (omega arith)) (eq-eqb ((n + n) % 2) 0 even)

half_of : (n : ℕ) → (n + n) / 2 ≡ n
half_of n = omega arith

all_parts : {X : Type 0} (P : X → Type 0) (xs ys : List X) → AllByRecursion P (xs ++ ys) → AllByRecursion P xs × AllByRecursion P ys
all_parts P [] ys f = (tt, f)
all_parts P (x ∷ xs) ys f = let h = all_parts P xs ys f.1 in ((f.0, h.0), h.1)

all_joined : {X : Type 0} (P : X → Type 0) (xs ys : List X) → AllByRecursion P xs → AllByRecursion P ys → AllByRecursion P (xs ++ ys)
all_joined P [] ys f g = g
all_joined P (x ∷ xs) ys f g = (f.0, all_joined P xs ys f.1 g)

-- numbers cut in two are a base's and a direction's
module _ (strict : Bool) (den : ℤ) (nums : List ℤ) (f : Passes (is_positive strict) den) (g : FitsNumbers strict is_two_lists nums) where
  abbrev first : List ℤ
  first = take (length nums / 2) nums

  abbrev second : List ℤ
  second = drop (length nums / 2) nums

  parts : first ++ second ≡ nums
  parts = take-append-drop (length nums / 2) nums

  half : (length nums / 2 + length nums / 2 ≡ length nums) × (0 < length nums / 2)
  half = both_halves (length nums) g.1

  first_length : length first ≡ length nums / 2
  first_length = length-take-le (length nums / 2) nums (let h = half in omega (arith, h.0))

  second_length : length second ≡ length nums / 2
  second_length = let h = half in omega (arith, h.0, first_length, length-append first second, ap length parts)

  ray_made : FitsRayOf strict (ray_with den nums) × (ray_fields (ray_with den nums) ≡ (signed den ∷ []) ++ map signed nums)
  ray_made =
      let each = all_parts (Passes (is_narrow strict)) first second (subst (AllByRecursion (Passes (is_narrow strict))) (sym parts) g.0) in
      let h = half in (
        record { point = record { den = f; some = omega (arith, h.1, first_length); nums = each.0 }; len = second_length ∙ sym first_length; nums = each.1 },
        ap (λ (z : List Bytes). signed den ∷ z) (sym (map-append signed first second) ∙ ap (map signed) parts),
      )

ray_with_halves : (den : ℤ) (a b : List ℤ) → length b ≡ length a → ray_with den (a ++ b) ≡ NamedRay (point_with den a) b
ray_with_halves den a b same =
    let n : length (a ++ b) / 2 ≡ length a = ap (λ (k : ℕ). k / 2) (length-append a b ∙ ap (λ (k : ℕ). length a + k) same) ∙ half_of (length a) in
    ap (λ (k : ℕ). NamedRay (point_with den (take k (a ++ b))) (drop k (a ++ b))) n ∙ ap₂ (λ (x y : List ℤ). NamedRay (point_with den x) y) (take-append_seam a b) (drop-append_seam a b)

ray_parts : (strict : Bool) (item : NamedOf) → FitsRayOf strict item
    → (den : ℤ) × (nums : List ℤ) × Passes (is_positive strict) den × FitsNumbers strict is_two_lists nums × (ray_with den nums ≡ item) × (ray_fields item ≡ (signed den ∷ []) ++ map signed nums)
ray_parts strict (NamedPoint x) f = absurd f
ray_parts strict (NamedRay base dir) f =
    let two : is_two_lists (length (base.num ++ dir)) ≡ true = ap is_two_lists (length-append base.num dir ∙ ap (λ (k : ℕ). length base.num + k) f.len) ∙ twice (length base.num) f.point.some in (
      base.den,
      base.num ++ dir,
      f.point.den,
      (all_joined (Passes (is_narrow strict)) base.num dir f.point.nums f.nums, two),
      ray_with_halves base.den base.num dir f.len,
      ap (λ (z : List Bytes). signed base.den ∷ z) (sym (map-append signed base.num dir)),
    )

pub ray_whole : (strict : Bool) → IsWhole (FitsRayOf strict) ray_fields (ray_at strict)
unfolding ray_at
ray_whole strict =
    join_whole_form {X = ℤ} {Y = List ℤ} {Z = NamedOf} ray_with (Passes (is_positive strict)) (λ den. signed den ∷ []) (integer_read (is_positive strict))
    (λ den. FitsNumbers strict is_two_lists) (λ den. map signed) (λ den. numbers_at strict is_two_lists) (FitsRayOf strict) ray_fields
    (integer_exact (is_positive strict)) (λ den f. numbers_whole strict is_two_lists)
    (ray_made strict) (ray_parts strict)
