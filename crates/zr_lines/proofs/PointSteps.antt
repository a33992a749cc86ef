-- Steps of the code that reads points and rays.
use Rattle.std.proofs.Common.{◌≡◌, ◌≢◌, ℕ, suc, ◌+◌, ◌-◌, ◌/◌, ◌<◌, ℤ, Bool, true, false, List, ◌∷◌, length, length-drop, take, drop, Option, Some, None, Ok, Err, sym, refl, ap, ap₂, ◌∙◌, arith}
use Rattle.std.specs.Prelude.{option_map, is_some}
use Rattle.std.proofs.lemmas.List.{take_all}
use Rattle.zr_base.specs.Points.{IsPoint, PointOf}
use Rattle.zr_game.specs.Named.{NamedRay}
use Rattle.zr_form.specs.Bounds.{is_narrow, is_positive}
use Rattle.zr_form.specs.Code.{left_of}
use Rattle.zr_form.specs.Fields.{and_more, integer_read, integers, join_whole, only_if}
use Rattle.zr_form.specs.Lines.{fields_of, split_once}
use Rattle.zr_form.specs.Numbers.{integer}
use Rattle.zr_form.specs.Reading.{Bytes}
use Rattle.zr_form.proofs.Lines.{first_field}
use Rattle.zr_lines.specs.Reader.{is_two_lists, numbers_at, point_at, point_with, ray_at, ray_with}
use Rattle.zr_lines.proofs.Kept.{point_told}
use Rattle.zr_lines.proofs.Points.{both_halves, point_whole, ray_whole, twice}
use Rattle.zr_lines.proofs.OtherTests.{integer_front, integer_missing}

-- ---- numbers to the end

pub numbers_next : (strict : Bool) (fs gs : List Bytes) (f : Bytes) (n : ℤ) → fs ≡ f ∷ gs → only_if (is_narrow strict) (integer f) ≡ Some n → integers (is_narrow strict) fs ≡ and_more (Some n) (integers (is_narrow strict) gs)
unfolding integers
numbers_next strict fs gs f n e h = ap (integers (is_narrow strict)) e ∙ rw h refl

pub numbers_stop : (strict : Bool) (fs gs : List Bytes) (f : Bytes) → fs ≡ f ∷ gs → only_if (is_narrow strict) (integer f) ≡ None → integers (is_narrow strict) fs ≡ None
unfolding integers
numbers_stop strict fs gs f e h = ap (integers (is_narrow strict)) e ∙ rw h refl

-- ---- a denominator, and numbers that pass a test

-- which numbers are asked for, and what they make
abbrev pub den_then : {X : Type 0} → Bool → (ℤ → List ℤ → X) → (ℕ → Bool) → List Bytes → Option X
den_then strict make test = join_whole make (integer_read (is_positive strict)) (λ den. numbers_at strict test)

module _ {X : Type 0} (strict : Bool) (make : ℤ → List ℤ → X) (test : ℕ → Bool) (fs gs : List Bytes) where
  pub no_den : integer_read (is_positive strict) fs ≡ Err gs → None ≡ den_then strict make test fs
  no_den e = rw e refl

  module _ (den : ℤ) (read : integer_read (is_positive strict) fs ≡ Ok (den, gs)) where
    pub no_numbers : None ≡ integers (is_narrow strict) gs → None ≡ den_then strict make test fs
    unfolding numbers_at
    no_numbers e = rw (read, sym e) refl

    pub failed_numbers : (nums : List ℤ) → Some nums ≡ integers (is_narrow strict) gs → test (length nums) ≡ false → None ≡ den_then strict make test fs
    unfolding numbers_at
    failed_numbers nums e t = rw (read, sym e, t) refl

    pub made_of : (nums : List ℤ) → Some nums ≡ integers (is_narrow strict) gs → test (length nums) ≡ true → den_then strict make test fs ≡ Some (make den nums)
    unfolding numbers_at
    made_of nums e t = rw (read, sym e, t) refl

    -- whether a line without upper bounds is in the form, by the number of its numbers
    pub by_count : (o : Option (List ℤ)) → integers (is_narrow strict) gs ≡ o → (n : ℕ) → Some n ≡ option_map length o → is_some (den_then strict make test fs) ≡ test n
    unfolding numbers_at
    by_count None e n c = absurd cc
    by_count (Some nums) e n c = counted (test (length nums)) refl
      where
        same : n ≡ length nums
        same = cc

        counted : (b : Bool) → test (length nums) ≡ b → is_some (den_then strict make test fs) ≡ test n
        counted true t = rw (read, e, t, same) (sym t)
        counted false t = rw (read, e, t, same) (sym t)

    pub no_count : (o : Option (List ℤ)) → integers (is_narrow strict) gs ≡ o → None ≡ option_map length o → false ≡ is_some (den_then strict make test fs)
    unfolding numbers_at
    no_count None e c = rw (read, e) refl
    no_count (Some nums) e c = absurd cc

-- ---- points

-- the numbers that were read make a point
pub point_made : (fs : List Bytes) (x : PointOf) → point_at true fs ≡ Some x → IsPoint x.num x.den
point_made fs x e = (point_told x ((point_whole true).sound fs x e).0).1

pub same_point : (den : ℤ) (nums : List ℤ) (x : PointOf) → x.num ≡ nums → x.den ≡ den → Some x ≡ Some (point_with den nums)
same_point den nums x e f = ap₂ (λ (n : List ℤ) (d : ℤ). Some (point_with d n)) e f

-- ---- rays

two_not : (n : ℕ) → (is_two_lists n ≡ true → ⊥) → is_two_lists n ≡ false
two_not n never = which (is_two_lists n) refl
  where
    which : (b : Bool) → is_two_lists n ≡ b → b ≡ false
    which true e = absurd (never e)
    which false e = refl

pub two_none : (n : ℕ) → n / 2 ≡ 0 → is_two_lists n ≡ false
two_none n e = two_not n (λ t. let h = both_halves n t in omega (arith, e, h.1))

pub two_odd : (n : ℕ) → n / 2 + n / 2 ≢ n → is_two_lists n ≡ false
two_odd n e = two_not n (λ t. e (both_halves n t).0)

pub two_some : (n : ℕ) → n / 2 ≢ 0 → n / 2 + n / 2 ≡ n → is_two_lists n ≡ true
two_some n some e = ap is_two_lists (sym e) ∙ twice (n / 2) (omega (arith, some))

-- the first half of the numbers that were read make a point
pub base_made : (fs : List Bytes) (den : ℤ) (nums : List ℤ) → ray_at true fs ≡ Some (ray_with den nums) → IsPoint (take (length nums / 2) nums) den
base_made fs den nums e = (point_told (point_with den (take (length nums / 2) nums)) ((ray_whole true).sound fs (ray_with den nums) e).0.point).1

pub same_ray : (den : ℤ) (nums first second : List ℤ) (x : PointOf) → x.num ≡ first → x.den ≡ den → first ≡ take (length nums / 2) nums → second ≡ drop (length nums / 2) nums → Some (NamedRay x second) ≡ Some (ray_with den nums)
same_ray den nums first second x e f p q =
    ap₂ (λ (n : List ℤ) (d : ℤ). Some (NamedRay (point_with d n) second)) (e ∙ p) f ∙ ap (λ (s : List ℤ). Some (NamedRay (point_with den (take (length nums / 2) nums)) s)) q

pub second_half : (xs now dir : List ℤ) (h m : ℕ) → dir ≡ take (length now - h) (drop h now) → now ≡ xs → h ≡ m → dir ≡ drop m xs
second_half xs now dir h m e p q =
    e ∙ take_all (length now - h) (drop h now) (omega (arith, length-drop h now)) ∙ ap₂ (λ (k : ℕ) (ys : List ℤ). drop k ys) q p

-- ---- numbers that a loop counts

count_more : (n : ℤ) (k : ℕ) (o : Option (List ℤ)) → option_map (λ ns. k + length ns) (and_more (Some n) o) ≡ option_map (λ ns. (k + 1) + length ns) o
count_more n k None = refl
count_more n k (Some ns) = let e : k + suc (length ns) ≡ (k + 1) + length ns = omega arith in ap Some e

pub count_on : (fs gs : List Bytes) (n : ℤ) (k : ℕ) → integer_read (is_narrow false) fs ≡ Ok (n, gs) → option_map (λ ns. k + length ns) (integers (is_narrow false) fs) ≡ option_map (λ ns. (k + 1) + length ns) (integers (is_narrow false) gs)
count_on fs gs n k e =
    let f = integer_front (is_narrow false) fs gs n e in
    ap (option_map (λ ns. k + length ns)) (numbers_next false fs gs f.0 n f.1 f.2) ∙ count_more n k (integers (is_narrow false) gs)

pub count_shorter : (fs gs : List Bytes) (n : ℤ) → integer_read (is_narrow false) fs ≡ Ok (n, gs) → length gs < length fs
count_shorter fs gs n e = let f = integer_front (is_narrow false) fs gs n e in omega (arith, ap length f.1)

pub count_stops : (line : Bytes) (gs : List Bytes) → integer_read (is_narrow false) (fields_of line) ≡ Err gs → integers (is_narrow false) (fields_of line) ≡ None
count_stops line gs e =
    let f = (split_once 32 line).0 in
    let fs = left_of (split_once 32 line).1 in
    let h : integer_read (is_narrow false) (f ∷ fs) ≡ Err gs = ap (integer_read (is_narrow false)) (sym (first_field line)) ∙ e in
    numbers_stop false (fields_of line) fs f (first_field line) (integer_missing (is_narrow false) f fs gs h)

pub count_begins : (o : Option (List ℤ)) → option_map (λ ns. 0 + length ns) o ≡ option_map length o
count_begins None = refl
count_begins (Some ns) = let e : 0 + length ns ≡ length ns = omega arith in ap Some e

pub count_ends : (k : ℕ) → k + 0 ≡ k
count_ends k = omega arith
