-- Sums over the items that pass a test, as they are made.
use Rattle.std.proofs.Common.{◌≡◌, ℕ, suc, ◌+◌, ◌<◌, ◌≤◌, arith, refl, sym, ap, subst, ◌∙◌, ℤ, pos, ◌+ℤ◌, ◌*ℤ◌, Bool, true, false, cond, Result, Ok, Err, List, [], ◌∷◌, length, get_or, drop, drop-cons}
use Rattle.std.specs.List.{filter}
use Rattle.std.proofs.Math.ListN.{drop_of_length-le}
use Rattle.std.proofs.lemmas.Int.{ints}
use Rattle.zr_base.specs.declared.step.Wide.{Wide}
use Rattle.zr_base.specs.Steps.{◌>>=◌}
use Rattle.zr_base.specs.Fractions.{Fraction, IsSame, plus, sum_over, whole}
use Rattle.zr_base.specs.Lowest.{IsLowest, add_of}
use Rattle.zr_base.proofs.SameLaws.{same_refl}
use Rattle.zr_base.proofs.Sames.{plus_assoc, same_record}
use Rattle.zr_game.specs.CostSteps.{sum_made}
use Rattle.zr_game.proofs.CostSums.{plus_first}

module _ {A : Type 0} (make : A → Result Fraction Wide) (s : Fraction) (x : A) (ys : List A) where
  last_ok : (r : Result Fraction Wide) (next : Fraction) → (r >>= λ z. Ok z) ≡ Ok next
      → (r >>= λ z. sum_made make z ys) ≡ sum_made make next ys
  last_ok (Ok z) next e = let h : z ≡ next = cc in ap (λ y. sum_made make y ys) h
  last_ok (Err w) next e = absurd cc

  last_wide : (r : Result Fraction Wide) (w : Wide) → (r >>= λ z. Ok z) ≡ Err w
      → (r >>= λ z. sum_made make z ys) ≡ Err w
  last_wide (Ok z) w e = absurd cc
  last_wide (Err u) w e = let h : u ≡ w = cc in ap Err h

  term_ok : (r : Result Fraction Wide) (next : Fraction)
      → (r >>= λ a. add_of s a >>= λ z. Ok z) ≡ Ok next
      → (r >>= λ a. add_of s a >>= λ z. sum_made make z ys) ≡ sum_made make next ys
  term_ok (Ok a) next e = last_ok (add_of s a) next e
  term_ok (Err w) next e = absurd cc

  term_wide : (r : Result Fraction Wide) (w : Wide) → (r >>= λ a. add_of s a >>= λ z. Ok z) ≡ Err w
      → (r >>= λ a. add_of s a >>= λ z. sum_made make z ys) ≡ Err w
  term_wide (Ok a) w e = last_wide (add_of s a) w e
  term_wide (Err u) w e = let h : u ≡ w = cc in ap Err h

  step_ok : (b : Bool) (next : Fraction) → sum_made make s (cond b (x ∷ []) []) ≡ Ok next
      → sum_made make s (cond b (x ∷ ys) ys) ≡ sum_made make next ys
  step_ok true next e = term_ok (make x) next e
  step_ok false next e = let h : s ≡ next = cc in ap (λ y. sum_made make y ys) h

  step_wide : (b : Bool) (w : Wide) → sum_made make s (cond b (x ∷ []) []) ≡ Err w
      → sum_made make s (cond b (x ∷ ys) ys) ≡ Err w
  step_wide true w e = term_wide (make x) w e
  step_wide false w e = absurd cc

-- nothing is added
pub plus_none : (s : Fraction) → plus s (whole (pos 0)) ≡ s
plus_none s = same_record (plus s (whole (pos 0))) s (num s.num s.den) (omega (arith, ints))
  where
    num : (n d : ℤ) → n *ℤ pos 1 +ℤ pos 0 *ℤ d ≡ n
    num n d = omega (arith, ints)

split_sum : {A : Type 0} (g : A → Fraction) (s : Fraction) (x : A) (ys : List A) (b : Bool)
    → plus (plus s (sum_over (cond b (x ∷ []) []) g)) (sum_over ys g) ≡ plus s
    (sum_over (cond b (x ∷ ys) ys) g)
split_sum g s x ys true = ap (λ z. plus (plus s z) (sum_over ys g)) (plus_none (g x)) ∙
    sym (plus_assoc s (g x) (sum_over ys g))
split_sum g s x ys false = ap (λ z. plus z (sum_over ys g)) (plus_none s)

-- what is left to be made from the item of number i on
pub record Onward {A : Type 0} (make : A → Result Fraction Wide) (g : A → Fraction) (test : A
    → Bool) (start : Fraction) (xs : List A) (i : ℕ) (sum : Fraction) : Type 0 where
  pub steps : sum_made make start (filter test xs) ≡ sum_made make sum (filter test (drop i xs))
  pub exact : (f : Fraction) → IsSame f (plus sum (sum_over (filter test (drop i xs)) g))
      → IsSame f (plus start (sum_over (filter test xs) g))
  pub lowest : IsLowest sum

module _ {A : Type 0} (make : A → Result Fraction Wide) (g : A → Fraction) (test : A
    → Bool) (start : Fraction) (xs : List A) where
  pub none_onward : IsLowest start → Onward make g test start xs 0 start
  none_onward lowest = record { steps = refl; exact = λ f e. e; lowest = lowest }

  module _ (i : ℕ) (d : A) (here : i < length xs) (sum : Fraction)
      (before : Onward make g test start xs i sum) where
    pub more_onward : (next : Fraction)
        → sum_made make sum (filter test (get_or xs i d ∷ [])) ≡ Ok next
        → IsSame next (plus sum (sum_over (filter test (get_or xs i d ∷ [])) g)) → IsLowest next
        → Onward make g test start xs (i + 1) next
    more_onward next made same lowest =
        let x = get_or xs i d in
        let ys = filter test (drop (suc i) xs) in
        let cut = ap (filter test) (drop-cons xs i d here) in
        let n : suc i ≡ i + 1 = omega arith in
        let all : Onward make g test start xs (suc i) next = record {
          steps = before.steps ∙ ap (sum_made make sum) cut ∙
              step_ok make sum x ys (test x) next made;
          exact = λ f e. before.exact f
              (subst (λ (zs : List A). IsSame f (plus sum (sum_over zs g))) (sym cut)
              (subst (λ (z : Fraction). IsSame f z) (split_sum g sum x ys (test x))
              (plus_first f (sum_over ys g) next (plus sum (sum_over (cond (test x) (x ∷ []) []) g))
              e same)));
          lowest = lowest;
        } in
        subst (λ k. Onward make g test start xs k next) n all

    pub wide_onward : (w : Wide) → sum_made make sum (filter test (get_or xs i d ∷ [])) ≡ Err w
        → sum_made make start (filter test xs) ≡ Err w
    wide_onward w made =
        let x = get_or xs i d in
        before.steps ∙ ap (λ ys. sum_made make sum (filter test ys)) (drop-cons xs i d here) ∙
        step_wide make sum x (filter test (drop (suc i) xs)) (test x) w made

  pub all_onward : (i : ℕ) (sum : Fraction) → length xs ≤ i → Onward make g test start xs i sum
      → (sum_made make start (filter test xs) ≡ Ok sum) ×
      IsSame sum (plus start (sum_over (filter test xs) g))
  all_onward i sum done all =
      let none = drop_of_length-le xs done in
      let last = ap (λ (ys : List A). plus sum (sum_over (filter test ys) g)) none ∙
      plus_none sum in (
        all.steps ∙ ap (λ (ys : List A). sum_made make sum (filter test ys)) none,
        all.exact sum (subst (λ (z : Fraction). IsSame sum z) (sym last)
            (same_refl sum all.lowest.ratio.positive)),
      )
