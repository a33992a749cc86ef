-- Tests along a list, one item more at a time.
use Rattle.std.proofs.Common.{◌≡◌, ◌↔◌, ℕ, suc, ◌+◌, ◌<◌, arith, refl, sym, ap, subst, ◌∙◌, ℤ, pos, Bool, true, false, ◌&&◌, IsTrue, Option, Some, None, IfOk, Result, Ok, Err, List, [], ◌∷◌, ◌++◌, length, get_or, take, drop, below_more, slice_get}
use Rattle.std.proofs.lemmas.List.{take_all, take_more}
use Rattle.std.proofs.lemmas.Option.{slice_get_within, slice_get-get_or, get_or_from_slice_get}
use Rattle.zr_base.specs.declared.step.Wide.{Wide}
use Rattle.zr_base.specs.Steps.{◌>>=◌}
use Rattle.zr_base.specs.Sums.{sum_steps}
use Rattle.zr_base.specs.Tests.{Tells, first_wide, or_else, wide_in}
use Rattle.zr_base.proofs.SumSteps.{sum_steps-append, get_or_default, split_at}

-- a sum that is too wide before its end
pub wide_front : (xs ys : List (ℤ × ℤ)) (w : Wide) → sum_steps (pos 0) xs ≡ Err w → sum_steps (pos 0) (xs ++ ys) ≡ Err w
wide_front xs ys w e =
    sum_steps-append (pos 0) xs ys ∙ ap (λ (r : Result ℤ Wide). r >>= λ u. sum_steps u ys) e

pub first_wide-append : {A : Type 0} (f : A → Option Wide) (xs ys : List A) → first_wide f (xs ++ ys) ≡ or_else (first_wide f xs) (first_wide f ys)
first_wide-append f [] ys = refl
first_wide-append f (x ∷ xs) ys =
    ap (or_else (f x)) (first_wide-append f xs ys) ∙ regroup (f x) (first_wide f xs) (first_wide f ys)
  where
    regroup : (a b c : Option Wide) → or_else a (or_else b c) ≡ or_else (or_else a b) c
    regroup None b c = refl
    regroup (Some w) b c = refl

pub both_true : (a b : Bool) → IsTrue (a && b) → IsTrue a × IsTrue b
both_true true true h = (h, h)
both_true true false h = absurd cc
both_true false b h = absurd cc

pub true_both : (a b : Bool) → IsTrue a → IsTrue b → IsTrue (a && b)
true_both true b g h = h
true_both false b g h = g

-- P of each item below i, with its number
abbrev pub EachBelow : {A : Type 0} → ℕ → (ℕ → A → Type 0) → List A → Type 0
EachBelow {A} i P xs = (v : ℕ) (d : A) → v < i → P v (get_or xs v d)

-- the items below i are tested: no step was wide, and `all` tells whether each of them passed
pub record Tested {A : Type 0} (i : ℕ) (P : ℕ → A → Type 0) (f : A → Option Wide) (xs : List A) (all : Bool) : Type 0 where
  pub narrow : first_wide f (take i xs) ≡ None
  pub told : IsTrue all ↔ EachBelow i P xs

module _ {A : Type 0} (P : ℕ → A → Type 0) (f : A → Option Wide) (xs : List A) where
  pub none_tested : Tested 0 P f xs true
  none_tested = record { narrow = refl; told = (λ h v d below. absurd (omega arith), λ h. refl) }

  module _ (i : ℕ) (x : A) (here : i < length xs) (is : x ≡ get_or xs i x) (all : Bool) (before : Tested i P f xs all) where
    none_more : f x ≡ None → first_wide f (take (i + 1) xs) ≡ None
    none_more none =
        ap (first_wide f) (take_more xs i x here) ∙ first_wide-append f (take i xs) (get_or xs i x ∷ []) ∙ ap (λ o. or_else o (first_wide f (get_or xs i x ∷ []))) before.narrow ∙ ap (λ o. or_else o None) (subst (λ y. f y ≡ None) is none)

    pub wide_here : (w : Wide) → f x ≡ Some w → first_wide f xs ≡ Some w
    wide_here w e =
        ap (first_wide f) (split_at xs i x here) ∙ first_wide-append f (take i xs) (get_or xs i x ∷ drop (suc i) xs) ∙ ap (λ o. or_else o (first_wide f (get_or xs i x ∷ drop (suc i) xs))) before.narrow ∙ ap (λ o. or_else o (first_wide f (drop (suc i) xs))) (subst (λ y. f y ≡ Some w) is e)

    more_told : (b : Bool) → (IsTrue b ↔ P i x) → IsTrue (all && b) ↔ EachBelow (i + 1) P xs
    more_told b told =
        (λ h v d below. below_more (λ k. (e : A) → P k (get_or xs k e)) i (λ k under e. before.told.0 (both_true all b h).0 k e under) (λ e. subst (P i) (is ∙ get_or_default xs i x e here) (told.0 (both_true all b h).1)) v below d, λ h. true_both all b (before.told.1 (λ v d below. h v d (omega arith))) (told.1 (subst (P i) (sym is) (h i x (omega arith)))))

    -- the test of one item more
    pub more : (r : Result Bool Wide) (b : Bool) → Tells r (P i x) (f x) → r ≡ Ok b → Tested (i + 1) P f xs (all && b)
    more r b tells e =
        let t = subst (λ (q : Result Bool Wide). Tells q (P i x) (f x)) e tells in
        record { narrow = none_more t.0; told = more_told b t.1 }

    -- a test that is too wide
    pub stops : (r : Result Bool Wide) (w : Wide) → Tells r (P i x) (f x) → r ≡ Err w → first_wide f xs ≡ Some w
    stops r w tells e =
        wide_here w (subst (λ (q : Result Bool Wide). Tells q (P i x) (f x)) e tells)

  pub all_tested : (i : ℕ) (all : Bool) → i ≡ length xs → Tested i P f xs all → (first_wide f xs ≡ None) × (IsTrue all ↔ EachBelow (length xs) P xs)
  all_tested i all e t =
      (ap (first_wide f) (sym (take_all i xs (omega arith))) ∙ t.narrow, subst (λ n. IsTrue all ↔ EachBelow n P xs) e t.told)

-- of each item, by its number
pub each_found : {A : Type 0} (P : ℕ → A → Type 0) (xs : List A) → EachBelow (length xs) P xs ↔ ((v : ℕ) (x : A) → slice_get xs v ≡ Some x → P v x)
each_found P xs =
    (λ h v x e. subst (P v) (get_or_from_slice_get xs v x x e) (h v x (slice_get_within xs v x e)), λ h v d below. h v (get_or xs v d) (slice_get-get_or xs v d below))

-- an answer that is exact tells
pub tells : (r : Result Bool Wide) (P : Type 0) → IfOk r (λ passes. IsTrue passes ↔ P) → Tells r P (wide_in r)
tells (Ok passes) P exact = (refl, exact)
tells (Err w) P exact = refl

-- an answer that is exact tells, and its steps say where it is wide
pub tells_by : {A : Type 0} (made : Result A Wide) (r : Result Bool Wide) (P : Type 0) → IfOk r (λ passes. IsTrue passes ↔ P) → wide_in r ≡ wide_in made → Tells r P (wide_in made)
tells_by made r P exact e = subst (Tells r P) e (tells r P exact)

-- what was told of a fact is told of one that means the same
pub tells_same : (r : Result Bool Wide) (P Q : Type 0) (wide : Option Wide) → (P ↔ Q) → Tells r P wide → Tells r Q wide
tells_same (Ok passes) P Q wide same t = (t.0, (λ h. same.0 (t.1.0 h), λ h. t.1.1 (same.1 h)))
tells_same (Err w) P Q wide same t = t

-- two tests, one after the other
pub both_told : (a b : Bool) (P Q : Type 0) (front back : Option Wide) → (front ≡ None) × (IsTrue a ↔ P) → (back ≡ None) × (IsTrue b ↔ Q) → (or_else front back ≡ None) × (IsTrue (a && b) ↔ (P × Q))
both_told a b P Q front back first second =
    (ap (λ o. or_else o back) first.0 ∙ second.0, (λ h. let p = both_true a b h in (first.1.0 p.0, second.1.0 p.1), λ h. true_both a b (first.1.1 h.0) (second.1.1 h.1)))
