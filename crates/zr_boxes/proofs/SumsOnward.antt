-- Sums along a list, by what is left of it.
use Rattle.std.proofs.Common.{◌≡◌, ℕ, suc, ◌+◌, ◌<◌, ◌≤◌, arith, refl, sym, ap, ◌∙◌, ℤ, pos, Bool, true, false, cond, Result, Ok, Err, List, ◌∷◌, length, map, get_or, drop, drop-cons, add-one}
use Rattle.std.specs.List.{filter}
use Rattle.std.proofs.lemmas.List.{drop_all}
use Rattle.zr_base.specs.declared.step.Wide.{Wide}
use Rattle.zr_base.specs.Steps.{IsNarrow, ◌>>=◌}
use Rattle.zr_base.specs.Sums.{sum_step, sum_steps}

-- the sum so far, to which the items that pass the test from number i on are to be added
pub record FilteredOnward {A : Type 0} (test : A → Bool) (f : A → ℤ × ℤ) (start : ℤ) (xs : List A)
    (i : ℕ) (sum : ℤ) : Type 0 where
  pub steps : sum_steps start (map f (filter test xs)) ≡ sum_steps sum
      (map f (filter test (drop i xs)))
  pub narrow : IsNarrow sum

module _ {A : Type 0} (test : A → Bool) (f : A → ℤ × ℤ) (start : ℤ) (xs : List A) where
  pub filtered_first : IsNarrow start → FilteredOnward test f start xs 0 start
  filtered_first narrow = record { steps = refl; narrow = narrow }

  module _ (i : ℕ) (d : A) (here : i < length xs) (sum : ℤ)
      (before : FilteredOnward test f start xs i sum) where
    abbrev this : A
    this = get_or xs i d

    abbrev later : List A
    later = filter test (drop (suc i) xs)

    cut : sum_steps start (map f (filter test xs)) ≡ sum_steps sum
        (map f (cond (test this) (this ∷ later) later))
    cut = before.steps ∙ ap (λ ys. sum_steps sum (map f (filter test ys))) (drop-cons xs i d here)

    onward : (b : Bool) → sum_steps sum (map f (cond b (this ∷ later) later))
        ≡ (cond b (sum_step sum (f this)) (Ok sum) >>= λ r. sum_steps r (map f later))
    onward true = refl
    onward false = refl

    pub filtered_more : (next : ℤ) → cond (test this) (sum_step sum (f this)) (Ok sum) ≡ Ok next
        → IsNarrow next → FilteredOnward test f start xs (i + 1) next
    filtered_more next made narrow = record {
      steps = cut ∙ onward (test this) ∙
          ap (λ (r : Result ℤ Wide). r >>= λ s. sum_steps s (map f later)) made ∙
          ap (λ n. sum_steps next (map f (filter test (drop n xs)))) (sym (add-one i));
      narrow = narrow;
    }

    pub filtered_wide : (w : Wide) → cond (test this) (sum_step sum (f this)) (Ok sum) ≡ Err w
        → sum_steps start (map f (filter test xs)) ≡ Err w
    filtered_wide w made = cut ∙ onward (test this) ∙
        ap (λ (r : Result ℤ Wide). r >>= λ s. sum_steps s (map f later)) made

  pub filtered_last : (i : ℕ) (sum : ℤ) → length xs ≤ i → FilteredOnward test f start xs i sum
      → sum_steps start (map f (filter test xs)) ≡ Ok sum
  filtered_last i sum done all =
      all.steps ∙ ap (λ ys. sum_steps sum (map f (filter test ys))) (drop_all i xs done)

-- the same of all items, from 0 on
pub record Onward {A : Type 0} (f : A → ℤ × ℤ) (xs : List A) (i : ℕ) (sum : ℤ) : Type 0 where
  pub steps : sum_steps (pos 0) (map f xs) ≡ sum_steps sum (map f (drop i xs))
  pub narrow : IsNarrow sum

module _ {A : Type 0} (f : A → ℤ × ℤ) (xs : List A) where
  pub onward_first : Onward f xs 0 (pos 0)
  onward_first = record { steps = refl; narrow = omega arith }

  module _ (i : ℕ) (d : A) (here : i < length xs) (sum : ℤ) (before : Onward f xs i sum) where
    split : sum_steps (pos 0) (map f xs)
        ≡ (sum_step sum (f (get_or xs i d)) >>= λ r. sum_steps r (map f (drop (suc i) xs)))
    split = before.steps ∙ ap (λ ys. sum_steps sum (map f ys)) (drop-cons xs i d here)

    pub onward_more : (next : ℤ) → sum_step sum (f (get_or xs i d)) ≡ Ok next → IsNarrow next
        → Onward f xs (i + 1) next
    onward_more next made narrow = record {
      steps = split ∙
          ap (λ (r : Result ℤ Wide). r >>= λ s. sum_steps s (map f (drop (suc i) xs))) made ∙
          ap (λ n. sum_steps next (map f (drop n xs))) (sym (add-one i));
      narrow = narrow;
    }

    pub onward_wide : (w : Wide) → sum_step sum (f (get_or xs i d)) ≡ Err w
        → sum_steps (pos 0) (map f xs) ≡ Err w
    onward_wide w made = split ∙
        ap (λ (r : Result ℤ Wide). r >>= λ s. sum_steps s (map f (drop (suc i) xs))) made

  pub onward_last : (i : ℕ) (sum : ℤ) → length xs ≤ i → Onward f xs i sum
      → sum_steps (pos 0) (map f xs) ≡ Ok sum
  onward_last i sum done all =
      all.steps ∙ ap (λ ys. sum_steps sum (map f ys)) (drop_all i xs done)
