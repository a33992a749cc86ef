-- A mean as it is summed, share by share.
use Rattle.std.proofs.Common.{◌≡◌, ℕ, ◌+◌, ◌<◌, ◌≤◌, arith, refl, sym, ap, subst, ◌∙◌, ℤ, pos, ◌*ℤ◌, ◌<ℤ◌, Result, Ok, Err, List, [], ◌∷◌, length, map, get_or, take}
use Rattle.std.proofs.Math.IntN.{*ℤ_comm, zero-*ℤ}
use Rattle.std.proofs.lemmas.Int.{ints}
use Rattle.std.proofs.lemmas.List.{take_all, take_more}
use Rattle.zr_base.specs.declared.step.Wide.{Wide}
use Rattle.zr_base.specs.Steps.{◌>>=◌}
use Rattle.zr_base.specs.Fractions.{Fraction, HaveSameCross, IsSame, over, plus, ratio, sum_over, times, whole}
use Rattle.zr_base.specs.Lowest.{IsLowest, add_of}
use Rattle.zr_base.specs.Points.{value_of}
use Rattle.zr_base.proofs.Divisors.{mul_positive, positive_factor}
use Rattle.zr_base.proofs.SameLaws.{plus_same, same_through}
use Rattle.zr_base.proofs.Sames.{sum_over-snoc}
use Rattle.zr_game.specs.CostSteps.{sum_made}
use Rattle.zr_game.specs.Profiles.{weighted}
use Rattle.zr_game.proofs.CostSums.{Summed, all_summed, more_summed, none_summed, wide_sum, wide_term, zero_lowest}
use Rattle.zr_mix.specs.declared.mixture.Part.{Part}
use Rattle.zr_mix.specs.Mixtures.{part_of}
use Rattle.zr_mix.specs.Steps.{mean_steps, share}
use Rattle.zr_mix.proofs.Scaling.{one_share}

sum_made-map : {A B : Type 0} (g : A → B) (make : B
    → Result Fraction Wide) (s : Fraction) (xs : List A)
    → sum_made make s (map g xs) ≡ sum_made (λ x. make (g x)) s xs
sum_made-map g make s [] = refl
sum_made-map g make s (x ∷ xs) = onward (make (g x)) (λ z. sum_made-map g make z xs)
  where
    last : (r : Result Fraction Wide) → ((z : Fraction)
        → sum_made make z (map g xs) ≡ sum_made (λ x. make (g x)) z xs)
        → (r >>= λ z. sum_made make z (map g xs)) ≡ (r >>= λ z. sum_made (λ x. make (g x)) z xs)
    last (Ok z) rest = rest z
    last (Err w) rest = refl

    onward : (r : Result Fraction Wide) → ((z : Fraction)
        → sum_made make z (map g xs) ≡ sum_made (λ x. make (g x)) z xs)
        → (r >>= λ a. add_of s a >>= λ z. sum_made make z (map g xs)) ≡
        (r >>= λ a. add_of s a >>= λ z. sum_made (λ x. make (g x)) z xs)
    onward (Ok a) rest = last (add_of s a) rest
    onward (Err w) rest = refl

sum_over-map : {A B : Type 0} (g : A → B) (f : B → Fraction) (xs : List A)
    → sum_over (map g xs) f ≡ sum_over xs (λ x. f (g x))
sum_over-map g f [] = refl
sum_over-map g f (x ∷ xs) = ap (plus (f (g x))) (sum_over-map g f xs)

-- the number of a part's share, and its value
abbrev pub share_made : ℤ → ℕ → Part → Result Fraction Wide
share_made total v part = share total v (part_of part)

abbrev pub share_value : ℤ → ℕ → Part → Fraction
share_value total v part = times (ratio part.weight total) (value_of part.point v)

abbrev pub weighted_value : ℕ → Part → Fraction
weighted_value v part = times (whole part.weight) (value_of part.point v)

-- the sum of the shares of xs
pub record MeanOf (total : ℤ) (v : ℕ) (xs : List Part) (sum : Fraction) : Type 0 where
  pub summed : Summed (share_made total v) (share_value total v) (whole (pos 0)) xs sum
  pub mean : IsSame sum (over (sum_over xs (weighted_value v)) total)

-- the mean's denominator without the total, and the value's
mean_den : (total : ℤ) → (pos 0) <ℤ total → (f s : Fraction) → IsSame f (over s total)
    → (pos 0) <ℤ s.den
mean_den total positive f s same = positive_factor s.den total same.right positive

value_den : (total : ℤ) → (pos 0) <ℤ total → (f x : Fraction) (w : ℤ)
    → IsSame f (times (ratio w total) x) → (pos 0) <ℤ x.den
value_den total positive f x w same =
    positive_factor x.den total (subst (λ z. (pos 0) <ℤ z) (*ℤ_comm total x.den) same.right)
    positive

module _ (total : ℤ) (positive : (pos 0) <ℤ total) (v : ℕ) where
  pub none_of : MeanOf total v [] (whole (pos 0))
  none_of = record {
    summed = none_summed (share_made total v) (share_value total v) (whole (pos 0)) zero_lowest;
    mean = record {
      left = omega (arith, ints);
      right = mul_positive (pos 1) total (omega (arith, ints)) positive;
      cross = zero total;
    };
  }
    where
      zero : (t : ℤ) → HaveSameCross (whole (pos 0)) (over (whole (pos 0)) t)
      zero t = zero-*ℤ (pos 1 *ℤ t)

  module _ (xs : List Part) (i : ℕ) (x : Part) (here : i < length xs) (is : x ≡ get_or xs i x)
      (sum : Fraction) (before : MeanOf total v (take i xs) sum) where
    pub more_of : (a next : Fraction) → Ok a ≡ share_made total v x
        → IsSame a (share_value total v x) → Ok next ≡ add_of sum a → IsSame next (plus sum a)
        → IsLowest next → MeanOf total v (take (i + 1) xs) next
    more_of a next made same adds e next_lowest =
        let y = get_or xs i x in
        let s = sum_over (take i xs) (weighted_value v) in
        let value = share_value total v y in
        let same_y = subst (λ (z : Part). IsSame a (share_value total v z)) is same in
        let both = plus_same sum a (over s total) value before.mean same_y in
        let all = same_through next (plus sum a) (plus (over s total) value) e both in
        let above = mean_den total positive sum s before.mean in
        let below = value_den total positive a (value_of y.point v) y.weight same_y in
        let more = one_share next s (value_of y.point v) y.weight total positive above below all in
        let snoc = sym (sum_over-snoc (take i xs) y (weighted_value v)) in
        let onward = subst (λ (z : Fraction). IsSame next (over z total)) snoc more in
        let made_here = sym (made ∙ ap (share_made total v) is) in
        record {
          summed = more_summed (share_made total v) (share_value total v) (whole (pos 0)) xs i x
              here sum before.summed a next made_here same_y (sym adds) e next_lowest;
          mean = subst (λ (ys : List Part). IsSame next
              (over (sum_over ys (weighted_value v)) total)) (sym (take_more xs i x here)) onward;
        }

    pub term_wide : (w : Wide) → Err w ≡ share_made total v x
        → Err w ≡ mean_steps total (map part_of xs) v
    term_wide w made = sym (sum_made-map part_of (share total v) (whole (pos 0)) xs ∙
        wide_term (share_made total v) (share_value total v) (whole (pos 0)) xs i x here sum
        before.summed w (sym (made ∙ ap (share_made total v) is)))

    pub sum_wide : (a : Fraction) (w : Wide) → Ok a ≡ share_made total v x → Err w ≡ add_of sum a
        → Err w ≡ mean_steps total (map part_of xs) v
    sum_wide a w made adds = sym (sum_made-map part_of (share total v) (whole (pos 0)) xs ∙
        wide_sum (share_made total v) (share_value total v) (whole (pos 0)) xs i x here sum
        before.summed a w (sym (made ∙ ap (share_made total v) is)) (sym adds))

  module _ (xs : List Part) (i : ℕ) (sum : Fraction) (done : length xs ≤ i)
      (all : MeanOf total v (take i xs) sum) where
    pub made_of : Ok sum ≡ mean_steps total (map part_of xs) v
    made_of = sym (sum_made-map part_of (share total v) (whole (pos 0)) xs ∙
        (all_summed (share_made total v) (share_value total v) (whole (pos 0)) xs i sum done
        all.summed).steps)

    pub exact_of : IsSame sum (over (weighted (map part_of xs) (λ x. value_of x v)) total)
    exact_of = subst (λ (z : Fraction). IsSame sum (over z total))
        (sym (sum_over-map part_of (λ part. times (whole part.weight) (value_of part.point v)) xs))
        (subst (λ (ys : List Part). IsSame sum (over (sum_over ys (weighted_value v)) total))
        (take_all i xs done) all.mean)
