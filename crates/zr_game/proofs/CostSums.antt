-- Sums by steps, and a cost as three of them.
use Rattle.std.proofs.Common.{◌≡◌, ℕ, ◌+◌, ◌<◌, ◌≤◌, arith, refl, sym, ap, subst, ◌∙◌, ℤ, pos, ◌+ℤ◌, ◌*ℤ◌, ◌<ℤ◌, Option, Some, Result, Ok, Err, IfOk, List, [], ◌∷◌, ◌++◌, suc, length, get_or, take, drop}
use Rattle.std.specs.Option.{option_map_or}
use Rattle.std.proofs.Math.IntN.{*ℤ_comm}
use Rattle.std.proofs.lemmas.Int.{ints}
use Rattle.std.proofs.lemmas.List.{take_all, take_more}
use Rattle.zr_base.specs.declared.step.Wide.{Wide}
use Rattle.zr_base.specs.Steps.{◌>>=◌}
use Rattle.zr_base.specs.Fractions.{Fraction, IsSame, plus, sum_over, times, whole}
use Rattle.zr_base.specs.Lowest.{IsLowest, add_of}
use Rattle.zr_base.specs.Points.{PointOf, value_of}
use Rattle.zr_base.proofs.Divisors.{mul_positive, positive_factor}
use Rattle.zr_base.proofs.SameLaws.{plus_same, same_through}
use Rattle.zr_base.proofs.Sames.{plus_assoc, plus_left, plus_right, same_record, sum_over-snoc, times_assoc, times_left, times_right}
use Rattle.zr_base.proofs.SumSteps.{get_or_default, split_at}
use Rattle.zr_base.proofs.Wholes.{lowest_whole}
use Rattle.zr_game.specs.declared.player.CrossTerm.{CrossTerm}
use Rattle.zr_game.specs.declared.player.Other.{Other}
use Rattle.zr_game.specs.Players.{PlayerOf}
use Rattle.zr_game.specs.Costs.{cost_of, other_at, own_at, point_of, rest_at, value_at_place}
use Rattle.zr_game.specs.CostSteps.{cost_steps, cross_term, other_term, own_term, sum_made, times_value}
use Rattle.zr_game.specs.CostTerms.{cross_value, other_value}

-- a factor or a summand is replaced by one of its value
module _ (f a b x : Fraction) where
  first_factor : (pos 0) <ℤ (a.den *ℤ b.den) → (pos 0) <ℤ b.den → (pos 0) <ℤ a.den
  first_factor = positive_factor a.den b.den

  last_factor : (pos 0) <ℤ (b.den *ℤ a.den) → (pos 0) <ℤ b.den → (pos 0) <ℤ a.den
  last_factor h p = positive_factor a.den b.den (subst (λ z. (pos 0) <ℤ z) (*ℤ_comm b.den a.den) h)
      p

  pub times_last : IsSame f (times a b) → IsSame b x → IsSame f (times a x)
  times_last e h = record {
    left = e.left;
    right = mul_positive a.den x.den (first_factor e.right h.left) h.right;
    cross = times_right f a b x h.left e.cross h.cross;
  }

  pub times_first : IsSame f (times b a) → IsSame b x → IsSame f (times x a)
  times_first e h = record {
    left = e.left;
    right = mul_positive x.den a.den h.right (last_factor e.right h.left);
    cross = times_left f a b x h.left e.cross h.cross;
  }

  pub plus_last : IsSame f (plus a b) → IsSame b x → IsSame f (plus a x)
  plus_last e h = record {
    left = e.left;
    right = mul_positive a.den x.den (first_factor e.right h.left) h.right;
    cross = plus_right f a b x h.left e.cross h.cross;
  }

  pub plus_first : IsSame f (plus b a) → IsSame b x → IsSame f (plus x a)
  plus_first e h = record {
    left = e.left;
    right = mul_positive x.den a.den h.right (last_factor e.right h.left);
    cross = plus_left f a b x h.left e.cross h.cross;
  }

pub if_made : (r : Result Fraction Wide) (a b : Fraction)
    → ((f : Fraction) → IsSame f a → IsSame f b) → IfOk r (λ f. IsSame f a)
    → IfOk r (λ f. IsSame f b)
if_made (Ok f) a b h e = h f e
if_made (Err w) a b h e = e

module _ {A : Type 0} (make : A → Result Fraction Wide) where
  sum_made-append : (s : Fraction) (xs ys : List A)
      → sum_made make s (xs ++ ys) ≡ (sum_made make s xs >>= λ r. sum_made make r ys)
  sum_made-append s [] ys = refl
  sum_made-append s (x ∷ xs) ys = onward (make x) (λ z. sum_made-append z xs ys)
    where
      last : (r : Result Fraction Wide) → ((z : Fraction)
          → sum_made make z (xs ++ ys) ≡ (sum_made make z xs >>= λ u. sum_made make u ys))
          → (r >>= λ z. sum_made make z (xs ++ ys)) ≡
          ((r >>= λ z. sum_made make z xs) >>= λ u. sum_made make u ys)
      last (Ok z) rest = rest z
      last (Err w) rest = refl

      onward : (r : Result Fraction Wide) → ((z : Fraction)
          → sum_made make z (xs ++ ys) ≡ (sum_made make z xs >>= λ u. sum_made make u ys))
          → (r >>= λ a. add_of s a >>= λ z. sum_made make z (xs ++ ys)) ≡
          ((r >>= λ a. add_of s a >>= λ z. sum_made make z xs) >>= λ u. sum_made make u ys)
      onward (Ok a) rest = last (add_of s a) rest
      onward (Err w) rest = refl

-- what is made of the items of xs is added to start
pub record Summed {A : Type 0} (make : A → Result Fraction Wide) (g : A
    → Fraction) (start : Fraction) (xs : List A) (sum : Fraction) : Type 0 where
  pub steps : sum_made make start xs ≡ Ok sum
  pub exact : IsSame sum (plus start (sum_over xs g))
  pub lowest : IsLowest sum

plus_none : (n d : ℤ) → n *ℤ (d *ℤ pos 1) ≡ (n *ℤ pos 1 +ℤ pos 0 *ℤ d) *ℤ d
plus_none n d =
    let a : d *ℤ pos 1 ≡ d = omega (arith, ints) in
    let b : n *ℤ pos 1 +ℤ pos 0 *ℤ d ≡ n = omega (arith, ints) in
    ap (λ x. n *ℤ x) a ∙ ap (λ x. x *ℤ d) (sym b)

-- a sum with nothing added
pub same_plus_none : (f : Fraction) → IsLowest f → IsSame f (plus f (whole (pos 0)))
same_plus_none f lowest = record {
  left = lowest.ratio.positive;
  right = mul_positive f.den (pos 1) lowest.ratio.positive (omega (arith, ints));
  cross = plus_none f.num f.den;
}

module _ {A : Type 0} (make : A → Result Fraction Wide) (g : A → Fraction) (start : Fraction) where
  pub none_summed : IsLowest start → Summed make g start [] start
  none_summed lowest = record { steps = refl; exact = same_plus_none start lowest; lowest = lowest }

  module _ (xs : List A) (i : ℕ) (d : A) (here : i < length xs) (sum : Fraction)
      (before : Summed make g start (take i xs) sum) where
    pub more_summed : (a next : Fraction) → make (get_or xs i d) ≡ Ok a
        → IsSame a (g (get_or xs i d)) → add_of sum a ≡ Ok next → IsSame next (plus sum a)
        → IsLowest next → Summed make g start (take (i + 1) xs) next
    more_summed a next made same adds e next_lowest =
        let x = get_or xs i d in
        let so_far = plus start (sum_over (take i xs) g) in
        let both = plus_same sum a so_far (g x) before.exact same in
        let right = same_through next (plus sum a) (plus so_far (g x)) e both in
        let snoc = ap (plus start) (sym (sum_over-snoc (take i xs) x g)) in
        let whole_sum = sym (plus_assoc start (sum_over (take i xs) g) (g x)) ∙ snoc in
        let last : sum_made make sum (x ∷ []) ≡ Ok next = rw (made, adds) refl in
        let onward = λ (r : Result Fraction Wide). r >>= λ z. sum_made make z (x ∷ []) in
        let all : Summed make g start (take i xs ++ x ∷ []) next = record {
          steps = sum_made-append make start (take i xs) (x ∷ []) ∙ ap onward before.steps ∙ last;
          exact = subst (λ (z : Fraction). IsSame next z) whole_sum right;
          lowest = next_lowest;
        } in
        subst (λ (ys : List A). Summed make g start ys next) (sym (take_more xs i d here)) all

    stopped : (w : Wide) → sum_made make sum (get_or xs i d ∷ drop (suc i) xs) ≡ Err w
        → sum_made make start xs ≡ Err w
    stopped w e =
        ap (sum_made make start) (split_at xs i d here) ∙
        sum_made-append make start (take i xs) (get_or xs i d ∷ drop (suc i) xs) ∙
        ap (λ (r : Result Fraction Wide). r >>= λ z. sum_made make z
        (get_or xs i d ∷ drop (suc i) xs)) before.steps ∙ e

    pub wide_term : (w : Wide) → make (get_or xs i d) ≡ Err w → sum_made make start xs ≡ Err w
    wide_term w made = stopped w (rw made refl)

    pub wide_sum : (a : Fraction) (w : Wide) → make (get_or xs i d) ≡ Ok a → add_of sum a ≡ Err w
        → sum_made make start xs ≡ Err w
    wide_sum a w made adds = stopped w (rw (made, adds) refl)

pub all_summed : {A : Type 0} (make : A → Result Fraction Wide) (g : A
    → Fraction) (start : Fraction) (xs : List A) (i : ℕ) (sum : Fraction) → length xs ≤ i
    → Summed make g start (take i xs) sum → Summed make g start xs sum
all_summed {A} make g start xs i sum h t =
    subst (λ (ys : List A). Summed make g start ys sum) (take_all i xs h) t

pub none_plus : (s : Fraction) → plus (whole (pos 0)) s ≡ s
none_plus s =
    let n : pos 0 *ℤ s.den +ℤ s.num *ℤ pos 1 ≡ s.num = omega (arith, ints) in
    let d : pos 1 *ℤ s.den ≡ s.den = omega (arith, ints) in
    same_record (plus (whole (pos 0)) s) s n d

pub point_is : (points : List PointOf) (k : ℕ) (x : PointOf) → k < length points
    → x ≡ get_or points k x → x ≡ point_of points k
point_is points k x h e = e ∙ get_or_default points k x (record { num = List.[]; den = pos 1 }) h

-- a number times an own value, and then times another value
pub both_exact : (i : ℕ) (points : List PointOf) (t : CrossTerm) (a : Fraction)
    (r : Result Fraction Wide) → IsSame a (own_at (value_of (point_of points i)) (t.own, t.coef))
    → IfOk r (λ f. IsSame f (times a (value_at_place points (t.player, t.var))))
    → IfOk r (λ f. IsSame f (cross_value i points t))
both_exact i points t a r same made =
    let own = value_of (point_of points i) t.own in
    let other = value_at_place points (t.player, t.var) in
    let first = own_at (value_of (point_of points i)) (t.own, t.coef) in
    let joined = times_assoc (whole t.coef) own other in
    let step = λ (f : Fraction) (e : IsSame f (times a other)). subst (λ (z : Fraction). IsSame f z)
    joined (times_first f other a first e same) in
    if_made r (times a other) (cross_value i points t) step made

-- a term in the variables of two others
module _ (t : Other) (at : ℕ × ℕ) (first : Fraction) (two : t.second ≡ Some at) where
  pub other_made : (points : List PointOf)
      → times_value (whole t.coef) (point_of points t.first.0) t.first.1 ≡ Ok first
      → times_value first (point_of points at.0) at.1 ≡ other_term points t
  other_made points e = rw (e, two) refl

  pub other_exact : (value : ℕ × ℕ → Fraction) (r : Result Fraction Wide)
      → IsSame first (times (whole t.coef) (value t.first))
      → IfOk r (λ f. IsSame f (times first (value at))) → IfOk r (λ f. IsSame f (other_at value t))
  other_exact value r same made =
      let one = times (whole t.coef) (value t.first) in
      let both = if_made r (times first (value at)) (times one (value at))
      (λ f e. times_first f (value at) first one e same) made in
      let joined = λ (o : Option (ℕ × ℕ)). option_map_or (λ at. times one (value at)) o one in
      subst (λ (o : Option (ℕ × ℕ)). IfOk r (λ f. IsSame f (joined o))) (sym two) both

module _ (player : PlayerOf) (i : ℕ) (points : List PointOf) where
  -- own terms that are too wide
  pub own_wide : (w : Wide)
      → sum_made (own_term (point_of points i)) (whole (pos 0)) player.cost ≡ Err w
      → Err w ≡ cost_steps player i points
  own_wide w e = rw e refl

  module _ (own : Fraction) (first : sum_made (own_term (point_of points i)) (whole (pos 0))
      player.cost ≡ Ok own) where
    -- cross terms that are too wide
    pub cross_wide : (w : Wide) → sum_made (cross_term i points) own player.cross ≡ Err w
        → Err w ≡ cost_steps player i points
    cross_wide w e = rw (first, e) refl

    -- the others' terms are added to the own and the cross terms
    pub cross_made : (crossed : Fraction)
        → sum_made (cross_term i points) own player.cross ≡ Ok crossed
        → sum_made (other_term points) crossed player.others ≡ cost_steps player i points
    cross_made crossed e = rw (first, e) refl

  -- the own terms, then the cross terms, and then the others' terms are the cost
  pub cost_exact : (own crossed : Fraction) (r : Result Fraction Wide)
      → IsSame own (sum_over player.cost (own_at (value_of (point_of points i))))
      → IsSame crossed (plus own (sum_over player.cross (cross_value i points)))
      → IfOk r (λ f. IsSame f (plus crossed (sum_over player.others (other_value points))))
      → IfOk r (λ f. IsSame f (cost_of player i points))
  cost_exact own crossed r first second made =
      let terms = sum_over player.cost (own_at (value_of (point_of points i))) in
      let cross = sum_over player.cross (cross_value i points) in
      let rest = rest_at player (value_at_place points) in
      let both = plus_first crossed cross own terms second first in
      if_made r (plus crossed rest) (plus (plus terms cross) rest)
      (λ f e. plus_first f rest crossed (plus terms cross) e both) made

pub zero_lowest : IsLowest (whole (pos 0))
zero_lowest = lowest_whole (pos 0) (omega arith)
