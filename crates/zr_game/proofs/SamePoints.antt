-- Points of the same values are feasible alike and cost the same.
use Rattle.std.proofs.Common.{◌≡◌, ℕ, arith, refl, sym, ap, ◌∙◌, ℤ, pos, ◌+ℤ◌, ◌*ℤ◌, ◌<ℤ◌, ◌≤ℤ◌, IfSome, Option, Some, None, List, [], ◌∷◌, get_or, ⊎_elim, inl, inr}
use Rattle.std.specs.Option.{option_map_or}
use Rattle.std.proofs.lemmas.Int.{ints}
use Rattle.zr_base.proofs.Divisors.{cancel}
use Rattle.zr_base.proofs.Ring.{spread}
use Rattle.zr_base.proofs.SameLaws.{plus_same, same_refl, sum_over_same, times_same}
use Rattle.zr_base.proofs.Worth.{le_of_times, le_times}
use Rattle.zr_base.specs.Fractions.{Fraction, IsSame, plus, sum_over, times, whole}
use Rattle.zr_base.specs.Points.{IsSamePoint, PointOf, num_of, value_of}
use Rattle.zr_base.specs.Rows.{products}
use Rattle.zr_base.specs.Sums.{sum_products}
use Rattle.zr_base.specs.Terms.{Terms}
use Rattle.zr_game.specs.Costs.{cost_of, cross_at, other_at, own_at, point_of, rest_at, value_at_place}
use Rattle.zr_game.specs.Feasible.{IsFeasible, IsWithin, PairHolds, slack}
use Rattle.zr_game.specs.Players.{PairOf, PlayerOf, VarOf}
use Rattle.zr_game.specs.declared.player.CrossTerm.{CrossTerm}
use Rattle.zr_game.specs.declared.player.Other.{Other}

-- a number times fractions of one value
pub multiple_same : (z : ℤ) (a b : Fraction) → IsSame a b
    → IsSame (times (whole z) a) (times (whole z) b)
multiple_same z a b s = times_same (whole z) a (whole z) b
    (same_refl (whole z) (omega (arith, ints))) s

module _ (f g : ℕ × ℕ → Fraction) where
  -- a term in the others' variables, where these have the same values
  pub other_same : (t : Other) → IsSame (f t.first) (g t.first)
      → ((at : ℕ × ℕ) → t.second ≡ Some at → IsSame (f at) (g at))
      → IsSame (other_at f t) (other_at g t)
  other_same t first second = on t.second second
    where
      one : IsSame (times (whole t.coef) (f t.first)) (times (whole t.coef) (g t.first))
      one = multiple_same t.coef (f t.first) (g t.first) first

      on : (o : Option (ℕ × ℕ)) → ((at : ℕ × ℕ) → o ≡ Some at → IsSame (f at) (g at))
          → IsSame (option_map_or (λ at. times (times (whole t.coef) (f t.first)) (f at)) o
          (times (whole t.coef) (f t.first)))
          (option_map_or (λ at. times (times (whole t.coef) (g t.first)) (g at)) o
          (times (whole t.coef) (g t.first)))
      on None h = one
      on (Some at) h =
          times_same (times (whole t.coef) (f t.first)) (f at) (times (whole t.coef) (g t.first))
          (g at) one (h at refl)

  pub rest_same : (player : PlayerOf) → ((at : ℕ × ℕ) → IsSame (f at) (g at))
      → IsSame (rest_at player f) (rest_at player g)
  rest_same player h =
      sum_over_same player.others (other_at f) (other_at g)
      (λ t. other_same t (h t.first) (λ at e. h at))

pub cost_same : (player : PlayerOf) (i : ℕ) (points others : List PointOf)
    → ((k v : ℕ) → IsSame (value_of (point_of points k) v) (value_of (point_of others k) v))
    → IsSame (cost_of player i points) (cost_of player i others)
cost_same player i points others h =
    let a = value_of (point_of points i) in
    let b = value_of (point_of others i) in
    let f = value_at_place points in
    let g = value_at_place others in
    let here = λ (t : ℕ × ℤ). multiple_same t.1 (a t.0) (b t.0) (h i t.0) in
    let far = λ (at : ℕ × ℕ). h at.0 at.1 in
    let pair = λ (t : CrossTerm). times_same (a t.own) (f (t.player, t.var)) (b t.own)
    (g (t.player, t.var)) (h i t.own) (far (t.player, t.var)) in
    let there = λ (t : CrossTerm). multiple_same t.coef (times (a t.own) (f (t.player, t.var)))
    (times (b t.own) (g (t.player, t.var))) (pair t) in
    let own = sum_over_same player.cost (own_at a) (own_at b) here in
    let cross = sum_over_same player.cross (cross_at a f) (cross_at b g) there in
    let terms = sum_over player.cost (own_at a) in
    let other_terms = sum_over player.cost (own_at b) in
    let crossed = sum_over player.cross (cross_at a f) in
    let other_crossed = sum_over player.cross (cross_at b g) in
    let both = plus_same terms crossed other_terms other_crossed own cross in
    plus_same (plus terms crossed) (rest_at player f) (plus other_terms other_crossed)
    (rest_at player g) both (rest_same f g player far)

-- what holds of `n / d` holds of the same value `m / e`
module _ (n d m e : ℤ) (d_positive : (pos 0) <ℤ d) (e_positive : (pos 0) <ℤ e)
    (same : n *ℤ e ≡ m *ℤ d) where
  at_least : (pos 0) ≤ℤ n → (pos 0) ≤ℤ m
  at_least h =
      let l = le_times (pos 0) n e e_positive h in
      le_of_times (pos 0) m d d_positive (omega (arith, ints, l, same))

  at_least_of : (b : ℤ) → (b *ℤ d) ≤ℤ n → (b *ℤ e) ≤ℤ m
  at_least_of b h =
      let l = simp spread at (le_times (b *ℤ d) n e e_positive h) in
      let s = simp spread at same in
      le_of_times (b *ℤ e) m d d_positive (simp spread (omega (arith, ints, l, s)))

  at_most_of : (b : ℤ) → n ≤ℤ (b *ℤ d) → m ≤ℤ (b *ℤ e)
  at_most_of b h =
      let l = simp spread at (le_times n (b *ℤ d) e e_positive h) in
      let s = simp spread at same in
      le_of_times m (b *ℤ e) d d_positive (simp spread (omega (arith, ints, l, s)))

  multiple : (k : ℤ) → n ≡ k *ℤ d → m ≡ k *ℤ e
  multiple k h =
      let l = simp spread at (ap (λ z. z *ℤ e) h) in
      let s = simp spread at same in
      cancel m (k *ℤ e) d d_positive (simp spread (omega (arith, ints, l, s)))

  none : n ≡ pos 0 → m ≡ pos 0
  none h =
      let l = ap (λ z. z *ℤ e) h in cancel m (pos 0) d d_positive (omega (arith, ints, l, same))

module _ (x y : PointOf) (same : IsSamePoint x y) where
  same_sum : (coef : Terms)
      → sum_products (products coef x.num) *ℤ y.den ≡ sum_products (products coef y.num) *ℤ x.den
  same_sum [] = omega (arith, ints)
  same_sum (t ∷ ts) =
      let r = same_sum ts in
      let s = same.values t.0 in
      head t.1 (num_of x t.0) y.den (num_of y t.0) x.den (sum_products (products ts x.num))
      (sum_products (products ts y.num)) s r
    where
      head : (c n e m d a b : ℤ) → n *ℤ e ≡ m *ℤ d → a *ℤ e ≡ b *ℤ d
          → (c *ℤ n +ℤ a) *ℤ e ≡ (c *ℤ m +ℤ b) *ℤ d
      head c n e m d a b s r =
          let l = ap (λ z. c *ℤ z) s in
          let q = simp spread at r in
          simp spread (omega (arith, ints, l, q))

  same_slack : (pair : PairOf) → slack pair x *ℤ y.den ≡ slack pair y *ℤ x.den
  same_slack pair =
      let r = simp spread at (same_sum pair.coef) in simp spread (omega (arith, ints, r))

  within : (var : VarOf) (v : ℕ) → IsWithin var (num_of x v) x.den → IsWithin var (num_of y v) y.den
  within var v w = record {
    low = low var.low w.low;
    high = up var.up w.high;
    whole = λ h. let k = w.whole h in (
      k.0,
      multiple (num_of x v) x.den (num_of y v) y.den same.left same.right (same.values v)
          k.0 k.1,
    );
  }
    where
      low : (o : Option ℤ) → IfSome o (λ b. (b *ℤ x.den) ≤ℤ num_of x v)
          → IfSome o (λ b. (b *ℤ y.den) ≤ℤ num_of y v)
      low None h = h
      low (Some b) h =
          at_least_of (num_of x v) x.den (num_of y v) y.den same.left same.right (same.values v) b h

      up : (o : Option ℤ) → IfSome o (λ b. num_of x v ≤ℤ (b *ℤ x.den))
          → IfSome o (λ b. num_of y v ≤ℤ (b *ℤ y.den))
      up None h = h
      up (Some b) h =
          at_most_of (num_of x v) x.den (num_of y v) y.den same.left same.right (same.values v) b h

  pair_same : (pair : PairOf) → PairHolds x pair → PairHolds y pair
  pair_same pair h =
      let s = same_slack pair in
      let value = same.values pair.var in
      let n = num_of x pair.var in
      let m = num_of y pair.var in
      let here = λ (z : n ≡ pos 0). inl (none n x.den m y.den same.left same.right value z) in
      let there = λ (z : slack pair x ≡ pos 0). inr
      (none (slack pair x) x.den (slack pair y) y.den same.left same.right s z) in (
        at_least n x.den m y.den same.left same.right value h.0,
        at_least (slack pair x) x.den (slack pair y) y.den same.left same.right s h.1,
        ⊎_elim here there h.2,
      )

  pub feasible_same : (player : PlayerOf) → IsFeasible player x → IsFeasible player y
  feasible_same player f = record {
    point = same.right;
    len = sym same.len ∙ f.len;
    bounds = λ v var e. within var v (f.bounds v var e);
    rows = λ k d h. at_most_of (sum_products (products _ x.num)) x.den
        (sum_products (products _ y.num)) y.den same.left same.right (same_sum _) _ (f.rows k d h);
    pairs = λ k d h. pair_same (get_or player.pairs k d) (f.pairs k d h);
  }
