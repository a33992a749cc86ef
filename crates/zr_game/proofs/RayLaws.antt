-- A ray leads to feasible points, and a direction that does is a ray.
use Rattle.std.proofs.Common.{◌≡◌, ℕ, zero, suc, arith, refl, sym, ap, ap₂, subst, ◌∙◌, ℤ, pos, negsuc, ◌+ℤ◌, ◌*ℤ◌, ◌<ℤ◌, ◌≤ℤ◌, neg_ℤ, unsigned_abs, ◌-ℤ◌, ◌+◌, ◌<◌, All, IfSome, Option, Some, None, List, [], ◌∷◌, map, length, get_or, slice_get, slice_index_or, ◌⊎◌, ⊎_elim, inl, inr}
use Rattle.std.specs.List.{zip}
use Rattle.std.proofs.lemmas.Int.{ints}
use Rattle.zr_base.specs.Points.{PointOf, num_of}
use Rattle.zr_base.specs.Rows.{RowHolds, RowOf, products}
use Rattle.zr_base.specs.Sums.{sum_products}
use Rattle.zr_base.specs.Terms.{Terms}
use Rattle.std.proofs.Math.IntN.{*ℤ_comm}
use Rattle.zr_base.proofs.Divisors.{cancel}
use Rattle.zr_base.proofs.Ring.{le-mul_right, mul_assoc, neg-mul_right, spread}
use Rattle.zr_base.proofs.Worth.{le_of_times, le_times}
use Rattle.zr_game.specs.Players.{PairOf, PlayerOf, VarOf}
use Rattle.zr_game.specs.Forms.{IsFromZero, IsPairForm}
use Rattle.zr_game.proofs.Items.{at_number}
use Rattle.zr_game.specs.Feasible.{IsFeasible, IsWithin, PairHolds, slack}
use Rattle.zr_game.specs.Rays.{Direction, IsRay, KeepsBounds, KeepsPair, KeepsRow, StaysFeasible, along, change_of, moved}

-- ---- numbers of a moved point

-- the numbers of xs, each with m times that of ys
abbrev shifted : ℤ → List ℤ → List ℤ → List ℤ
shifted m xs ys = map (λ p. p.0 +ℤ m *ℤ p.1) (zip xs ys)

moved_at : (m : ℤ) (xs ys : List ℤ) (v : ℕ) → length xs ≡ length ys
    → slice_index_or (shifted m xs ys) v (pos 0)
    ≡ slice_index_or xs v (pos 0) +ℤ m *ℤ slice_index_or ys v (pos 0)
moved_at m [] [] v e = omega (arith, ints)
moved_at m [] (y ∷ ys) v e = absurd (omega arith)
moved_at m (x ∷ xs) [] v e = absurd (omega arith)
moved_at m (x ∷ xs) (y ∷ ys) zero e = refl
moved_at m (x ∷ xs) (y ∷ ys) (suc v) e = moved_at m xs ys v (omega arith)

length_moved : (m : ℤ) (xs ys : List ℤ) → length xs ≡ length ys
    → length (shifted m xs ys) ≡ length xs
length_moved m [] [] e = refl
length_moved m [] (y ∷ ys) e = absurd (omega arith)
length_moved m (x ∷ xs) [] e = absurd (omega arith)
length_moved m (x ∷ xs) (y ∷ ys) e = let r = length_moved m xs ys (omega arith) in omega (arith, r)

still : (m : ℤ) (xs ys : List ℤ) → m ≡ pos 0 → length xs ≡ length ys
    → shifted m xs ys ≡ xs
still m [] [] z e = refl
still m [] (y ∷ ys) z e = absurd (omega arith)
still m (x ∷ xs) [] z e = absurd (omega arith)
still m (x ∷ xs) (y ∷ ys) z e =
    let none : m *ℤ y ≡ pos 0 = ap (λ k. k *ℤ y) z ∙ omega (arith, ints) in
    let head : x +ℤ m *ℤ y ≡ x = omega (arith, ints, none) in
    ap₂ ◌∷◌ head (still m xs ys z (omega arith))

-- ---- signs

-- what never falls below a number doesn't fall
never_falls : (a b c : ℤ) → ((t : ℕ) → c ≤ℤ (a +ℤ pos t *ℤ b)) → (pos 0) ≤ℤ b
never_falls a (pos n) c h = omega (arith, ints)
never_falls a (negsuc n) c h =
    absurd (far (unsigned_abs (a -ℤ c) + 1) (omega (arith, ints)) (h (unsigned_abs (a -ℤ c) + 1)))
  where
    far : (t : ℕ) → (a -ℤ c) <ℤ pos t → c ≤ℤ (a +ℤ pos t *ℤ negsuc n) → ⊥
    far t less within =
        let above : (pos 0) <ℤ pos t = omega (arith, ints) in
        let l = le_times (negsuc n) (negsuc 0) (pos t) above (omega (arith, ints)) in
        let e = *ℤ_comm (negsuc n) (pos t) in
        omega (arith, ints, l, e)

positive_times : (d b : ℤ) → (pos 0) <ℤ d → (pos 0) ≤ℤ (d *ℤ b) → (pos 0) ≤ℤ b
positive_times d b positive h =
    let l : (pos 0 *ℤ d) ≤ℤ (b *ℤ d) = simp spread (omega (arith, ints, h)) in
    le_of_times (pos 0) b d positive l

negative_times : (d b : ℤ) → (pos 0) <ℤ d → (d *ℤ b) ≤ℤ (pos 0) → b ≤ℤ (pos 0)
negative_times d b positive h =
    let e = neg-mul_right d b in
    let r = positive_times d (neg_ℤ b) positive (omega (arith, ints, e, h)) in
    omega (arith, ints, r)

never_rises : (a b c : ℤ) → ((t : ℕ) → (a +ℤ pos t *ℤ b) ≤ℤ c) → b ≤ℤ (pos 0)
never_rises a b c h =
    let turned = λ (t : ℕ).
    let m = neg-mul_right (pos t) b in let l = h t in turn (pos t *ℤ b) (pos t *ℤ neg_ℤ b) m l in
    let r = never_falls (neg_ℤ a) (neg_ℤ b) (neg_ℤ c) turned in
    omega (arith, ints, r)
  where
    turn : (p q : ℤ) → q ≡ neg_ℤ p → (a +ℤ p) ≤ℤ c → neg_ℤ c ≤ℤ (neg_ℤ a +ℤ q)
    turn p q m l = omega (arith, ints, m, l)

nonneg_times : (m c : ℤ) → (pos 0) ≤ℤ m → (pos 0) ≤ℤ c → (pos 0) ≤ℤ (m *ℤ c)
nonneg_times (pos n) c h k =
    let l = le-mul_right (pos 0) c n k in
    let z : pos 0 *ℤ pos n ≡ pos 0 = omega (arith, ints) in
    let e = *ℤ_comm (pos n) c in
    omega (arith, ints, l, z, e)
nonneg_times (negsuc n) c h k = absurd (omega (arith, ints, h))

times_zero : (d c : ℤ) → (pos 0) <ℤ d → d *ℤ c ≡ pos 0 → c ≡ pos 0
times_zero d c positive e =
    let z : pos 0 *ℤ d ≡ pos 0 = omega (arith, ints) in
    cancel c (pos 0) d positive (*ℤ_comm c d ∙ e ∙ sym z)

-- of three steps two are zero for the first reason, or two for the second
two_of_three : (n b s a : ℤ) → ((t : ℕ) → (n +ℤ pos t *ℤ b ≡ pos 0) ⊎ (s +ℤ pos t *ℤ a ≡ pos 0))
    → ((n ≡ pos 0) × (b ≡ pos 0)) ⊎ ((s ≡ pos 0) × (a ≡ pos 0))
two_of_three n b s a h = pick (h 0) (h 1) (h 2)
  where
    pick : (n +ℤ pos 0 *ℤ b ≡ pos 0) ⊎ (s +ℤ pos 0 *ℤ a ≡ pos 0)
        → (n +ℤ pos 1 *ℤ b ≡ pos 0) ⊎ (s +ℤ pos 1 *ℤ a ≡ pos 0)
        → (n +ℤ pos 2 *ℤ b ≡ pos 0) ⊎ (s +ℤ pos 2 *ℤ a ≡ pos 0)
        → ((n ≡ pos 0) × (b ≡ pos 0)) ⊎ ((s ≡ pos 0) × (a ≡ pos 0))
    pick (inl x) (inl y) z = inl (omega (arith, ints, x), omega (arith, ints, x, y))
    pick (inl x) (inr y) (inl z) = inl (omega (arith, ints, x), omega (arith, ints, x, z))
    pick (inl x) (inr y) (inr z) = inr (omega (arith, ints, y, z), omega (arith, ints, y, z))
    pick (inr x) (inr y) z = inr (omega (arith, ints, x), omega (arith, ints, x, y))
    pick (inr x) (inl y) (inr z) = inr (omega (arith, ints, x), omega (arith, ints, x, z))
    pick (inr x) (inl y) (inl z) = inl (omega (arith, ints, y, z), omega (arith, ints, y, z))

-- ---- from a base along a direction

module _ (base : PointOf) (dir : Direction) (len : length base.num ≡ length dir) (t : ℕ) where
  abbrev reach : ℤ
  reach = pos t *ℤ base.den

  num_moved : (v : ℕ) → num_of (moved base dir t) v ≡ num_of base v +ℤ reach *ℤ change_of dir v
  num_moved v = moved_at reach base.num dir v len

  sum_moved : (ts : Terms)
      → sum_products (products ts (moved base dir t).num)
      ≡ sum_products (products ts base.num) +ℤ reach *ℤ along ts dir
  sum_moved [] = omega (arith, ints)
  sum_moved (u ∷ ts) =
      gather u.1 (num_of base u.0) (change_of dir u.0) (sum_products (products ts base.num))
      (along ts dir) reach _ _ (num_moved u.0) (sum_moved ts)
    where
      gather : (c n b s a m x y : ℤ) → x ≡ n +ℤ m *ℤ b → y ≡ s +ℤ m *ℤ a
          → c *ℤ x +ℤ y ≡ (c *ℤ n +ℤ s) +ℤ m *ℤ (c *ℤ b +ℤ a)
      gather c n b s a m x y e f = rw (e, f) (simp spread (omega (arith, ints)))

  slack_moved : (pair : PairOf)
      → slack pair (moved base dir t) ≡ slack pair base +ℤ reach *ℤ along pair.coef dir
  slack_moved pair = let s = sum_moved pair.coef in omega (arith, ints, s)

  module _ (player : PlayerOf) (ray : IsRay player base dir) where
    reach_nonneg : (pos 0) ≤ℤ reach
    reach_nonneg =
        let p = ray.base_is.point in
        nonneg_times (pos t) base.den (omega (arith, ints)) (omega (arith, ints, p))

    within_kept : (var : VarOf) (n c : ℤ) → IsWithin var n base.den → KeepsBounds var c
        → IsWithin var (n +ℤ reach *ℤ c) base.den
    within_kept var n c w k = record {
      low = low var.low w.low k.low;
      high = high var.up w.high k.up;
      whole = λ h. let q = w.whole h in (q.0 +ℤ pos t *ℤ c, multiple q.0 (pos t) base.den q.1);
    }
      where
        low : (o : Option ℤ) → IfSome o (λ b. (b *ℤ base.den) ≤ℤ n) → IfSome o (λ b. (pos 0) ≤ℤ c)
            → IfSome o (λ b. (b *ℤ base.den) ≤ℤ (n +ℤ reach *ℤ c))
        low None h k = tt
        low (Some b) h k = let p = nonneg_times reach c reach_nonneg k in omega (arith, ints, p, h)

        high : (o : Option ℤ) → IfSome o (λ b. n ≤ℤ (b *ℤ base.den)) → IfSome o (λ b. c ≤ℤ (pos 0))
            → IfSome o (λ b. (n +ℤ reach *ℤ c) ≤ℤ (b *ℤ base.den))
        high None h k = tt
        high (Some b) h k =
            let p = nonneg_times reach (neg_ℤ c) reach_nonneg (omega (arith, ints, k)) in
            let e = neg-mul_right reach c in
            omega (arith, ints, p, e, h)

        multiple : (k m d : ℤ) → n ≡ k *ℤ d → n +ℤ (m *ℤ d) *ℤ c ≡ (k +ℤ m *ℤ c) *ℤ d
        multiple k m d e = rw e (simp spread)

    row_kept : (row : RowOf) → RowHolds base row → KeepsRow dir row
        → RowHolds (moved base dir t) row
    row_kept row holds keeps =
        let p = nonneg_times reach (neg_ℤ (along row.coef dir)) reach_nonneg
        (omega (arith, ints, keeps)) in
        let e = neg-mul_right reach (along row.coef dir) in
        let s = sum_moved row.coef in
        omega (arith, ints, p, e, s, holds)

    pair_kept : (pair : PairOf) → PairHolds base pair → KeepsPair base dir pair
        → (pos 0) ≤ℤ change_of dir pair.var → PairHolds (moved base dir t) pair
    pair_kept pair holds keeps rises =
        let p = nonneg_times reach (change_of dir pair.var) reach_nonneg rises in
        let q = nonneg_times reach (along pair.coef dir) reach_nonneg keeps.0 in
        let n = num_moved pair.var in
        let s = slack_moved pair in
        let h = holds.0 in
        let k = holds.1 in
        (omega (arith, ints, p, n, h), omega (arith, ints, q, s, k), stays keeps.1)
      where
        none : (a b : ℤ) → a ≡ pos 0 → b ≡ pos 0 → a +ℤ reach *ℤ b ≡ pos 0
        none a b e f = rw (e, f) (omega (arith, ints))

        stays : ((num_of base pair.var ≡ pos 0) × (change_of dir pair.var ≡ pos 0))
            ⊎ ((slack pair base ≡ pos 0) × (along pair.coef dir ≡ pos 0))
            → (num_of (moved base dir t) pair.var ≡ pos 0) ⊎ (slack pair (moved base dir t) ≡ pos 0)
        stays (inl z) = inl (num_moved pair.var ∙ none _ _ z.0 z.1)
        stays (inr z) = inr (slack_moved pair ∙ none _ _ z.0 z.1)

    change_rises : (v : ℕ) → v < length player.vars → IsFromZero player.vars v
        → (pos 0) ≤ℤ change_of dir v
    change_rises v h zero_low =
        let f = at_number player.vars v h in
        subst (λ (o : Option ℤ). IfSome o (λ low. (pos 0) ≤ℤ change_of dir v)) (zero_low f.0 f.1)
        (ray.bounds v f.0 f.1).low

    pub leads : All (IsPairForm (length player.vars)) player.pairs
        → All (λ pair. IsFromZero player.vars pair.var) player.pairs
        → IsFeasible player (moved base dir t)
    leads forms from_zero = record {
      point = ray.base_is.point;
      len = length_moved reach base.num dir len ∙ ray.base_is.len;
      bounds = λ v var e. subst (λ n. IsWithin var n base.den) (sym (num_moved v))
          (within_kept var (num_of base v) (change_of dir v) (ray.base_is.bounds v var e)
          (ray.bounds v var e));
      rows = λ k d h. row_kept (get_or player.rows k d) (ray.base_is.rows k d h) (ray.rows k d h);
      pairs = λ k d h. pair_kept (get_or player.pairs k d) (ray.base_is.pairs k d h)
          (ray.pairs k d h) (change_rises (get_or player.pairs k d).var (forms k d h).var
          (from_zero k d h));
    }

-- ---- a direction that leads to feasible points

module _ (player : PlayerOf) (base : PointOf) (dir : Direction)
    (base_len : length base.num ≡ length player.vars) (len : length dir ≡ length player.vars)
    (stays : StaysFeasible player base dir) where
  same_len : length base.num ≡ length dir
  same_len = base_len ∙ sym len

  positive : (pos 0) <ℤ base.den
  positive = (stays 0).point

  at_base : moved base dir 0 ≡ base
  at_base =
      let z : pos 0 *ℤ base.den ≡ pos 0 = omega (arith, ints) in
      ap (λ (n : List ℤ). record { num = n; den = base.den })
      (still (pos 0 *ℤ base.den) base.num dir z same_len)

  one_by_one : (t : ℕ) (n c : ℤ) → n +ℤ (pos t *ℤ base.den) *ℤ c ≡ n +ℤ pos t *ℤ (base.den *ℤ c)
  one_by_one t n c = ap (λ z. n +ℤ z) (mul_assoc (pos t) base.den c)

  -- a number n of the base after t steps by the change c
  abbrev after : ℤ → ℤ → ℕ → ℤ
  after n c t = n +ℤ pos t *ℤ (base.den *ℤ c)

  bounds_kept : (var : VarOf) (n c : ℤ) → ((t : ℕ) → IsWithin var (after n c t) base.den)
      → KeepsBounds var c
  bounds_kept var n c within = record {
    low = low var.low (λ t. (within t).low);
    up = up var.up (λ t. (within t).high);
  }
    where
      low : (o : Option ℤ) → ((t : ℕ) → IfSome o (λ b. (b *ℤ base.den) ≤ℤ after n c t))
          → IfSome o (λ b. (pos 0) ≤ℤ c)
      low None h = tt
      low (Some b) h =
          positive_times base.den c positive (never_falls n (base.den *ℤ c) (b *ℤ base.den) h)

      up : (o : Option ℤ) → ((t : ℕ) → IfSome o (λ b. after n c t ≤ℤ (b *ℤ base.den)))
          → IfSome o (λ b. c ≤ℤ (pos 0))
      up None h = tt
      up (Some b) h =
          negative_times base.den c positive (never_rises n (base.den *ℤ c) (b *ℤ base.den) h)

  keeps_bounds : (v : ℕ) (var : VarOf) → slice_get player.vars v ≡ Some var
      → KeepsBounds var (change_of dir v)
  keeps_bounds v var e =
      let n = num_of base v in
      let c = change_of dir v in
      let moved_to = λ (t : ℕ). num_moved base dir same_len t v ∙ one_by_one t n c in
      bounds_kept var n c
      (λ t. subst (λ z. IsWithin var z base.den) (moved_to t) ((stays t).bounds v var e))

  keeps_row : (row : RowOf) → ((t : ℕ) → RowHolds (moved base dir t) row) → KeepsRow dir row
  keeps_row row h =
      let a = along row.coef dir in
      let s = sum_products (products row.coef base.num) in
      negative_times base.den a positive (never_rises s (base.den *ℤ a) (row.le *ℤ base.den)
      (λ t. subst (λ z. z ≤ℤ (row.le *ℤ base.den)) (sum_moved base dir same_len t row.coef ∙
      one_by_one t s a) (h t)))

  keeps_pair : (pair : PairOf) → ((t : ℕ) → PairHolds (moved base dir t) pair)
      → KeepsPair base dir pair
  keeps_pair pair h =
      let a = along pair.coef dir in
      let s = slack pair base in
      let n = num_of base pair.var in
      let c = change_of dir pair.var in
      let slacks = λ (t : ℕ). slack_moved base dir same_len t pair ∙ one_by_one t s a in
      let nums = λ (t : ℕ). num_moved base dir same_len t pair.var ∙ one_by_one t n c in
      let rises = never_falls s (base.den *ℤ a) (pos 0)
      (λ t. subst (λ z. (pos 0) ≤ℤ z) (slacks t) (h t).1) in
      let either = two_of_three n (base.den *ℤ c) s (base.den *ℤ a)
      (λ t. ⊎_elim (λ (z : num_of (moved base dir t) pair.var ≡ pos 0). inl (sym (nums t) ∙ z))
      (λ (z : slack pair (moved base dir t) ≡ pos 0). inr (sym (slacks t) ∙ z)) (h t).2) in
      let first = λ (z : (n ≡ pos 0) × (base.den *ℤ c ≡ pos 0)). inl (
        z.0,
        times_zero base.den c positive z.1,
      ) in
      let second = λ (z : (s ≡ pos 0) × (base.den *ℤ a ≡ pos 0)). inr (
        z.0,
        times_zero base.den a positive z.1,
      ) in
      (positive_times base.den a positive rises, ⊎_elim first second either)

  pub is_ray : IsRay player base dir
  is_ray = record {
    base_is = subst (IsFeasible player) at_base (stays 0);
    len = len;
    bounds = keeps_bounds;
    rows = λ k d h. keeps_row (get_or player.rows k d) (λ t. (stays t).rows k d h);
    pairs = λ k d h. keeps_pair (get_or player.pairs k d) (λ t. (stays t).pairs k d h);
  }
