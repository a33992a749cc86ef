-- Parts with whole multipliers, each in a leaf, and their shares of the leaves.
use Rattle.std.proofs.Common.{◌≡◌, ◌≢◌, ℕ, ◌<◌, arith, refl, sym, ap, ap₂, subst, ◌∙◌, ℤ, pos, ◌+ℤ◌, ◌-ℤ◌, ◌*ℤ◌, ◌≤ℤ◌, ◌<ℤ◌, List, [], ◌∷◌, ⊎_elim, if◌then◌else◌, ◌==◌}
use Rattle.std.proofs.lemmas.Int.{ints}
use Rattle.std.proofs.lemmas.Bool.{cases_eq}
use Rattle.std.proofs.lemmas.Bool.Decides.{nat_tests}
use Rattle.std.proofs.Math.IntN.{*ℤ_comm}
use Rattle.zr_base.specs.Fractions.{times, whole}
use Rattle.zr_base.specs.Points.{PointOf, num_of, value_of}
use Rattle.zr_base.specs.Sums.{sum_to}
use Rattle.zr_base.proofs.Dense.{sum_to-add, sum_to_at, sum_to_zero}
use Rattle.zr_base.proofs.Divisors.{mul_positive}
use Rattle.zr_base.proofs.Ring.{spread}
use Rattle.zr_base.proofs.Worth.{Each, Worth, worth-over, worth-plus, worth-zero}
use Rattle.zr_game.specs.Means.{mean}
use Rattle.zr_game.specs.Profiles.{Part, Strategy, total, weighted}
use Rattle.zr_convex.proofs.Dots.{dot, dot_add, dot_mul, dot_zero}
use Rattle.zr_convex.proofs.Orders.{cancelled_same, nonneg_mul, scaled}

-- leaves by their rows: leaf k has so many slots, slot j of which is `coef k j * x <= le k j`
pub record Union : Type 0 where
  pub vars : ℕ
  pub leaves : ℕ
  pub slots : ℕ → ℕ
  pub coef : ℕ → ℕ → ℕ → ℤ
  pub le : ℕ → ℕ → ℤ

-- the point meets leaf k's rows
abbrev pub IsIn : Union → ℕ → PointOf → Type 0
IsIn u k p = (j : ℕ) → j < u.slots k → (dot u.vars (u.coef k j) (num_of p)) ≤ℤ (u.le k j *ℤ p.den)

abbrev pub HasDen : (PointOf → Type 0) → PointOf → Type 0
HasDen X p = ((pos 0) <ℤ p.den) × X p

abbrev pub IsPart : (PointOf → Type 0) → Part → Type 0
IsPart X part = ((pos 0) <ℤ part.weight) × HasDen X part.point

-- a part, its multiplier and its leaf
pub record Item : Type 0 where
  pub part : Part
  pub scale : ℤ
  pub leaf : ℕ

abbrev pub parts_of : List Item → Strategy
parts_of [] = []
parts_of (t ∷ ts) = t.part ∷ parts_of ts

-- the item's multiplier in leaf k
abbrev pub lot : Item → ℕ → ℤ
lot t k = if t.leaf == k then t.scale else pos 0

abbrev pub share_of : List Item → ℕ → ℕ → ℤ
share_of [] k v = pos 0
share_of (t ∷ ts) k v = lot t k *ℤ num_of t.part.point v +ℤ share_of ts k v

abbrev pub weight_of : List Item → ℕ → ℤ
weight_of [] k = pos 0
weight_of (t ∷ ts) k = lot t k *ℤ t.part.point.den +ℤ weight_of ts k

abbrev pub sum_at : List Item → ℕ → ℤ
sum_at [] v = pos 0
sum_at (t ∷ ts) v = t.scale *ℤ num_of t.part.point v +ℤ sum_at ts v

abbrev pub sum_over : List Item → ℤ
sum_over [] = pos 0
sum_over (t ∷ ts) = t.scale *ℤ t.part.point.den +ℤ sum_over ts

-- the multiplier stands for the weight multiplied s, and the point lies in the leaf
pub record Fits (X : PointOf → Type 0) (u : Union) (s : ℤ) (t : Item) : Type 0 where
  pub positive : (pos 0) <ℤ t.scale
  pub same : t.scale *ℤ t.part.point.den ≡ t.part.weight *ℤ s
  pub part : IsPart X t.part
  pub leaf : t.leaf < u.leaves
  pub inside : IsIn u t.leaf t.part.point

abbrev pub scaled_items : ℤ → List Item → List Item
scaled_items m [] = []
scaled_items m (t ∷ ts) = record { part = t.part; scale = t.scale *ℤ m; leaf = t.leaf } ∷
    scaled_items m ts

pub same_parts : (m : ℤ) (ts : List Item) → parts_of (scaled_items m ts) ≡ parts_of ts
same_parts m [] = refl
same_parts m (t ∷ ts) = ap (λ ps. t.part ∷ ps) (same_parts m ts)

swapped : (a b s m : ℤ) → a *ℤ b ≡ s → (a *ℤ m) *ℤ b ≡ s *ℤ m
swapped a b s m e = let f : (a *ℤ m) *ℤ b ≡ (a *ℤ b) *ℤ m = simp spread in f ∙ ap (λ x. x *ℤ m) e

module _ (X : PointOf → Type 0) (u : Union) where
  pub fit_scaled : (s m : ℤ) (ts : List Item) → (pos 0) <ℤ m → Each (Fits X u s) ts
      → Each (Fits X u (s *ℤ m)) (scaled_items m ts)
  fit_scaled s m [] p h = tt
  fit_scaled s m (t ∷ ts) p h = (
    record {
      positive = mul_positive t.scale m h.0.positive p;
      same = let f : (t.part.weight *ℤ s) *ℤ m ≡ t.part.weight *ℤ (s *ℤ m) = simp spread in
          swapped t.scale t.part.point.den (t.part.weight *ℤ s) m h.0.same ∙ f;
      part = h.0.part;
      leaf = h.0.leaf;
      inside = h.0.inside;
    },
    fit_scaled s m ts p h.1,
  )

  -- multipliers for the parts of a strategy
  pub found : ((p : PointOf) → HasDen X p → (k : ℕ) × (k < u.leaves) × IsIn u k p)
      → (parts : Strategy) → Each (IsPart X) parts → (s : ℤ) × ((pos 0) <ℤ s) × (ts : List Item)
      × (parts_of ts ≡ parts) × Each (Fits X u s) ts
  found c [] h = (pos 1, omega (arith, ints), [], refl, tt)
  found c (part ∷ parts) h = joined (found c parts h.1) (c part.point h.0.1)
    where
      joined : ((s : ℤ) × ((pos 0) <ℤ s) × (ts : List Item) × (parts_of ts ≡ parts)
          × Each (Fits X u s) ts) → ((k : ℕ) × (k < u.leaves) × IsIn u k part.point) → (s : ℤ)
          × ((pos 0) <ℤ s) × (ts : List Item) × (parts_of ts ≡ (part ∷ parts))
          × Each (Fits X u s) ts
      joined r l = (
        r.0 *ℤ part.point.den,
        mul_positive r.0 part.point.den r.1 h.0.1.0,
        record { part = part; scale = part.weight *ℤ r.0; leaf = l.0 } ∷ scaled_items
            part.point.den r.2,
        ap (λ ps. part ∷ ps) (same_parts part.point.den r.2 ∙ r.3),
        (
          record {
            positive = mul_positive part.weight r.0 h.0.0 r.1;
            same = simp spread;
            part = h.0;
            leaf = l.1;
            inside = l.2;
          },
          fit_scaled r.0 part.point.den r.2 h.0.1.0 r.4,
        ),
      )

  module _ (s : ℤ) where
    -- the sums in whole numbers
    pub total_is : (ts : List Item) → Each (Fits X u s) ts → sum_over ts ≡ total (parts_of ts) *ℤ s
    total_is [] h = omega (arith, ints)
    total_is (t ∷ ts) h =
        let e = h.0.same in
        let r = total_is ts h.1 in
        let f : (t.part.weight +ℤ total (parts_of ts)) *ℤ s ≡ t.part.weight *ℤ s +ℤ total
        (parts_of ts) *ℤ s = simp spread in
        omega (arith, ints, e, r, f)

    pub weighted_is : (ts : List Item) (v : ℕ) → Each (Fits X u s) ts
        → Worth s (weighted (parts_of ts) (λ x. value_of x v)) (sum_at ts v)
    weighted_is [] v h = worth-zero s
    weighted_is (t ∷ ts) v h =
        worth-plus s (times (whole t.part.weight) (value_of t.part.point v))
        (weighted (parts_of ts) (λ x. value_of x v)) (t.scale *ℤ num_of t.part.point v)
        (sum_at ts v) (record {
          below = let p = h.0.part.1.0 in
              omega (arith, ints, p);
          equal = first;
        }) (weighted_is ts v h.1)
      where
        first : (t.part.weight *ℤ num_of t.part.point v) *ℤ s ≡ (t.scale *ℤ num_of t.part.point v)
            *ℤ (pos 1 *ℤ t.part.point.den)
        first =
            let a : (t.part.weight *ℤ num_of t.part.point v) *ℤ s ≡ (t.part.weight *ℤ s) *ℤ num_of
            t.part.point v = simp spread in
            let b : (t.scale *ℤ t.part.point.den) *ℤ num_of t.part.point
            v ≡ (t.scale *ℤ num_of t.part.point v) *ℤ (pos 1 *ℤ t.part.point.den) = simp spread
            (omega (arith, ints)) in
            a ∙ ap (λ x. x *ℤ num_of t.part.point v) (sym h.0.same) ∙ b

    pub mean_is : (ts : List Item) (v : ℕ) → (pos 0) <ℤ total (parts_of ts) → Each (Fits X u s) ts
        → Worth (sum_over ts) (mean (parts_of ts) v) (sum_at ts v)
    mean_is ts v p h =
        subst (λ (d : ℤ). Worth d (mean (parts_of ts) v) (sum_at ts v))
        (*ℤ_comm s (total (parts_of ts)) ∙ sym (total_is ts h))
        (worth-over s (total (parts_of ts)) (weighted (parts_of ts) (λ x. value_of x v))
        (sum_at ts v) p (weighted_is ts v h))

  pub lot_here : (t : Item) (k : ℕ) → t.leaf ≡ k → lot t k ≡ t.scale
  lot_here t k e = grind (arith, nat_tests)

  pub lot_else : (t : Item) (k : ℕ) → t.leaf ≢ k → lot t k ≡ pos 0
  lot_else t k c = grind (arith, nat_tests)

  module _ (s : ℤ) where
    lot_nonneg : (t : Item) (k : ℕ) → Fits X u s t → (pos 0) ≤ℤ lot t k
    lot_nonneg t k h =
        ⊎_elim (λ (e : t.leaf ≡ k). let l = lot_here t k e in let p = h.positive in
        omega (arith, ints, l, p)) (λ (c : t.leaf ≢ k). let l = lot_else t k c in
        omega (arith, ints, l)) (cases_eq t.leaf k)

    -- the union rows
    module _ (k : ℕ) where
      slot_lot : (j : ℕ) (inside : j < u.slots k) (t : Item) → Fits X u s t
          → (lot t k *ℤ dot u.vars (u.coef k j) (num_of t.part.point)) ≤ℤ
          (lot t k *ℤ ((u.le k j) *ℤ t.part.point.den))
      slot_lot j inside t h =
          ⊎_elim (λ (e : t.leaf ≡ k). scaled (lot t k)
          (dot u.vars (u.coef k j) (num_of t.part.point)) ((u.le k j) *ℤ t.part.point.den)
          (lot_nonneg t k h) (subst (λ l. IsIn u l t.part.point) e h.inside j inside))
          (λ (c : t.leaf ≢ k). rw (lot_else t k c) (omega (arith, ints))) (cases_eq t.leaf k)

      pub slot_holds : (j : ℕ) (inside : j < u.slots k) (ts : List Item) → Each (Fits X u s) ts
          → (dot u.vars (u.coef k j) (share_of ts k)) ≤ℤ (u.le k j *ℤ weight_of ts k)
      slot_holds j inside [] h = rw (dot_zero u.vars (u.coef k j)) (omega (arith, ints))
      slot_holds j inside (t ∷ ts) h =
          let a = (u.coef k j) in
          let b = (u.le k j) in
          let e = dot_add u.vars a (λ v. lot t k *ℤ num_of t.part.point v) (share_of ts k) in
          let f = dot_mul u.vars a (lot t k) (num_of t.part.point) in
          let r = slot_holds j inside ts h.1 in
          let l = slot_lot j inside t h.0 in
          let g : b *ℤ (lot t k *ℤ t.part.point.den +ℤ weight_of ts k) ≡ lot t k *ℤ
          (b *ℤ t.part.point.den) +ℤ b *ℤ weight_of ts k = simp spread in
          rw g (omega (arith, ints, e, f, r, l))

      pub weight_nonneg : (ts : List Item) → Each (Fits X u s) ts → (pos 0) ≤ℤ weight_of ts k
      weight_nonneg [] h = omega (arith, ints)
      weight_nonneg (t ∷ ts) h =
          let p = h.0.part.1.0 in
          let a = nonneg_mul (lot t k) t.part.point.den (lot_nonneg t k h.0)
          (omega (arith, ints, p)) in
          let r = weight_nonneg ts h.1 in
          omega (arith, ints, a, r)

      -- no weight, no share
      pub share_nil : (ts : List Item) (v : ℕ) → Each (Fits X u s) ts → weight_of ts k ≡ pos 0
          → share_of ts k v ≡ pos 0
      share_nil [] v h z = refl
      share_nil (t ∷ ts) v h z =
          let p = h.0.part.1.0 in
          let a = nonneg_mul (lot t k) t.part.point.den (lot_nonneg t k h.0)
          (omega (arith, ints, p)) in
          let r = weight_nonneg ts h.1 in
          let rest = share_nil ts v h.1 (omega (arith, ints, a, r, z)) in
          ⊎_elim (λ (e : t.leaf ≡ k). let m = mul_positive t.scale t.part.point.den h.0.positive p
          in let l = ap (λ x. x *ℤ t.part.point.den) (lot_here t k e) in
          absurd (omega (arith, ints, m, l, r, z)))
          (λ (c : t.leaf ≢ k). let l = ap (λ x. x *ℤ num_of t.part.point v) (lot_else t k c) in
          omega (arith, ints, l, rest)) (cases_eq t.leaf k)

    -- over all leaves
    lots : (t : Item) (a : ℤ) → Fits X u s t → sum_to u.leaves (λ k. lot t k *ℤ a) ≡ t.scale *ℤ a
    lots t a h =
        let e = sum_to_at u.leaves t.leaf (λ k. lot t k *ℤ a) (λ k. pos 0) h.leaf
        (λ j c. ap (λ x. x *ℤ a) (lot_else t j (λ (q : t.leaf ≡ j). c (sym q)))
        ∙ omega (arith, ints)) in
        let f = ap (λ x. x *ℤ a) (lot_here t t.leaf refl) in
        let z = sum_to_zero u.leaves in
        omega (arith, ints, e, f, z)

    pub shares : (ts : List Item) (v : ℕ) → Each (Fits X u s) ts
        → sum_to u.leaves (λ k. share_of ts k v) ≡ sum_at ts v
    shares [] v h = sum_to_zero u.leaves
    shares (t ∷ ts) v h =
        sum_to-add u.leaves (λ k. lot t k *ℤ num_of t.part.point v) (λ k. share_of ts k v)
        ∙ ap₂ ◌+ℤ◌ (lots t (num_of t.part.point v) h.0) (shares ts v h.1)

    pub weights : (ts : List Item) → Each (Fits X u s) ts
        → sum_to u.leaves (λ k. weight_of ts k) ≡ sum_over ts
    weights [] h = sum_to_zero u.leaves
    weights (t ∷ ts) h =
        sum_to-add u.leaves (λ k. lot t k *ℤ t.part.point.den) (λ k. weight_of ts k)
        ∙ ap₂ ◌+ℤ◌ (lots t t.part.point.den h.0) (weights ts h.1)

  -- where no point costs less than the mean, each part costs what the mean does
  module _ (g : ℕ → ℤ) (least n : ℤ) where
    abbrev pub NoLess : Item → Type 0
    NoLess t = ((pos 0) <ℤ t.scale) × ((least *ℤ t.part.point.den) ≤ℤ
        (n *ℤ dot u.vars g (num_of t.part.point)))

    abbrev pub Level : Item → Type 0
    Level t = n *ℤ dot u.vars g (num_of t.part.point) ≡ least *ℤ t.part.point.den

    slack : List Item → ℤ
    slack [] = pos 0
    slack (t ∷ ts) = t.scale *ℤ (n *ℤ dot u.vars g (num_of t.part.point) -ℤ least *ℤ
        t.part.point.den) +ℤ slack ts

    first_slack : (t : Item) → NoLess t → (pos 0) ≤ℤ
        (t.scale *ℤ (n *ℤ dot u.vars g (num_of t.part.point) -ℤ least *ℤ t.part.point.den))
    first_slack t h =
        let p = h.0 in let q = h.1 in
        nonneg_mul t.scale (n *ℤ dot u.vars g (num_of t.part.point) -ℤ least *ℤ t.part.point.den)
        (omega (arith, ints, p)) (omega (arith, ints, q))

    slack_nonneg : (ts : List Item) → Each NoLess ts → (pos 0) ≤ℤ slack ts
    unfolding slack
    slack_nonneg [] h = omega (arith, ints)
    slack_nonneg (t ∷ ts) h = let a = first_slack t h.0 in let r = slack_nonneg ts h.1 in
        omega (arith, ints, a, r)

    slack_is : (ts : List Item) → slack ts ≡ n *ℤ dot u.vars g (sum_at ts) -ℤ least *ℤ sum_over ts
    unfolding slack
    slack_is [] = let z = dot_zero u.vars g in rw z (omega (arith, ints))
    slack_is (t ∷ ts) =
        let e = dot_add u.vars g (λ v. t.scale *ℤ num_of t.part.point v) (sum_at ts) in
        let f = dot_mul u.vars g t.scale (num_of t.part.point) in
        let r = slack_is ts in
        rw (e, f, r) (simp spread (omega (arith, ints)))

    level : (ts : List Item) → Each NoLess ts → slack ts ≡ pos 0 → Each Level ts
    unfolding slack
    level [] h e = tt
    level (t ∷ ts) h e =
        let a = first_slack t h.0 in
        let r = slack_nonneg ts h.1 in
        let z : t.scale *ℤ (n *ℤ dot u.vars g (num_of t.part.point) -ℤ least *ℤ t.part.point.den) ≡
        t.scale *ℤ pos 0 = omega (arith, ints, a, r, e) in
        let c = cancelled_same t.scale (n *ℤ dot u.vars g (num_of t.part.point) -ℤ least *ℤ
        t.part.point.den) (pos 0) h.0.0 z in
        (omega (arith, ints, c), level ts h.1 (omega (arith, ints, a, r, e)))

    pub all_level : (ts : List Item) → Each NoLess ts
        → n *ℤ dot u.vars g (sum_at ts) ≡ least *ℤ sum_over ts → Each Level ts
    all_level ts h e = let s = slack_is ts in level ts h (omega (arith, ints, s, e))

    pub share_level : (ts : List Item) (k : ℕ) → Each Level ts
        → n *ℤ dot u.vars g (share_of ts k) ≡ least *ℤ weight_of ts k
    share_level [] k h = let z = dot_zero u.vars g in rw z (omega (arith, ints))
    share_level (t ∷ ts) k h =
        let e = dot_add u.vars g (λ v. lot t k *ℤ num_of t.part.point v) (share_of ts k) in
        let f = dot_mul u.vars g (lot t k) (num_of t.part.point) in
        let r = share_level ts k h.1 in
        let q = ap (λ x. lot t k *ℤ x) h.0 in
        rw (e, f) (let q2 = simp spread at q in simp spread (omega (arith, ints, q2, r)))

pub sum_over_scaled : (m : ℤ) (ts : List Item) → sum_over (scaled_items m ts) ≡ sum_over ts *ℤ m
sum_over_scaled m [] = omega (arith, ints)
sum_over_scaled m (t ∷ ts) =
    let r = sum_over_scaled m ts in
    let e : (t.scale *ℤ m) *ℤ t.part.point.den ≡ (t.scale *ℤ t.part.point.den) *ℤ m = simp spread in
    let f : (t.scale *ℤ t.part.point.den +ℤ sum_over ts) *ℤ m ≡ (t.scale *ℤ t.part.point.den) *ℤ m
    +ℤ sum_over ts *ℤ m = simp spread in
    omega (arith, ints, r, e, f)
