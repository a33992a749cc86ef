-- Mixtures of points of a player's leaves are the sums of the shares of solutions of the union rows.
use Rattle.std.proofs.Common.{◌≡◌, ℕ, ◌<◌, arith, sym, ap, subst, ◌∙◌, ℤ, pos, neg_ℤ, ◌*ℤ◌, ◌≤ℤ◌, ◌<ℤ◌, true, false, List, [], ◌∷◌, ◌++◌, map, All, ⊎_elim, inl, inr, if◌then◌else◌}
use Rattle.std.proofs.lemmas.Int.{ints}
use Rattle.zr_base.specs.Fractions.{IsSame, ratio}
use Rattle.zr_base.specs.Points.{PointOf, value_of}
use Rattle.zr_base.specs.Sums.{sum_to}
use Rattle.zr_base.proofs.Dense.{sum_to_same}
use Rattle.zr_base.proofs.Divisors.{mul_positive}
use Rattle.zr_base.proofs.Members.{each_back, each_front, each_join, each_of_all}
use Rattle.zr_base.proofs.Ring.{spread}
use Rattle.zr_base.proofs.Worth.{Each, Worth, worth-same, worth_of_same}
use Rattle.zr_game.specs.Means.{mean}
use Rattle.zr_game.specs.Players.{GameOf}
use Rattle.zr_game.specs.Profiles.{IsStrategyOver, Strategy, total}
use Rattle.zr_game.proofs.CommonDen.{total_positive}
use Rattle.zr_system.specs.declared.line.Line.{Line}
use Rattle.zr_system.specs.declared.line.Line.TheVariants as ALine
use Rattle.zr_system.specs.declared.unknown.Unknown.{Unknown}
use Rattle.zr_system.specs.declared.unknown.Unknown.TheVariants.{One, Worth as WorthOf, Share, Weight, Dual}
use Rattle.zr_system.specs.Drawn.{drawn_strategy}
use Rattle.zr_system.specs.Forms.{FormHolds, SolvesForms}
use Rattle.zr_system.specs.Lines.{off_lines, row_of_line, slot_lines}
use Rattle.zr_system.specs.Regions.{LeavesOf, is_present, leaf_count, slot_count, slot_number, slot_right, var_count}
use Rattle.zr_system.specs.Unions.{IsMixture, IsOnOrOff, IsSumOfShares, LiesInSome, share_sum, union_lines}
use Rattle.zr_system.proofs.Joined.{all_mapped, each_if, each_to, of_all_mapped, of_each_if, of_each_to}
use Rattle.zr_system.proofs.Meeting.{LineHolds}
use Rattle.zr_convex.proofs.Dots.{dot}
use Rattle.zr_convex.proofs.Equilibria.{each_part}
use Rattle.zr_convex.proofs.Insides.{in_of_lies, union_of}
use Rattle.zr_convex.proofs.Items.{Fits, Item, Union, found, mean_is as mean_of_items, parts_of, share_nil, share_of, shares, slot_holds, sum_at, sum_over, total_is, weight_nonneg, weight_of, weights}
use Rattle.zr_convex.proofs.Orders.{positive_sign}
use Rattle.zr_convex.proofs.Parts.{AreShares, mean_is, share_at, share_is, strategy_over}

module _ (game : GameOf) (leaves : LeavesOf) (i : ℕ) where
  abbrev Lies : PointOf → Type 0
  Lies = LiesInSome game leaves i

  abbrev all : Union
  all = union_of game leaves i

  abbrev present_slot : ℕ → ℕ → List Line
  present_slot k s = if is_present game leaves i k s then ALine.Slot i k s false ∷ [] else []

  abbrev leaf_rows : ℕ → List Line
  leaf_rows k = slot_lines game leaves i k ++ (ALine.Weight i k false ∷ [])

  abbrev share_rows : ℕ → ℕ → List Line
  share_rows k v = ALine.Share i k v false ∷ (ALine.Share i k v true ∷ [])

  turned : (b w : ℤ) → neg_ℤ b *ℤ w ≡ neg_ℤ (b *ℤ w)
  turned b w = simp spread

  -- the shares of the parts of a mixture
  module _ (m : PointOf) (parts : Strategy) (good : IsStrategyOver Lies parts)
      (same : (v : ℕ) → v < var_count game i → IsSame (mean parts v) (value_of m v)) (s : ℤ)
      (s_positive : (pos 0) <ℤ s) (ts : List Item) (is : parts_of ts ≡ parts)
      (fits : Each (Fits Lies all s) ts) where
    abbrev mixed : Unknown → ℤ
    mixed One = sum_over ts
    mixed (WorthOf j) = pos 0
    mixed (Share j k v) = share_of ts k v
    mixed (Weight j k) = weight_of ts k
    mixed (Dual j k l) = pos 0

    abbrev H : Line → Type 0
    H = LineHolds game leaves mixed

    parts_positive : (pos 0) <ℤ total parts
    parts_positive =
        total_positive parts good.some
        (each_of_all (λ part. (pos 1) ≤ℤ part.weight) parts good.weights)

    over_positive : (pos 0) <ℤ sum_over ts
    over_positive =
        let e = total_is Lies all s ts fits in
        rw (e, is) (mul_positive (total parts) s parts_positive s_positive)

    leaf_holds : (k : ℕ) → Each H (leaf_rows k)
    leaf_holds k =
        each_join H (slot_lines game leaves i k) (ALine.Weight i k false ∷ [])
        (each_to H (slot_count game leaves i k) (present_slot k)
        (λ s below. each_if H (is_present game leaves i k s) (ALine.Slot i k s false ∷ [])
        (λ e. (slot_row s below, tt))))
        (let w = weight_nonneg Lies all s k ts fits in omega (arith, ints, w), tt)
      where
        slot_row : (j : ℕ) → j < slot_count game leaves i k → H (ALine.Slot i k j false)
        slot_row j below =
            let r = slot_holds Lies all s k j below ts fits in
            let t = turned (slot_right game leaves i k j) (weight_of ts k) in
            omega (arith, ints, r, t)

    solves : SolvesForms (map (row_of_line game leaves) (union_lines game leaves i)) mixed
    solves =
        let w = weights Lies all s ts fits in (
          over_positive,
          all_mapped (row_of_line game leaves) (FormHolds mixed)
              (union_lines game leaves i) (
                omega (arith, ints, w),
                (
                  omega (arith, ints, w),
                  each_to H (leaf_count leaves i) leaf_rows (λ k h. leaf_holds k),
                ),
              ),
        )

    on_or_off : (k : ℕ) → IsOnOrOff game leaves mixed i k
    on_or_off k =
        ⊎_elim (λ (none : weight_of ts k ≡ pos 0). inr (all_mapped (row_of_line game leaves)
        (FormHolds mixed) (off_lines game i k) (
          omega (arith, ints, none),
          each_to H
              (var_count game i) (share_rows k) (λ v h. no_share v none),
        )))
        (λ (used : (pos 0) <ℤ weight_of ts k). inl (omega (arith, ints, used)))
        (positive_sign (weight_of ts k) (weight_nonneg Lies all s k ts fits))
      where
        no_share : (v : ℕ) → weight_of ts k ≡ pos 0 → Each H (share_rows k v)
        no_share v none =
            let z = share_nil Lies all s k ts v fits none in
            (omega (arith, ints, z), (omega (arith, ints, z), tt))

    sums : (v : ℕ) → v < var_count game i
        → IsSame (ratio (share_sum leaves mixed i v) (sum_over ts)) (value_of m v)
    sums v h =
        let e = same v h in
        let w = worth_of_same (sum_over ts) (mean parts v) (value_of m v) (sum_at ts v) e.right
        e.cross (subst (λ (p : Strategy). Worth (sum_over ts) (mean p v) (sum_at ts v)) is
        (mean_of_items Lies all s ts v (rw is parts_positive) fits)) in
        record {
          left = over_positive;
          right = e.right;
          cross = ap (λ z. z *ℤ m.den) (shares Lies all s ts v fits) ∙ sym w.equal;
        }

    pub shares_of : IsSumOfShares game leaves i m
    shares_of = (mixed, solves, (λ k h. on_or_off k), sums)

  pub to_shares : (m : PointOf) → IsMixture game leaves i m → IsSumOfShares game leaves i m
  to_shares m h =
      let f = found Lies all (λ p l. (l.1.0, l.1.1, in_of_lies game leaves i l.1.0 p l.1.2)) h.0
      (each_part Lies (λ p l. l.2.point) h.0 h.1) in
      shares_of m h.0 h.1 h.2 f.0 f.1 f.2 f.3 f.4

  -- the parts that the shares of a solution draw
  module _ (x : Unknown → ℤ)
      (solves : SolvesForms (map (row_of_line game leaves) (union_lines game leaves i)) x)
      (sides : (k : ℕ) → k < leaf_count leaves i → IsOnOrOff game leaves x i k) where
    abbrev K : Line → Type 0
    K = LineHolds game leaves x

    rows : Each K (union_lines game leaves i)
    rows = of_all_mapped (row_of_line game leaves) (FormHolds x) (union_lines game leaves i)
        solves.1

    of_leaf : (k : ℕ) → k < leaf_count leaves i → Each K (leaf_rows k)
    of_leaf k h = of_each_to K (leaf_count leaves i) leaf_rows rows.1.1 k h

    are : AreShares game leaves x i
    are = record {
      weight = nonneg;
      slot = slot_row;
      none = λ k inside none v h. ⊎_elim
          (λ (on : FormHolds x (row_of_line game leaves (ALine.Positive i k))). absurd
          (omega (arith, ints, on, none)))
          (λ (off : All (FormHolds x) (map (row_of_line game leaves) (off_lines game i k))).
          no_share k v h (of_all_mapped (row_of_line game leaves) (FormHolds x)
          (off_lines game i k) off)) (sides k inside);
    }
      where
        nonneg : (k : ℕ) → k < leaf_count leaves i → (pos 0) ≤ℤ x (Weight i k)
        nonneg k inside =
            let r = (each_back K (slot_lines game leaves i k) (ALine.Weight i k false ∷ [])
            (of_leaf k inside)).0 in
            omega (arith, ints, r)

        slot_row : (k : ℕ) → k < leaf_count leaves i → (s : ℕ) → s < slot_count game leaves i k
            → is_present game leaves i k s ≡ true
            → (dot (var_count game i) (slot_number game leaves i k s) (λ v. x (Share i k v))) ≤ℤ
            (slot_right game leaves i k s *ℤ x (Weight i k))
        slot_row k inside s below there =
            let r = (of_each_if K (is_present game leaves i k s) (ALine.Slot i k s false ∷ []) there
            (of_each_to K (slot_count game leaves i k) (present_slot k)
            (each_front K (slot_lines game leaves i k) (ALine.Weight i k false ∷ [])
            (of_leaf k inside)) s below)).0 in
            let t = turned (slot_right game leaves i k s) (x (Weight i k)) in
            omega (arith, ints, r, t)

        no_share : (k v : ℕ) → v < var_count game i → Each K (off_lines game i k)
            → x (Share i k v) ≡ pos 0
        no_share k v h off =
            let z = of_each_to K (var_count game i) (share_rows k) off.1 v h in
            let a = z.0 in
            let b = z.1.0 in
            omega (arith, ints, a, b)

    all_weights : sum_to (leaf_count leaves i) (λ k. x (Weight i k)) ≡ x One
    all_weights = let a = rows.0 in let b = rows.1.0 in omega (arith, ints, a, b)

    pub mixture_of : (m : PointOf) → ((v : ℕ) → v < var_count game i
        → IsSame (ratio (share_sum leaves x i v) (x One)) (value_of m v))
        → IsMixture game leaves i m
    mixture_of m sums = (
      drawn_strategy game leaves x i,
      strategy_over game leaves x i are Lies
          (λ k inside p l. (k, inside, l)) (x One) solves.0 all_weights,
      same,
    )
      where
        same : (v : ℕ) → v < var_count game i
            → IsSame (mean (drawn_strategy game leaves x i) v) (value_of m v)
        same v h =
            let e = sums v h in
            let w = mean_is game leaves x i are Lies (λ k inside p l. (k, inside, l)) (x One)
            solves.0 all_weights v in
            let s = sum_to_same (leaf_count leaves i) (λ k. share_at game x i k v)
            (λ k. x (Share i k v)) (λ k p. share_is game x i k v h) in
            record {
              left = w.below;
              right = e.right;
              cross = worth-same (x One) (mean (drawn_strategy game leaves x i) v) (value_of m v)
                  (sum_to (leaf_count leaves i) (λ k. share_at game x i k v)) solves.0 w
                  (record { below = e.right; equal = sym e.cross ∙ ap (λ z. z *ℤ m.den) (sym s) });
            }

  pub to_mixture : (m : PointOf) → IsSumOfShares game leaves i m → IsMixture game leaves i m
  to_mixture m h = mixture_of h.0 h.1 h.2 m h.3
