-- Every equilibrium gives numbers that solve the system and meet one side of each choice.
use Rattle.std.proofs.Common.{◌≡◌, ℕ, ◌<◌, arith, refl, sym, ap, subst, ◌∙◌, ℤ, pos, ◌*ℤ◌, ◌≤ℤ◌, ◌<ℤ◌, Bool, true, false, List, [], ◌∷◌, length}
use Rattle.std.proofs.lemmas.Int.{ints}
use Rattle.std.proofs.Math.IntN.{*ℤ_comm}
use Rattle.zr_base.specs.Fractions.{Fraction, IsAtMost, times}
use Rattle.zr_base.specs.Points.{PointOf, num_of, value_of}
use Rattle.zr_base.proofs.Dense.{sum_to-mul, sum_to_same}
use Rattle.zr_base.proofs.Divisors.{mul_positive}
use Rattle.zr_base.proofs.Members.{each_of_all, each_weaker}
use Rattle.zr_base.proofs.Ring.{spread}
use Rattle.zr_base.proofs.Worth.{Each, Worth, of_at_most, worth-below, worth-times, worth-wider}
use Rattle.zr_game.specs.Forms.{IsGame}
use Rattle.zr_game.specs.Means.{IsBestAlongSlope, along_slope, mean, slope}
use Rattle.zr_game.specs.Players.{GameOf}
use Rattle.zr_game.specs.Profiles.{IsOfKind, IsProfile, IsStrategyOver, Profile, Strategy, strategy_of, total}
use Rattle.zr_game.specs.declared.kind.Kind.{Kind}
use Rattle.zr_game.specs.declared.kind.Kind.TheVariants.{Pure}
use Rattle.zr_game.proofs.CommonDen.{total_positive}
use Rattle.zr_system.specs.declared.unknown.Unknown.{Unknown}
use Rattle.zr_system.specs.declared.unknown.Unknown.TheVariants.{One}
use Rattle.zr_system.specs.Asked.{firsts}
use Rattle.zr_system.specs.Covers.{AreCovers, IsCover}
use Rattle.zr_system.specs.Lines.{base_lines}
use Rattle.zr_system.specs.Regions.{LeavesOf, is_exact, leaf_count, player_at, slot_count, slot_number, slot_right, var_count}
use Rattle.zr_convex.proofs.Common.{choose, common}
use Rattle.zr_convex.proofs.CrossSums.{player_is, worth-slope_of}
use Rattle.zr_convex.proofs.Dots.{dot}
use Rattle.zr_convex.proofs.Duals.{AreDuals, dual, dual_scaled}
use Rattle.zr_convex.proofs.Firsts.{dot_firsts, firsts_length}
use Rattle.zr_convex.proofs.Insides.{in_of_lies, lies_of_in, union_of}
use Rattle.zr_convex.proofs.Items.{Fits, HasDen, IsIn, IsPart, Item, Level, NoLess, all_level, fit_scaled, found, mean_is, parts_of, same_parts, scaled_items, sum_at, sum_over, sum_over_scaled, total_is}
use Rattle.zr_system.proofs.Meeting.{Feasible, LineHolds, MeetsChoices}
use Rattle.zr_convex.proofs.Orders.{cancelled}
use Rattle.zr_convex.proofs.Solution.{Facts, base_holds, choices_hold, least_of, slopes_of, solution, unit_positive}

both : (X : PointOf → Type 0) → ((p : PointOf) → X p → (pos 0) <ℤ p.den) → (parts : Strategy)
    → Each (λ part. (pos 1) ≤ℤ part.weight) parts → Each (λ part. X part.point) parts
    → Each (IsPart X) parts
both X den [] w x = tt
both X den (part ∷ parts) w x =
    ((let a = w.0 in omega (arith, ints, a), (den part.point x.0, x.0)), both X den parts w.1 x.1)

pub each_part : (X : PointOf → Type 0) → ((p : PointOf) → X p → (pos 0) <ℤ p.den)
    → (parts : Strategy) → IsStrategyOver X parts → Each (IsPart X) parts
each_part X den parts s =
    both X den parts (each_of_all (λ part. (pos 1) ≤ℤ part.weight) parts s.weights)
    (each_of_all (λ part. X part.point) parts s.points)

one_item : (ts : List Item) → length (parts_of ts) ≡ 1 → (t : Item) × (ts ≡ t ∷ [])
one_item [] h = absurd (omega arith)
one_item (t ∷ []) h = (t, refl)
one_item (t ∷ u ∷ us) h = absurd (omega arith)

-- the order of two fractions over different denominators, in whole numbers
pub most_over : (f g : Fraction) (n d m e : ℤ) → (pos 0) <ℤ d → (pos 0) <ℤ e → Worth d f n
    → Worth e g m → IsAtMost f g → (n *ℤ e) ≤ℤ (m *ℤ d)
most_over f g n d m e dp ep p q h =
    of_at_most (d *ℤ e) f g (n *ℤ e) (m *ℤ d) (mul_positive d e dp ep) (worth-wider d e f n p)
    (subst (λ (k : ℤ). Worth k g (m *ℤ d)) (*ℤ_comm e d) (worth-wider e d g m q)) h

module _ (game : GameOf) (form : IsGame game) (leaves : LeavesOf) (covers : AreCovers game leaves)
    (kind : Kind) (profile : Profile) (valid : IsProfile game profile)
    (best : IsBestAlongSlope game profile) (of_kind : IsOfKind kind profile) where
  one_part : kind ≡ Pure → (i : ℕ) → i < length game → length (strategy_of profile i) ≡ 1
  one_part e i h = (subst (λ (k : Kind). IsOfKind k profile) e of_kind) i []
      (let l = valid.len in omega (arith, l))

  -- player i's parts with multipliers, whose sum is n
  abbrev IsMixed : ℕ → ℤ → ℤ × List Item → Type 0
  IsMixed i n a = (parts_of a.1 ≡ strategy_of profile i)
      × Each (Fits (Feasible game i) (union_of game leaves i) a.0) a.1 × (sum_over a.1 ≡ n)

  abbrev Mixed : ℕ → ℤ → Type 0
  Mixed i n = (a : ℤ × List Item) × IsMixed i n a

  mixed_scaled : (i : ℕ) (n m : ℤ) → (pos 0) <ℤ m → Mixed i n → Mixed i (n *ℤ m)
  mixed_scaled i n m p h = (
    (h.0.0 *ℤ m, scaled_items m h.0.1),
    (
      same_parts m h.0.1
          ∙ h.1.0,
      fit_scaled (Feasible game i) (union_of game leaves i) h.0.0 m h.0.1 p h.1.1,
      sum_over_scaled m h.0.1 ∙ ap (λ x. x *ℤ m) h.1.2,
    ),
  )

  module _ (i : ℕ) (below : i < length game) where
    cover : IsCover game leaves i (player_at game i)
    cover = covers i (player_at game i) (player_is game i below)

    strategy : IsStrategyOver (Feasible game i) (strategy_of profile i)
    strategy = valid.strategies i (player_at game i) (player_is game i below)

    positive_total : (pos 0) <ℤ total (strategy_of profile i)
    positive_total =
        total_positive (strategy_of profile i) strategy.some
        (each_of_all (λ part. (pos 1) ≤ℤ part.weight) (strategy_of profile i) strategy.weights)

  mixed : (i : ℕ) → i < (length game) → (n : ℤ) × ((pos 0) <ℤ n) × Mixed i n
  mixed i h =
      let parts = strategy_of profile i in
      let X = Feasible game i in
      let u = union_of game leaves i in
      let inside : (p : PointOf) → HasDen X p → (k : ℕ) × (k < leaf_count leaves i)
      × IsIn u k p = λ p f. let l = (cover i h).covers p f.1 in
      (l.0, l.1, in_of_lies game leaves i l.0 p l.2) in
      let f = found X u inside parts (each_part X (λ p e. e.point) parts (strategy i h)) in
      let t = total_is X u f.0 f.2 f.4 in
      let p : (pos 0) <ℤ (total (parts_of f.2) *ℤ f.0) = mul_positive (total (parts_of f.2)) f.0
      (rw f.3 (positive_total i h)) f.1 in
      (sum_over f.2, rw t p, ((f.0, f.2), (f.3, f.4, refl)))

  module _ (n : ℤ) (positive : (pos 0) <ℤ n) (a : ℕ → ℤ × List Item)
      (all_mixed : (i : ℕ) → i < (length game) → IsMixed i n (a i)) where
    abbrev items : ℕ → List Item
    items i = (a i).1

    abbrev scale : ℕ → ℤ
    scale i = (a i).0

    abbrev slopes : ℕ → ℕ → ℤ
    slopes = slopes_of game items n

    abbrev least : ℕ → ℤ
    least = least_of game items n

    means : (k : ℕ) → k < (length game) → (u : ℕ)
        → Worth n (mean (strategy_of profile k) u) (sum_at (items k) u)
    means k h u =
        let m = all_mixed k h in
        let w = mean_is (Feasible game k) (union_of game leaves k) (scale k) (items k) u
        (rw m.0 (positive_total k h)) m.1 in
        subst (λ (parts : Strategy). Worth n (mean parts u) (sum_at (items k) u)) m.0
        (subst (λ (d : ℤ). Worth d (mean (parts_of (items k)) u) (sum_at (items k) u)) m.2 w)

    slope_is : (i v : ℕ) → i < length game → Worth n (slope (player_at game i) profile v)
        (slopes i v)
    slope_is i v h = worth-slope_of game form profile n (λ k u. sum_at (items k) u) means i h v

    bound : (i : ℕ) → i < (length game) → (x : PointOf) → Feasible game i x
        → (least i *ℤ x.den) ≤ℤ (n *ℤ dot (var_count game i) (slopes i) (num_of x))
    bound i h x feasible =
        let player = player_at game i in
        let own = mean (strategy_of profile i) in
        let at_mean = worth-below (n *ℤ n) (var_count game i)
        (λ v. times (slope player profile v) (own v)) (λ v. slopes i v *ℤ sum_at (items i) v)
        (λ v p. worth-times n n (slope player profile v) (own v) (slopes i v)
        (sum_at (items i) v) (slope_is i v h) (means i h v)) in
        let at_x = worth-below (n *ℤ x.den) (var_count game i)
        (λ v. times (slope player profile v) (value_of x v)) (λ v. slopes i v *ℤ num_of x v)
        (λ v p. worth-times n x.den (slope player profile v) (value_of x v) (slopes i v)
        (num_of x v) (slope_is i v h) (record { below = feasible.point; equal = refl })) in
        let l = most_over (along_slope player profile own)
        (along_slope player profile (value_of x)) (least i) (n *ℤ n)
        (dot (var_count game i) (slopes i) (num_of x)) (n *ℤ x.den)
        (mul_positive n n positive positive) (mul_positive n x.den positive feasible.point)
        at_mean at_x (best i player (player_is game i h) x feasible) in
        cancelled n (least i *ℤ x.den) (n *ℤ dot (var_count game i) (slopes i) (num_of x)) positive
        (turned n (least i) x.den (dot (var_count game i) (slopes i) (num_of x)) l)
      where
        turned : (n l o d : ℤ) → (l *ℤ (n *ℤ o)) ≤ℤ (d *ℤ (n *ℤ n))
            → (n *ℤ (l *ℤ o)) ≤ℤ (n *ℤ (n *ℤ d))
        turned n l o d h = let h2 = simp spread at h in omega (arith, ints, h2)

    level : (i : ℕ) → i < (length game) → Each
        (Level (Feasible game i) (union_of game leaves i) (slopes i) (least i) n) (items i)
    level i h =
        let m = all_mixed i h in
        all_level (Feasible game i) (union_of game leaves i) (slopes i) (least i) n (items i)
        (each_weaker (Fits (Feasible game i) (union_of game leaves i) (scale i))
        (NoLess (Feasible game i) (union_of game leaves i) (slopes i) (least i) n) (items i)
        (λ t f. (f.positive, bound i h t.part.point f.part.1.1)) m.1)
        (rw m.2 (*ℤ_comm n (least i)))

    -- multipliers for leaf k of player i, over q
    abbrev IsDual : ℕ → ℕ → ℤ → (ℕ → ℤ) → Type 0
    IsDual i k q y = is_exact leaves i k ≡ true
        → AreDuals (var_count game i) (slot_count game leaves i k) (slot_number game leaves i k)
        (slot_right game leaves i k) (λ v. n *ℤ slopes i v) (least i) q y

    abbrev HasDual : ℕ → ℕ → ℤ → Type 0
    HasDual i k q = (y : ℕ → ℤ) × IsDual i k q y

    dual_more : (i k : ℕ) (q m : ℤ) → (pos 0) <ℤ m → HasDual i k q → HasDual i k (q *ℤ m)
    dual_more i k q m p h = (
      (λ j. m *ℤ h.0 j),
      λ e. dual_scaled (var_count game i) (slot_count game leaves i k)
          (slot_number game leaves i k) (slot_right game leaves i k) (λ v. n *ℤ slopes i v)
          (least i) q m h.0 p (h.1 e),
    )

    dual_found : (i k : ℕ) → i < (length game) → k < (leaf_count leaves i) → (q : ℤ)
        × ((pos 0) <ℤ q) × HasDual i k q
    dual_found i k player below = tested (is_exact leaves i k) refl
      where
        multiple : (x : ℕ → ℤ) → dot (var_count game i) (λ v. n *ℤ slopes i v) x ≡ n *ℤ dot
            (var_count game i) (slopes i) x
        multiple x =
            sum_to_same (var_count game i) (λ v. (n *ℤ slopes i v) *ℤ x v)
            (λ v. n *ℤ (slopes i v *ℤ x v)) (λ v h. simp spread)
            ∙ sum_to-mul (var_count game i) n (λ v. slopes i v *ℤ x v)

        settled : (x : ℕ → ℤ) (o : ℤ) → is_exact leaves i k ≡ true → (pos 0) <ℤ o
            → ((j : ℕ) → j < slot_count game leaves i k
            → (dot (var_count game i) (slot_number game leaves i k j) x) ≤ℤ
            (slot_right game leaves i k j *ℤ o)) → (least i *ℤ o) ≤ℤ dot (var_count game i)
            (λ v. n *ℤ slopes i v) x
        settled x o e positive h =
            let p : PointOf = record { num = firsts (var_count game i) x; den = o } in
            let inside : IsIn (union_of game leaves i) k p = λ j q. subst
            (λ (z : ℤ). z ≤ℤ (slot_right game leaves i k j *ℤ o))
            (sym (dot_firsts (var_count game i) (slot_number game leaves i k j) x)) (h j q) in
            let f = (cover i player).settled k below e p
            (lies_of_in game leaves i k p positive (firsts_length (var_count game i) x) inside)
            in
            let b = bound i player p f in
            subst (λ (z : ℤ). (least i *ℤ o) ≤ℤ z)
            (ap (λ z. n *ℤ z) (dot_firsts (var_count game i) (slopes i) x) ∙ sym (multiple x))
            b

        tested : (b : Bool) → is_exact leaves i k ≡ b → (q : ℤ) × ((pos 0) <ℤ q) × HasDual i k q
        tested true e =
            let p = (cover i player).has_point k below e in
            let d = dual (var_count game i) (slot_count game leaves i k)
            (slot_number game leaves i k) (slot_right game leaves i k) (λ v. n *ℤ slopes i v)
            (least i) (num_of p.0) p.0.den p.1.point (in_of_lies game leaves i k p.0 p.1)
            (λ x o op h. settled x o e op h) in
            (d.0, d.1, (d.2, λ s. d.3))
        tested false e = (pos 1, omega (arith, ints), ((λ j. pos 0), λ s. absurd cc))

    all_duals : (q : ℤ) × ((pos 0) <ℤ q) × ((i : ℕ) → i < (length game) → (k : ℕ)
        → k < (leaf_count leaves i) → HasDual i k q)
    all_duals =
        common (λ i q. (k : ℕ) → k < (leaf_count leaves i) → HasDual i k q)
        (λ i q m p h k inside. dual_more i k q m p (h k inside)) (length game)
        (λ i player. common (HasDual i) (dual_more i) (leaf_count leaves i)
        (λ k inside. dual_found i k player inside))

    abbrev Solved : Type 0
    Solved =
        (x : Unknown → ℤ) × ((pos 0) <ℤ x One) × Each (LineHolds game leaves x)
        (base_lines game leaves) × MeetsChoices game leaves kind x

    module _ (q : ℤ) (q_positive : (pos 0) <ℤ q) (y : ℕ → ℕ → ℕ → ℤ)
        (duals : (i : ℕ) → i < (length game) → (k : ℕ) → k < (leaf_count leaves i)
        → IsDual i k q (y i k)) where
      facts : Facts game leaves kind items scale n q (n *ℤ q) y
      facts = record {
        form = form;
        n_positive = positive;
        q_positive = q_positive;
        product = refl;
        fits = λ i h. (all_mixed i h).1;
        over = λ i h. (all_mixed i h).2;
        bound = bound;
        level = level;
        named = λ i h. (cover i h).named;
        duals = λ i k h inside e. duals i h k inside e;
        single = λ yes i h. one_item (items i) (rw (all_mixed i h).0 (one_part yes i h));
      }

      solved : Solved
      solved = (
        solution game leaves kind items scale n q (n *ℤ q) y,
        unit_positive game leaves kind
            items scale n q (n *ℤ q) y facts,
        base_holds game leaves kind items scale n q
            (n *ℤ q) y facts,
        choices_hold game leaves kind items scale n q (n *ℤ q) y facts,
      )

    with_duals : Solved
    with_duals =
        let d = all_duals in
        let y = choose (λ i f. (k : ℕ) → k < (leaf_count leaves i) → IsDual i k d.0 (f k))
        (λ k j. pos 0) (length game) (λ i h. choose (λ k. IsDual i k d.0) (λ j. pos 0)
        (leaf_count leaves i) (d.2 i h)) in
        solved d.0 d.1 y.0 y.1

  pub equilibrium_solves : (x : Unknown → ℤ) × ((pos 0) <ℤ x One)
      × Each (LineHolds game leaves x) (base_lines game leaves) × MeetsChoices game leaves kind x
  equilibrium_solves =
      let m = common Mixed mixed_scaled (length game) mixed in
      let a = choose (λ i. IsMixed i m.0) (pos 0, []) (length game) m.2 in
      with_duals m.0 m.1 a.0 a.1
