-- The strategies that a solution draws, and their means.
use Rattle.std.proofs.Common.{◌≡◌, ◌≢◌, ℕ, zero, suc, ◌<◌, ◌≤◌, arith, refl, sym, subst, ℤ, pos, ◌<ℤ◌, int_lt, Bool, true, false, [], ◌∷◌, length, length-append, ⊎_elim, if◌then◌else◌, ◌==◌}
use Rattle.std.proofs.lemmas.Bool.{cases_eq}
use Rattle.std.proofs.lemmas.Bool.Decides.{nat_tests}
use Rattle.std.proofs.lemmas.Int.{ints}
use Rattle.zr_base.specs.Points.{PointOf}
use Rattle.zr_base.specs.Sums.{sum_to}
use Rattle.zr_base.proofs.Members.{each_back}
use Rattle.zr_base.proofs.Worth.{Each, Worth}
use Rattle.zr_game.specs.Means.{mean}
use Rattle.zr_game.specs.Players.{GameOf}
use Rattle.zr_game.specs.Profiles.{IsStrategyOver, Strategy}
use Rattle.zr_game.specs.declared.choice.Choice.TheVariants as AChoice
use Rattle.zr_game.specs.declared.kind.Kind.{Kind}
use Rattle.zr_system.specs.declared.unknown.Unknown.{Unknown}
use Rattle.zr_system.specs.declared.unknown.Unknown.TheVariants.{One, Weight}
use Rattle.zr_system.specs.Covers.{AreCovers, LiesIn}
use Rattle.zr_system.specs.Drawn.{drawn_part, drawn_strategy, drawn_to}
use Rattle.zr_system.specs.Lines.{base_lines, off_lines, other_lines, reach_lines}
use Rattle.zr_system.specs.Regions.{LeavesOf, is_exact, leaf_count}
use Rattle.zr_system.proofs.Joined.{of_each_to, of_each_unless}
use Rattle.zr_system.proofs.Meeting.{Feasible, LineHolds, Meets, MeetsChoices}
use Rattle.zr_convex.proofs.CrossSums.{player_is}
use Rattle.zr_convex.proofs.Levels.{all_weights, off_share, off_weight, slot_row, weight_nonneg}
use Rattle.zr_convex.proofs.Parts.{AreShares, mean_is, share_at, strategy_over}

test_above : (z : ℤ) → (pos 0) <ℤ z → int_lt (pos 0) z ≡ true
test_above z h = by (int_lt (pos 0) z) refl
  where
    by : (b : Bool) → int_lt (pos 0) z ≡ b → int_lt (pos 0) z ≡ true
    by true e = e
    by false e = absurd (omega (arith, ints, e, h))

test_zero : (z : ℤ) → z ≡ pos 0 → int_lt (pos 0) z ≡ false
test_zero z h = by (int_lt (pos 0) z) refl
  where
    by : (b : Bool) → int_lt (pos 0) z ≡ b → int_lt (pos 0) z ≡ false
    by false e = e
    by true e = absurd (omega (arith, ints, e, h))

module _ (game : GameOf) (leaves : LeavesOf) (kind : Kind) (x : Unknown → ℤ)
    (base : Each (LineHolds game leaves x) (base_lines game leaves))
    (choices : MeetsChoices game leaves kind x)
    (exact : (i k : ℕ) → i < length game → k < leaf_count leaves i → is_exact leaves i k ≡ true)
    (covers : AreCovers game leaves) (positive : (pos 0) <ℤ x One) where
  module _ (i : ℕ) (player : i < length game) where
    abbrev parts : ℕ → Strategy
    parts n = drawn_to game x i n

    abbrev one_part : ℕ → Strategy
    one_part n = if int_lt (pos 0) (x (Weight i n)) then drawn_part game x i n ∷ [] else []

    are : AreShares game leaves x i
    are = record {
      weight = weight_nonneg game leaves kind x base choices exact i player;
      slot = slot_row game leaves kind x base choices exact i player;
      none = λ k inside none v h.
          ⊎_elim (λ (on : Meets game leaves x (AChoice.On i k)). absurd (let a = on.0 in
          omega (arith, ints, a, none)))
          (λ (off : Meets game leaves x (AChoice.Off i k)).
          off_share game leaves kind x base choices exact i player k inside off v h)
          (choices.leaf i k player inside);
    }

    feasible : (k : ℕ) → k < leaf_count leaves i → (p : PointOf) → LiesIn game leaves i k p
        → Feasible game i p
    feasible k inside p l =
        (covers i _ (player_is game i player)).settled k inside (exact i k player inside) p l

    pub strategy : IsStrategyOver (Feasible game i) (drawn_strategy game leaves x i)
    strategy =
        strategy_over game leaves x i are (Feasible game i) feasible (x One) positive
        (all_weights game leaves kind x base choices exact i player)

    -- the mean is the sum of the shares
    pub mean_of_shares : (v : ℕ) → Worth (x One) (mean (drawn_strategy game leaves x i) v)
        (sum_to (leaf_count leaves i) (λ k. share_at game x i k v))
    mean_of_shares =
        mean_is game leaves x i are (Feasible game i) feasible (x One) positive
        (all_weights game leaves kind x base choices exact i player)

    -- for the pure kind one leaf draws a part
    module _ (c : (k : ℕ) × (k < leaf_count leaves i) × Meets game leaves x (AChoice.Which i k))
      where
        chosen : (pos 0) <ℤ x (Weight i c.0)
        chosen = let a = c.2.0 in omega (arith, ints, a, positive)

        other : (l : ℕ) → l < leaf_count leaves i → l ≢ c.0 → x (Weight i l) ≡ pos 0
        other l h n =
            let e : (l == c.0) ≡ false = grind (arith, nat_tests) in
            off_weight game leaves kind x base choices exact i player l h
            (of_each_unless (LineHolds game leaves x) (l == c.0) (off_lines game i l) e
            (of_each_to (LineHolds game leaves x) (leaf_count leaves i)
            (λ m. if m == c.0 then [] else off_lines game i m)
            (each_back (LineHolds game leaves x) (reach_lines leaves i c.0)
            (other_lines game leaves i c.0) c.2.1) l h))

        counted : (n : ℕ) → n ≤ leaf_count leaves i → (n ≤ c.0 → length (parts n) ≡ 0)
            × (c.0 < n → length (parts n) ≡ 1)
        counted zero h = ((λ p. refl), λ p. absurd (omega (arith, p)))
        counted (suc n) h =
            let r = counted n (omega (arith, h)) in
            let l = length-append (parts n) (one_part n) in
            ⊎_elim (λ (e : n ≡ c.0). let o = here n e in (
              (λ p. absurd (omega (arith, p, e))),
              λ p. let a = r.0 (omega (arith, e)) in omega (arith, l, a, o),
            )) (λ (d : n ≢ c.0). let o = there n (omega (arith, h)) d in (
              (λ p. let a = r.0 (omega (arith, p)) in omega (arith, l, a, o)),
              λ p. let a = r.1 (omega (arith, p, d)) in omega (arith, l, a, o),
            )) (cases_eq n c.0)
          where
            here : (n : ℕ) → n ≡ c.0 → length (one_part n) ≡ 1
            here n e =
                let u : (pos 0) <ℤ x (Weight i n) =
                subst (λ (k : ℕ). (pos 0) <ℤ x (Weight i k)) (sym e) chosen in
                let t = test_above (x (Weight i n)) u in
                rw t refl

            there : (n : ℕ) → n < leaf_count leaves i → n ≢ c.0 → length (one_part n) ≡ 0
            there n b d =
                let z = test_zero (x (Weight i n)) (other n b d) in
                rw z refl

        pub one_drawn : length (drawn_strategy game leaves x i) ≡ 1
        one_drawn = (counted (leaf_count leaves i) (omega arith)).1 c.1
