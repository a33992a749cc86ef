-- What a solution draws may be tidied: its weights sum to the common denominator.
use Rattle.std.proofs.Common.{◌≡◌, ℕ, zero, suc, ◌<◌, arith, refl, ap, ◌∙◌, ℤ, pos, ◌+ℤ◌, ◌≤ℤ◌, ◌<ℤ◌, int_lt, Bool, true, false, List, [], ◌∷◌, ◌++◌, length, if◌then◌else◌}
use Rattle.std.proofs.lemmas.Int.{ints}
use Rattle.zr_base.specs.Steps.{IsNarrow}
use Rattle.zr_base.specs.Sums.{sum_to}
use Rattle.zr_base.proofs.Members.{each_back, each_front, each_of_all, each_weaker}
use Rattle.zr_base.proofs.Worth.{Each}
use Rattle.zr_game.specs.Forms.{IsGame}
use Rattle.zr_game.specs.Players.{GameOf}
use Rattle.zr_game.specs.Profiles.{IsStrategyOver, Strategy, total}
use Rattle.zr_game.specs.declared.choice.Choice.{Choice}
use Rattle.zr_game.specs.declared.kind.Kind.{Kind}
use Rattle.zr_system.specs.declared.unknown.Unknown.{Unknown}
use Rattle.zr_system.specs.declared.unknown.Unknown.TheVariants.{One, Weight}
use Rattle.zr_system.specs.Choices.{SolvesComplete}
use Rattle.zr_system.specs.Covers.{AreCovers, AreExact}
use Rattle.zr_system.specs.Drawn.{drawn_part, drawn_strategy, drawn_to}
use Rattle.zr_system.specs.Forms.{FormHolds}
use Rattle.zr_system.specs.Lines.{all_lines, base_lines, path_lines, row_of_line}
use Rattle.zr_system.specs.Regions.{LeavesOf, leaf_count, player_at, var_count}
use Rattle.zr_system.proofs.Joined.{all_of_each, of_all_mapped}
use Rattle.zr_system.proofs.Meeting.{Feasible, LineHolds, MeetsChoices}
use Rattle.zr_refute.proofs.NoSolutions.{sides}
use Rattle.zr_convex.proofs.CrossSums.{player_is}
use Rattle.zr_convex.proofs.Drawing.{strategy}
use Rattle.zr_convex.proofs.Levels.{all_weights, weight_nonneg}
use Rattle.zr_tidy.specs.Tidy.{AreParts, width}

total_join : (xs ys : Strategy) → total (xs ++ ys) ≡ total xs +ℤ total ys
total_join [] ys = omega (arith, ints)
total_join (x ∷ xs) ys = let r = total_join xs ys in omega (arith, ints, r)

above : (z : ℤ) → int_lt (pos 0) z ≡ true → (pos 0) <ℤ z
above z e = omega (arith, ints, e)

not_above : (z : ℤ) → int_lt (pos 0) z ≡ false → (pos 0) ≤ℤ z → z ≡ pos 0
not_above z e h = omega (arith, ints, e, h)

-- as many numbers as each part's point has, the first one's has
width_is : (n : ℕ) (parts : Strategy) → 0 < length parts
    → Each (λ part. length part.point.num ≡ n) parts → width parts ≡ n
width_is n [] some h = absurd (omega (arith, some))
width_is n (part ∷ parts) some h = h.0

module _ (game : GameOf) (x : Unknown → ℤ) (i : ℕ) where
  -- the weights of the first leaves, each from 0 on
  total_to : (n : ℕ) → ((k : ℕ) → k < n → (pos 0) ≤ℤ x (Weight i k))
      → total (drawn_to game x i n) ≡ sum_to n (λ k. x (Weight i k))
  total_to zero h = refl
  total_to (suc n) h = tested (int_lt (pos 0) (x (Weight i n))) refl
      (total_to n (λ k b. h k (omega (arith, b))))
    where
      one : Strategy
      one = if int_lt (pos 0) (x (Weight i n)) then drawn_part game x i n ∷ [] else []

      joined : (w : ℤ) → total one ≡ w
          → total (drawn_to game x i n) ≡ sum_to n (λ k. x (Weight i k))
          → total (drawn_to game x i (suc n)) ≡ sum_to n (λ k. x (Weight i k)) +ℤ w
      joined w e rest =
          total_join (drawn_to game x i n) one ∙ ap (λ z. z +ℤ total one) rest
          ∙ ap (λ z. sum_to n (λ k. x (Weight i k)) +ℤ z) e

      tested : (b : Bool) → int_lt (pos 0) (x (Weight i n)) ≡ b
          → total (drawn_to game x i n) ≡ sum_to n (λ k. x (Weight i k))
          → total (drawn_to game x i (suc n)) ≡ sum_to (suc n) (λ k. x (Weight i k))
      tested true e rest =
          let o : total one ≡ x (Weight i n) = rw e (omega (arith, ints)) in
          joined (x (Weight i n)) o rest
      tested false e rest =
          let z : x (Weight i n) ≡ pos 0 =
          not_above (x (Weight i n)) e (h n (omega arith)) in
          let o : total one ≡ x (Weight i n) = rw e (omega (arith, ints, z)) in
          joined (x (Weight i n)) o rest

module _ (game : GameOf) (form : IsGame game) (leaves : LeavesOf) (covers : AreCovers game leaves)
    (exact : AreExact game leaves) (kind : Kind) (path : List Choice) (x : Unknown → ℤ)
    (solution : SolvesComplete game leaves kind path x) where
  lines : Each (LineHolds game leaves x) (all_lines game leaves path)
  lines = of_all_mapped (row_of_line game leaves) (FormHolds x) (all_lines game leaves path)
      solution.solves.1

  base : Each (LineHolds game leaves x) (base_lines game leaves)
  base = each_front (LineHolds game leaves x) (base_lines game leaves)
      (path_lines game leaves path) lines

  choices : MeetsChoices game leaves kind x
  choices = sides game leaves x solution.solves.0 path (each_back (LineHolds game leaves x)
      (base_lines game leaves) (path_lines game leaves path) lines) kind solution.complete

  module _ (i : ℕ) (player : i < length game) where
    pub over_feasible : IsStrategyOver (Feasible game i) (drawn_strategy game leaves x i)
    over_feasible =
        strategy game leaves kind x base choices exact covers solution.solves.0 i player

    total_is : total (drawn_strategy game leaves x i) ≡ x One
    total_is =
        total_to game x i (leaf_count leaves i)
        (λ k inside. weight_nonneg game leaves kind x base choices exact i player k inside)
        ∙ all_weights game leaves kind x base choices exact i player

    pub widths : Each (λ part. length part.point.num ≡ var_count game i)
        (drawn_strategy game leaves x i)
    widths =
        each_weaker (λ part. Feasible game i part.point)
        (λ part. length part.point.num ≡ var_count game i) (drawn_strategy game leaves x i)
        (λ part f. f.len)
        (each_of_all (λ part. Feasible game i part.point) (drawn_strategy game leaves x i)
        over_feasible.points)

    pub are_parts : IsNarrow (x One) → AreParts (drawn_strategy game leaves x i)
    are_parts narrow =
        let parts = drawn_strategy game leaves x i in
        let w = width_is (var_count game i) parts over_feasible.some widths in
        let f = form.players i (player_at game i) (player_is game i player) in
        let v = f.some_var in
        record {
          some = over_feasible.some;
          weights = over_feasible.weights;
          narrow = rw total_is narrow;
          numbers = rw w (omega (arith, v));
          lengths = rw w (all_of_each (λ part. length part.point.num ≡ var_count game i) parts
              widths);
        }
