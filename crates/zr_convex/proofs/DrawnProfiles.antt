-- Over exact leaves what a solution draws is an equilibrium, and so is each profile that is alike.
use Rattle.std.proofs.Common.{◌≡◌, ℕ, ◌<◌, arith, refl, sym, ap, subst, ◌∙◌, ℤ, pos, ◌+ℤ◌, ◌*ℤ◌, ◌≤ℤ◌, ◌<ℤ◌, List, [], length}
use Rattle.std.proofs.Math.IntN.{*ℤ_comm}
use Rattle.std.proofs.lemmas.Int.{ints}
use Rattle.std.proofs.lemmas.Option.{slice_get_within}
use Rattle.zr_base.specs.Fractions.{Fraction, IsAtMost, times}
use Rattle.zr_base.specs.Points.{num_of, value_of}
use Rattle.zr_base.specs.Sums.{sum_to}
use Rattle.zr_base.proofs.Dense.{sum_to_same}
use Rattle.zr_base.proofs.Divisors.{mul_positive}
use Rattle.zr_base.proofs.Members.{each_back, each_front}
use Rattle.zr_base.proofs.Ring.{spread}
use Rattle.zr_base.proofs.Worth.{Each, Worth, at_most, worth-below, worth-times, worth-wider, worth_of_same}
use Rattle.zr_game.specs.Equilibria.{IsEquilibrium}
use Rattle.zr_game.specs.Feasible.{IsFeasible}
use Rattle.zr_game.specs.Forms.{IsGame}
use Rattle.zr_game.specs.Means.{IsBestAlongSlope, along_slope, mean, slope}
use Rattle.zr_game.specs.Players.{GameOf, PlayerOf}
use Rattle.zr_game.specs.Profiles.{IsOfKind, IsProfile, IsStrategyOver, Profile, Strategy, strategy_of}
use Rattle.zr_game.specs.declared.choice.Choice.{Choice}
use Rattle.zr_game.specs.declared.kind.Kind.{Kind}
use Rattle.zr_game.specs.declared.kind.Kind.TheVariants.{Mixed, Pure}
use Rattle.zr_game.proofs.MeanLaws.{equilibria}
use Rattle.zr_system.specs.declared.unknown.Unknown.{Unknown}
use Rattle.zr_system.specs.declared.unknown.Unknown.TheVariants.{One, Share, Worth as WorthOf}
use Rattle.zr_system.specs.Alike.{AreAlike}
use Rattle.zr_system.specs.Covers.{AreCovers, AreExact}
use Rattle.zr_system.specs.Drawn.{drawn_profile, drawn_strategy}
use Rattle.zr_system.specs.Choices.{SolvesComplete}
use Rattle.zr_system.specs.Forms.{FormHolds}
use Rattle.zr_system.specs.Lines.{all_lines, base_lines, path_lines, row_of_line}
use Rattle.zr_system.specs.Regions.{LeavesOf, cross_number, leaf_count, own_number, player_at, var_count}
use Rattle.zr_system.proofs.Joined.{of_all_mapped}
use Rattle.zr_system.proofs.Meeting.{Feasible, LineHolds, MeetsChoices}
use Rattle.zr_refute.proofs.NoSolutions.{sides}
use Rattle.zr_convex.proofs.CrossSums.{player_at_is, player_is, worth-slope_of}
use Rattle.zr_convex.proofs.Dots.{dot}
use Rattle.zr_convex.proofs.Drawing.{mean_of_shares, one_drawn, strategy}
use Rattle.zr_convex.proofs.Firsts.{firsts_at, firsts_length}
use Rattle.zr_convex.proofs.Insides.{in_of_lies}
use Rattle.zr_convex.proofs.Levels.{all_level, cost_of, no_less}
use Rattle.zr_convex.proofs.Orders.{scaled}
use Rattle.zr_convex.proofs.Parts.{share_at, share_is}

-- the order of two fractions, in whole numbers over different denominators
most_of : (f g : Fraction) (n d m e : ℤ) → (pos 0) <ℤ d → (pos 0) <ℤ e → Worth d f n
    → Worth e g m → (n *ℤ e) ≤ℤ (m *ℤ d) → IsAtMost f g
most_of f g n d m e dp ep p q h =
    at_most (d *ℤ e) f g (n *ℤ e) (m *ℤ d) (mul_positive d e dp ep) (worth-wider d e f n p)
    (subst (λ (k : ℤ). Worth k g (m *ℤ d)) (*ℤ_comm e d) (worth-wider e d g m q)) h

module _ (game : GameOf) (form : IsGame game) (leaves : LeavesOf) (covers : AreCovers game leaves)
    (exact : AreExact game leaves) (kind : Kind) (x : Unknown → ℤ) (positive : (pos 0) <ℤ x One)
    (base : Each (LineHolds game leaves x) (base_lines game leaves))
    (choices : MeetsChoices game leaves kind x) where
  -- the sum of player k's shares in variable u
  abbrev sums : ℕ → ℕ → ℤ
  sums k u = sum_to (leaf_count leaves k)
      (λ l. share_at game x k l u)

  same_sum : (k u : ℕ) → u < var_count game k
      → sums k u ≡ sum_to (leaf_count leaves k) (λ l. x (Share k l u))
  same_sum k u h =
      sum_to_same (leaf_count leaves k)
      (λ l. share_at game x k l u)
      (λ l. x (Share k l u))
      (λ l p. share_is game x k l u h)

  -- a profile with these means is best along its slopes
  module _ (profile : Profile) (means : (k : ℕ) → k < length game → (u : ℕ)
      → Worth (x One) (mean (strategy_of profile k) u) (sums k u)) where
    slope_is : (i v : ℕ) → i < length game
        → Worth (x One) (slope (player_at game i) profile v) (cost_of game leaves kind x base choices exact i v)
    slope_is i v h =
        subst (λ (z : ℤ). Worth (x One) (slope (player_at game i) profile v) z)
        (ap (λ z. own_number game i v *ℤ x One +ℤ z)
        (sum_to_same (length game) (λ k. sum_to (var_count game k)
        (λ u. cross_number game i v k u *ℤ sums k u)) (λ k. sum_to (var_count game k)
        (λ u. cross_number game i v k u *ℤ sum_to (leaf_count leaves k)
        (λ l. x (Share k l u)))) (λ k p. sum_to_same (var_count game k)
        (λ u. cross_number game i v k u *ℤ sums k u)
        (λ u. cross_number game i v k u *ℤ sum_to (leaf_count leaves k) (λ l. x (Share k l u)))
        (λ u q. ap (λ z. cross_number game i v k u *ℤ z) (same_sum k u q)))))
        (worth-slope_of game form profile (x One) sums means i h v)

    enough : (w u o d : ℤ) → (pos 0) <ℤ u → (w *ℤ o) ≤ℤ d → ((w *ℤ u) *ℤ (u *ℤ o)) ≤ℤ
        (d *ℤ (u *ℤ u))
    enough w u o d p h =
        let s = scaled (u *ℤ u) (w *ℤ o) d (let q = mul_positive u u p p in omega (arith, ints, q))
        h in
        let a : (u *ℤ u) *ℤ (w *ℤ o) ≡ (w *ℤ u) *ℤ (u *ℤ o) = simp spread in
        let b : (u *ℤ u) *ℤ d ≡ d *ℤ (u *ℤ u) = *ℤ_comm (u *ℤ u) d in
        omega (arith, ints, s, a, b)

    pub best : IsBestAlongSlope game profile
    best i player is y feasible =
        let h = slice_get_within game i player is in
        let e = player_at_is game i player is in
        subst (λ (p : PlayerOf). IsAtMost (along_slope p profile (mean (strategy_of profile i)))
        (along_slope p profile (value_of y))) e
        (at_player h (subst (λ (p : PlayerOf). IsFeasible p y) (sym e) feasible))
      where
        at_player : i < length game → Feasible game i y
            → IsAtMost (along_slope (player_at game i) profile (mean (strategy_of profile i)))
            (along_slope (player_at game i) profile (value_of y))
        at_player h feasible =
            let n = x One in
            let own = mean (strategy_of profile i) in
            let slopes = cost_of game leaves kind x base choices exact i in
            let at_mean = worth-below (n *ℤ n) (var_count game i)
            (λ v. times (slope (player_at game i) profile v) (own v)) (λ v. slopes v *ℤ sums i v)
            (λ v p. worth-times n n (slope (player_at game i) profile v) (own v) (slopes v)
            (sums i v) (slope_is i v h) (means i h v)) in
            let at_y = worth-below (n *ℤ y.den) (var_count game i)
            (λ v. times (slope (player_at game i) profile v) (value_of y v))
            (λ v. slopes v *ℤ num_of y v)
            (λ v p. worth-times n y.den (slope (player_at game i) profile v) (value_of y v)
            (slopes v) (num_of y v) (slope_is i v h)
            (record { below = feasible.point; equal = refl })) in
            let l = (covers i (player_at game i) (player_is game i h)).covers y feasible in
            let level = sum_to_same (var_count game i) (λ v. slopes v *ℤ sums i v)
            (λ v. slopes v *ℤ sum_to (leaf_count leaves i) (λ k. x (Share i k v)))
            (λ v p. ap (λ z. slopes v *ℤ z) (same_sum i v p))
            ∙ all_level game leaves kind x base choices exact i h in
            let less = no_less game leaves kind x base choices exact i h l.0 l.1 y feasible.point
            (in_of_lies game leaves i l.0 y l.2) in
            most_of (along_slope (player_at game i) profile own)
            (along_slope (player_at game i) profile (value_of y))
            (sum_to (var_count game i) (λ v. slopes v *ℤ sums i v)) (n *ℤ n)
            (dot (var_count game i) slopes (num_of y)) (n *ℤ y.den)
            (mul_positive n n positive positive) (mul_positive n y.den positive feasible.point)
            at_mean at_y (rw level (enough (x (WorthOf i)) n y.den
            (dot (var_count game i) slopes (num_of y)) positive less))

  strategy_drawn : (i : ℕ) → i < length game
      → strategy_of (drawn_profile game leaves x) i ≡ drawn_strategy game leaves x i
  strategy_drawn i h = firsts_at (length game) (drawn_strategy game leaves x) i [] h

  means_drawn : (k : ℕ) → k < length game → (u : ℕ)
      → Worth (x One) (mean (strategy_of (drawn_profile game leaves x) k) u) (sums k u)
  means_drawn k h u =
      subst (λ (parts : Strategy). Worth (x One) (mean parts u) (sums k u))
      (sym (strategy_drawn k h))
      (mean_of_shares game leaves kind x base choices exact covers positive k h u)

  valid : IsProfile game (drawn_profile game leaves x)
  valid = record {
    len = firsts_length (length game) (drawn_strategy game leaves x);
    strategies = λ i player is. subst (λ (p : PlayerOf). IsStrategyOver (IsFeasible p)
        (strategy_of (drawn_profile game leaves x) i)) (player_at_is game i player is)
        (subst (IsStrategyOver (Feasible game i))
        (sym (strategy_drawn i (slice_get_within game i player is)))
        (strategy game leaves kind x base choices exact covers positive i
        (slice_get_within game i player is)));
  }

  pub drawn_equilibrium : IsEquilibrium game (drawn_profile game leaves x)
  drawn_equilibrium =
      (equilibria game form (drawn_profile game leaves x) valid).1
      (best (drawn_profile game leaves x) means_drawn)

  pub drawn_kind : IsOfKind kind (drawn_profile game leaves x)
  drawn_kind = tested kind refl
    where
      tested : (k : Kind) → kind ≡ k → IsOfKind kind (drawn_profile game leaves x)
      tested Mixed e = rw e tt
      tested Pure e = rw e (λ i d h. let l = firsts_length (length game)
          (drawn_strategy game leaves x) in
          let b : i < length game = omega (arith, h, l) in
          ap (λ (parts : Strategy). length parts)
          (firsts_at (length game) (drawn_strategy game leaves x) i d b)
          ∙ one_drawn game leaves kind x base choices exact covers positive i b
          (choices.one e i b))

  -- and each profile whose quantities have the same expected values
  pub alike_equilibrium : (profile : Profile) → IsProfile game profile
      → AreAlike (drawn_profile game leaves x) profile → IsEquilibrium game profile
  alike_equilibrium profile is alike = (equilibria game form profile is).1 (best profile means)
    where
      means : (k : ℕ) → k < length game → (u : ℕ)
          → Worth (x One) (mean (strategy_of profile k) u) (sums k u)
      means k h u =
          let l = firsts_length (length game) (drawn_strategy game leaves x) in
          let s = alike k (omega (arith, h, l)) (λ y. value_of y u)
          (record {
            positive = λ y p. p;
            same = λ y z e. record {
              left = e.left;
              right = e.right;
              cross = e.values u;
            };
          }) in
          worth_of_same (x One) (mean (strategy_of (drawn_profile game leaves x) k) u)
          (mean (strategy_of profile k) u) (sums k u) s.right s.cross (means_drawn k h u)

-- of a solution under a complete list of choices
module _ (game : GameOf) (form : IsGame game) (leaves : LeavesOf) (covers : AreCovers game leaves)
    (exact : AreExact game leaves) (kind : Kind) (path : List Choice) (x : Unknown → ℤ)
    (solution : SolvesComplete game leaves kind path x) where
  lines : Each (LineHolds game leaves x) (all_lines game leaves path)
  lines = of_all_mapped (row_of_line game leaves) (FormHolds x) (all_lines game leaves path)
      solution.solves.1

  base : Each (LineHolds game leaves x) (base_lines game leaves)
  base = each_front (LineHolds game leaves x) (base_lines game leaves)
      (path_lines game leaves path) lines

  choices : MeetsChoices game leaves kind x
  choices = sides game leaves x solution.solves.0 path (each_back (LineHolds game leaves x)
      (base_lines game leaves) (path_lines game leaves path) lines) kind solution.complete

  pub draws : IsOfKind kind (drawn_profile game leaves x)
      × IsEquilibrium game (drawn_profile game leaves x)
  draws = (
    drawn_kind game form leaves covers exact kind x solution.solves.0 base choices,
    drawn_equilibrium game form leaves covers exact kind x solution.solves.0 base choices,
  )

  pub draws_alike : (profile : Profile) → IsProfile game profile
      → AreAlike (drawn_profile game leaves x) profile → IsEquilibrium game profile
  draws_alike profile is alike =
      alike_equilibrium game form leaves covers exact kind x solution.solves.0 base choices profile
      is alike
