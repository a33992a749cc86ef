-- The tidy forms of what a solution draws are a profile of the game, and an equilibrium.
use Rattle.std.proofs.Common.{◌≡◌, ℕ, ◌+◌, ◌<◌, ◌≤◌, arith, refl, sym, ap, subst, ◌∙◌, ℤ, List, [], ◌∷◌, ◌++◌, length, get_or, slice_get, option_map, Some, All, ⊎_elim}
use Rattle.std.proofs.lemmas.Bool.{cases_lt}
use Rattle.std.proofs.lemmas.List.{length-append, length-map}
use Rattle.std.proofs.lemmas.List.Elements.{All-contains}
use Rattle.std.proofs.lemmas.Option.{get_or_from_slice_get, same_Some, slice_get-get_or, slice_get-map, slice_get_within}
use Rattle.zr_base.specs.Points.{PointOf}
use Rattle.zr_base.proofs.SameLaws.{same_point_sym}
use Rattle.zr_game.specs.Equilibria.{IsEquilibrium}
use Rattle.zr_game.specs.Feasible.{IsFeasible}
use Rattle.zr_game.specs.Forms.{IsGame}
use Rattle.zr_game.specs.Players.{GameOf, PlayerOf}
use Rattle.zr_game.specs.Profiles.{IsOfKind, IsProfile, IsStrategyOver, Strategy, strategy_of, total}
use Rattle.zr_game.specs.declared.choice.Choice.{Choice}
use Rattle.zr_game.specs.declared.kind.Kind.{Kind}
use Rattle.zr_game.specs.declared.kind.Kind.TheVariants.{Mixed, Pure}
use Rattle.zr_game.proofs.Items.{at_number}
use Rattle.zr_game.proofs.SamePoints.{feasible_same}
use Rattle.zr_system.specs.declared.unknown.Unknown.{Unknown}
use Rattle.zr_system.specs.Alike.{AreAlike, IsAlike}
use Rattle.zr_system.specs.Choices.{SolvesComplete}
use Rattle.zr_system.specs.Covers.{AreCovers, AreExact}
use Rattle.zr_system.specs.Drawn.{drawn_profile, drawn_strategy}
use Rattle.zr_system.specs.Regions.{LeavesOf, player_at}
use Rattle.zr_system.specs.System.{cell_count}
use Rattle.zr_system.proofs.ListPlaces.{get_left, get_right}
use Rattle.zr_system.proofs.Meeting.{Feasible}
use Rattle.zr_cert.specs.Certs.{MixtureOf, profile_with}
use Rattle.zr_cert.specs.Forms.{IsMixtureForm}
use Rattle.zr_comp.specs.Answers.{IsSolution}
use Rattle.zr_convex.proofs.CrossSums.{player_at_is}
use Rattle.zr_convex.proofs.DrawnProfiles.{draws, draws_alike}
use Rattle.zr_convex.proofs.Firsts.{firsts_at, firsts_length}
use Rattle.zr_tidy.specs.Tidy.{IsTidied, IsTidy}
use Rattle.zr_draw.specs.Drawn.{IsDrawnProfile}
use Rattle.zr_draw.specs.Numbers.{numbers_of}
use Rattle.zr_draw.proofs.Columns.{solves_complete}
use Rattle.zr_draw.proofs.Raw.{over_feasible}
use Rattle.zr_draw.proofs.Short.{few_parts}

-- the tidy forms of what the first n players' leaves draw
pub record AreTidied (game : GameOf) (leaves : LeavesOf) (x : Unknown → ℤ) (n : ℕ)
    (mixtures : List MixtureOf) : Type 0 where
  pub len : length mixtures ≡ n
  pub each : (i : ℕ) (m : MixtureOf) → slice_get mixtures i ≡ Some m
      → IsTidied (drawn_strategy game leaves x i) m

pub none_tidied : (game : GameOf) (leaves : LeavesOf) (x : Unknown → ℤ)
    → AreTidied game leaves x 0 []
none_tidied game leaves x = record { len = refl; each = λ i m at. absurd cc }

pub one_more : (game : GameOf) (leaves : LeavesOf) (x : Unknown → ℤ) (n : ℕ)
    (mixtures : List MixtureOf) (m : MixtureOf) → AreTidied game leaves x n mixtures
    → IsTidied (drawn_strategy game leaves x n) m
    → AreTidied game leaves x (n + 1) (mixtures ++ (m ∷ []))
one_more game leaves x n mixtures m all one = record {
  len = let l = length-append mixtures (m ∷ []) in let k = all.len in omega (arith, l, k);
  each = λ i own at. ⊎_elim (λ (h : i < length mixtures). all.each i own
      (sym (get_left mixtures (m ∷ []) i h) ∙ at))
      (λ (h : length mixtures ≤ i). last i own at h) (cases_lt i (length mixtures));
}
  where
    last : (i : ℕ) (own : MixtureOf) → slice_get (mixtures ++ (m ∷ [])) i ≡ Some own
        → length mixtures ≤ i → IsTidied (drawn_strategy game leaves x i) own
    last i own at h =
        let b = slice_get_within (mixtures ++ (m ∷ [])) i own at in
        let l = length-append mixtures (m ∷ []) in
        let k = all.len in
        let e : i ≡ n = omega (arith, h, b, l, k) in
        let p : length mixtures + 0 ≡ i = omega (arith, h, b, l) in
        let s : m ≡ own = same_Some m own (sym (get_right mixtures (m ∷ []) 0)
        ∙ (ap (slice_get (mixtures ++ (m ∷ []))) p ∙ at)) in
        subst (λ (k : ℕ). IsTidied (drawn_strategy game leaves x k) own) (sym e)
        (subst (IsTidied (drawn_strategy game leaves x n)) s one)

pub all_tidied : (game : GameOf) (leaves : LeavesOf) (x : Unknown → ℤ) (mixtures : List MixtureOf)
    (n : ℕ) → n ≡ length game → AreTidied game leaves x n mixtures
    → AreTidied game leaves x (length game) mixtures
all_tidied game leaves x mixtures n e t =
    subst (λ (k : ℕ). AreTidied game leaves x k mixtures) e t

module _ (game : GameOf) (form : IsGame game) (leaves : LeavesOf) (covers : AreCovers game leaves)
    (exact : AreExact game leaves) (kind : Kind) (path : List Choice) (x : Unknown → ℤ)
    (solution : SolvesComplete game leaves kind path x) (mixtures : List MixtureOf)
    (tidied : AreTidied game leaves x (length game) mixtures) where
  abbrev raw : ℕ → Strategy
  raw i = drawn_strategy game leaves x i

  parts_are : (i : ℕ) (m : MixtureOf) (d : Strategy) → slice_get mixtures i ≡ Some m
      → get_or (profile_with mixtures) i d ≡ m.parts
  parts_are i m d at =
      get_or_from_slice_get (profile_with mixtures) i m.parts d
      (slice_get-map (λ (m : MixtureOf). m.parts) mixtures i
      ∙ ap (option_map (λ (m : MixtureOf). m.parts)) at)

  mixture_at : (i : ℕ) → i < length game → (m : MixtureOf) × (slice_get mixtures i ≡ Some m)
  mixture_at i h = let l = tidied.len in at_number mixtures i (omega (arith, l, h))

  all_are : (P : MixtureOf → Type 0)
      → ((i : ℕ) (m : MixtureOf) → IsTidied (raw i) m → P m) → All P mixtures
  all_are P f k d below =
      f k (get_or mixtures k d)
      (tidied.each k (get_or mixtures k d) (slice_get-get_or mixtures k d below))

  over : (i : ℕ) → i < length game → (m : MixtureOf) → IsTidied (raw i) m
      → IsStrategyOver (Feasible game i) m.parts
  over i h m t = record {
    some = t.form.some;
    weights = t.tidy.weights;
    points = λ k d below. let p = t.points k d below in
        feasible_same p.0.point (get_or m.parts k d).point
        (same_point_sym (get_or m.parts k d).point p.0.point p.2) (player_at game i)
        (All-contains (λ part. Feasible game i part.point) (raw i) p.0
        (over_feasible game form leaves covers exact kind path x solution i h).points p.1);
  }

  valid : IsProfile game (profile_with mixtures)
  valid = record {
    len = length-map mixtures (λ (m : MixtureOf). m.parts) ∙ tidied.len;
    strategies = λ i player is. let h = slice_get_within game i player is in
        let m = mixture_at i h in
        subst (λ (p : PlayerOf). IsStrategyOver (IsFeasible p)
        (strategy_of (profile_with mixtures) i)) (player_at_is game i player is)
        (subst (IsStrategyOver (Feasible game i)) (sym (parts_are i m.0 [] m.1))
        (over i h m.0 (tidied.each i m.0 m.1)));
  }

  drawn_is : (i : ℕ) → i < length game → strategy_of (drawn_profile game leaves x) i ≡ raw i
  drawn_is i h = firsts_at (length game) (drawn_strategy game leaves x) i [] h

  alike : AreAlike (drawn_profile game leaves x) (profile_with mixtures)
  alike i below =
      let l = firsts_length (length game) (drawn_strategy game leaves x) in
      let h : i < length game = omega (arith, l, below) in
      let m = mixture_at i h in
      subst (λ (s : Strategy). IsAlike s (strategy_of (profile_with mixtures) i))
      (sym (drawn_is i h)) (subst (IsAlike (raw i)) (sym (parts_are i m.0 [] m.1))
      (tidied.each i m.0 m.1).alike)

  of_kind : IsOfKind kind (profile_with mixtures)
  of_kind = tested kind refl
    where
      one_part : kind ≡ Pure → (i : ℕ) → i < length game → length (raw i) ≡ 1
      one_part e i h =
          let l = firsts_length (length game) (drawn_strategy game leaves x) in
          let one = subst (λ (k : Kind). IsOfKind k (drawn_profile game leaves x)) e
          (draws game form leaves covers exact kind path x solution).0 in
          ap (λ (s : Strategy). length s) (sym (drawn_is i h))
          ∙ one i [] (omega (arith, l, h))

      tested : (k : Kind) → kind ≡ k → IsOfKind kind (profile_with mixtures)
      tested Mixed e = rw e tt
      tested Pure e = rw e (λ i d below.
          let l = length-map mixtures (λ (m : MixtureOf). m.parts) in
          let n = tidied.len in
          let h : i < length game = omega (arith, l, n, below) in
          let m = mixture_at i h in
          let y = (tidied.each i m.0 m.1).pure (one_part e i h) in
          ap (λ (s : Strategy). length s) (parts_are i m.0 d m.1 ∙ y.1))

  pub tidied_equilibrium : AreAlike (drawn_profile game leaves x) (profile_with mixtures)
      × IsOfKind kind (profile_with mixtures) × IsEquilibrium game (profile_with mixtures)
  tidied_equilibrium = (
    alike,
    of_kind,
    draws_alike game form leaves covers exact kind path x solution (profile_with mixtures) valid
        alike,
  )

  pub tidied_forms : All (λ m. IsTidy m.parts) mixtures × All IsMixtureForm mixtures
      × All (λ m. m.total ≡ total m.parts) mixtures
  tidied_forms = (
    all_are (λ m. IsTidy m.parts) (λ i m t. t.tidy),
    all_are IsMixtureForm (λ i m t. t.form),
    all_are (λ m. m.total ≡ total m.parts) (λ i m t. t.total_is),
  )

pub is_drawn : (game : GameOf) → IsGame game → (leaves : LeavesOf) → AreCovers game leaves
    → AreExact game leaves → (kind : Kind) (x : PointOf) → IsSolution game leaves kind x
    → (mixtures : List MixtureOf)
    → AreTidied game leaves (numbers_of game leaves x) (length game) mixtures
    → IsDrawnProfile game leaves kind x mixtures
is_drawn game form leaves covers exact kind x solution mixtures tidied =
    let path = solution.0 in
    let numbers = numbers_of game leaves x in
    let solves = solves_complete game leaves x kind path solution.1 solution.2 in
    let e = tidied_equilibrium game form leaves covers exact kind path numbers solves mixtures
    tidied in
    let f = tidied_forms game form leaves covers exact kind path numbers solves mixtures tidied in
    record {
      solution = solution;
      alike = e.0;
      tidy = f.0;
      forms = f.1;
      totals = f.2;
      of_kind = e.1;
      equilibrium = e.2;
    }

pub are_few : (game : GameOf) (leaves : LeavesOf) (x : Unknown → ℤ) (mixtures : List MixtureOf)
    → AreTidied game leaves x (length game) mixtures → (most : ℕ) → cell_count game leaves ≤ most
    → All (λ m. length m.parts ≤ most) mixtures
are_few game leaves x mixtures tidied most cells k d below =
    let n = tidied.len in
    let f = (tidied.each k (get_or mixtures k d) (slice_get-get_or mixtures k d below)).few in
    let p = few_parts game leaves x k most (omega (arith, below, n)) cells in
    omega (arith, f, p)
