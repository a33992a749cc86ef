-- Equilibria of a source and of its expansion correspond.
use Rattle.std.proofs.Common.{◌≡◌, ◌↔◌, ℕ, zero, suc, ◌<◌, arith, refl, sym, ap, ap₂, subst, ◌∙◌, pos, ◌≤ℤ◌, List, [], ◌∷◌, map, length, get_or, All}
use Rattle.std.proofs.lemmas.List.{length-map}
use Rattle.std.proofs.lemmas.List.Elements.{All-map}
use Rattle.std.proofs.lemmas.Option.{slice_get_within}
use Rattle.zr_base.specs.Fractions.{Fraction, IsAtMost, IsSame}
use Rattle.zr_base.specs.Points.{IsSamePoint, PointOf}
use Rattle.zr_game.proofs.Items.{All-of_map}
use Rattle.zr_base.proofs.Worth.{Each}
use Rattle.zr_base.proofs.Members.{each_of_all, each_weaker}
use Rattle.zr_base.proofs.SameLaws.{is_same, order_same, same_point_refl, same_point_sym}
use Rattle.zr_game.proofs.CommonDen.{HasDen, each_strategy}
use Rattle.zr_game.proofs.MeanLaws.{deviation_valid, expected_den}
use Rattle.zr_game.specs.Equilibria.{HasNoEquilibrium, IsEquilibrium}
use Rattle.zr_game.specs.Feasible.{IsFeasible}
use Rattle.zr_game.specs.Forms.{IsPlayer, IsPlayerForm}
use Rattle.zr_game.specs.Players.{GameOf, PlayerOf}
use Rattle.zr_game.specs.Profiles.{IsOfKind, IsProfile, IsStrategy, Part, Profile, Strategy, deviation, expected_cost, strategy_of}
use Rattle.zr_game.specs.declared.kind.Kind.{Kind}
use Rattle.zr_game.specs.declared.kind.Kind.TheVariants.{Pure, Mixed}
use Rattle.zr_follow.proofs.BaseProfiles.{base_is, deviation_base, expected_base, length-base_profile, strategy_base}
use Rattle.zr_follow.proofs.Expanded.{expanded_feasible, get_within, leader_feasible}
use Rattle.zr_follow.proofs.SameProfiles.{expected_same, same_deviation, same_profile_refl, same_profile_sym}
use Rattle.zr_follow.proofs.Relations.{IsExpansion}
use Rattle.zr_source.specs.Optimal.{IsLeaderFeasible}
use Rattle.zr_source.specs.SourceEquilibria.{HasNoSourceEquilibrium, IsLeaderStrategy, IsSourceEquilibrium, IsSourceProfile}
use Rattle.zr_follow.specs.BaseParts.{base_of_part, base_part, base_profile, base_strategy}
use Rattle.zr_follow.specs.SameProfiles.{IsSameProfile, IsSameStrategy}
use Rattle.zr_source.specs.SourceForms.{IsSource}
use Rattle.zr_source.specs.Sources.{IsLeader, LeaderOf, SourceOf, bases}

found_back : (source : SourceOf) (k : ℕ) (player : PlayerOf) → IsPlayer (bases source) k player → (leader : LeaderOf) × IsLeader source k leader × (leader.base ≡ player)
found_back [] k player e = absurd cc
found_back (l ∷ source) zero player e = (l, refl, cc)
found_back (l ∷ source) (suc k) player e = found_back source k player e

all_of_each : {A : Type 0} (P : A → Type 0) (xs : List A) → Each P xs → All P xs
all_of_each P [] each k d h = absurd (omega arith)
all_of_each P (x ∷ xs) each zero d h = each.0
all_of_each P (x ∷ xs) each (suc k) d h = all_of_each P xs each.1 k d (omega arith)

-- a profile of the source is one of its bases
base_valid : (source : SourceOf) (profile : Profile) → IsSourceProfile source profile → IsProfile (bases source) profile
base_valid source profile valid = record {
  len = valid.len ∙ sym (length-map source (λ (l : LeaderOf). l.base));
  strategies = λ i player is. found i player (found_back source i player is);
}
  where
    found : (i : ℕ) (player : PlayerOf) → (leader : LeaderOf) × IsLeader source i leader × (leader.base ≡ player) → IsStrategy player (strategy_of profile i)
    found i player f =
        let s = valid.strategies i f.0 f.1 in
        subst (λ (p : PlayerOf). IsStrategy p (strategy_of profile i)) f.2 (record {
          some = s.some;
          weights = s.weights;
          points = λ k d h. (s.points k d h).base;
        })

-- a profile has the same values as itself
own_profile : (source : SourceOf) (P : Profile) → IsSourceProfile source P → IsSameProfile P P
own_profile source P valid =
    same_profile_refl P (each_strategy (Each HasDen) P dens)
  where
    dens : (j : ℕ) → j < length P → Each HasDen (strategy_of P j)
    dens j below =
        let len = valid.len in
        let l = get_within source j (omega (arith, len, below)) in
        let s = valid.strategies j l.0 l.1 in
        let parts = strategy_of P j in
        let IsIn = λ (part : Part). IsLeaderFeasible l.0 part.point in
        each_weaker IsIn HasDen parts (λ part f. f.base.point) (each_of_all IsIn parts s.points)

lengths_base : (source : SourceOf) (Q : Profile) → length Q ≡ length source → map (λ (s : Strategy). length s) (base_profile source Q) ≡ map (λ (s : Strategy). length s) Q
lengths_base [] [] len = refl
lengths_base [] (s ∷ ss) len = absurd (omega (arith, len))
lengths_base (l ∷ source) [] len = absurd (omega (arith, len))
lengths_base (l ∷ source) (s ∷ ss) len =
    ap₂ (λ (n : ℕ) (ns : List ℕ). n ∷ ns) (length-map s (base_of_part l)) (lengths_base source ss (omega (arith, len)))

length_same : (s t : Strategy) → IsSameStrategy s t → length s ≡ length t
length_same [] [] same = refl
length_same [] (q ∷ qs) same = absurd same
length_same (p ∷ ps) [] same = absurd same
length_same (p ∷ ps) (q ∷ qs) same = ap suc (length_same ps qs same.1)

lengths_same : (P Q : Profile) → IsSameProfile P Q → map (λ (s : Strategy). length s) P ≡ map (λ (s : Strategy). length s) Q
lengths_same [] [] same = refl
lengths_same [] (t ∷ ts) same = absurd same
lengths_same (s ∷ ss) [] same = absurd same
lengths_same (s ∷ ss) (t ∷ ts) same =
    ap₂ (λ (n : ℕ) (ns : List ℕ). n ∷ ns) (length_same s t same.0) (lengths_same ss ts same.1)

-- profiles with as many parts are of one kind
kind_same : (kind : Kind) (P Q : Profile) → map (λ (s : Strategy). length s) P ≡ map (λ (s : Strategy). length s) Q → IsOfKind kind P → IsOfKind kind Q
kind_same Mixed P Q e h = tt
kind_same Pure P Q e h =
    All-of_map (λ (s : Strategy). length s) (λ (n : ℕ). n ≡ 1) Q (subst (All (λ (n : ℕ). n ≡ 1)) e (All-map (λ (n : ℕ). n ≡ 1) (λ (s : Strategy). length s) P h))

pub kinds_base : (source : SourceOf) (Q : Profile) → length Q ≡ length source → (kind : Kind) → IsOfKind kind Q ↔ IsOfKind kind (base_profile source Q)
kinds_base source Q len kind =
    let lens = lengths_base source Q len in
    (kind_same kind Q (base_profile source Q) (sym lens), kind_same kind (base_profile source Q) Q lens)

-- strategies whose base parts are those of a profile, put together
gathered : (source : SourceOf) (P : Profile) (good : ℕ → Strategy → Type 0) → length P ≡ length source → ((k : ℕ) (leader : LeaderOf) → IsLeader source k leader → (made : Strategy) × IsSameStrategy (strategy_of P k) (base_strategy leader made) × good k made) → (Q : Profile) × IsSameProfile P (base_profile source Q) × (length Q ≡ length source) × ((k : ℕ) (leader : LeaderOf) → IsLeader source k leader → good k (strategy_of Q k))
gathered [] [] good len h = ([], tt, refl, λ k leader is. absurd cc)
gathered [] (s ∷ ss) good len h = absurd (omega (arith, len))
gathered (l ∷ source) [] good len h = absurd (omega (arith, len))
gathered (l ∷ source) (s ∷ ss) good len h =
    let first = h zero l refl in
    let rest = gathered source ss (λ k. good (suc k)) (omega (arith, len)) (λ k leader is. h (suc k) leader is) in
    (first.0 ∷ rest.0, (first.1, rest.1), ap suc rest.2, λ k leader is. by_number first.0 rest.0 first.2 rest.3 k leader is)
  where
    by_number : (made : Strategy) (Q : Profile) → good zero made → ((k : ℕ) (leader : LeaderOf) → IsLeader source k leader → good (suc k) (strategy_of Q k)) → (k : ℕ) (leader : LeaderOf) → IsLeader (l ∷ source) k leader → good k (strategy_of (made ∷ Q) k)
    by_number made Q g r zero leader is = g
    by_number made Q g r (suc k) leader is = r k leader is

module _ (source : SourceOf) (form : IsSource source) where
  form_at : (i : ℕ) (leader : LeaderOf) → IsLeader source i leader → IsPlayerForm (bases source) i leader.base
  form_at i leader is = form.bases.players i leader.base (base_is source i leader is)

  -- deviations to points of the same values, in profiles of the same values, are ordered alike
  order_alike : (P Q : Profile) → IsSourceProfile source P → IsSourceProfile source Q → IsSameProfile P Q → (i : ℕ) (leader : LeaderOf) → IsLeader source i leader → (x y : PointOf) → IsLeaderFeasible leader x → IsLeaderFeasible leader y → IsSamePoint x y → IsAtMost (expected_cost leader.base i P) (expected_cost leader.base i (deviation P i x)) → IsAtMost (expected_cost leader.base i Q) (expected_cost leader.base i (deviation Q i y))
  order_alike P Q valid_P valid_Q same i leader is x y fx fy point h =
      let game = bases source in
      let here = base_is source i leader is in
      let p = base_valid source P valid_P in
      let q = base_valid source Q valid_Q in
      let f = form_at i leader is in
      let there = deviation_valid game P p i leader.base here x fx.base in
      let there_other = deviation_valid game Q q i leader.base here y fy.base in
      let a = expected_cost leader.base i P in
      let b = expected_cost leader.base i (deviation P i x) in
      let c = expected_cost leader.base i Q in
      let d = expected_cost leader.base i (deviation Q i y) in
      let a_den = expected_den game P p i leader.base here f in
      let b_den = expected_den game (deviation P i x) there i leader.base here f in
      let c_den = expected_den game Q q i leader.base here f in
      let d_den = expected_den game (deviation Q i y) there_other i leader.base here f in
      let before = is_same a c a_den c_den (expected_same leader.base i P Q same) in
      let moved = same_deviation P Q i x y same point in
      let after = is_same b d b_den d_den
      (expected_same leader.base i (deviation P i x) (deviation Q i y) moved) in
      order_same a b c d before after h

  module _ (game : GameOf) (expansion : IsExpansion source game) where
    player_at : (i : ℕ) (leader : LeaderOf) → IsLeader source i leader → (player : PlayerOf) × IsPlayer game i player
    player_at i leader is =
        let w = slice_get_within source i leader is in
        let e = expansion.len in
        get_within game i (omega (arith, w, e))

    leader_at : (i : ℕ) (player : PlayerOf) → IsPlayer game i player → (leader : LeaderOf) × IsLeader source i leader
    leader_at i player is =
        let w = slice_get_within game i player is in
        let e = expansion.len in
        get_within source i (omega (arith, w, e))

    base_feasible : (i : ℕ) (leader : LeaderOf) (player : PlayerOf) → IsLeader source i leader → IsPlayer game i player → (z : PointOf) → IsFeasible player z → IsLeaderFeasible leader (base_part leader z)
    base_feasible i leader player is at_i z h =
        leader_feasible (bases source) i leader player (form_at i leader is) (form.leaders i leader is) (expansion.players i leader player is at_i) z h

    source_valid : (Q : Profile) → IsProfile game Q → IsSourceProfile source (base_profile source Q)
    source_valid Q valid = record {
      len = length-base_profile source Q (valid.len ∙ expansion.len);
      strategies = λ i leader is. let p = player_at i leader is in subst (λ (s : Strategy). IsLeaderStrategy leader s) (sym (strategy_base source Q i leader (valid.len ∙ expansion.len) is)) (strategy i leader p.0 is p.1 (strategy_of Q i) (valid.strategies i p.0 p.1));
    }
      where
        strategy : (i : ℕ) (leader : LeaderOf) (player : PlayerOf) → IsLeader source i leader → IsPlayer game i player → (parts : Strategy) → IsStrategy player parts → IsLeaderStrategy leader (base_strategy leader parts)
        strategy i leader player is at_i parts s = record {
          some = rw (length-map parts (base_of_part leader)) s.some;
          weights = All-map (λ (part : Part). (pos 1) ≤ℤ part.weight) (base_of_part leader) parts s.weights;
          points = All-map (λ (part : Part). IsLeaderFeasible leader part.point) (base_of_part leader) parts (λ k d h. base_feasible i leader player is at_i (get_or parts k d).point (s.points k d h));
        }

    -- costs of a profile and of a deviation are those of their bases
    module _ (Q : Profile) (valid : IsProfile game Q) (i : ℕ) (leader : LeaderOf) (player : PlayerOf) (is : IsLeader source i leader) (at_i : IsPlayer game i player) where
      lens : length Q ≡ length source
      lens = valid.len ∙ expansion.len

      cost_here : expected_cost player i Q ≡ expected_cost leader.base i (base_profile source Q)
      cost_here = expected_base source form i leader is player (expansion.players i leader player is at_i) Q lens

      cost_there : (z : PointOf) → IsFeasible player z → expected_cost player i (deviation Q i z) ≡ expected_cost leader.base i (deviation (base_profile source Q) i (base_part leader z))
      cost_there z h =
          expected_base source form i leader is player (expansion.players i leader player is at_i) (deviation Q i z) ((deviation_valid game Q valid i player at_i z h).len ∙ expansion.len) ∙ ap (expected_cost leader.base i) (deviation_base source Q i leader z lens is)

    pub deviations : (Q : Profile) → IsProfile game Q → (i : ℕ) (leader : LeaderOf) (player : PlayerOf) → IsLeader source i leader → IsPlayer game i player → (z : PointOf) → IsFeasible player z → expected_cost player i (deviation Q i z) ≡ expected_cost leader.base i (deviation (base_profile source Q) i (base_part leader z))
    deviations Q valid i leader player is at_i z h = cost_there Q valid i leader player is at_i z h

    -- each deviation of a leader costs what some deviation of the expanded player costs
    pub all_deviations : (Q : Profile) → IsProfile game Q → (i : ℕ) (leader : LeaderOf) (player : PlayerOf) → IsLeader source i leader → IsPlayer game i player → (x : PointOf) → IsLeaderFeasible leader x → (z : PointOf) × IsFeasible player z × IsSame (expected_cost player i (deviation Q i z)) (expected_cost leader.base i (deviation (base_profile source Q) i x))
    all_deviations Q valid i leader player is at_i x h =
        let found = expanded_feasible (bases source) i leader player (form_at i leader is) (form.leaders i leader is) (expansion.players i leader player is at_i) x h in
        let base = base_profile source Q in
        let base_valid_here = source_valid Q valid in
        let here = base_is source i leader is in
        let bases_valid = base_valid source base base_valid_here in
        let z_base = base_feasible i leader player is at_i found.0 found.2 in
        let moved = deviation base i (base_part leader found.0) in
        let meant = deviation base i x in
        let alike = same_deviation base base i (base_part leader found.0) x (own_profile source base base_valid_here) found.1 in
        let moved_valid = deviation_valid (bases source) base bases_valid i leader.base here (base_part leader found.0) z_base.base in
        let meant_valid = deviation_valid (bases source) base bases_valid i leader.base here x h.base in
        let f = form_at i leader is in
        let moved_den = expected_den (bases source) moved moved_valid i leader.base here f in
        let meant_den = expected_den (bases source) meant meant_valid i leader.base here f in
        let same = is_same (expected_cost leader.base i moved) (expected_cost leader.base i meant) moved_den meant_den (expected_same leader.base i moved meant alike) in
        let cost = cost_there Q valid i leader player is at_i found.0 found.2 in
        (found.0, found.2, subst (λ (c : Fraction). IsSame c (expected_cost leader.base i meant)) (sym cost) same)

    source_equilibrium : (Q : Profile) → IsEquilibrium game Q → IsSourceEquilibrium source (base_profile source Q)
    source_equilibrium Q e = record {
      valid = source_valid Q e.valid;
      stable = λ i leader is x h. stable i leader is x h (player_at i leader is);
    }
      where
        stable : (i : ℕ) (leader : LeaderOf) → IsLeader source i leader → (x : PointOf) → IsLeaderFeasible leader x → (player : PlayerOf) × IsPlayer game i player → IsAtMost (expected_cost leader.base i (base_profile source Q)) (expected_cost leader.base i (deviation (base_profile source Q) i x))
        stable i leader is x h p =
            let found = expanded_feasible (bases source) i leader p.0 (form_at i leader is) (form.leaders i leader is) (expansion.players i leader p.0 is p.1) x h in
            let z = found.0 in
            let most = e.stable i p.0 p.1 z found.2 in
            let a = subst (λ (c : Fraction). IsAtMost c (expected_cost p.0 i (deviation Q i z))) (cost_here Q e.valid i leader p.0 is p.1) most in
            let b = subst (λ (c : Fraction). IsAtMost (expected_cost leader.base i (base_profile source Q)) c) (cost_there Q e.valid i leader p.0 is p.1 z found.2) a in
            let valid = source_valid Q e.valid in
            order_alike (base_profile source Q) (base_profile source Q) valid valid (own_profile source (base_profile source Q) valid) i leader is (base_part leader z) x (base_feasible i leader p.0 is p.1 z found.2) h found.1 b

    game_equilibrium : (Q : Profile) → IsProfile game Q → IsSourceEquilibrium source (base_profile source Q) → IsEquilibrium game Q
    game_equilibrium Q valid e = record {
      valid = valid;
      stable = λ i player at_i z h. stable i player at_i z h (leader_at i player at_i);
    }
      where
        stable : (i : ℕ) (player : PlayerOf) → IsPlayer game i player → (z : PointOf) → IsFeasible player z → (leader : LeaderOf) × IsLeader source i leader → IsAtMost (expected_cost player i Q) (expected_cost player i (deviation Q i z))
        stable i player at_i z h l =
            let most = e.stable i l.0 l.1 (base_part l.0 z) (base_feasible i l.0 player l.1 at_i z h) in
            let a = subst (λ (c : Fraction). IsAtMost (expected_cost l.0.base i (base_profile source Q)) c) (sym (cost_there Q valid i l.0 player l.1 at_i z h)) most in
            subst (λ (c : Fraction). IsAtMost c (expected_cost player i (deviation Q i z))) (sym (cost_here Q valid i l.0 player l.1 at_i)) a

    -- a profile is an equilibrium exactly where it is one of the source without its multipliers
    pub equilibria : (Q : Profile) → IsProfile game Q → IsEquilibrium game Q ↔ IsSourceEquilibrium source (base_profile source Q)
    equilibria Q valid = (source_equilibrium Q, game_equilibrium Q valid)

    -- a strategy's points with multipliers
    lifted : (i : ℕ) (leader : LeaderOf) (player : PlayerOf) → IsLeader source i leader → IsPlayer game i player → (parts : Strategy) → Each (λ part. (pos 1) ≤ℤ part.weight) parts → Each (λ part. IsLeaderFeasible leader part.point) parts → (made : Strategy) × IsSameStrategy parts (base_strategy leader made) × Each (λ part. (pos 1) ≤ℤ part.weight) made × Each (λ part. IsFeasible player part.point) made
    lifted i leader player is at_i [] weights points = ([], tt, tt, tt)
    lifted i leader player is at_i (part ∷ parts) weights points =
        let found = expanded_feasible (bases source) i leader player (form_at i leader is) (form.leaders i leader is) (expansion.players i leader player is at_i) part.point points.0 in
        let rest = lifted i leader player is at_i parts weights.1 points.1 in
        let same = found.1 in
        let made : Part = record { weight = part.weight; point = found.0 } in
        (made ∷ rest.0, (record { weight = refl; point = same_point_sym (base_part leader found.0) part.point same }, rest.1), (weights.0, rest.2), (found.2, rest.3))

    abbrev IsGood : ℕ → Strategy → Type 0
    IsGood k made = (player : PlayerOf) → IsPlayer game k player → IsStrategy player made

    lifted_strategy : (P : Profile) → IsSourceProfile source P → (k : ℕ) (leader : LeaderOf) → IsLeader source k leader → (made : Strategy) × IsSameStrategy (strategy_of P k) (base_strategy leader made) × IsGood k made
    lifted_strategy P valid k leader is =
        let p = player_at k leader is in
        let s = valid.strategies k leader is in
        let parts = strategy_of P k in
        let l = lifted k leader p.0 is p.1 parts (each_of_all (λ (part : Part). (pos 1) ≤ℤ part.weight) parts s.weights) (each_of_all (λ (part : Part). IsLeaderFeasible leader part.point) parts s.points) in
        let len = length_same parts (base_strategy leader l.0) l.1 ∙ length-map l.0 (base_of_part leader) in
        let strategy : IsStrategy p.0 l.0 = record {
          some = subst (λ (n : ℕ). 0 < n) len s.some;
          weights = all_of_each (λ (part : Part). (pos 1) ≤ℤ part.weight) l.0 l.2;
          points = all_of_each (λ (part : Part). IsFeasible p.0 part.point) l.0 l.3;
        } in
        (l.0, l.1, λ player at_k. let e : p.0 ≡ player = one p.0 player p.1 at_k in subst (λ (q : PlayerOf). IsStrategy q l.0) e strategy)
      where
        one : (a b : PlayerOf) → IsPlayer game k a → IsPlayer game k b → a ≡ b
        one a b e f = cc

    -- a profile of the source with multipliers
    lifted_profile : (P : Profile) → IsSourceProfile source P → (Q : Profile) × IsSameProfile P (base_profile source Q) × IsProfile game Q
    lifted_profile P valid =
        let g = gathered source P IsGood valid.len (lifted_strategy P valid) in
        (g.0, g.1, record { len = g.2 ∙ sym expansion.len; strategies = λ i player at_i. let l = leader_at i player at_i in g.3 i l.0 l.1 player at_i })

    moved_equilibrium : (P Q : Profile) → IsSameProfile P Q → IsSourceProfile source Q → IsSourceEquilibrium source P → IsSourceEquilibrium source Q
    moved_equilibrium P Q same valid e = record {
      valid = valid;
      stable = λ i leader is x h. order_alike P Q e.valid valid same i leader is x x h h (same_point_refl x h.base.point) (e.stable i leader is x h);
    }

    -- each equilibrium of the source is the base part of one of the game, of the same kind
    pub lifts : (kind : Kind) (P : Profile) → IsOfKind kind P → IsSourceEquilibrium source P
        → (Q : Profile) × IsOfKind kind Q × IsEquilibrium game Q
        × IsSameProfile (base_profile source Q) P
    lifts kind P of_kind e =
        let l = lifted_profile P e.valid in
        let base = base_profile source l.0 in
        let lens : length l.0 ≡ length source = l.2.len ∙ expansion.len in
        let at_base = kind_same kind P base (lengths_same P base l.1) of_kind in
        let at_base_equilibrium = moved_equilibrium P base l.1 (source_valid l.0 l.2) e in (
          l.0,
          kind_same kind base l.0 (lengths_base source l.0 lens) at_base,
          game_equilibrium l.0 l.2 at_base_equilibrium,
          same_profile_sym P base l.1,
        )

    -- the game has no equilibrium of a kind exactly where the source has none
    pub none_alike : (kind : Kind) → HasNoEquilibrium game kind ↔ HasNoSourceEquilibrium source kind
    none_alike kind = (up, down)
      where
        up : HasNoEquilibrium game kind → HasNoSourceEquilibrium source kind
        up none P of_kind e = let l = lifts kind P of_kind e in none l.0 l.1 l.2

        down : HasNoSourceEquilibrium source kind → HasNoEquilibrium game kind
        down none Q of_kind e =
            let lens : length Q ≡ length source = e.valid.len ∙ expansion.len in
            let base = base_profile source Q in
            none base (kind_same kind Q base (sym (lengths_base source Q lens)) of_kind)
            (source_equilibrium Q e)
