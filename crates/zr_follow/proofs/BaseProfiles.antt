-- Costs don't change where the multipliers are left out.
use Rattle.std.proofs.Common.{◌≡◌, ℕ, zero, suc, ◌<◌, arith, refl, sym, ap, ap₂, subst, ◌∙◌, ℤ, pos, ◌+ℤ◌, ◌*ℤ◌, List, [], ◌∷◌, length, option_map, Option, Some, None}
use Rattle.std.proofs.lemmas.List.{get_or-take, length-map}
use Rattle.std.proofs.lemmas.Option.{slice_get-map}
use Rattle.zr_base.proofs.Worth.{Each}
use Rattle.zr_base.specs.Fractions.{Fraction, over, plus, ratio, sum_over, times, whole}
use Rattle.zr_base.specs.Points.{PointOf, value_of}
use Rattle.zr_base.specs.Terms.{Terms}
use Rattle.zr_base.proofs.Members.{each_of_all}
use Rattle.std.specs.Option.{ForSome, option_map_or}
use Rattle.zr_game.specs.Costs.{cost_of, cross_at, other_at, own_at, point_of, value_at_place}
use Rattle.zr_game.specs.Forms.{HasVar, IsCrossForm, IsOtherForm, IsOthersVar, IsPlayer, IsPlayerForm}
use Rattle.zr_game.specs.Players.{PlayerOf}
use Rattle.zr_game.specs.Profiles.{Profile, Strategy, deviation, expected_cost, strategy_of, surely, total, totals, tuple_sum, weighted}
use Rattle.zr_game.specs.declared.player.CrossTerm.{CrossTerm}
use Rattle.zr_game.specs.declared.player.Other.{Other}
use Rattle.zr_follow.proofs.Expanded.{get_within, terms_below}
use Rattle.zr_follow.proofs.Relations.{IsExpanded}
use Rattle.zr_follow.specs.BaseParts.{base_part, base_points, base_profile, base_strategy}
use Rattle.zr_source.specs.SourceForms.{IsSource}
use Rattle.zr_source.specs.Sources.{IsLeader, LeaderOf, SourceOf, bases}

pub base_is : (source : SourceOf) (i : ℕ) (leader : LeaderOf) → IsLeader source i leader → IsPlayer (bases source) i leader.base
base_is source i leader is = slice_get-map (λ (l : LeaderOf). l.base) source i ∙ ap (option_map (λ (l : LeaderOf). l.base)) is

point_base : (source : SourceOf) (points : List PointOf) (k : ℕ) (leader : LeaderOf) → length points ≡ length source → IsLeader source k leader → point_of (base_points source points) k ≡ base_part leader (point_of points k)
point_base [] points k leader len is = absurd cc
point_base (l ∷ source) [] k leader len is = absurd (omega (arith, len))
point_base (l ∷ source) (x ∷ points) zero leader len is =
    let e : l ≡ leader = cc in ap (λ (m : LeaderOf). base_part m x) e
point_base (l ∷ source) (x ∷ points) (suc k) leader len is = point_base source points k leader (omega (arith, len)) is

value_base : (leader : LeaderOf) (x : PointOf) (v : ℕ) → v < length leader.base.vars → value_of (base_part leader x) v ≡ value_of x v
value_base leader x v h = ap (λ (n : ℤ). ratio n x.den) (get_or-take (length leader.base.vars) x.num v (pos 0) h)

over_each : {A : Type 0} (P : A → Type 0) (xs : List A) (f g : A → Fraction) → ((x : A) → P x → f x ≡ g x) → Each P xs → sum_over xs f ≡ sum_over xs g
over_each P [] f g h all = refl
over_each P (x ∷ xs) f g h all = ap₂ plus (h x all.0) (over_each P xs f g h all.1)

module _ (source : SourceOf) (form : IsSource source) (i : ℕ) (leader : LeaderOf) (is : IsLeader source i leader) where
  base_form : IsPlayerForm (bases source) i leader.base
  base_form = form.bases.players i leader.base (base_is source i leader is)

  module _ (points : List PointOf) (len : length points ≡ length source) where
    abbrev there : List PointOf
    there = base_points source points

    own_value : (v : ℕ) → v < length leader.base.vars → value_of (point_of points i) v ≡ value_of (point_of there i) v
    own_value v h =
        sym (ap (λ (x : PointOf). value_of x v) (point_base source points i leader len is) ∙ value_base leader (point_of points i) v h)

    abbrev before : ℕ × ℕ → Fraction
    before = value_at_place points

    abbrev after : ℕ × ℕ → Fraction
    after = value_at_place there

    abbrev own_before : ℕ → Fraction
    own_before = value_of (point_of points i)

    abbrev own_after : ℕ → Fraction
    own_after = value_of (point_of there i)

    place_value : (at : ℕ × ℕ) → at.0 < length (bases source) → HasVar (bases source) at.0 at.1
        → before at ≡ after at
    place_value at player var =
        let below : at.0 < length source = subst (λ (n : ℕ). at.0 < n) (length-map source (λ (l : LeaderOf). l.base)) player in
        let other = get_within source at.0 below in
        sym (ap (λ (x : PointOf). value_of x at.1) (point_base source points at.0 other.0 len other.1) ∙ value_base other.0 (point_of points at.0) at.1 (var other.0.base (base_is source at.0 other.0 other.1)))

    far_value : (at : ℕ × ℕ) → IsOthersVar (bases source) i at → before at ≡ after at
    far_value at f = place_value at f.player f.var

    other_value : (t : Other) → IsOtherForm (bases source) i t
        → other_at before t ≡ other_at after t
    other_value t form = on t.second form.second
      where
        one : times (whole t.coef) (before t.first) ≡ times (whole t.coef) (after t.first)
        one = ap (times (whole t.coef)) (far_value t.first form.first)

        on : (o : Option (ℕ × ℕ))
            → ForSome o (λ at. (t.first.0 < at.0) × IsOthersVar (bases source) i at)
            → option_map_or (λ at. times (times (whole t.coef) (before t.first)) (before at)) o (times (whole t.coef) (before t.first))
            ≡ option_map_or (λ at. times (times (whole t.coef) (after t.first)) (after at)) o (times (whole t.coef) (after t.first))
        on None h = one
        on (Some at) h = ap₂ times one (far_value at (h at refl).1)

    costs : Terms → List CrossTerm → List Other → Fraction
    costs own cross others =
        plus (plus (sum_over own (own_at own_before)) (sum_over cross (cross_at own_before before))) (sum_over others (other_at before))

    -- the cost is that of the base parts
    pub cost_base : cost_of leader.base i points ≡ cost_of leader.base i there
    cost_base =
        let columns = length leader.base.vars in
        let Below = λ (t : ℕ × ℤ). t.0 < columns in
        let own = over_each Below leader.base.cost (own_at own_before) (own_at own_after) (λ t h. ap (times (whole t.1)) (own_value t.0 h)) (terms_below columns leader.base.cost base_form.cost) in
        let Cross = IsCrossForm (bases source) i columns in
        let cross = over_each Cross leader.base.cross (cross_at own_before before) (cross_at own_after after) (λ t f. ap (times (whole t.coef)) (ap₂ times (own_value t.own f.own) (place_value (t.player, t.var) f.player f.var))) (each_of_all Cross leader.base.cross base_form.cross) in
        let Far = IsOtherForm (bases source) i in
        let others = over_each Far leader.base.others (other_at before) (other_at after) other_value (each_of_all Far leader.base.others base_form.others) in
        ap₂ plus (ap₂ plus own cross) others

    pub cost_expanded : (player : PlayerOf) → IsExpanded leader player
        → cost_of player i points ≡ cost_of leader.base i there
    unfolding costs
    cost_expanded player expanded =
        let two = ap₂ (λ (own : Terms) (cross : List CrossTerm). costs own cross player.others) expanded.cost expanded.cross in
        let three = ap (costs leader.base.cost leader.base.cross) expanded.others in
        two ∙ three ∙ cost_base

weighted_base : (leader : LeaderOf) (parts : Strategy) (f g : PointOf → Fraction) → ((x : PointOf) → f x ≡ g (base_part leader x)) → weighted parts f ≡ weighted (base_strategy leader parts) g
weighted_base leader [] f g h = refl
weighted_base leader (part ∷ parts) f g h =
    ap₂ plus (ap (times (whole part.weight)) (h part.point)) (weighted_base leader parts f g h)

tuple_base : (source : SourceOf) (profile : Profile) (f g : List PointOf → Fraction) → length profile ≡ length source → ((points : List PointOf) → length points ≡ length source → f points ≡ g (base_points source points)) → tuple_sum profile f ≡ tuple_sum (base_profile source profile) g
tuple_base [] [] f g len h = h [] refl
tuple_base [] (s ∷ ss) f g len h = absurd (omega (arith, len))
tuple_base (leader ∷ source) [] f g len h = absurd (omega (arith, len))
tuple_base (leader ∷ source) (s ∷ ss) f g len h =
    weighted_base leader s (λ x. tuple_sum ss (λ points. f (x ∷ points))) (λ x. tuple_sum (base_profile source ss) (λ points. g (x ∷ points))) (λ x. tuple_base source ss (λ points. f (x ∷ points)) (λ points. g (base_part leader x ∷ points)) (omega (arith, len)) (λ points e. h (x ∷ points) (ap suc e)))

total_base : (leader : LeaderOf) (parts : Strategy) → total parts ≡ total (base_strategy leader parts)
total_base leader [] = refl
total_base leader (part ∷ parts) = ap (λ (n : ℤ). part.weight +ℤ n) (total_base leader parts)

totals_base : (source : SourceOf) (profile : Profile) → length profile ≡ length source → totals profile ≡ totals (base_profile source profile)
totals_base [] [] len = refl
totals_base [] (s ∷ ss) len = absurd (omega (arith, len))
totals_base (leader ∷ source) [] len = absurd (omega (arith, len))
totals_base (leader ∷ source) (s ∷ ss) len = ap₂ ◌*ℤ◌ (total_base leader s) (totals_base source ss (omega (arith, len)))

-- the expected cost is that of the profile without multipliers
pub expected_base : (source : SourceOf) → IsSource source → (i : ℕ) (leader : LeaderOf) → IsLeader source i leader → (player : PlayerOf) → IsExpanded leader player → (profile : Profile) → length profile ≡ length source → expected_cost player i profile ≡ expected_cost leader.base i (base_profile source profile)
expected_base source form i leader is player expanded profile len =
    ap₂ over (tuple_base source profile (cost_of player i) (cost_of leader.base i) len (λ points e. cost_expanded source form i leader is points e player expanded)) (totals_base source profile len)

pub deviation_base : (source : SourceOf) (profile : Profile) (i : ℕ) (leader : LeaderOf) (z : PointOf) → length profile ≡ length source → IsLeader source i leader → base_profile source (deviation profile i z) ≡ deviation (base_profile source profile) i (base_part leader z)
deviation_base [] profile i leader z len is = absurd cc
deviation_base (l ∷ source) [] i leader z len is = absurd (omega (arith, len))
deviation_base (l ∷ source) (s ∷ ss) zero leader z len is =
    let e : l ≡ leader = cc in ap (λ (m : LeaderOf). surely (base_part m z) ∷ base_profile source ss) e
deviation_base (l ∷ source) (s ∷ ss) (suc i) leader z len is =
    ap (λ (rest : Profile). base_strategy l s ∷ rest) (deviation_base source ss i leader z (omega (arith, len)) is)

pub length-base_profile : (source : SourceOf) (profile : Profile) → length profile ≡ length source → length (base_profile source profile) ≡ length source
length-base_profile [] [] len = refl
length-base_profile [] (s ∷ ss) len = absurd (omega (arith, len))
length-base_profile (leader ∷ source) [] len = absurd (omega (arith, len))
length-base_profile (leader ∷ source) (s ∷ ss) len = ap suc (length-base_profile source ss (omega (arith, len)))

pub strategy_base : (source : SourceOf) (profile : Profile) (i : ℕ) (leader : LeaderOf) → length profile ≡ length source → IsLeader source i leader → strategy_of (base_profile source profile) i ≡ base_strategy leader (strategy_of profile i)
strategy_base [] profile i leader len is = absurd cc
strategy_base (l ∷ source) [] i leader len is = absurd (omega (arith, len))
strategy_base (l ∷ source) (s ∷ ss) zero leader len is =
    let e : l ≡ leader = cc in ap (λ (m : LeaderOf). base_strategy m s) e
strategy_base (l ∷ source) (s ∷ ss) (suc i) leader len is = strategy_base source ss i leader (omega (arith, len)) is
