-- Leaders without followers are players.
use Rattle.std.proofs.Common.{◌≡◌, ◌↔◌, ℕ, arith, refl, ap, sym, subst, ◌∙◌, Option, option_map, None, Some, List, [], length, slice_get, get_or, All}
use Rattle.std.proofs.lemmas.List.{length-map}
use Rattle.std.proofs.lemmas.Option.{slice_get-map}
use Rattle.zr_base.specs.Fractions.{IsAtMost}
use Rattle.zr_base.specs.Points.{PointOf}
use Rattle.zr_game.specs.Costs.{cost_of}
use Rattle.zr_game.specs.Equilibria.{IsEquilibrium}
use Rattle.zr_game.specs.Feasible.{IsFeasible}
use Rattle.zr_game.specs.Forms.{IsPlayer}
use Rattle.zr_game.specs.Players.{PlayerOf}
use Rattle.zr_game.specs.Profiles.{IsStrategyOver, Profile, Strategy, deviation, expected, strategy_of}
use Rattle.zr_source.specs.Optimal.{IsLeaderFeasible, IsOptimal}
use Rattle.zr_source.specs.SourceEquilibria.{HasNoFollowers, IsSourceEquilibrium}
use Rattle.zr_source.specs.Sources.{FollowerOf, IsLeader, LeaderOf, SourceOf, bases}

pub base_is : (source : SourceOf) (i : ℕ) (leader : LeaderOf) → IsLeader source i leader
    → IsPlayer (bases source) i leader.base
base_is source i leader is =
    let base = λ (l : LeaderOf). l.base in slice_get-map base source i ∙ ap (option_map base) is

base_back : (source : SourceOf) (i : ℕ) (player : PlayerOf) → IsPlayer (bases source) i player
    → (leader : LeaderOf) × IsLeader source i leader × (leader.base ≡ player)
base_back source i player is =
    look (slice_get source i) (sym (slice_get-map (λ (l : LeaderOf). l.base) source i) ∙ is)
  where
    look : (o : Option LeaderOf) → option_map (λ (l : LeaderOf). l.base) o ≡ Some player
        → (leader : LeaderOf) × (o ≡ Some leader) × (leader.base ≡ player)
    look None e = absurd cc
    look (Some leader) e = (leader, refl, cc)

pub points_alone : (leader : LeaderOf) → leader.followers ≡ [] → (x : PointOf)
    → IsLeaderFeasible leader x ↔ IsFeasible leader.base x
points_alone leader none x =
    let answers = λ (fs : List FollowerOf). All (λ f. IsOptimal f x) fs in (
      λ h. h.base,
      λ f. record { base = f; answers = subst answers (sym none) (λ k d h. absurd (omega arith)) },
    )

strategy_over : (P Q : PointOf → Type 0) (parts : Strategy) → ((x : PointOf) → P x → Q x)
    → IsStrategyOver P parts → IsStrategyOver Q parts
strategy_over P Q parts weaker s = record {
  some = s.some;
  weights = s.weights;
  points = λ k d h. weaker (get_or parts k d).point (s.points k d h);
}

module _ (source : SourceOf) (none : HasNoFollowers source) (profile : Profile) where
  feasible_alone : (i : ℕ) (leader : LeaderOf) → IsLeader source i leader → (x : PointOf)
      → IsLeaderFeasible leader x ↔ IsFeasible leader.base x
  feasible_alone i leader is x = points_alone leader (none i leader is) x

  len : length (bases source) ≡ length source
  len = length-map source (λ (l : LeaderOf). l.base)

  to_players : IsSourceEquilibrium source profile → IsEquilibrium (bases source) profile
  to_players e = record {
    valid = record {
      len = e.valid.len ∙ sym len;
      strategies = λ i player is.
          let l = base_back source i player is in
          let over = strategy_over (IsLeaderFeasible l.0) (IsFeasible l.0.base)
          (strategy_of profile i) (λ x. (feasible_alone i l.0 l.1 x).0)
          (e.valid.strategies i l.0 l.1) in
          subst (λ (p : PlayerOf). IsStrategyOver (IsFeasible p) (strategy_of profile i)) l.2 over;
    };
    stable = λ i player is x f.
        let l = base_back source i player is in
        let here = subst (λ (p : PlayerOf). IsFeasible p x) (sym l.2) f in
        let least = e.stable i l.0 l.1 x ((feasible_alone i l.0 l.1 x).1 here) in
        subst (λ (p : PlayerOf). IsAtMost (expected (cost_of p i) profile)
        (expected (cost_of p i) (deviation profile i x))) l.2 least;
  }

  to_leaders : IsEquilibrium (bases source) profile → IsSourceEquilibrium source profile
  to_leaders e = record {
    valid = record {
      len = e.valid.len ∙ len;
      strategies = λ i leader is. strategy_over (IsFeasible leader.base) (IsLeaderFeasible leader)
          (strategy_of profile i) (λ x. (feasible_alone i leader is x).1)
          (e.valid.strategies i leader.base (base_is source i leader is));
    };
    stable = λ i leader is x f. e.stable i leader.base (base_is source i leader is) x f.base;
  }

  pub equilibria_alone : IsSourceEquilibrium source profile ↔ IsEquilibrium (bases source) profile
  equilibria_alone = (to_players, to_leaders)
