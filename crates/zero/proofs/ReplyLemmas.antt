-- What is true of best answers in a game with its followers' conditions is true in the game as it was
-- read.
use Rattle.std.proofs.Common.{◌≡◌, ◌∙◌, ℕ, ℤ, List, length, slice_get, Some, sym, subst}
use Rattle.std.proofs.lemmas.List.{length-map}
use Rattle.zr_base.specs.Fractions.{Fraction, IsAtMost, IsLess, whole}
use Rattle.zr_base.specs.Points.{PointOf}
use Rattle.zr_base.proofs.SameLaws.{order_same, same_refl}
use Rattle.zr_game.specs.Feasible.{IsFeasible}
use Rattle.zr_game.specs.Profiles.{Profile}
use Rattle.zr_game.specs.Rays.{Direction, moved}
use Rattle.zr_io.specs.Contents.{Bytes}
use Rattle.zr_mix.specs.Values.{IsReduced}
use Rattle.zr_source.specs.Optimal.{IsLeaderFeasible}
use Rattle.zr_source.specs.SourceForms.{IsSource}
use Rattle.zr_source.specs.Sources.{IsLeader, LeaderOf, SourceOf, bases}
use Rattle.zr_follow.specs.BaseParts.{base_part, base_profile}
use Rattle.zr_follow.specs.Expansion.{expanded, expansion}
use Rattle.zr_follow.proofs.BaseProfiles.{base_is}
use Rattle.zr_follow.proofs.Equilibria.{all_deviations, deviations}
use Rattle.zr_follow.proofs.Expanded.{leader_feasible}
use Rattle.zr_follow.proofs.Relations.{expanded_is, expansion_is, player_expanded}
use Rattle.zr_cert.specs.Certs.{profile_with}
use Rattle.zr_report.specs.declared.answer.Answer.{Answer}
use Rattle.zr_report.specs.declared.answer.Answer.TheVariants.{Below, Least}
use Rattle.zr_best.specs.Best.{AreBestAnswers, FallsWithoutEnd, IsBestAnswer, IsLeastCostAt, deviation_cost}
use Rattle.zero.specs.BestTexts.{AreBestFor, FallsFor, IsBestFor, IsBestReply, IsBestText, IsLeastFor}

module _ (source : SourceOf) (form : IsSource source) (profile : Profile)
    (answers : List Answer) (best : AreBestAnswers (expansion source) profile answers) where
  abbrev base : Profile
  base = base_profile source profile

  module _ (i : ℕ) (leader : LeaderOf) (is : IsLeader source i leader) where
    -- a feasible point of the expanded player is one of the leader, without the multipliers
    leaders_point : (z : PointOf) → IsFeasible (expanded leader) z
        → IsLeaderFeasible leader (base_part leader z)
    leaders_point z h =
        leader_feasible (bases source) i leader (expanded leader)
        (form.bases.players i leader.base (base_is source i leader is)) (form.leaders i leader is)
        (expanded_is leader) z h

    -- the deviation to it costs the same
    same_cost : (z : PointOf) → IsFeasible (expanded leader) z
        → deviation_cost (expanded leader) i profile z
        ≡ deviation_cost leader.base i base (base_part leader z)
    same_cost z h =
        deviations source form (expansion source) (expansion_is source) profile best.valid i leader
        (expanded leader) is (player_expanded source i leader is) z h

    least_for : (cost : Fraction) (x : PointOf)
        → IsLeastCostAt (expanded leader) i profile cost x → IsLeastFor leader i base cost
    least_for cost x h = record {
      point = base_part leader x;
      feasible = leaders_point x h.feasible;
      cost_is = subst (IsReduced cost) (same_cost x h.feasible) h.cost_is;
      least = λ y feasible.
          let found = all_deviations source form (expansion source) (expansion_is source) profile
          best.valid i leader (expanded leader) is (player_expanded source i leader is) y feasible in
          order_same cost (deviation_cost (expanded leader) i profile found.0) cost
          (deviation_cost leader.base i base y) (same_refl cost h.cost_is.same.left) found.2
          (h.least found.0 found.1);
    }

    falls_for : (point : PointOf) (dir : Direction)
        → FallsWithoutEnd (expanded leader) i profile point dir → FallsFor leader i base point dir
    falls_for point dir h = record {
      feasible = λ t. leaders_point (moved point dir t) (h.stays t);
      falls = λ bound.
          let found = h.falls bound in (
            found.0,
            subst (λ (cost : Fraction). IsLess cost (whole bound))
                (same_cost (moved point dir found.0) (h.stays found.0)) found.1,
          );
    }

    best_for : (answer : Answer) → IsBestAnswer (expanded leader) i profile answer
        → IsBestFor leader i base answer
    best_for (Least cost tree) h = least_for cost h.0 h.1
    best_for (Below point dir) h = falls_for point dir.items h

  are_best : AreBestFor source base answers
  are_best = record {
    len = best.len ∙ length-map source expanded;
    each = λ i leader answer is at.
        best_for i leader is answer (best.each i (expanded leader) answer (player_expanded source i leader is) at);
  }

-- the text of best answers in the game with its followers' conditions is one in the game as it was
-- read
pub reply_of : (source : SourceOf) → IsSource source → (bytes text : Bytes)
    → IsBestText (expansion source) bytes text → IsBestReply source bytes text
reply_of source form bytes text h = record {
  shown = h;
  truth = are_best source form (profile_with h.mixtures) h.answers h.best;
}
