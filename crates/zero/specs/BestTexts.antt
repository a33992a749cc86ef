-- What is said of best answers to a certificate's profile, and why there are none.
use Rattle.std.specs.Prelude.{◌≡◌, ℕ, ℤ, ◌<◌, List, [], length, slice_get, Some}
use Rattle.zr_base.specs.Fractions.{Fraction, IsAtMost, IsLess, whole}
use Rattle.zr_base.specs.Points.{PointOf}
use Rattle.zr_game.specs.Players.{GameOf, PlayerOf}
use Rattle.zr_game.specs.Forms.{IsPlayer}
use Rattle.zr_game.specs.Profiles.{Profile}
use Rattle.zr_game.specs.Rays.{Direction, moved}
use Rattle.zr_source.specs.Optimal.{IsLeaderFeasible}
use Rattle.zr_source.specs.Sources.{IsLeader, LeaderOf, SourceOf}
use Rattle.zr_follow.specs.BaseParts.{base_part, base_profile}
use Rattle.zr_follow.specs.Expansion.{expansion}
use Rattle.zr_mix.specs.Values.{IsReduced}
use Rattle.zr_tree.specs.Trees.{TreeOf}
use Rattle.zr_io.specs.Contents.{Bytes}
use Rattle.zr_cert.specs.Certs.{BoundOf, CertOf, MixtureOf, ProfileVerdict, profile_with}
use Rattle.zr_check.specs.Right.{AreRightStrategies}
use Rattle.zr_check.specs.WideSteps.{HasWidePart}
use Rattle.zr_text.specs.Faults.{IsText}
use Rattle.zr_report.specs.declared.answer.Answer.{Answer}
use Rattle.zr_report.specs.declared.answer.Answer.TheVariants.{Below, Least}
use Rattle.zr_report.specs.declared.end.End.{End}
use Rattle.zr_report.specs.declared.end.End.TheVariants as ends
use Rattle.zr_report.specs.Spelling.{best_text}
use Rattle.zr_best.specs.Aims.{IsWideBestStep}
use Rattle.zr_best.specs.Best.{AreBestAnswers, deviation_cost}
use Rattle.zr_best.specs.Causes.{IsOpenAlong, IsStuckAlong}
use Rattle.zr_best.specs.Works.{AreOpenTrees, all_units}
use Rattle.zr_works.specs.Most.{AreAllBounded, all_choices}

-- the bytes are the text of a certificate for as many players as the game has, whose verdict is a
-- profile: these strategies, feasible ones of the certificate's kind, with the printed totals; and
-- no step of their test is too wide
pub record IsProfileText (game : GameOf) (bytes : Bytes) (mixtures : List MixtureOf) : Type 0 where
  pub cert : CertOf
  pub bounds : List BoundOf
  pub is_text : IsText cert bytes
  pub players : cert.players ≡ length game
  pub verdict : cert.verdict ≡ ProfileVerdict mixtures bounds
  pub right : AreRightStrategies game cert.kind mixtures
  pub narrow : HasWidePart game mixtures → ⊥

-- a deviation of the leader to a feasible point costs it this, in lowest terms, and none costs less
pub record IsLeastFor (leader : LeaderOf) (i : ℕ) (profile : Profile) (cost : Fraction) : Type 0 where
  pub point : PointOf
  pub feasible : IsLeaderFeasible leader point
  pub cost_is : IsReduced cost (deviation_cost leader.base i profile point)
  pub least : (x : PointOf) → IsLeaderFeasible leader x
      → IsAtMost cost (deviation_cost leader.base i profile x)

-- whole steps along the direction, without the multipliers, lead to feasible points of the leader,
-- and what deviations to them cost falls below each number
pub record FallsFor (leader : LeaderOf) (i : ℕ) (profile : Profile) (base : PointOf) (dir : Direction)
    : Type 0 where
  pub feasible : (t : ℕ) → IsLeaderFeasible leader (base_part leader (moved base dir t))
  pub falls : (bound : ℤ) → (t : ℕ)
      × IsLess (deviation_cost leader.base i profile (base_part leader (moved base dir t)))
      (whole bound)

-- what the leader can get at best against the others' strategies
abbrev pub IsBestFor : LeaderOf → ℕ → Profile → Answer → Type 0
IsBestFor leader i profile (Least cost tree) = IsLeastFor leader i profile cost
IsBestFor leader i profile (Below base dir) = FallsFor leader i profile base dir.items

-- one answer for each leader of the game as it was read
pub record AreBestFor (source : SourceOf) (profile : Profile) (answers : List Answer) : Type 0 where
  pub len : length answers ≡ length source
  pub each : (i : ℕ) (leader : LeaderOf) (answer : Answer) → IsLeader source i leader
      → slice_get answers i ≡ Some answer → IsBestFor leader i profile answer

-- the text says what each player of the game with its followers' conditions can get at best against
-- the profile of these bytes
pub record IsBestText (game : GameOf) (bytes text : Bytes) : Type 0 where
  pub mixtures : List MixtureOf
  pub profile : IsProfileText game bytes mixtures
  pub answers : List Answer
  pub best : AreBestAnswers game (profile_with mixtures) answers
  pub says : text ≡ best_text answers

-- so does it for each leader of the game as it was read, its followers answering optimally, against
-- the profile without its multipliers
pub record IsBestReply (source : SourceOf) (bytes text : Bytes) : Type 0 where
  pub shown : IsBestText (expansion source) bytes text
  pub truth : AreBestFor source (base_profile source (profile_with shown.mixtures)) shown.answers

-- open trees, one per player, have together more units than this
abbrev pub HasMoreWorkThan : ℕ → GameOf → Type 0
HasMoreWorkThan budget game =
    (trees : List TreeOf) × AreOpenTrees game trees × (budget < all_units trees)

-- why there are no best answers to the profile within this budget: there is more work than it, which
-- is then less than the players' leaf choices where all whole variables have both bounds; a question
-- or a step is too wide; or a least cost is open
abbrev pub IsBestEnd : GameOf → List MixtureOf → ℕ → End → Type 0
IsBestEnd game mixtures budget (ends.Budget limit) =
    (limit ≡ budget) × HasMoreWorkThan budget game
    × (AreAllBounded game → budget < all_choices game)
IsBestEnd game mixtures budget (ends.Stuck asked) =
    (i : ℕ) × (player : PlayerOf) × IsPlayer game i player
    × IsStuckAlong i player (profile_with mixtures) asked
IsBestEnd game mixtures budget (ends.Step wide) = IsWideBestStep game mixtures wide
IsBestEnd game mixtures budget (ends.Certificate number cert) = ⊥
IsBestEnd game mixtures budget (ends.Open i var dir named) =
    (player : PlayerOf) × IsPlayer game i player
    × IsOpenAlong player (profile_with mixtures) var dir.items × (named.items ≡ [])
IsBestEnd game mixtures budget (ends.Large cells) = ⊥
IsBestEnd game mixtures budget (ends.Long bytes) = ⊥
