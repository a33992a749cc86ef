-- From the cause of one player's stop to that of all.
use Rattle.std.proofs.Common.{◌≡◌, ℕ, ◌<◌, ◌+◌, arith, sym, subst, ◌∙◌, inl, inr, Ok, Some, List, [], ◌∷◌, take, length, slice_get, All}
use Rattle.zr_base.specs.Fractions.{Fraction}
use Rattle.zr_base.specs.Points.{PointOf}
use Rattle.zr_io.specs.declared.purse.Purse.{Purse}
use Rattle.zr_game.specs.Feasible.{IsFeasible}
use Rattle.zr_game.specs.Forms.{IsPlayer}
use Rattle.zr_game.specs.Players.{GameOf, PlayerOf}
use Rattle.zr_game.specs.Profiles.{IsStrategy, Part, Strategy}
use Rattle.zr_cert.specs.Certs.{MixtureOf, profile_with}
use Rattle.zr_check.specs.Bounds.{all_means}
use Rattle.zr_bnb.specs.Causes.{SpendsWork as SpendsOwnWork}
use Rattle.zr_best.specs.declared.stop.BestStop.{BestStop}
use Rattle.zr_best.specs.declared.stop.BestStop.TheVariants as AStop
use Rattle.zr_best.specs.Best.{ArePlayed}
use Rattle.zr_best.specs.Causes.{IsAnswerCause, IsBestCause}
use Rattle.zr_best.specs.Works.{SpendsBestWork}
use Rattle.zr_best.proofs.Working.{all_work, more_left, more_work}

-- a strategy has a feasible point
first_point : (player : PlayerOf) (parts : Strategy) → IsStrategy player parts
    → (x : PointOf) × IsFeasible player x
first_point player [] s = absurd (let p = s.some in omega (arith, p))
first_point player (part ∷ parts) s = (part.point, s.points 0 part (omega arith))

module _ (game : GameOf) (mixtures : List MixtureOf) (played : ArePlayed game mixtures) where
  pub has_point : (i : ℕ) (player : PlayerOf) → IsPlayer game i player → (x : PointOf) × IsFeasible player x
  has_point i player is = first_point player _ (played.valid.strategies i player is)

  module _ (means : List Fraction) (are : all_means game mixtures ≡ Ok means) (i : ℕ) (player : PlayerOf)
      (is : IsPlayer game i player) (old mid new : Purse) (before : SpendsBestWork (take i game) old mid) where
    pub stop_cause : (stop : BestStop) → IsAnswerCause game mixtures means i player mid new stop
        → IsBestCause game mixtures old new stop
    stop_cause AStop.Spent h = (h.0, more_left game i player is old mid before h.1)
    stop_cause (AStop.Wide asked) h = (i, player, is, h)
    stop_cause (AStop.Step wide) h = inr (means, are, i, player, is, h)
    stop_cause (AStop.Endless k var dir) h =
        (player, subst (λ n. IsPlayer game n player) (sym h.0) is, h.1)
    stop_cause AStop.NoMemory h = tt

    -- and the work that was spent
    pub stop_work : SpendsOwnWork player mid new → SpendsBestWork game old new
    stop_work own = all_work game (i + 1) old new (more_work game i player is old mid before new own)
