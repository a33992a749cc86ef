-- From the cause of one player's stop to that of all.
use Rattle.std.proofs.Common.{ℕ, ◌+◌, sym, subst, inr, List, take}
use Rattle.zr_base.specs.Fractions.{Fraction}
use Rattle.zr_io.specs.declared.purse.Purse.{Purse}
use Rattle.zr_game.specs.Forms.{IsPlayer}
use Rattle.zr_game.specs.Players.{GameOf, PlayerOf}
use Rattle.zr_cert.specs.Certs.{MixtureOf, profile_with}
use Rattle.zr_bnb.specs.Causes.{SpendsWork as SpendsOwnWork}
use Rattle.zr_best.specs.Works.{SpendsBestWork}
use Rattle.zr_costs.specs.declared.stop.CostStop.{CostStop}
use Rattle.zr_costs.specs.declared.stop.CostStop.TheVariants as AStop
use Rattle.zr_costs.specs.Causes.{IsBoundCause, IsCostCause, IsOpenOwn}
use Rattle.zr_costs.specs.Costs.{AreStableMeans}
use Rattle.zr_costs.proofs.Working.{all_work, more_left, more_work}

module _ (game : GameOf) (mixtures : List MixtureOf) (means : List Fraction)
    (stable : AreStableMeans game mixtures means) (i : ℕ) (player : PlayerOf)
    (is : IsPlayer game i player) (old mid new : Purse)
    (before : SpendsBestWork (take i game) old mid) where
  pub stop_cause : (stop : CostStop) → IsBoundCause game mixtures means i player mid new stop
      → IsCostCause game mixtures old new stop
  stop_cause AStop.Spent h = (h.0, more_left game i player is old mid before h.1)
  stop_cause (AStop.Wide asked) h = (i, player, is, h)
  stop_cause (AStop.Step wide) h = inr (means, stable.are_means, i, player, is, h)
  stop_cause (AStop.Endless k var dir) h = (
    player,
    subst (λ n. IsPlayer game n player) (sym h.0) is,
    subst (λ n. IsOpenOwn n player (profile_with mixtures) var dir.items) (sym h.0) h.1,
  )
  stop_cause AStop.NoMemory h = tt

  -- and the work that was spent
  pub stop_work : SpendsOwnWork player mid new → SpendsBestWork game old new
  stop_work own = all_work game (i + 1) old new (more_work game i player is old mid before new own)
