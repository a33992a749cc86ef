-- Why a decision stopped is why the work came to its end.
use Rattle.std.proofs.Common.{◌≡◌, ℕ, arith, refl}
use Rattle.zr_io.specs.declared.purse.Purse.{Purse}
use Rattle.zr_io.specs.Purses.{StartsAt}
use Rattle.zr_game.specs.Players.{GameOf}
use Rattle.zr_game.specs.declared.kind.Kind.{Kind}
use Rattle.zr_decide.specs.declared.stop.DecideStop.{DecideStop}
use Rattle.zr_decide.specs.declared.stop.DecideStop.TheVariants as ADecide
use Rattle.zr_decide.specs.Causes.{IsDecideCause}
use Rattle.zr_decide.specs.Works.{IsBelowMostWork, SpendsDecideWork}
use Rattle.zr_drive.specs.Ends.{IsDriveCause, end_of}

module _ (game : GameOf) (kind : Kind) (limit : ℕ) (old new : Purse)
    (start : StartsAt old limit) (spends : SpendsDecideWork game kind old new) where
  pub cause_if_stopped : (stop : DecideStop) → IsDecideCause game kind old new stop
      → (stop ≡ ADecide.Spent → IsBelowMostWork game old)
      → IsDriveCause game kind limit (end_of limit stop)
  cause_if_stopped ADecide.Spent h below = (
    refl,
    (old, new, start, spends, h),
    λ bounded. (let l = below refl bounded in omega (arith, l, start.1, start.2, start.3)),
  )
  cause_if_stopped (ADecide.Wide asked) h below = (old, new, start, spends, h)
  cause_if_stopped (ADecide.Step wide) h below = (old, new, start, spends, h)
  cause_if_stopped (ADecide.Endless i var dir named) h below = (old, new, start, spends, h)
  cause_if_stopped (ADecide.TooLarge cells) h below = (old, new, start, spends, h)
  cause_if_stopped ADecide.NoMemory h below = tt
