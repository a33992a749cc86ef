-- Why an exact cover can't be had.
use Rattle.std.specs.Prelude.{◌≡◌, ℕ}
use Rattle.zr_io.specs.declared.purse.Purse.{Purse}
use Rattle.zr_io.specs.Purses.{counted}
use Rattle.zr_game.specs.Players.{PlayerOf}
use Rattle.zr_game.specs.Rays.{ChangesWhole}
use Rattle.zr_asked.specs.Drawn.{IsDrawnRay}
use Rattle.zr_asked.specs.Stuck.{IsPlainAim, IsStuckAsked}
use Rattle.zr_bnb.specs.Causes.{HasMoreWork}
use Rattle.zr_cover.specs.declared.stop.CoverStop.{CoverStop}
use Rattle.zr_cover.specs.declared.stop.CoverStop.TheVariants as AStop

-- the purse is at its limit, and there is more work than it had left; a question is stuck; or a ray
-- of the relaxation, drawn from a question, changes a whole variable
abbrev pub IsCoverCause : ℕ → PlayerOf → Purse → Purse → CoverStop → Type 0
IsCoverCause i player old new AStop.Spent = (counted new ≡ new.limit) × HasMoreWork player old
IsCoverCause i player old new (AStop.Wide asked) =
    IsStuckAsked i player (IsPlainAim player) asked
IsCoverCause i player old new (AStop.Endless var dir) =
    ChangesWhole player dir.items var × IsDrawnRay player (IsPlainAim player) dir.items
IsCoverCause i player old new AStop.NoMemory = Unit {0}
