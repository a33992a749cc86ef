-- Why the named items can't be had.
use Rattle.std.specs.Prelude.{ℕ}
use Rattle.zr_game.specs.Players.{PlayerOf}
use Rattle.zr_asked.specs.Stuck.{IsPlainAim, IsStuckAsked}
use Rattle.zr_naming.specs.declared.stop.NamingStop.{NamingStop}
use Rattle.zr_naming.specs.declared.stop.NamingStop.TheVariants as AStop

-- a question of the player is stuck, whose aim is zero or plus or minus one variable
abbrev pub IsNamingCause : ℕ → PlayerOf → NamingStop → Type 0
IsNamingCause i player (AStop.Wide asked) = IsStuckAsked i player (IsPlainAim player) asked
IsNamingCause i player AStop.NoMemory = Unit {0}
