-- What a helper of the search gives.
use Rattle.std.specs.Prelude.{◌≡◌, ℕ, ℤ, Result, Err, List}
use Rattle.std.specs.List.{All}
use Rattle.zr_base.specs.Fractions.{Fraction}
use Rattle.zr_base.specs.Steps.{IsNarrow}
use Rattle.zr_base.specs.declared.step.Wide.{Wide}
use Rattle.zr_game.specs.Players.{GameOf, PlayerOf}
use Rattle.zr_bnb.specs.declared.answer.BnbStop.{BnbStop}
use Rattle.zr_bnb.specs.declared.answer.BnbStop.TheVariants as ABnb
use Rattle.zr_best.specs.Aims.{IsAimMade}
use Rattle.zr_best.specs.declared.stop.BestStop.{BestStop}
use Rattle.zr_best.specs.declared.stop.BestStop.TheVariants as AStop
use Rattle.zr_best.specs.declared.stop.Halt.{Halt}
use Rattle.zr_best.specs.declared.stop.Halt.TheVariants as AHalt
use Rattle.zr_best.specs.declared.aim.Aim.{Aim}

-- the steps have no result: this one is too wide
abbrev pub IsHalt : {A : Type 0} → Result A Wide → Halt → Type 0
IsHalt made AHalt.NoMemory = Unit {0}
IsHalt made (AHalt.Wide w) = made ≡ Err w

-- the stop of player i's answer, whose search stopped so
abbrev pub stop_for : ℕ → BnbStop → BestStop
stop_for i ABnb.Spent = AStop.Spent
stop_for i (ABnb.Wide asked) = AStop.Wide asked
stop_for i (ABnb.WideAim wide) = AStop.Step wide
stop_for i (ABnb.Endless var dir) = AStop.Endless i var dir
stop_for i ABnb.NoMemory = AStop.NoMemory

-- the aim that was made of a slope at these means
pub record IsAim (game : GameOf) (player : PlayerOf) (means : List Fraction) (aim : Aim)
    : Type 0 where
  pub made : IsAimMade game player means aim.by aim.numbers.items
  pub narrow : All IsNarrow aim.numbers.items
  pub by_narrow : IsNarrow aim.by
