-- Box trees no deviation of which is too wide to check.
use Rattle.zr_game.specs.Players.{GameOf}
use Rattle.zr_cases.specs.Cases.{DeviateNode}
use Rattle.zr_cases.specs.Trees.{BoxTreeOf, Cut, Empty, Deviate}
use Rattle.zr_boxes.specs.Boxes.{BoxOf, cut_above, cut_below}
use Rattle.zr_boxes.specs.Steps.{IsWideEnd}

-- no step of a deviation's test or of its least gain is too wide
abbrev pub AreNarrowGains : GameOf → BoxOf → BoxTreeOf → Type 0
AreNarrowGains game box (Cut i v at first second) =
    AreNarrowGains game (cut_below box i v at) first
    × AreNarrowGains game (cut_above box i v at) second
AreNarrowGains game box (Empty i mult) = Unit {0}
AreNarrowGains game box (Deviate i x) = IsWideEnd game box (DeviateNode i x) → ⊥
