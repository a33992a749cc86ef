-- Box trees whose proofs are drawn from the bases of questions.
use Rattle.std.specs.Prelude.{◌≡◌, ℕ, ℤ, pos, List}
use Rattle.zr_game.specs.Players.{GameOf, PlayerOf}
use Rattle.zr_game.specs.Forms.{IsPlayer}
use Rattle.zr_simplex.specs.Programs.{numbers}
use Rattle.zr_tree.specs.Nodes.{Multipliers}
use Rattle.zr_asked.specs.Drawn.{IsDrawnProof}
use Rattle.zr_asked.specs.Stuck.{IsZeroAim}
use Rattle.zr_cases.specs.Trees.{BoxTreeOf, Cut, Empty, Deviate}
use Rattle.zr_boxes.specs.Boxes.{BoxOf, cut_above, cut_below}

-- the multipliers are drawn from the question whether the player's rows have a solution in the box
abbrev pub IsDrawnEmpty : GameOf → BoxOf → ℕ → Multipliers → Type 0
IsDrawnEmpty game box i mult =
    (player : PlayerOf) × IsPlayer game i player × (aim : List ℤ) × IsZeroAim player aim
    × IsDrawnProof player (box i) (numbers aim) (pos 0) mult

-- such multipliers at each empty box, and whole points at deviations
abbrev pub IsDrawnBox : GameOf → BoxOf → BoxTreeOf → Type 0
IsDrawnBox game box (Cut i v at first second) =
    IsDrawnBox game (cut_below box i v at) first × IsDrawnBox game (cut_above box i v at) second
IsDrawnBox game box (Empty i mult) = IsDrawnEmpty game box i mult
IsDrawnBox game box (Deviate i x) = x.den ≡ pos 1
