-- When a box tree is right: in each of its boxes a player has no point, or deviates.
use Rattle.std.specs.Prelude.{ℕ, pos, ◌<ℤ◌}
use Rattle.zr_base.specs.Points.{PointOf}
use Rattle.zr_game.specs.Players.{GameOf, PlayerOf}
use Rattle.zr_game.specs.Forms.{IsPlayer}
use Rattle.zr_game.specs.Feasible.{IsFeasible}
use Rattle.zr_game.specs.Leaves.{IsWholeVar}
use Rattle.zr_tree.specs.Nodes.{Multipliers}
use Rattle.zr_tree.specs.Right.{IsRefutation}
use Rattle.zr_cases.specs.Trees.{BoxTreeOf, Cut, Empty, Deviate}
use Rattle.zr_boxes.specs.Boxes.{BoxOf, cut_above, cut_below}
use Rattle.zr_boxes.specs.Gains.{IsBounded, least_gain}

-- the game has a player i with a whole variable v
abbrev pub HasWholeVar : GameOf → ℕ → ℕ → Type 0
HasWholeVar game i v = (player : PlayerOf) × IsPlayer game i player × IsWholeVar player v

-- the rows of player i with the box's bounds, multiplied, show that it has no point in the box
abbrev pub IsEmptied : GameOf → BoxOf → ℕ → Multipliers → Type 0
IsEmptied game box i mult =
    (player : PlayerOf) × IsPlayer game i player × IsRefutation player (box i) (pos 0) mult

-- the point is one of the player, the bounds that its least gain needs are there, and the gain is
-- above zero
pub record IsBetter (player : PlayerOf) (i : ℕ) (box : BoxOf) (x : PointOf) : Type 0 where
  pub feasible : IsFeasible player x
  pub bounded : IsBounded player i box
  pub gain : (pos 0) <ℤ least_gain player i box x

abbrev pub HasBetter : GameOf → BoxOf → ℕ → PointOf → Type 0
HasBetter game box i x = (player : PlayerOf) × IsPlayer game i player × IsBetter player i box x

abbrev pub IsRightBox : GameOf → BoxOf → BoxTreeOf → Type 0
IsRightBox game box (Cut i v at first second) =
    HasWholeVar game i v
    × IsRightBox game (cut_below box i v at) first
    × IsRightBox game (cut_above box i v at) second
IsRightBox game box (Empty i mult) = IsEmptied game box i mult
IsRightBox game box (Deviate i x) = HasBetter game box i x
