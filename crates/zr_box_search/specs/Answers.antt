-- The answers of the search for a box tree.
use Rattle.std.specs.Prelude.{◌≡◌, ℕ, ◌+◌, ◌*◌, ◌≤◌, length, ◌⊎◌}
use Rattle.zr_io.specs.declared.purse.Purse.{Purse}
use Rattle.zr_game.specs.Players.{GameOf}
use Rattle.zr_game.specs.Profiles.{IsOfKind, Profile}
use Rattle.zr_game.specs.Equilibria.{IsEquilibrium}
use Rattle.zr_game.specs.declared.kind.Kind.TheVariants.{Pure}
use Rattle.zr_cases.specs.Trees.{BoxTreeOf, box_preorder}
use Rattle.zr_boxes.specs.Boxes.{root_box}
use Rattle.zr_boxes.specs.Listed.{IsBoxTreeOf}
use Rattle.zr_boxes.specs.Right.{IsRightBox}
use Rattle.zr_box_search.specs.declared.answer.BoxAnswer.{BoxAnswer}
use Rattle.zr_box_search.specs.declared.answer.BoxAnswer.TheVariants.{Refuted, Unsettled}
use Rattle.zr_box_search.specs.Drawn.{IsDrawnBox}
use Rattle.zr_box_search.specs.Narrow.{AreNarrowGains}
use Rattle.zr_box_search.specs.OpenBoxes.{HasUnits, IsOpenBox}
use Rattle.zr_box_search.specs.Whole.{HasOpenPlayer}

-- some pure profile is an equilibrium
abbrev pub HasPureEquilibrium : GameOf → Type 0
HasPureEquilibrium game = (profile : Profile) × IsOfKind Pure profile × IsEquilibrium game profile

-- the tree shows that no pure profile is an equilibrium; it is open and drawn, no deviation of it is
-- too wide to check, its units of work are the branches that were spent, and it has no more nodes
-- than splits and ends of so many
pub record IsSearchedTree (game : GameOf) (old new : Purse) (t : BoxTreeOf) : Type 0 where
  pub right : IsRightBox game (root_box game) t
  pub open_is : IsOpenBox game (root_box game) t
  pub drawn : IsDrawnBox game (root_box game) t
  pub narrow : AreNarrowGains game (root_box game) t
  pub spent : ℕ
  pub units_are : HasUnits game (root_box game) t spent
  pub branches : new.branches ≡ old.branches + spent
  pub few : length (box_preorder t) ≤ 1 + 2 * spent

-- such a tree; or no box tree is searched for this game, or it has a pure equilibrium
abbrev pub IsBoxAnswer : GameOf → Purse → Purse → BoxAnswer → Type 0
IsBoxAnswer game old new (Refuted tree) =
    (t : BoxTreeOf) × IsBoxTreeOf tree t × IsSearchedTree game old new t
IsBoxAnswer game old new Unsettled = HasOpenPlayer game ⊎ HasPureEquilibrium game
