-- What becomes of a box, and of a player in a single profile.
use Rattle.std.specs.Prelude.{◌≡◌, ℕ, ◌+◌, ◌<◌, ◌≤◌, ℤ, pos, ◌≤ℤ◌, ◌<ℤ◌, Option, Some, None, List, ◌∷◌, length}
use Rattle.zr_base.specs.Points.{PointOf}
use Rattle.zr_io.specs.declared.purse.Purse.{Purse}
use Rattle.zr_io.specs.Purses.{counted}
use Rattle.zr_game.specs.Players.{GameOf, PlayerOf}
use Rattle.zr_game.specs.Feasible.{IsFeasible}
use Rattle.zr_game.specs.Forms.{IsPlayer}
use Rattle.zr_game.specs.Leaves.{LeafOf}
use Rattle.zr_simplex.specs.Programs.{numbers}
use Rattle.zr_tree.specs.Nodes.{Multipliers}
use Rattle.zr_tree.specs.Right.{IsRefutation}
use Rattle.zr_asked.specs.declared.question.Move.TheVariants as AMove
use Rattle.zr_asked.specs.Drawn.{IsDrawnProof}
use Rattle.zr_asked.specs.OpenTrees.{Work, units}
use Rattle.zr_asked.specs.Stuck.{IsStuckAsked, IsZeroAim}
use Rattle.zr_branch.specs.declared.reply.AskStop.{AskStop}
use Rattle.zr_branch.specs.declared.reply.AskStop.TheVariants as AAsk
use Rattle.zr_bnb.specs.Causes.{HasMoreWork}
use Rattle.zr_bnb.specs.declared.answer.BnbStop.{BnbStop}
use Rattle.zr_bnb.specs.declared.answer.BnbStop.TheVariants as ABnb
use Rattle.zr_bnb.specs.declared.answer.LeastAnswer.{LeastAnswer}
use Rattle.zr_bnb.specs.declared.answer.LeastAnswer.TheVariants as ALeast
use Rattle.zr_cases.specs.Cases.{BNodeOf, CutNode, EmptyNode, DeviateNode, bnode_of}
use Rattle.zr_cases.specs.Forms.{AreCounted, IsBoxForm, IsBoxTree}
use Rattle.zr_cases.specs.Trees.{BoxTreeOf, box_preorder}
use Rattle.zr_boxes.specs.Boxes.{BoxOf}
use Rattle.zr_boxes.specs.Gains.{least_gain}
use Rattle.zr_boxes.specs.Right.{HasBetter, IsBetter, IsEmptied}
use Rattle.zr_box_search.specs.declared.answer.BoxStop.{BoxStop}
use Rattle.zr_box_search.specs.declared.answer.BoxStop.TheVariants as AStop
use Rattle.zr_box_search.specs.declared.split.BoxSplit.{BoxSplit}
use Rattle.zr_box_search.specs.declared.visit.BoxFate.{BoxFate}
use Rattle.zr_box_search.specs.declared.visit.BoxFate.TheVariants as AFate
use Rattle.zr_box_search.specs.Answers.{HasPureEquilibrium, IsSearchedTree}
use Rattle.zr_box_search.specs.Causes.{IsStuckBox}
use Rattle.zr_box_search.specs.Drawn.{IsDrawnEmpty}
use Rattle.zr_box_search.specs.Dues.{AddsMove, Paths}
use Rattle.zr_box_search.specs.OpenBoxes.{HasEndUnits, HasPoints}

-- the leaf's rows have no solution, by the multipliers, which are drawn from the question whether
-- they have one
pub record IsRefutedLeaf (player : PlayerOf) (leaf : LeafOf) (mult : Multipliers) : Type 0 where
  pub refutation : IsRefutation player leaf (pos 0) mult
  pub counted_are : AreCounted mult
  pub aim : List ℤ
  pub zero_is : IsZeroAim player aim
  pub drawn : IsDrawnProof player leaf (numbers aim) (pos 0) mult

-- the question whether a branch has a point is stuck
abbrev pub IsZeroStop : ℕ → PlayerOf → AskStop → Type 0
IsZeroStop i player (AAsk.Wide asked) = IsStuckAsked i player (IsZeroAim player) asked
IsZeroStop i player AAsk.NoMemory = Unit {0}

-- the node closes the box: multipliers that are drawn show that a player has no point in it, or a
-- whole point is better for a player
abbrev pub IsEndNode : GameOf → BoxOf → BNodeOf → Type 0
IsEndNode game box (CutNode i v at) = ⊥
IsEndNode game box (EmptyNode i mult) = IsEmptied game box i mult × IsDrawnEmpty game box i mult
IsEndNode game box (DeviateNode i x) = HasBetter game box i x × (x.den ≡ pos 1)

-- the split of the leaf is between the two bounds of a variable: from the lower one on, and below
-- the upper one
pub record SplitsRange (player : PlayerOf) (leaf : LeafOf) (split : BoxSplit) : Type 0 where
  pub var : split.var < length player.vars
  pub low : ℤ
  pub high : ℤ
  pub low_is : leaf.low split.var ≡ Some low
  pub high_is : leaf.high split.var ≡ Some high
  pub from_low : low ≤ℤ split.at
  pub below_high : split.at <ℤ high

abbrev pub SplitsRangeIn : GameOf → BoxOf → BoxSplit → Type 0
SplitsRangeIn game box split =
    (player : PlayerOf) × IsPlayer game split.player player
    × SplitsRange player (box split.player) split

-- so many branches were spent, and no cuts
pub record SpendsUnits (old new : Purse) (n : ℕ) : Type 0 where
  pub limit : new.limit ≡ old.limit
  pub cuts : new.cuts ≡ old.cuts
  pub pivots : old.pivots ≤ new.pivots
  pub branches : new.branches ≡ old.branches + n

-- no more were spent than the units at some end of the box
pub record SpendsEndUnits (game : GameOf) (box : BoxOf) (old new : Purse) : Type 0 where
  pub limit : new.limit ≡ old.limit
  pub cuts : new.cuts ≡ old.cuts
  pub pivots : old.pivots ≤ new.pivots
  pub branches : old.branches ≤ new.branches
  pub most : ℕ
  pub units_are : HasEndUnits game box most
  pub at_most : new.branches ≤ old.branches + most

-- units of the end of a box were spent
abbrev pub SpendsEnd : GameOf → BoxOf → Purse → Purse → Type 0
SpendsEnd game box old new = (n : ℕ) × HasEndUnits game box n × SpendsUnits old new n

-- an end of the box has more units than the purse had left
abbrev pub HasMoreAtEnd : GameOf → BoxOf → Purse → Type 0
HasMoreAtEnd game box purse =
    (n : ℕ) × HasEndUnits game box n × (purse.limit < counted purse + n)

-- the purse is at its limit, and an end of the box has more units than it had left; or a question
-- is stuck
abbrev pub IsEndCause : GameOf → BoxOf → Purse → Purse → BoxStop → Type 0
IsEndCause game box old new AStop.Spent = (counted new ≡ new.limit) × HasMoreAtEnd game box old
IsEndCause game box old new (AStop.Wide asked) = IsStuckBox game asked
IsEndCause game box old new AStop.NoMemory = Unit {0}

-- the box is closed by a node; or each player has a point in it, and it is split; or a profile in
-- it is an equilibrium
abbrev pub IsBoxFate : GameOf → BoxOf → Purse → Purse → BoxFate → Type 0
IsBoxFate game box old new (AFate.Closed node) =
    IsEndNode game box (bnode_of node) × IsBoxForm (bnode_of node) × SpendsEnd game box old new
IsBoxFate game box old new (AFate.Divided split) =
    HasPoints game box × SplitsRangeIn game box split × SpendsUnits old new 0
IsBoxFate game box old new AFate.Stable = HasPureEquilibrium game

-- ---- a player in a single profile

-- no point of the player is better than its own in the profile
abbrev pub HasNoBetter : PlayerOf → ℕ → BoxOf → Type 0
HasNoBetter player i box =
    (x : PointOf) → IsFeasible player x → least_gain player i box x ≤ℤ (pos 0)

-- a better point, or there is none
abbrev pub IsBestReply : PlayerOf → ℕ → BoxOf → Option PointOf → Type 0
IsBestReply player i box None = HasNoBetter player i box
IsBestReply player i box (Some x) = IsBetter player i box x × (x.den ≡ pos 1)

-- the units of an open tree over the player's points were spent
abbrev pub SpendsTree : PlayerOf → Purse → Purse → Type 0
SpendsTree player old new = (work : Work player) × SpendsUnits old new (units work.tree)

-- the purse is at its limit, and there is more work over the player's points than it had left; or
-- a question of the player is stuck
abbrev pub IsReplyCause : GameOf → PlayerOf → Purse → Purse → BoxStop → Type 0
IsReplyCause game player old new AStop.Spent =
    (counted new ≡ new.limit) × HasMoreWork player old
IsReplyCause game player old new (AStop.Wide asked) = IsStuckBox game asked
IsReplyCause game player old new AStop.NoMemory = Unit {0}

-- the stop isn't one of an aim that is too wide, or of a ray
abbrev pub IsPlainStop : BnbStop → Type 0
IsPlainStop ABnb.Spent = Unit {0}
IsPlainStop (ABnb.Wide asked) = Unit {0}
IsPlainStop ABnb.NoMemory = Unit {0}
IsPlainStop (ABnb.WideAim wide) = ⊥
IsPlainStop (ABnb.Endless var dir) = ⊥

-- ---- the nodes of a search

-- the nodes are those of one tree that a search may answer
pub record AreSearched (game : GameOf) (old new : Purse) (nodes : List BNodeOf) : Type 0 where
  pub form : IsBoxTree nodes
  pub tree : BoxTreeOf
  pub nodes_are : box_preorder tree ≡ nodes
  pub searched : IsSearchedTree game old new tree

-- the two children of a split box are the next ones
abbrev pub AddsChildren : Paths → BoxSplit → List Paths → List Paths → Type 0
AddsChildren paths split old new =
    (lower : Paths) × (upper : Paths)
    × AddsMove paths split.player (AMove.Low split.var split.at) lower
    × AddsMove paths split.player (AMove.High split.var split.at) upper
    × (new ≡ lower ∷ upper ∷ old)

-- the answer has a point, and this is it
abbrev pub HasLeastPoint : LeastAnswer → Type 0
HasLeastPoint (ALeast.At point value tree) = Unit {0}
HasLeastPoint (ALeast.Empty tree) = ⊥
HasLeastPoint (ALeast.Below base dir) = ⊥

abbrev pub IsLeastPoint : LeastAnswer → PointOf → Type 0
IsLeastPoint (ALeast.At point value tree) x = x ≡ point
IsLeastPoint (ALeast.Empty tree) x = Unit {0}
IsLeastPoint (ALeast.Below base dir) x = Unit {0}
