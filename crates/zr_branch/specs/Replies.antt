-- What the question of a branch is answered, in terms of the leaf's slots.
use Rattle.std.specs.Prelude.{◌≡◌, ℕ, ◌<◌, ◌≤◌, ℤ, pos, neg_ℤ, ◌*ℤ◌, ◌<ℤ◌, ◌≤ℤ◌, List, length, Some}
use Rattle.std.specs.List.{All}
use Rattle.zr_base.specs.Fractions.{Fraction}
use Rattle.zr_base.specs.Lowest.{IsLowest}
use Rattle.zr_base.specs.Points.{PointOf}
use Rattle.zr_base.specs.Steps.{IsNarrow}
use Rattle.zr_base.specs.Sums.{sum_to}
use Rattle.zr_io.specs.declared.purse.Purse.{Purse}
use Rattle.zr_lin.specs.declared.stuck.Stuck.{Stuck}
use Rattle.zr_game.specs.Players.{GameOf, PlayerOf}
use Rattle.zr_game.specs.Forms.{IsPlayerForm}
use Rattle.zr_game.specs.Leaves.{Bound, LeafOf, MeetsLeaf, slot_of, slots}
use Rattle.zr_game.specs.Rays.{Direction, change_of}
use Rattle.zr_tree.specs.Form.{AreMultipliers, greatest_split, least_split}
use Rattle.zr_tree.specs.Nodes.{Multipliers}
use Rattle.zr_tree.specs.Right.{ArePresent, IsRefuting, left_of, right_of}
use Rattle.zr_simplex.specs.Programs.{numbers}
use Rattle.zr_asked.specs.declared.question.Move.{Move}
use Rattle.zr_asked.specs.declared.question.Move.TheVariants as AMove
use Rattle.zr_asked.specs.declared.question.Asked.{Asked}
use Rattle.zr_asked.specs.declared.question.Asked.TheVariants.{Branch, Choices}
use Rattle.zr_asked.specs.Drawn.{IsBranchDirection, IsBranchSolution, IsDrawnProof}
use Rattle.zr_asked.specs.Paths.{branch}
use Rattle.zr_asked.specs.Stuck.{IsStuckBranch}
use Rattle.zr_branch.specs.declared.reply.Reply.{Reply}
use Rattle.zr_branch.specs.declared.reply.Reply.TheVariants.{Best, Empty, Unbounded}
use Rattle.zr_branch.specs.declared.reply.AskStop.{AskStop}
use Rattle.zr_branch.specs.declared.reply.AskStop.TheVariants as AStop
use Rattle.zr_branch.specs.Values.{IsValue, aim_value}

-- the player keeps the rules as player i of some game
abbrev pub IsSomePlayer : ℕ → PlayerOf → Type 0
IsSomePlayer i player = (game : GameOf) × IsPlayerForm game i player

-- a split is at a number from -2^62 to 2^62 - 1
abbrev pub IsMoveForm : Move → Type 0
IsMoveForm (AMove.Low v at) = (least_split ≤ℤ at) × (at ≤ℤ greatest_split)
IsMoveForm (AMove.High v at) = (least_split ≤ℤ at) × (at ≤ℤ greatest_split)
IsMoveForm (AMove.VarZero p) = Unit {0}
IsMoveForm (AMove.RowZero p) = Unit {0}

-- multipliers of at least 1 on slots that are present
pub record AreSlotMultipliers (player : PlayerOf) (leaf : LeafOf) (mult : Multipliers) : Type 0 where
  pub form : AreMultipliers mult
  pub present : ArePresent (slots player leaf) mult

-- the slots times the multipliers are the negated aim times the scale, and their right side is at
-- most the negated value times the scale
pub record ProvesValue (player : PlayerOf) (leaf : LeafOf) (aim : List ℤ) (value : Fraction)
    (scale : ℤ) (mult : Multipliers) : Type 0 where
  pub multipliers : AreSlotMultipliers player leaf mult
  pub positive : (pos 1) ≤ℤ scale
  pub narrow : IsNarrow scale
  pub left : (j : ℕ) → j < length player.vars
      → left_of (slots player leaf) mult j ≡ neg_ℤ (scale *ℤ numbers aim j)
  pub right : (right_of (slots player leaf) mult *ℤ value.den) ≤ℤ neg_ℤ (scale *ℤ value.num)

-- the leaf's rows have no solution, by the multipliers, which are drawn from the question
pub record ProvesEmpty (player : PlayerOf) (leaf : LeafOf) (aim : List ℤ)
    (mult : Multipliers) : Type 0 where
  pub multipliers : AreSlotMultipliers player leaf mult
  pub refuting : IsRefuting player (pos 0) (slots player leaf) mult
  pub drawn : IsDrawnProof player leaf (numbers aim) (pos 0) mult

-- a point of the leaf, a basic solution, has the aim's least value there, by the multipliers, which
-- are drawn from the question
pub record IsBestAt (player : PlayerOf) (leaf : LeafOf) (aim : List ℤ) (x : PointOf)
    (value : Fraction) (scale : ℤ) (mult : Multipliers) : Type 0 where
  pub meets : MeetsLeaf player leaf x
  pub lowest : IsLowest value
  pub value_is : IsValue player aim value x
  pub proof : ProvesValue player leaf aim value scale mult
  pub solution : IsBranchSolution player leaf (numbers aim) x
  pub drawn : IsDrawnProof player leaf (numbers aim) scale mult

-- no row of the leaf rises along the direction
abbrev pub KeepsLeaf : PlayerOf → LeafOf → Direction → Type 0
KeepsLeaf player leaf dir =
    (k : ℕ) (row : Bound) → slot_of (slots player leaf) k ≡ Some row
    → sum_to (length player.vars) (λ j. row.coef j *ℤ change_of dir j) ≤ℤ (pos 0)

-- from a point of the leaf, a basic solution, the aim falls along the ray, a basic direction
pub record IsUnboundedAt (player : PlayerOf) (leaf : LeafOf) (aim : List ℤ) (x : PointOf)
    (ray : Direction) : Type 0 where
  pub meets : MeetsLeaf player leaf x
  pub len : length ray ≡ length player.vars
  pub narrow : All IsNarrow ray
  pub keeps : KeepsLeaf player leaf ray
  pub falls : aim_value player aim (change_of ray) <ℤ (pos 0)
  pub solution : IsBranchSolution player leaf (numbers aim) x
  pub direction : IsBranchDirection player leaf (numbers aim) ray

abbrev pub IsReply : PlayerOf → LeafOf → List ℤ → Reply → Type 0
IsReply player leaf aim (Best x value scale mult) = IsBestAt player leaf aim x value scale mult.items
IsReply player leaf aim (Empty mult) = ProvesEmpty player leaf aim mult.items
IsReply player leaf aim (Unbounded x ray) = IsUnboundedAt player leaf aim x ray.items

-- the question is this one
abbrev pub IsQuestion : ℕ → List Move → List ℤ → Asked → Type 0
IsQuestion i path aim (Branch p q a) = (p ≡ i) × (q.items ≡ path) × (a.items ≡ aim)
IsQuestion i path aim (Choices path_) = ⊥

-- the stop keeps this question and what is stuck, or is want of memory
abbrev pub KeepsStuck : ℕ → List Move → List ℤ → Stuck → AskStop → Type 0
KeepsStuck i path aim stuck (AStop.Wide asked) =
    IsQuestion i path aim asked.question × (asked.stuck ≡ stuck)
KeepsStuck i path aim stuck AStop.NoMemory = Unit {0}

-- the kept question is this one, and stuck
abbrev pub IsAskCause : ℕ → PlayerOf → List Move → List ℤ → AskStop → Type 0
IsAskCause i player path aim (AStop.Wide asked) =
    IsQuestion i path aim asked.question × IsStuckBranch player path aim asked.stuck
IsAskCause i player path aim AStop.NoMemory = Unit {0}

-- pivots were counted, and nothing else
pub record CountsPivotsAlone (old new : Purse) : Type 0 where
  pub pivots : old.pivots ≤ new.pivots
  pub limit : new.limit ≡ old.limit
  pub branches : new.branches ≡ old.branches
  pub cuts : new.cuts ≡ old.cuts
