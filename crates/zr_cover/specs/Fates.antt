-- What becomes of a branch, and the trees of branches.
use Rattle.std.specs.Prelude.{◌≡◌, ℕ, ◌+◌, Bool, true, false, Vec, List, [], ◌∷◌}
use Rattle.std.specs.declared.alloc.Global.{Global}
use Rattle.zr_io.specs.declared.purse.Purse.{Purse}
use Rattle.zr_game.specs.Players.{PlayerOf}
use Rattle.zr_game.specs.Leaves.{HasPoint, IsOpenPair, LeafOf, above, below, decided, root_leaf}
use Rattle.zr_game.specs.declared.leaf.Side.TheVariants.{VarZero, RowZero}
use Rattle.zr_tree.specs.Covers.{KeepsCover}
use Rattle.zr_tree.specs.Form.{IsNodeForm}
use Rattle.zr_tree.specs.Nodes.{NodeOf, SplitNode, ChooseNode, ProofNode, KnownNode, LooseNode, node_of}
use Rattle.zr_tree.specs.Right.{EndRule}
use Rattle.zr_tree.specs.Trees.{TreeOf, Split, Choose, Proof, Known, Loose, preorder}
use Rattle.zr_asked.specs.declared.question.Move.{Move}
use Rattle.zr_asked.specs.Drawn.{IsDrawnEnd}
use Rattle.zr_asked.specs.OpenTrees.{units}
use Rattle.zr_asked.specs.Paths.{IsSplit}
use Rattle.zr_asked.specs.Stuck.{IsPlainAim}
use Rattle.zr_cover.specs.declared.visit.Fate.{Fate}
use Rattle.zr_cover.specs.declared.visit.Fate.TheVariants as AFate
use Rattle.zr_cover.specs.Splits.{PartsLeaf}

-- the end shows that its leaf has no point, or knows a point of a settled leaf, and is drawn from a
-- question whose aim is zero, or plus or minus one variable
abbrev pub IsExactEnd : PlayerOf → EndRule
IsExactEnd player leaf (SplitNode v at) = ⊥
IsExactEnd player leaf (ChooseNode p) = ⊥
IsExactEnd player leaf (ProofNode scale mult) =
    KeepsCover player leaf (ProofNode scale mult)
    × IsDrawnEnd player (IsPlainAim player) leaf (ProofNode scale mult)
IsExactEnd player leaf (KnownNode x) =
    KeepsCover player leaf (KnownNode x)
    × IsDrawnEnd player (IsPlainAim player) leaf (KnownNode x)
IsExactEnd player leaf LooseNode = ⊥

-- the tree is open, and each end is exact, or loose where that is allowed
abbrev pub IsCovering : Bool → PlayerOf → LeafOf → TreeOf → Type 0
IsCovering loose player leaf (Split v at first second) =
    HasPoint player leaf × IsSplit player leaf v at
    × IsCovering loose player (below leaf v at) first
    × IsCovering loose player (above leaf v at) second
IsCovering loose player leaf (Choose p first second) =
    HasPoint player leaf × IsOpenPair player leaf p
    × IsCovering loose player (decided leaf p VarZero) first
    × IsCovering loose player (decided leaf p RowZero) second
IsCovering loose player leaf (Proof scale mult) = IsExactEnd player leaf (ProofNode scale mult)
IsCovering loose player leaf (Known x) = IsExactEnd player leaf (KnownNode x)
IsCovering loose player leaf Loose = loose ≡ true

-- the leaf has an exact end; or it has a point and is to be split
abbrev pub IsFate : PlayerOf → LeafOf → ℕ → Fate → Type 0
IsFate player leaf more (AFate.End node) =
    IsExactEnd player leaf (node_of node) × IsNodeForm (node_of node)
IsFate player leaf more (AFate.Divided split) =
    HasPoint player leaf × PartsLeaf player leaf more split

-- the branches that are due, the one that is next first
abbrev pub due_on : List (List Move) → List (Vec Move Global) → List (List Move)
due_on done [] = done
due_on done (path ∷ paths) = due_on (path.items ∷ done) paths

abbrev pub due_paths : List (Vec Move Global) → List (List Move)
due_paths paths = due_on [] paths

-- the nodes are those of a tree with exact ends, whose units are the branches that were spent
abbrev pub AreCoverNodes : PlayerOf → Purse → Purse → List NodeOf → Type 0
AreCoverNodes player old new nodes =
    (t : TreeOf) × (preorder t ≡ nodes) × IsCovering false player (root_leaf player) t
    × (new.branches ≡ old.branches + units t)
