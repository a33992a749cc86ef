-- What a search has found, and the branches that it still has to go through.
use Rattle.std.specs.Prelude.{◌≡◌, ℕ, ◌+◌, ◌<◌, ◌^◌, ℤ, neg_ℤ, ◌≤ℤ◌, Option, Some, None, option_map, Vec, List, [], ◌∷◌, length}
use Rattle.std.specs.List.{All}
use Rattle.std.specs.declared.alloc.Global.{Global}
use Rattle.zr_base.specs.Fractions.{Fraction, whole}
use Rattle.zr_base.specs.Lowest.{IsLowest}
use Rattle.zr_base.specs.Points.{PointOf}
use Rattle.zr_io.specs.declared.purse.Purse.{Purse}
use Rattle.zr_game.specs.Players.{PlayerOf}
use Rattle.zr_game.specs.Feasible.{IsFeasible}
use Rattle.zr_game.specs.Leaves.{Bound, HasPoint, IsOpenPair, LeafOf, above, below, decided, root_leaf}
use Rattle.zr_game.specs.declared.leaf.Side.TheVariants.{VarZero, RowZero}
use Rattle.zr_simplex.specs.Programs.{numbers}
use Rattle.zr_tree.specs.declared.tree.Tree.{Tree}
use Rattle.zr_tree.specs.Form.{IsNodeForm, greatest_split, least_split}
use Rattle.zr_tree.specs.Listed.{IsTreeOf}
use Rattle.zr_tree.specs.Nodes.{Multipliers, NodeOf, SplitNode, ChooseNode, ProofNode, KnownNode, LooseNode}
use Rattle.zr_tree.specs.Trees.{TreeOf, Split, Choose, Proof, Known, Loose, preorder}
use Rattle.zr_tree.specs.Right.{IsProof, IsRefutation}
use Rattle.zr_asked.specs.declared.question.Move.{Move}
use Rattle.zr_asked.specs.Drawn.{IsDrawnPoint, IsDrawnProof}
use Rattle.zr_asked.specs.OpenTrees.{units}
use Rattle.zr_asked.specs.Paths.{IsOpenPath, IsSplit, branch}
use Rattle.zr_branch.specs.Replies.{IsMoveForm}
use Rattle.zr_branch.specs.Values.{IsNotBelow, IsValue}
use Rattle.zr_bnb.specs.declared.plan.EndProof.{EndProof}
use Rattle.zr_bnb.specs.declared.plan.Plan.{Plan}
use Rattle.zr_bnb.specs.declared.plan.Plan.TheVariants.{SplitAt, ChooseOf, Close}
use Rattle.zr_bnb.specs.declared.split.Split.{Split as ASplit}
use Rattle.zr_bnb.specs.declared.split.Split.TheVariants as SplitIs
use Rattle.zr_bnb.specs.declared.search.Best.{Best}
use Rattle.zr_bnb.specs.declared.visit.Fate.{Fate}
use Rattle.zr_bnb.specs.declared.visit.Fate.TheVariants as AFate
use Rattle.zr_bnb.specs.declared.search.Found.{Found}
use Rattle.zr_bnb.specs.declared.search.Found.TheVariants as AFound
use Rattle.zr_bnb.specs.Answers.{MayAsk}
use Rattle.zr_bnb.specs.Fates.{IsClosed, IsFall}

-- the branches that are due, the one that is next first
abbrev pub pending_on : List (List Move) → List (Vec Move Global) → List (List Move)
pending_on done [] = done
pending_on done (path ∷ paths) = pending_on (path.items ∷ done) paths

abbrev pub pending : List (Vec Move Global) → List (List Move)
pending paths = pending_on [] paths

-- the node of a split
abbrev pub plan_of : ASplit → Plan
plan_of (SplitIs.Var v at) = SplitAt v at
plan_of (SplitIs.Pair p) = ChooseOf p

-- what the ends of a tree have to show, by multipliers that are drawn from the question with this
-- aim: the row, or where there is none that the leaf has no point
pub record Proofs : Type 0 where
  pub row : Option Bound
  pub aim : List ℤ

-- multipliers show it
abbrev pub IsShown : PlayerOf → Option Bound → LeafOf → ℤ → Multipliers → Type 0
IsShown player None leaf scale mult = IsRefutation player leaf scale mult
IsShown player (Some bound) leaf scale mult = IsProof player bound leaf scale mult

-- the node is an end that shows it; or where nothing is asked for, it is a loose one
abbrev pub IsEnd : PlayerOf → Option Proofs → LeafOf → NodeOf → Type 0
IsEnd player (Some proofs) leaf (ProofNode scale mult) =
    IsShown player proofs.row leaf scale mult
    × IsDrawnProof player leaf (numbers proofs.aim) scale mult
IsEnd player (Some proofs) leaf (SplitNode v at) = ⊥
IsEnd player (Some proofs) leaf (ChooseNode p) = ⊥
IsEnd player (Some proofs) leaf (KnownNode x) = ⊥
IsEnd player (Some proofs) leaf LooseNode = ⊥
IsEnd player None leaf (ProofNode scale mult) = ⊥
IsEnd player None leaf (SplitNode v at) = ⊥
IsEnd player None leaf (ChooseNode p) = ⊥
IsEnd player None leaf (KnownNode x) = ⊥
IsEnd player None leaf LooseNode = Unit {0}

-- the tree is open, and each end is such a one
abbrev pub Shows : PlayerOf → Option Proofs → LeafOf → TreeOf → Type 0
Shows player wanted leaf (Split v at first second) =
    HasPoint player leaf × IsSplit player leaf v at
    × Shows player wanted (below leaf v at) first × Shows player wanted (above leaf v at) second
Shows player wanted leaf (Choose p first second) =
    HasPoint player leaf × IsOpenPair player leaf p
    × Shows player wanted (decided leaf p VarZero) first
    × Shows player wanted (decided leaf p RowZero) second
Shows player wanted leaf (Proof scale mult) = IsEnd player wanted leaf (ProofNode scale mult)
Shows player wanted leaf (Known x) = IsEnd player wanted leaf (KnownNode x)
Shows player wanted leaf Loose = IsEnd player wanted leaf LooseNode

-- the row that says that the aim is at least n
abbrev pub end_row : List ℤ → ℤ → Bound
end_row aim n = record { coef = λ j. neg_ℤ (numbers aim j); le = neg_ℤ n }

-- the proofs that the aim is at least this number, or where there is none that there is no point
abbrev pub proofs_for : List ℤ → Option ℤ → Option Proofs
proofs_for aim least = Some (record { row = option_map (end_row aim) least; aim = aim })

-- the multipliers prove what the aim is at least on the leaf, whatever that may be, or where it has
-- no point that there is none
abbrev pub IsEndProof : PlayerOf → List ℤ → LeafOf → EndProof → Type 0
IsEndProof player aim leaf end =
    IsNodeForm (ProofNode end.scale end.mult.items)
    × ((least : Option ℤ) → IsClosed player aim (option_map whole least) leaf
    → IsEnd player (proofs_for aim least) leaf (ProofNode end.scale end.mult.items))

-- where a branch is closed, what was kept proves its end
abbrev pub ProvesEnd : PlayerOf → LeafOf → List ℤ → Fate → Type 0
ProvesEnd player leaf aim (AFate.Closed end) = IsEndProof player aim leaf end
ProvesEnd player leaf aim (AFate.Improved x value end) = IsEndProof player aim leaf end
ProvesEnd player leaf aim (AFate.Divided split least_open) = Unit {0}
ProvesEnd player leaf aim (AFate.Below base dir) = Unit {0}

-- the node is that of the plan, and where the plan closes a branch it is an end there
abbrev pub IsNodeOf : PlayerOf → Option Proofs → Plan → NodeOf → Type 0
IsNodeOf player wanted (SplitAt v at) node = node ≡ SplitNode v at
IsNodeOf player wanted (ChooseOf p) node = node ≡ ChooseNode p
IsNodeOf player wanted (Close path end) node = IsEnd player wanted (branch player path.items) node

abbrev pub AreNodesOf : PlayerOf → Option Proofs → List Plan → List NodeOf → Type 0
AreNodesOf player wanted [] [] = Unit {0}
AreNodesOf player wanted (plan ∷ plans) (node ∷ nodes) =
    IsNodeOf player wanted plan node × AreNodesOf player wanted plans nodes
AreNodesOf player wanted [] (node ∷ nodes) = ⊥
AreNodesOf player wanted (plan ∷ plans) [] = ⊥

-- a number that a variable is split at is one that a tree may have
abbrev pub IsPlanForm : Plan → Type 0
IsPlanForm (SplitAt v at) = (least_split ≤ℤ at) × (at ≤ℤ greatest_split)
IsPlanForm (ChooseOf p) = Unit {0}
IsPlanForm (Close path end) = All IsMoveForm path.items

-- the branch that the plan closes is one, and is closed by the value
abbrev pub IsClosedPlan : PlayerOf → List ℤ → Option Fraction → Plan → Type 0
IsClosedPlan player aim best (SplitAt v at) = Unit {0}
IsClosedPlan player aim best (ChooseOf p) = Unit {0}
IsClosedPlan player aim best (Close path end) =
    IsOpenPath player path.items × IsClosed player aim best (branch player path.items)

-- what the plan keeps of a branch that is closed proves its end
abbrev pub IsProvedPlan : PlayerOf → List ℤ → Plan → Type 0
IsProvedPlan player aim (SplitAt v at) = Unit {0}
IsProvedPlan player aim (ChooseOf p) = Unit {0}
IsProvedPlan player aim (Close path end) = IsEndProof player aim (branch player path.items) end

-- such facts of all plans
abbrev pub AreForms : List Plan → Type 0
AreForms [] = Unit {0}
AreForms (plan ∷ plans) = IsPlanForm plan × AreForms plans

abbrev pub AreClosed : PlayerOf → List ℤ → Option Fraction → List Plan → Type 0
AreClosed player aim best [] = Unit {0}
AreClosed player aim best (plan ∷ plans) =
    IsClosedPlan player aim best plan × AreClosed player aim best plans

abbrev pub AreProved : PlayerOf → List ℤ → List Plan → Type 0
AreProved player aim [] = Unit {0}
AreProved player aim (plan ∷ plans) = IsProvedPlan player aim plan × AreProved player aim plans

-- the plans are those of a tree with so many inner nodes: with an end for each branch that is
-- closed, their nodes are one such tree
abbrev pub IsPlanOfTree : PlayerOf → ℕ → List Plan → Type 0
IsPlanOfTree player count plans =
    (wanted : Option Proofs) (nodes : List NodeOf) → AreNodesOf player wanted plans nodes
    → (t : TreeOf) × Shows player wanted (root_leaf player) t × (preorder t ≡ nodes)
    × (units t ≡ count)

-- the code's tree is such a one
abbrev pub IsTreeFor : PlayerOf → Option Proofs → ℕ → Tree → Type 0
IsTreeFor player wanted count tree =
    (t : TreeOf) × IsTreeOf tree t × Shows player wanted (root_leaf player) t × (units t ≡ count)

-- the best point is feasible, has the value, and is drawn from a question
pub record IsBestPoint (player : PlayerOf) (aim : List ℤ) (x : PointOf) (value : Fraction) : Type 0 where
  pub feasible : IsFeasible player x
  pub lowest : IsLowest value
  pub value_is : IsValue player aim value x
  pub drawn : IsDrawnPoint player (MayAsk player aim) x

abbrev pub IsBestSoFar : PlayerOf → List ℤ → Option Best → Type 0
IsBestSoFar player aim None = Unit {0}
IsBestSoFar player aim (Some best) = IsBestPoint player aim best.point best.value

abbrev pub best_value : Option Best → Option Fraction
best_value best = option_map (λ b. b.value) best

-- no feasible point is below the value, or there is none where there is no value
abbrev pub IsLeastOf : PlayerOf → List ℤ → Option Fraction → Type 0
IsLeastOf player aim None = (x : PointOf) → IsFeasible player x → ⊥
IsLeastOf player aim (Some f) = (x : PointOf) → IsFeasible player x → IsNotBelow player aim f x

-- the plans are those of a tree each of whose ends is closed by the value
pub record IsGrown (player : PlayerOf) (aim : List ℤ) (spent : ℕ) (best : Option Best)
    (plans : List Plan) : Type 0 where
  pub best_is : IsBestSoFar player aim best
  pub closed : AreClosed player aim (best_value best) plans
  pub proved : AreProved player aim plans
  pub tree : IsPlanOfTree player spent plans
  pub least : IsLeastOf player aim (best_value best)
  pub forms : AreForms plans
  pub few : length plans < 2 ^ 32

-- from the feasible base, on some branch to which an open path leads, the aim falls along a ray
abbrev pub IsFallOnBranch : PlayerOf → List ℤ → PointOf → List ℤ → Type 0
IsFallOnBranch player aim base dir =
    (path : List Move) × IsOpenPath player path × IsFall player (branch player path) aim base dir

-- what a search found, and the branches that it spent
abbrev pub IsFound : PlayerOf → List ℤ → Purse → Purse → Found → Type 0
IsFound player aim old new (AFound.Below base dir) = IsFallOnBranch player aim base dir.items
IsFound player aim old new (AFound.Grown best plans) =
    (spent : ℕ) × (new.branches ≡ old.branches + spent) × IsGrown player aim spent best plans.items
