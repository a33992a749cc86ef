-- Which points, nodes and trees have lines. Where `strict` is false the upper bounds of numbers are left out.
use Rattle.std.specs.Prelude.{◌≡◌, ℕ, ◌+◌, ◌<◌, ℤ, pos, int_le, List, [], ◌∷◌, length, Bool, true, false, not, ◌&&◌, ◌||◌, nat_le, nat_lt}
use Rattle.std.specs.List.{AllByRecursion}
use Rattle.zr_base.specs.Points.{PointOf}
use Rattle.zr_game.specs.Named.{NamedOf, NamedPoint, NamedRay}
use Rattle.zr_game.specs.Rays.{Direction}
use Rattle.zr_tree.specs.Form.{child_count, greatest_split, least_split}
use Rattle.zr_tree.specs.Nodes.{Multipliers, NodeOf, SplitNode, ChooseNode, ProofNode, KnownNode, LooseNode}
use Rattle.zr_cases.specs.Cases.{RNodeOf, OnOffNode, RowNode, WhichNode, CloseNode, BNodeOf, CutNode, EmptyNode, DeviateNode}
use Rattle.zr_cases.specs.Forms.{box_count, case_count}
use Rattle.zr_form.specs.Bounds.{Passes, is_index, is_narrow, is_positive}
use Rattle.zr_form.specs.Reading.{Closes}
use Rattle.zr_lines.specs.declared.ends.Ends.{Ends}
use Rattle.zr_lines.specs.declared.ends.Ends.TheVariants.{Proofs, Refuted, Covered}

-- ---- points

-- a denominator of at least 1, and at least one number
pub record FitsPoint (strict : Bool) (x : PointOf) : Type 0 where
  pub den : Passes (is_positive strict) x.den
  pub some : 0 < length x.num
  pub nums : AllByRecursion (Passes (is_narrow strict)) x.num

-- a base, and as many numbers of a direction
pub record FitsRay (strict : Bool) (base : PointOf) (dir : Direction) : Type 0 where
  pub point : FitsPoint strict base
  pub len : length dir ≡ length base.num
  pub nums : AllByRecursion (Passes (is_narrow strict)) dir

-- a point, or a ray
abbrev pub FitsNamed : Bool → NamedOf → Type 0
FitsNamed strict (NamedPoint x) = FitsPoint strict x
FitsNamed strict (NamedRay base dir) = FitsRay strict base dir

-- a count that fits, and so many points and rays
abbrev pub FitsNamedList : Bool → List NamedOf → Type 0
FitsNamedList strict items = Passes (is_index strict) (length items) × AllByRecursion (FitsNamed strict) items

-- ---- multipliers

abbrev pub FitsMultiplier : Bool → ℕ × ℤ → Type 0
FitsMultiplier strict t = Passes (is_index strict) t.0 × Passes (is_positive strict) t.1

-- rows ascend strictly, from the least one on
abbrev pub ascend_from : ℕ → Multipliers → Bool
ascend_from least [] = true
ascend_from least (t ∷ ts) = nat_le least t.0 && ascend_from (t.0 + 1) ts

abbrev pub ascend : Multipliers → Bool
ascend mult = ascend_from 0 mult

-- so many pairs, each a row and a multiplier of at least 1, whose rows ascend
pub record FitsCounted (strict : Bool) (count : ℕ) (mult : Multipliers) : Type 0 where
  pub length : length mult ≡ count
  pub each : AllByRecursion (FitsMultiplier strict) mult
  pub ascends : Passes ascend mult

-- a count that fits, and so many pairs
abbrev pub FitsCounting : Bool → Multipliers → Type 0
FitsCounting strict mult = Passes (is_index strict) (length mult) × FitsCounted strict (length mult) mult

-- ---- nodes of trees

-- whether the leaves of such a tree are refuted
abbrev pub refutes : Ends → Bool
refutes Proofs = false
refutes Refuted = true
refutes Covered = true

-- whether such a tree has known and loose leaves
abbrev pub covers : Ends → Bool
covers Proofs = false
covers Refuted = false
covers Covered = true

-- a number that a variable is split at, from -2^62 to 2^62 - 1
abbrev pub is_at : Bool → ℤ → Bool
is_at strict z = not strict || (int_le least_split z && int_le z greatest_split)

-- A scale is at least 0. In a tree whose leaves are refuted each scale is 0.
abbrev pub is_scale : Bool → Bool → ℤ → Bool
is_scale strict refuting z = is_narrow strict z && (int_le (pos 0) z && (not refuting || int_le z (pos 0)))

-- a scale, and a count of pairs whose rows ascend
pub record FitsLeaf (strict refuting : Bool) (factor : ℤ) (mult : Multipliers) : Type 0 where
  pub scale : Passes (is_scale strict refuting) factor
  pub count : Passes (is_index strict) (length mult)
  pub each : AllByRecursion (FitsMultiplier strict) mult
  pub ascends : Passes ascend mult

-- a split, a choice or a leaf; in a cover also a known point or a loose leaf
abbrev pub FitsNode : Bool → Ends → NodeOf → Type 0
FitsNode strict ends (SplitNode v at) = Passes (is_index strict) v × Passes (is_at strict) at
FitsNode strict ends (ChooseNode p) = Passes (is_index strict) p
FitsNode strict ends (ProofNode scale mult) = FitsLeaf strict (refutes ends) scale mult
FitsNode strict ends (KnownNode x) = Passes covers ends × FitsPoint strict x
FitsNode strict ends LooseNode = Passes covers ends

-- one whole tree, each node before its children
abbrev pub FitsTree : Bool → Ends → List NodeOf → Type 0
FitsTree strict ends nodes = Closes child_count nodes 1 × AllByRecursion (FitsNode strict ends) nodes

-- ---- nodes of refutations

-- indices and multipliers; a choice among leaves names one of so many players
abbrev pub FitsCase : Bool → ℕ → RNodeOf → Type 0
FitsCase strict players (OnOffNode i k) = Passes (is_index strict) i × Passes (is_index strict) k
FitsCase strict players (RowNode i k slot) = Passes (is_index strict) i × (Passes (is_index strict) k × Passes (is_index strict) slot)
FitsCase strict players (WhichNode i) = Passes (λ n. nat_lt n players) i
FitsCase strict players (CloseNode mult) = FitsCounting strict mult

-- one whole tree, where the players have these numbers of leaves
abbrev pub FitsCases : Bool → List ℕ → List RNodeOf → Type 0
FitsCases strict leaves nodes = Closes (case_count leaves) nodes 1 × AllByRecursion (FitsCase strict (length leaves)) nodes

-- ---- nodes of box trees

abbrev pub FitsBox : Bool → BNodeOf → Type 0
FitsBox strict (CutNode i v at) = Passes (is_index strict) i × (Passes (is_index strict) v × Passes (is_at strict) at)
FitsBox strict (EmptyNode i mult) = Passes (is_index strict) i × FitsCounting strict mult
FitsBox strict (DeviateNode i x) = Passes (is_index strict) i × FitsPoint strict x

abbrev pub FitsBoxes : Bool → List BNodeOf → Type 0
FitsBoxes strict nodes = Closes box_count nodes 1 × AllByRecursion (FitsBox strict) nodes
