-- Refutations and box trees as trees.
use Rattle.std.specs.Prelude.{ℕ, zero, suc, ℤ, List, [], ◌∷◌, ◌++◌, slice_index_or}
use Rattle.zr_base.specs.Points.{PointOf}
use Rattle.zr_tree.specs.Nodes.{Multipliers}
use Rattle.zr_cases.specs.Cases.{RNodeOf, OnOffNode, RowNode, WhichNode, CloseNode, BNodeOf, CutNode, EmptyNode, DeviateNode}

pub data CasesOf : Type 0 where
  -- the leaf has weight, and it has none
  OnOff : ℕ → ℕ → CasesOf → CasesOf → CasesOf
  -- the slot's multiplier is 0, and its row is tight
  RowSplit : ℕ → ℕ → ℕ → CasesOf → CasesOf → CasesOf
  -- a tree for each leaf of the player
  Which : ℕ → (ℕ → CasesOf) → CasesOf
  Close : Multipliers → CasesOf

-- the lists of the numbers below n, one after another
abbrev pub lists_below : {X : Type 0} → ℕ → (ℕ → List X) → List X
lists_below zero list = []
lists_below (suc n) list = list 0 ++ lists_below n (λ k. list (suc k))

-- the nodes, each before its children, where the players have these numbers of leaves
abbrev pub preorder : List ℕ → CasesOf → List RNodeOf
preorder leaves (OnOff i k first second) = OnOffNode i k ∷ (preorder leaves first ++ preorder leaves second)
preorder leaves (RowSplit i k slot first second) = RowNode i k slot ∷ (preorder leaves first ++ preorder leaves second)
preorder leaves (Which i trees) = WhichNode i ∷ lists_below (slice_index_or leaves i 0) (λ k. preorder leaves (trees k))
preorder leaves (Close mult) = CloseNode mult ∷ []

pub data BoxTreeOf : Type 0 where
  -- the player's variable is at most the number, and above it
  Cut : ℕ → ℕ → ℤ → BoxTreeOf → BoxTreeOf → BoxTreeOf
  Empty : ℕ → Multipliers → BoxTreeOf
  Deviate : ℕ → PointOf → BoxTreeOf

abbrev pub box_preorder : BoxTreeOf → List BNodeOf
box_preorder (Cut i v at first second) = CutNode i v at ∷ (box_preorder first ++ box_preorder second)
box_preorder (Empty i mult) = EmptyNode i mult ∷ []
box_preorder (Deviate i x) = DeviateNode i x ∷ []
