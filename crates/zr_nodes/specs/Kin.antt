-- How the links of a tree spell out its nodes' children. No public clause cites this module.
use Rattle.std.specs.Prelude.{◌≡◌, ℕ, zero, suc, ◌+◌, List, [], ◌∷◌, map, Option, Some, None, slice_index_or}
use Rattle.zr_nodes.specs.Lists.{numbers, first, after}
use Rattle.zr_nodes.specs.Forests.{children, siblings, IsTree}
use Rattle.zr_nodes.specs.declared.branches.Branch.{Branch}

-- what the branches show: each node's parent, and for how many nodes there is room
pub record Kin : Type 0 where
  pub parents : List (Option ℕ)
  pub room : ℕ

-- a node with no kin
abbrev pub alone : Branch
alone = record { parent = None; first_child = None; next_sibling = None }

abbrev pub branch_at : List Branch → ℕ → Branch
branch_at branches node = slice_index_or branches node alone

abbrev pub parents_of : List Branch → List (Option ℕ)
parents_of branches = map (λ b. b.parent) branches

-- the links are those of the tree with these parents
pub record IsKin (branches : List Branch) : Type 0 where
  pub tree : IsTree (parents_of branches)
  pub first_child : (node : ℕ) →
      (branch_at branches node).first_child ≡ first (children (parents_of branches) node)
  pub next_sibling : (node : ℕ) →
      (branch_at branches node).next_sibling ≡ after node (siblings (parents_of branches) node)

-- so many new children of a node, the first of them being this number
abbrev pub brood : ℕ → ℕ → ℕ → List Branch
brood node from zero = []
brood node from (suc count) =
    record {
      parent = Some node;
      first_child = None;
      next_sibling = first (numbers (from + 1) count);
    }
    ∷ brood node (from + 1) count
