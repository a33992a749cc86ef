-- How much there is to decide.
use Rattle.std.specs.Prelude.{ℕ, List, [], ◌∷◌, length, if◌then◌else◌}
use Rattle.zr_game.specs.Players.{GameOf}
use Rattle.zr_cases.specs.Cases.{RNodeOf, OnOffNode, RowNode}
use Rattle.zr_system.specs.Regions.{LeavesOf, is_exact, leaf_count}
use Rattle.zr_system.specs.Unknowns.{list_to, over_present}

-- a node for the leaf, and if it is exact one for each of its present slots
abbrev pub leaf_nodes : GameOf → LeavesOf → ℕ → ℕ → List RNodeOf
leaf_nodes game leaves i k =
    OnOffNode i k
    ∷ (if is_exact leaves i k then over_present game leaves i k (λ s. RowNode i k s) else [])

-- those of all leaves
abbrev pub all_nodes : GameOf → LeavesOf → List RNodeOf
all_nodes game leaves =
    list_to (length game) (λ i. list_to (leaf_count leaves i) (λ k. leaf_nodes game leaves i k))
