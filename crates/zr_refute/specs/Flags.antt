-- Which leaves of a cover count as exact, by its nodes.
use Rattle.std.specs.Prelude.{Bool, true, false, List, [], ◌∷◌, ◌++◌}
use Rattle.zr_game.specs.Leaves.{LeafOf}
use Rattle.zr_tree.specs.Nodes.{NodeOf, SplitNode, ChooseNode, ProofNode, KnownNode, LooseNode}
use Rattle.zr_system.specs.Regions.{RegionOf}

-- true for a leaf with a known point, false for a loose one
abbrev pub flag_of : NodeOf → List Bool
flag_of (SplitNode v at) = []
flag_of (ChooseNode p) = []
flag_of (ProofNode scale mult) = []
flag_of (KnownNode x) = true ∷ []
flag_of LooseNode = false ∷ []

-- of all leaves that the nodes cover, in order
abbrev pub flags_in : List NodeOf → List Bool
flags_in [] = []
flags_in (node ∷ nodes) = flag_of node ++ flags_in nodes

-- each leaf with its flag
abbrev pub regions_by : List LeafOf → List Bool → List RegionOf
regions_by [] flags = []
regions_by (leaf ∷ leaves) [] = []
regions_by (leaf ∷ leaves) (exact ∷ flags) =
    record { leaf = leaf; exact = exact } ∷ regions_by leaves flags
