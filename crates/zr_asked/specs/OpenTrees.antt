-- Open trees: the work that a search may do.
use Rattle.std.specs.Prelude.{ℕ, ◌+◌, ℤ}
use Rattle.zr_game.specs.Players.{PlayerOf}
use Rattle.zr_game.specs.Leaves.{HasPoint, IsOpenPair, LeafOf, above, below, decided, root_leaf}
use Rattle.zr_game.specs.declared.leaf.Side.TheVariants.{VarZero, RowZero}
use Rattle.zr_tree.specs.Trees.{TreeOf, Split, Choose, Proof, Known, Loose}
use Rattle.zr_asked.specs.Paths.{IsSplit}

-- at each inner node the leaf's rows have a solution, a split is one of a whole variable and a
-- choice one of an undecided pair, and both children differ from the leaf; nothing is asked of ends
abbrev pub IsOpenTree : PlayerOf → LeafOf → TreeOf → Type 0
IsOpenTree player leaf (Split v at first second) =
    HasPoint player leaf × IsSplit player leaf v at
    × IsOpenTree player (below leaf v at) first × IsOpenTree player (above leaf v at) second
IsOpenTree player leaf (Choose p first second) =
    HasPoint player leaf × IsOpenPair player leaf p
    × IsOpenTree player (decided leaf p VarZero) first
    × IsOpenTree player (decided leaf p RowZero) second
IsOpenTree player leaf (Proof scale mult) = Unit {0}
IsOpenTree player leaf (Known x) = Unit {0}
IsOpenTree player leaf Loose = Unit {0}

-- the units of work: the inner nodes
abbrev pub units : TreeOf → ℕ
units (Split v at first second) = 1 + units first + units second
units (Choose p first second) = 1 + units first + units second
units (Proof scale mult) = 0
units (Known x) = 0
units Loose = 0

-- an open tree over all points of the player
pub record Work (player : PlayerOf) : Type 0 where
  pub tree : TreeOf
  pub open_is : IsOpenTree player (root_leaf player) tree
