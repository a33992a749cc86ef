-- The first node of a tree that is refused.
use Rattle.std.specs.Prelude.{◌≡◌, ℕ, ◌+◌, ◌<◌, ℤ, pos, Option, List, length, map, Result, IsErr, ◌⊎◌}
use Rattle.zr_base.specs.declared.step.Wide.{Wide}
use Rattle.zr_base.specs.Steps.{cross_of}
use Rattle.zr_base.specs.Sums.{sum_steps}
use Rattle.zr_game.specs.Players.{PlayerOf}
use Rattle.zr_game.specs.Leaves.{Bound, IsOpenPair, IsWholeVar, LeafOf, above, below, decided, slots}
use Rattle.zr_game.specs.declared.leaf.Side.TheVariants.{VarZero, RowZero}
use Rattle.zr_tree.specs.Nodes.{Multipliers, NodeOf, SplitNode, ChooseNode, ProofNode, KnownNode, LooseNode}
use Rattle.zr_tree.specs.Trees.{TreeOf, Split, Choose, Proof, Known, Loose, size}
use Rattle.zr_tree.specs.Right.{ArePresent, EndRule, IsRightBy, ProvesRow, slot_coef, slot_le}
use Rattle.zr_tree.specs.declared.fault.Fault.{Fault}
use Rattle.zr_tree.specs.declared.fault.Fault.TheVariants.{Bad, Wide as TooWide}

-- the sums of a combination from the left, at column j and at the right side
abbrev pub left_steps : List (Option Bound) → Multipliers → ℕ → Result ℤ Wide
left_steps rows mult j = sum_steps (pos 0) (map (λ t. (t.1, slot_coef rows t.0 j)) mult)

abbrev pub right_steps : List (Option Bound) → Multipliers → Result ℤ Wide
right_steps rows mult = sum_steps (pos 0) (map (λ t. (t.1, slot_le rows t.0)) mult)

-- a step of the proof's sums, or of the scaled row, is too wide
abbrev pub HasWideSum : PlayerOf → Bound → ℤ → List (Option Bound) → Multipliers → Type 0
HasWideSum player bound scale rows mult =
    ((j : ℕ) × (j < length player.vars) × IsErr (left_steps rows mult j))
    ⊎ IsErr (right_steps rows mult)
    ⊎ ((j : ℕ) × (j < length player.vars) × IsErr (cross_of (scale, bound.coef j) (pos 0, pos 0)))
    ⊎ IsErr (cross_of (scale, bound.le) (pos 0, pos 0))

-- the sums are made where the slots are present
abbrev pub IsWideProof : PlayerOf → Bound → LeafOf → ℤ → Multipliers → Type 0
IsWideProof player bound leaf scale mult =
    ArePresent (slots player leaf) mult × HasWideSum player bound scale (slots player leaf) mult

-- a step of the end's sums for the row is too wide
abbrev pub IsWideForRow : PlayerOf → Bound → EndRule
IsWideForRow player bound leaf (SplitNode v at) = ⊥
IsWideForRow player bound leaf (ChooseNode p) = ⊥
IsWideForRow player bound leaf (ProofNode scale mult) = IsWideProof player bound leaf scale mult
IsWideForRow player bound leaf (KnownNode x) = ⊥
IsWideForRow player bound leaf LooseNode = ⊥

-- the end is right, and no step of its sums is too wide
abbrev pub EndPasses : EndRule → EndRule → EndRule
EndPasses right wide leaf node = right leaf node × (wide leaf node → ⊥)

-- the end, which has the number k, is refused: a step that is too wide stands before what is wrong
abbrev pub EndRefused : EndRule → EndRule → ℕ → LeafOf → NodeOf → Fault → Type 0
EndRefused right wide k leaf node fault =
    (wide leaf node × (fault ≡ TooWide k))
    ⊎ ((wide leaf node → ⊥) × (right leaf node → ⊥) × (fault ≡ Bad k))

-- where the node itself is wrong the fault is Bad at its number k; else the fault is that of the first child, or, where
-- that passes, of the second
abbrev pub IsRefusedBy : EndRule → EndRule → PlayerOf → ℕ → LeafOf → TreeOf → Fault → Type 0
IsRefusedBy right wide player k leaf (Split v at first second) fault =
    ((IsWholeVar player v → ⊥) × (fault ≡ Bad k))
    ⊎ (IsWholeVar player v × IsRefusedBy right wide player (k + 1) (below leaf v at) first fault)
    ⊎ (IsWholeVar player v
    × IsRightBy (EndPasses right wide) player (below leaf v at) first
    × IsRefusedBy right wide player (k + 1 + size first) (above leaf v at) second fault)
IsRefusedBy right wide player k leaf (Choose p first second) fault =
    ((IsOpenPair player leaf p → ⊥) × (fault ≡ Bad k))
    ⊎ (IsOpenPair player leaf p × IsRefusedBy right wide player (k + 1) (decided leaf p VarZero) first fault)
    ⊎ (IsOpenPair player leaf p
    × IsRightBy (EndPasses right wide) player (decided leaf p VarZero) first
    × IsRefusedBy right wide player (k + 1 + size first) (decided leaf p RowZero) second fault)
IsRefusedBy right wide player k leaf (Proof scale mult) fault =
    EndRefused right wide k leaf (ProofNode scale mult) fault
IsRefusedBy right wide player k leaf (Known x) fault = EndRefused right wide k leaf (KnownNode x) fault
IsRefusedBy right wide player k leaf Loose fault = EndRefused right wide k leaf LooseNode fault

-- a step is too wide at some end to which splits of whole variables and choices of open pairs lead
abbrev pub HasWideEnd : EndRule → PlayerOf → LeafOf → TreeOf → Type 0
HasWideEnd wide player leaf (Split v at first second) =
    IsWholeVar player v
    × (HasWideEnd wide player (below leaf v at) first
    ⊎ HasWideEnd wide player (above leaf v at) second)
HasWideEnd wide player leaf (Choose p first second) =
    IsOpenPair player leaf p
    × (HasWideEnd wide player (decided leaf p VarZero) first
    ⊎ HasWideEnd wide player (decided leaf p RowZero) second)
HasWideEnd wide player leaf (Proof scale mult) = wide leaf (ProofNode scale mult)
HasWideEnd wide player leaf (Known x) = wide leaf (KnownNode x)
HasWideEnd wide player leaf Loose = wide leaf LooseNode

-- the tree is right for the row at the leaf, and no step of its proofs is too wide
abbrev pub Passes : PlayerOf → Bound → LeafOf → TreeOf → Type 0
Passes player bound leaf tree =
    IsRightBy (EndPasses (ProvesRow player bound) (IsWideForRow player bound)) player leaf tree

-- the tree is refused for the row, with this fault; k is the number of its root
abbrev pub IsRefusedAt : PlayerOf → Bound → ℕ → LeafOf → TreeOf → Fault → Type 0
IsRefusedAt player bound k leaf tree fault =
    IsRefusedBy (ProvesRow player bound) (IsWideForRow player bound) player k leaf tree fault

-- a step of some leaf's proof is too wide
abbrev pub HasWideProof : PlayerOf → Bound → LeafOf → TreeOf → Type 0
HasWideProof player bound leaf tree = HasWideEnd (IsWideForRow player bound) player leaf tree
