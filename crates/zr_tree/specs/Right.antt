-- When a tree proves a row, or that there is no point, by cases.
use Rattle.std.specs.Prelude.{◌≡◌, ℕ, ◌<◌, ℤ, pos, ◌+ℤ◌, ◌*ℤ◌, ◌<ℤ◌, ◌≤ℤ◌, Option, List, [], ◌∷◌, length, IsSome, ◌⊎◌}
use Rattle.std.specs.Option.{option_map_or}
use Rattle.zr_game.specs.Players.{PlayerOf}
use Rattle.zr_game.specs.Leaves.{Bound, IsOpenPair, IsWholeVar, LeafOf, above, below, decided, slot_of, slots}
use Rattle.zr_game.specs.declared.leaf.Side.TheVariants.{VarZero, RowZero}
use Rattle.zr_tree.specs.Nodes.{Multipliers, NodeOf, SplitNode, ChooseNode, ProofNode, KnownNode, LooseNode}
use Rattle.zr_tree.specs.Trees.{TreeOf, Split, Choose, Proof, Known, Loose}

-- the slots that are multiplied are present
abbrev pub ArePresent : List (Option Bound) → Multipliers → Type 0
ArePresent rows [] = Unit {0}
ArePresent rows (t ∷ ts) = IsSome (slot_of rows t.0) × ArePresent rows ts

-- each multiplier is at least 1
abbrev pub ArePositive : Multipliers → Type 0
ArePositive [] = Unit {0}
ArePositive (t ∷ ts) = ((pos 1) ≤ℤ t.1) × ArePositive ts

-- the number of slot k at column j, and its right side
abbrev pub slot_coef : List (Option Bound) → ℕ → ℕ → ℤ
slot_coef rows k j = option_map_or (λ b. b.coef j) (slot_of rows k) (pos 0)

abbrev pub slot_le : List (Option Bound) → ℕ → ℤ
slot_le rows k = option_map_or (λ b. b.le) (slot_of rows k) (pos 0)

-- the sum of multiplier times number, at column j and at the right side
abbrev pub left_of : List (Option Bound) → Multipliers → ℕ → ℤ
left_of rows [] j = pos 0
left_of rows (t ∷ ts) j = t.1 *ℤ slot_coef rows t.0 j +ℤ left_of rows ts j

abbrev pub right_of : List (Option Bound) → Multipliers → ℤ
right_of rows [] = pos 0
right_of rows (t ∷ ts) = t.1 *ℤ slot_le rows t.0 +ℤ right_of rows ts

-- the scale is at least 1; the combination's left side is `scale * coef`, and its right side at most `scale * le`
pub record IsScaled (player : PlayerOf) (bound : Bound) (scale : ℤ) (rows : List (Option Bound)) (mult : Multipliers) : Type 0 where
  pub positive : (pos 1) ≤ℤ scale
  pub left : (j : ℕ) → j < length player.vars → left_of rows mult j ≡ scale *ℤ bound.coef j
  pub right : right_of rows mult ≤ℤ (scale *ℤ bound.le)

-- the scale is 0; the combination's left side is zero in each column, and its right side below zero
pub record IsRefuting (player : PlayerOf) (scale : ℤ) (rows : List (Option Bound)) (mult : Multipliers) : Type 0 where
  pub none : scale ≡ pos 0
  pub left : (j : ℕ) → j < length player.vars → left_of rows mult j ≡ pos 0
  pub right : right_of rows mult <ℤ (pos 0)

-- the leaf's slots, multiplied, prove the row or refute the leaf
abbrev pub IsProof : PlayerOf → Bound → LeafOf → ℤ → Multipliers → Type 0
IsProof player bound leaf scale mult =
    ArePresent (slots player leaf) mult
    × ArePositive mult
    × (IsScaled player bound scale (slots player leaf) mult ⊎ IsRefuting player scale (slots player leaf) mult)

-- the leaf's slots, multiplied, refute the leaf
abbrev pub IsRefutation : PlayerOf → LeafOf → ℤ → Multipliers → Type 0
IsRefutation player leaf scale mult =
    ArePresent (slots player leaf) mult × ArePositive mult × IsRefuting player scale (slots player leaf) mult

-- what is asked of a node without children, which is an end of the tree, at its leaf
abbrev pub EndRule : Type 1
EndRule = LeafOf → NodeOf → Type 0

-- an end proves the row
abbrev pub ProvesRow : PlayerOf → Bound → EndRule
ProvesRow player bound leaf (SplitNode v at) = ⊥
ProvesRow player bound leaf (ChooseNode p) = ⊥
ProvesRow player bound leaf (ProofNode scale mult) = IsProof player bound leaf scale mult
ProvesRow player bound leaf (KnownNode x) = ⊥
ProvesRow player bound leaf LooseNode = ⊥

-- an end shows that its leaf has no point
abbrev pub Refutes : PlayerOf → EndRule
Refutes player leaf (SplitNode v at) = ⊥
Refutes player leaf (ChooseNode p) = ⊥
Refutes player leaf (ProofNode scale mult) = IsRefutation player leaf scale mult
Refutes player leaf (KnownNode x) = ⊥
Refutes player leaf LooseNode = ⊥

-- whole variables are split and open pairs chosen, and each end keeps the rule
abbrev pub IsRightBy : EndRule → PlayerOf → LeafOf → TreeOf → Type 0
IsRightBy rule player leaf (Split v at first second) =
    IsWholeVar player v × IsRightBy rule player (below leaf v at) first × IsRightBy rule player (above leaf v at) second
IsRightBy rule player leaf (Choose p first second) =
    IsOpenPair player leaf p
    × IsRightBy rule player (decided leaf p VarZero) first
    × IsRightBy rule player (decided leaf p RowZero) second
IsRightBy rule player leaf (Proof scale mult) = rule leaf (ProofNode scale mult)
IsRightBy rule player leaf (Known x) = rule leaf (KnownNode x)
IsRightBy rule player leaf Loose = rule leaf LooseNode

-- the tree proves the row at the leaf
abbrev pub IsRight : PlayerOf → Bound → LeafOf → TreeOf → Type 0
IsRight player bound leaf tree = IsRightBy (ProvesRow player bound) player leaf tree

-- the tree shows that the leaf has no point
abbrev pub IsRefuted : PlayerOf → LeafOf → TreeOf → Type 0
IsRefuted player leaf tree = IsRightBy (Refutes player) player leaf tree
