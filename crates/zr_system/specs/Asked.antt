-- What may be asked for a system, and when a coefficient of it is too wide.
use Rattle.std.specs.Prelude.{◌≡◌, ℕ, zero, suc, ◌^◌, ◌<◌, ℤ, pos, true, false, IsTrue, List, [], ◌∷◌, ◌++◌, length, slice_get, slice_index_or, Some, Err, ◌⊎◌}
use Rattle.std.specs.List.{All}
use Rattle.zr_base.specs.declared.step.Wide.{Wide}
use Rattle.zr_base.specs.declared.row.Cut.{Cut}
use Rattle.zr_base.specs.Steps.{IsNarrow}
use Rattle.zr_base.specs.Sums.{sum_steps}
use Rattle.zr_base.specs.Points.{num_of}
use Rattle.zr_game.specs.Players.{GameOf, PlayerOf}
use Rattle.zr_game.specs.Forms.{IsPlayer}
use Rattle.zr_game.specs.Leaves.{IsLeafOf}
use Rattle.zr_game.specs.declared.choice.Choice.{Choice}
use Rattle.zr_game.specs.declared.choice.Choice.TheVariants as AChoice
use Rattle.zr_system.specs.declared.leaves.Leaves.{Leaves}
use Rattle.zr_system.specs.declared.leaves.SystemError.{SystemError}
use Rattle.zr_system.specs.declared.leaves.SystemError.TheVariants as AnError
use Rattle.zr_system.specs.declared.line.Line.{Line}
use Rattle.zr_system.specs.declared.line.Line.TheVariants as ALine
use Rattle.zr_system.specs.declared.unknown.Unknown.{Unknown}
use Rattle.zr_system.specs.declared.unknown.Unknown.TheVariants.{One, Worth, Share, Weight, Dual}
use Rattle.zr_game.specs.Named.{NamedOf, NamedPoint, NamedRay, named_of}
use Rattle.zr_system.specs.Regions.{LeavesOf, var_count, leaf_count, slot_count, is_exact, is_present, named_at}
use Rattle.zr_system.specs.Forms.{number_at}
use Rattle.zr_system.specs.Unknowns.{columns}
use Rattle.zr_system.specs.Lines.{nothing, slope_form}

-- the point, or the base and the direction, have a number for each variable, and none of the
-- direction is too wide
abbrev pub IsNamedForm : ℕ → NamedOf → Type 0
IsNamedForm vars (NamedPoint p) = length p.num ≡ vars
IsNamedForm vars (NamedRay base dir) = (length base.num ≡ vars) × (length dir ≡ vars)
    × All IsNarrow dir

pub record IsCutForm (vars : ℕ) (cut : Cut) : Type 0 where
  pub len : length cut.coef.items ≡ vars
  pub coef : All IsNarrow cut.coef.items
  pub le : IsNarrow cut.le

-- one list of each sort per player, of fewer than 2^32 items; each item has a number for each of
-- the player's variables, and a leaf a side for each pair
pub record AreLeaves (game : GameOf) (leaves : Leaves) : Type 0 where
  pub regions : length leaves.regions.items ≡ length game
  pub named : length leaves.named.items ≡ length game
  pub cuts : length leaves.cuts.items ≡ length game
  pub few_leaves : All (λ list. length list.items < 2 ^ 32) leaves.regions.items
  pub few_items : All (λ list. length list.items < 2 ^ 32) leaves.named.items
  pub few_cuts : All (λ list. length list.items < 2 ^ 32) leaves.cuts.items
  pub leaf : (i : ℕ) (player : PlayerOf) → IsPlayer game i player → (list : _)
      → slice_get leaves.regions.items i ≡ Some list
      → All (λ region. IsLeafOf player region.leaf) list.items
  pub item : (i : ℕ) (player : PlayerOf) → IsPlayer game i player → (list : _)
      → slice_get leaves.named.items i ≡ Some list
      → All (λ named. IsNamedForm (length player.vars) (named_of named)) list.items
  pub cut : (i : ℕ) (player : PlayerOf) → IsPlayer game i player → (list : _)
      → slice_get leaves.cuts.items i ≡ Some list → All (IsCutForm (length player.vars)) list.items

abbrev pub LeafExists : GameOf → LeavesOf → ℕ → ℕ → Type 0
LeafExists game leaves i k = (i < length game) × (k < leaf_count leaves i)

-- the slot is present in an exact leaf
abbrev pub SlotExists : GameOf → LeavesOf → ℕ → ℕ → ℕ → Type 0
SlotExists game leaves i k s = LeafExists game leaves i k × (is_exact leaves i k ≡ true)
    × IsTrue (is_present game leaves i k s)

-- the choice names a player and a leaf that exist, and a slot that is present in an exact leaf
abbrev pub ChoiceExists : GameOf → LeavesOf → Choice → Type 0
ChoiceExists game leaves (AChoice.On i k) = LeafExists game leaves i k
ChoiceExists game leaves (AChoice.Off i k) = LeafExists game leaves i k
ChoiceExists game leaves (AChoice.Zero i k s) = SlotExists game leaves i k s
ChoiceExists game leaves (AChoice.Tight i k s) = SlotExists game leaves i k s
ChoiceExists game leaves (AChoice.Which i k) = LeafExists game leaves i k

-- f 0, .., f (n - 1)
abbrev pub firsts : {A : Type 0} → ℕ → (ℕ → A) → List A
firsts zero f = []
firsts (suc n) f = firsts n f ++ (f n ∷ [])

-- the numbers of a named point or of a ray's direction
abbrev pub direction : NamedOf → ℕ → ℤ
direction (NamedPoint p) = num_of p
direction (NamedRay base dir) = λ v. slice_index_or dir v (pos 0)

-- the unknown has a column: it is the value of a player, a share or the weight of a leaf, or the
-- multiplier of a slot that is present in an exact leaf
abbrev pub IsInColumns : GameOf → LeavesOf → Unknown → Type 0
IsInColumns game leaves One = ⊥
IsInColumns game leaves (Worth i) = i < length game
IsInColumns game leaves (Share i k v) = LeafExists game leaves i k × (v < var_count game i)
IsInColumns game leaves (Weight i k) = LeafExists game leaves i k
IsInColumns game leaves (Dual i k s) = SlotExists game leaves i k s

-- the unknown is the common denominator, or speaks of a player, leaf, variable or slot that exists;
-- the slot may be absent and the leaf not exact
abbrev pub IsUnknown : GameOf → LeavesOf → Unknown → Type 0
IsUnknown game leaves One = Unit {0}
IsUnknown game leaves (Worth i) = i < length game
IsUnknown game leaves (Share i k v) = LeafExists game leaves i k × (v < var_count game i)
IsUnknown game leaves (Weight i k) = LeafExists game leaves i k
IsUnknown game leaves (Dual i k s) = LeafExists game leaves i k × (s < slot_count game leaves i k)

-- the products whose sum, negated, is the number of the unknown in a named item's row
abbrev pub slope_products : GameOf → LeavesOf → ℕ → NamedOf → Unknown → List (ℤ × ℤ)
slope_products game leaves i item u =
    firsts (var_count game i) (λ v. (number_at (slope_form game leaves i v) u, direction item v))

-- the unknown has a column, or is the common denominator, whose numbers stand on the right sides
abbrev pub HasNumbers : GameOf → LeavesOf → Unknown → Type 0
HasNumbers game leaves u =
    ((j : ℕ) × (j < length (columns game leaves))
    × (slice_index_or (columns game leaves) j One ≡ u)) ⊎ (u ≡ One)

-- w is the first step that is too wide in such a sum of the item's row
abbrev pub HasWideItem : GameOf → LeavesOf → ℕ → NamedOf → Wide → Type 0
HasWideItem game leaves i item w =
    (u : Unknown) × HasNumbers game leaves u
    × (sum_steps (pos 0) (slope_products game leaves i item u) ≡ Err w)

-- and that in the row of some named item; all other numbers of the system are numbers of the game,
-- the leaves and the cuts
abbrev pub HasWideCoefficient : GameOf → LeavesOf → Wide → Type 0
HasWideCoefficient game leaves w =
    (i n : ℕ) × (item : NamedOf) × (i < length game)
    × (slice_get (named_at leaves i) n ≡ Some item) × HasWideItem game leaves i item w

-- each player has a leaf
abbrev pub HaveLeaves : GameOf → LeavesOf → Type 0
HaveLeaves game leaves = (i : ℕ) → i < length game → 0 < leaf_count leaves i

-- what the row speaks of exists
abbrev pub LineExists : GameOf → LeavesOf → Line → Type 0
LineExists game leaves (ALine.Weights i negated) = i < length game
LineExists game leaves (ALine.Slot i k s negated) = LeafExists game leaves i k
LineExists game leaves (ALine.Weight i k negated) = LeafExists game leaves i k
LineExists game leaves (ALine.Dual i k s negated) = LeafExists game leaves i k
LineExists game leaves (ALine.Pull i k v negated) = LeafExists game leaves i k
    × (v < var_count game i)
LineExists game leaves (ALine.Gain i k negated) = LeafExists game leaves i k
LineExists game leaves (ALine.Named i n) = (i < length game) × (n < length (named_at leaves i))
LineExists game leaves (ALine.Positive i k) = LeafExists game leaves i k
LineExists game leaves (ALine.Share i k v negated) = LeafExists game leaves i k
    × (v < var_count game i)
LineExists game leaves (ALine.Whole i k) = LeafExists game leaves i k

-- w is the first step that is too wide in the sum of the unknown's number in the row
abbrev pub IsWideAt : GameOf → LeavesOf → Line → Unknown → Wide → Type 0
IsWideAt game leaves (ALine.Named i n) u w =
    sum_steps (pos 0) (slope_products game leaves i (slice_index_or (named_at leaves i) n nothing)
    u) ≡ Err w
IsWideAt game leaves (ALine.Weights i negated) u w = ⊥
IsWideAt game leaves (ALine.Slot i k s negated) u w = ⊥
IsWideAt game leaves (ALine.Weight i k negated) u w = ⊥
IsWideAt game leaves (ALine.Dual i k s negated) u w = ⊥
IsWideAt game leaves (ALine.Pull i k v negated) u w = ⊥
IsWideAt game leaves (ALine.Gain i k negated) u w = ⊥
IsWideAt game leaves (ALine.Positive i k) u w = ⊥
IsWideAt game leaves (ALine.Share i k v negated) u w = ⊥
IsWideAt game leaves (ALine.Whole i k) u w = ⊥

-- the row isn't that of a named item
abbrev pub IsPlain : Line → Type 0
IsPlain (ALine.Named i n) = ⊥
IsPlain (ALine.Weights i negated) = Unit {0}
IsPlain (ALine.Slot i k s negated) = Unit {0}
IsPlain (ALine.Weight i k negated) = Unit {0}
IsPlain (ALine.Dual i k s negated) = Unit {0}
IsPlain (ALine.Pull i k v negated) = Unit {0}
IsPlain (ALine.Gain i k negated) = Unit {0}
IsPlain (ALine.Positive i k) = Unit {0}
IsPlain (ALine.Share i k v negated) = Unit {0}
IsPlain (ALine.Whole i k) = Unit {0}

-- a wide step is one of these
abbrev pub IsWideBy : (Wide → Type 0) → SystemError → Type 0
IsWideBy P (AnError.Wide w) = P w
IsWideBy P AnError.NoMemory = Unit {0}

abbrev pub no_line : Line
no_line = ALine.Weights 0 false

-- a number of one of the unknowns, or of the common denominator, is too wide in the row
abbrev pub HasWideNumber : GameOf → LeavesOf → List Unknown → Line → Wide → Type 0
HasWideNumber game leaves order line w =
    ((j : ℕ) × (j < length order) × IsWideAt game leaves line (slice_index_or order j One) w)
    ⊎ IsWideAt game leaves line One w

-- and that in one of the rows
abbrev pub HasWideIn : GameOf → LeavesOf → List Unknown → List Line → Wide → Type 0
HasWideIn game leaves order lines w =
    (m : ℕ) × (m < length lines) × HasWideNumber game leaves order (slice_index_or lines m no_line)
    w
