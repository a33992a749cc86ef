-- The rows in their order, by name, and the form of each.
use Rattle.std.specs.Prelude.{ℕ, ◌==◌, ℤ, pos, neg_ℤ, true, false, List, [], ◌∷◌, ◌++◌, length, slice_index_or, if◌then◌else◌}
use Rattle.zr_base.specs.Points.{num_of}
use Rattle.zr_game.specs.Players.{GameOf}
use Rattle.zr_game.specs.declared.choice.Choice.{Choice}
use Rattle.zr_game.specs.declared.choice.Choice.TheVariants as AChoice
use Rattle.zr_system.specs.declared.line.Line.{Line}
use Rattle.zr_system.specs.declared.line.Line.TheVariants as ALine
use Rattle.zr_system.specs.declared.unknown.Unknown.TheVariants.{One, Worth, Share, Weight, Dual}
use Rattle.zr_game.specs.Named.{NamedOf, NamedPoint, NamedRay}
use Rattle.zr_system.specs.Regions.{LeavesOf, var_count, leaf_count, slot_count, is_exact, named_at, slot_number, slot_right, own_number, cross_number}
use Rattle.zr_system.specs.Forms.{Form, of, times, plus, sum, minus, turned, number, FormRow, at_most_0, below_0}
use Rattle.zr_system.specs.Unknowns.{list_to, over_present}

-- the multipliers cancel the slope
abbrev pub pull_lines : GameOf → ℕ → ℕ → List Line
pull_lines game i k = list_to (var_count game i)
    (λ v. ALine.Pull i k v false ∷ (ALine.Pull i k v true ∷ []))

-- of an exact leaf: multipliers are at least 0, they cancel the slope, and the value is at most
-- what they give
abbrev pub dual_lines : GameOf → LeavesOf → ℕ → ℕ → List Line
dual_lines game leaves i k =
    over_present game leaves i k (λ s. ALine.Dual i k s false) ++
    (pull_lines game i k ++ (ALine.Gain i k false ∷ []))

-- the slots hold
abbrev pub slot_lines : GameOf → LeavesOf → ℕ → ℕ → List Line
slot_lines game leaves i k = over_present game leaves i k (λ s. ALine.Slot i k s false)

abbrev pub leaf_lines : GameOf → LeavesOf → ℕ → ℕ → List Line
leaf_lines game leaves i k =
    slot_lines game leaves i k ++ (ALine.Weight i k false ∷
    (if is_exact leaves i k then dual_lines game leaves i k else []))

abbrev pub player_lines : GameOf → LeavesOf → ℕ → List Line
player_lines game leaves i =
    ALine.Weights i false ∷ (ALine.Weights i true ∷
    (list_to (leaf_count leaves i) (λ k. leaf_lines game leaves i k) ++ list_to
    (length (named_at leaves i)) (λ n. ALine.Named i n ∷ [])))

-- the rows where no choice is made
abbrev pub base_lines : GameOf → LeavesOf → List Line
base_lines game leaves = list_to (length game) (λ i. player_lines game leaves i)

-- an exact leaf reaches the value
abbrev pub reach_lines : LeavesOf → ℕ → ℕ → List Line
reach_lines leaves i k = if is_exact leaves i k then ALine.Gain i k true ∷ [] else []

abbrev pub off_lines : GameOf → ℕ → ℕ → List Line
off_lines game i k =
    ALine.Weight i k true ∷ list_to (var_count game i)
    (λ v. ALine.Share i k v false ∷ (ALine.Share i k v true ∷ []))

-- the player's other leaves have no weight and no share
abbrev pub other_lines : GameOf → LeavesOf → ℕ → ℕ → List Line
other_lines game leaves i k = list_to (leaf_count leaves i)
    (λ l. if l == k then [] else off_lines game i l)

abbrev pub choice_lines : GameOf → LeavesOf → Choice → List Line
choice_lines game leaves (AChoice.On i k) = ALine.Positive i k ∷ reach_lines leaves i k
choice_lines game leaves (AChoice.Off i k) = off_lines game i k
choice_lines game leaves (AChoice.Zero i k s) = ALine.Dual i k s true ∷ []
choice_lines game leaves (AChoice.Tight i k s) = ALine.Slot i k s true ∷ []
choice_lines game leaves (AChoice.Which i k) =
    ALine.Whole i k ∷ (reach_lines leaves i k ++ other_lines game leaves i k)

-- the rows of a path of choices, in its order
abbrev pub path_lines : GameOf → LeavesOf → List Choice → List Line
path_lines game leaves [] = []
path_lines game leaves (c ∷ cs) = choice_lines game leaves c ++ path_lines game leaves cs

abbrev pub all_lines : GameOf → LeavesOf → List Choice → List Line
all_lines game leaves path = base_lines game leaves ++ path_lines game leaves path

-- the sum of the weights
abbrev pub weights_form : LeavesOf → ℕ → Form
weights_form leaves i = sum (leaf_count leaves i) (λ k. of (Weight i k))

-- the slot's row at the leaf's share, less its right side times the weight
abbrev pub slot_form : GameOf → LeavesOf → ℕ → ℕ → ℕ → Form
slot_form game leaves i k s =
    plus (sum (var_count game i) (λ v. times (slot_number game leaves i k s v) (of (Share i k v))))
    (times (neg_ℤ (slot_right game leaves i k s)) (of (Weight i k)))

-- what one unit of variable v costs player i, at the sums of the others' shares
abbrev pub slope_form : GameOf → LeavesOf → ℕ → ℕ → Form
slope_form game leaves i v =
    plus (number (own_number game i v)) (sum (length game)
    (λ k. sum (var_count game k) (λ u. times (cross_number game i v k u)
    (sum (leaf_count leaves k) (λ l. of (Share k l u))))))

-- the sum of the multipliers' rows in variable v
abbrev pub pull_form : GameOf → LeavesOf → ℕ → ℕ → ℕ → Form
pull_form game leaves i k v =
    sum (slot_count game leaves i k) (λ s. times (slot_number game leaves i k s v)
    (of (Dual i k s)))

-- the value and the sum of the multipliers' right sides
abbrev pub gain_form : GameOf → LeavesOf → ℕ → ℕ → Form
gain_form game leaves i k =
    plus (of (Worth i)) (sum (slot_count game leaves i k)
    (λ s. times (slot_right game leaves i k s) (of (Dual i k s))))

-- what the numbers cost along the slope
abbrev pub along_form : GameOf → LeavesOf → ℕ → (ℕ → ℤ) → Form
along_form game leaves i x = sum (var_count game i) (λ v. times (x v) (slope_form game leaves i v))

abbrev pub named_form : GameOf → LeavesOf → ℕ → NamedOf → Form
named_form game leaves i (NamedPoint p) =
    plus (times p.den (of (Worth i))) (minus (along_form game leaves i (num_of p)))
named_form game leaves i (NamedRay base dir) =
    minus (along_form game leaves i (λ v. slice_index_or dir v (pos 0)))

abbrev pub nothing : NamedOf
nothing = NamedRay (record { num = []; den = pos 1 }) []

abbrev pub row_of_line : GameOf → LeavesOf → Line → FormRow
row_of_line game leaves (ALine.Weights i negated) =
    at_most_0 (turned negated (plus (weights_form leaves i) (minus (of One))))
row_of_line game leaves (ALine.Slot i k s negated) = at_most_0
    (turned negated (slot_form game leaves i k s))
row_of_line game leaves (ALine.Weight i k negated) = at_most_0
    (turned negated (minus (of (Weight i k))))
row_of_line game leaves (ALine.Dual i k s negated) = at_most_0
    (turned negated (minus (of (Dual i k s))))
row_of_line game leaves (ALine.Pull i k v negated) =
    at_most_0 (turned negated (plus (slope_form game leaves i v) (pull_form game leaves i k v)))
row_of_line game leaves (ALine.Gain i k negated) = at_most_0
    (turned negated (gain_form game leaves i k))
row_of_line game leaves (ALine.Named i n) =
    at_most_0 (named_form game leaves i (slice_index_or (named_at leaves i) n nothing))
row_of_line game leaves (ALine.Positive i k) = below_0 (minus (of (Weight i k)))
row_of_line game leaves (ALine.Share i k v negated) = at_most_0 (turned negated (of (Share i k v)))
row_of_line game leaves (ALine.Whole i k) = at_most_0 (plus (minus (of (Weight i k))) (of One))
