-- Reading points, nodes and trees from left to right, line after line.
use Rattle.std.specs.Prelude.{ℕ, ℤ, ◌/◌, ◌%◌, List, [], ◌∷◌, length, take, drop, Bool, ◌&&◌, ◌==◌, nat_lt, Option, Some, None, option_map}
use Rattle.zr_base.specs.Points.{PointOf}
use Rattle.zr_game.specs.Named.{NamedOf, NamedPoint, NamedRay}
use Rattle.zr_tree.specs.Form.{child_count}
use Rattle.zr_tree.specs.Nodes.{Multipliers, NodeOf, SplitNode, ChooseNode, ProofNode, KnownNode, LooseNode}
use Rattle.zr_cases.specs.Cases.{RNodeOf, OnOffNode, RowNode, WhichNode, CloseNode, BNodeOf, CutNode, EmptyNode, DeviateNode}
use Rattle.zr_cases.specs.Forms.{box_count, case_count}
use Rattle.zr_form.specs.Bounds.{is_index, is_narrow, is_positive}
use Rattle.zr_form.specs.Fields.{alone, and_more, ended, integer_read, integers, join_whole, natural_read, only_if, pair, skip}
use Rattle.zr_form.specs.Lines.{by_fields}
use Rattle.zr_form.specs.Numbers.{integer, natural}
use Rattle.zr_form.specs.Reading.{Bytes, Read, items_read, join_read, one_read}
use Rattle.std.specs.Prelude.{codes}
use Rattle.zr_lines.specs.declared.ends.Ends.{Ends}
use Rattle.zr_lines.specs.declared.words.NodeWord.{NodeWord}
use Rattle.zr_lines.specs.declared.words.NodeWord.TheVariants as nodes
use Rattle.zr_lines.specs.declared.words.NamedWord.{NamedWord}
use Rattle.zr_lines.specs.declared.words.NamedWord.TheVariants as named
use Rattle.zr_lines.specs.declared.words.CaseWord.{CaseWord}
use Rattle.zr_lines.specs.declared.words.CaseWord.TheVariants as cases
use Rattle.zr_lines.specs.declared.words.BoxWord.{BoxWord}
use Rattle.zr_lines.specs.declared.words.BoxWord.TheVariants as boxes
use Rattle.zr_lines.specs.Fits.{ascend, covers, is_at, is_scale, refutes}
use Rattle.zr_lines.specs.Words.{box_word, case_word, named_word, node_word}

-- what is read after the word at the front
abbrev pub by_word : {W X : Type 0} → (Bytes → Option W) → (W → List Bytes → Option X) → List Bytes → Option X
by_word word rest = join_whole (λ w x. x) (one_read word) rest

-- ---- points

-- numbers to the end, if there is such a number of them
unfoldable pub numbers_at : Bool → (ℕ → Bool) → List Bytes → Option (List ℤ)
numbers_at strict test fs = only_if (λ nums. test (length nums)) (integers (is_narrow strict) fs)

abbrev pub is_some_count : ℕ → Bool
is_some_count n = nat_lt 0 n

-- so many numbers are two lists of as many numbers, and of at least one
abbrev pub is_two_lists : ℕ → Bool
is_two_lists n = nat_lt 0 n && n % 2 == 0

abbrev pub point_with : ℤ → List ℤ → PointOf
point_with den nums = record { num = nums; den = den }

-- a denominator, and at least one number
unfoldable pub point_at : Bool → List Bytes → Option PointOf
point_at strict = join_whole point_with (integer_read (is_positive strict)) (λ den. numbers_at strict is_some_count)

-- the first half of the numbers is the base, the second the direction
abbrev pub ray_with : ℤ → List ℤ → NamedOf
ray_with den nums = NamedRay (point_with den (take (length nums / 2) nums)) (drop (length nums / 2) nums)

-- a denominator, and an even number of numbers
unfoldable pub ray_at : Bool → List Bytes → Option NamedOf
ray_at strict = join_whole ray_with (integer_read (is_positive strict)) (λ den. numbers_at strict is_two_lists)

unfoldable pub named_rest : Bool → NamedWord → List Bytes → Option NamedOf
named_rest strict named.Point fs = option_map (λ x. NamedPoint x) (point_at strict fs)
named_rest strict named.Ray fs = ray_at strict fs

-- a named point or ray
unfoldable pub named_at : Bool → List Bytes → Option NamedOf
named_at strict = by_word named_word (named_rest strict)

-- how many points and rays follow
unfoldable pub named_count_at : Bool → List Bytes → Option ℕ
named_count_at strict fs = ended (skip (codes "named") (natural_read (is_index strict)) fs)

-- ---- multipliers

-- both or nothing
abbrev pub and_pair : Option ℕ → Option ℤ → Option (ℕ × ℤ)
and_pair None o = None
and_pair (Some row) o = option_map (λ by. (row, by)) o

-- a row and its multiplier
abbrev pub multiplier_of : Bool → Bytes → Bytes → Option (ℕ × ℤ)
multiplier_of strict f g = and_pair (only_if (is_index strict) (natural f)) (only_if (is_positive strict) (integer g))

-- pairs of a row and its multiplier, to the end
unfoldable pub multipliers : Bool → List Bytes → Option Multipliers
multipliers strict [] = Some []
multipliers strict (f ∷ []) = None
multipliers strict (f ∷ g ∷ fs) = and_more (multiplier_of strict f g) (multipliers strict fs)

-- as many pairs as the count says, with rows that ascend
unfoldable pub counted : Bool → ℕ → List Bytes → Option Multipliers
counted strict count fs = only_if (λ mult. length mult == count && ascend mult) (multipliers strict fs)

-- a count, and as many pairs
unfoldable pub counting : Bool → List Bytes → Option Multipliers
counting strict = join_whole (λ n mult. mult) (natural_read (is_index strict)) (counted strict)

-- ---- nodes of trees

-- what follows the word
unfoldable pub node_rest : Bool → Ends → NodeWord → List Bytes → Option NodeOf
node_rest strict ends nodes.Split fs = option_map (λ h. SplitNode h.0 h.1) (ended (pair (natural_read (is_index strict)) (integer_read (is_at strict)) fs))
node_rest strict ends nodes.Choose fs = option_map (λ p. ChooseNode p) (ended (natural_read (is_index strict) fs))
node_rest strict ends nodes.Leaf fs =
    join_whole (λ h mult. ProofNode h.0 mult) (pair (integer_read (is_scale strict (refutes ends))) (natural_read (is_index strict))) (λ h. counted strict h.1) fs
node_rest strict ends nodes.Known fs = only_if (λ n. covers ends) (option_map (λ x. KnownNode x) (point_at strict fs))
node_rest strict ends nodes.Loose fs = only_if (λ n. covers ends) (alone LooseNode fs)

-- a node of a tree with such ends
unfoldable pub node_at : Bool → Ends → List Bytes → Option NodeOf
node_at strict ends = by_word node_word (node_rest strict ends)

-- ---- nodes of refutations

unfoldable pub case_rest : Bool → ℕ → CaseWord → List Bytes → Option RNodeOf
case_rest strict players cases.OnOff fs = option_map (λ h. OnOffNode h.0 h.1) (ended (pair (natural_read (is_index strict)) (natural_read (is_index strict)) fs))
case_rest strict players cases.Row fs =
    option_map (λ h. RowNode h.0 h.1.0 h.1.1) (ended (pair (natural_read (is_index strict)) (pair (natural_read (is_index strict)) (natural_read (is_index strict))) fs))
case_rest strict players cases.Which fs = option_map (λ i. WhichNode i) (ended (natural_read (λ n. nat_lt n players) fs))
case_rest strict players cases.Close fs = option_map (λ mult. CloseNode mult) (counting strict fs)

-- a node of a refutation for so many players
unfoldable pub case_at : Bool → ℕ → List Bytes → Option RNodeOf
case_at strict players = by_word case_word (case_rest strict players)

-- ---- nodes of box trees

unfoldable pub box_rest : Bool → BoxWord → List Bytes → Option BNodeOf
box_rest strict boxes.Split fs =
    option_map (λ h. CutNode h.0 h.1.0 h.1.1) (ended (pair (natural_read (is_index strict)) (pair (natural_read (is_index strict)) (integer_read (is_at strict))) fs))
box_rest strict boxes.Empty fs = join_whole (λ i mult. EmptyNode i mult) (natural_read (is_index strict)) (λ i. counting strict) fs
box_rest strict boxes.Deviate fs = join_whole (λ i x. DeviateNode i x) (natural_read (is_index strict)) (λ i. point_at strict) fs

unfoldable pub box_at : Bool → List Bytes → Option BNodeOf
box_at strict = by_word box_word (box_rest strict)

-- ---- lines

-- nodes until the tree is whole
unfoldable pub tree_read : Bool → Ends → Read (List NodeOf)
tree_read strict ends ls = items_read (by_fields (node_at strict ends)) child_count ls 1

-- a count, and as many points and rays
unfoldable pub named_read : Bool → Read (List NamedOf)
named_read strict = join_read (λ count items. items) (one_read (by_fields (named_count_at strict))) (λ count ls. items_read (by_fields (named_at strict)) (λ item. 0) ls count)

-- nodes until the refutation is whole, where the players have these numbers of leaves
unfoldable pub cases_read : Bool → List ℕ → Read (List RNodeOf)
cases_read strict leaves ls = items_read (by_fields (case_at strict (length leaves))) (case_count leaves) ls 1

-- nodes until the box tree is whole
unfoldable pub boxes_read : Bool → Read (List BNodeOf)
boxes_read strict ls = items_read (by_fields (box_at strict)) box_count ls 1
