-- The rows of slots as the code has them.
use Rattle.std.specs.Prelude.{ℕ, ◌<◌, ℤ, neg_ℤ, Bool, true, false, List, [], ◌∷◌, map, Option}
use Rattle.zr_base.specs.Terms.{Terms as TermList, coef_at}
use Rattle.zr_game.specs.Forms.{AreTerms}
use Rattle.zr_game.specs.declared.leaf.Leaf.{Leaf}
use Rattle.zr_game.specs.declared.player.Player.{Player}
use Rattle.zr_game.specs.Leaves.{Bound, at_column, leaf_of, slots}
use Rattle.zr_game.specs.Players.{player_of}
use Rattle.zr_tree.specs.declared.slot.Left.{Left}
use Rattle.zr_tree.specs.declared.slot.Left.TheVariants.{Terms, Column}
use Rattle.zr_tree.specs.declared.slot.SlotRow.{SlotRow}

-- the leaf's slots
abbrev pub rows_at : Player → Leaf → List (Option Bound)
rows_at player leaf = slots (player_of player) (leaf_of leaf)

-- a number, with its sign turned where that is wanted
abbrev pub signed : Bool → ℤ → ℤ
signed false z = z
signed true z = neg_ℤ z

-- the number at each column
abbrev pub left_coef : Left → ℕ → ℤ
left_coef (Terms terms negated) = λ j. signed negated (coef_at terms.now j)
left_coef (Column var number) = at_column var number

abbrev pub slot_bound : SlotRow → Bound
slot_bound row = record { coef = left_coef row.left; le = row.le }

-- its columns are below `columns`, and those of terms ascend
abbrev pub IsLeft : ℕ → Left → Type 0
IsLeft columns (Terms terms negated) = AreTerms columns terms.now
IsLeft columns (Column var number) = var < columns

-- terms, with the signs of their numbers turned where that is wanted
abbrev pub signed_terms : Bool → TermList → TermList
signed_terms negated terms = map (λ t. (t.0, signed negated t.1)) terms

-- the numbers that aren't zero, by column
abbrev pub left_terms : Left → TermList
left_terms (Terms terms negated) = signed_terms negated terms.now
left_terms (Column var number) = (var, number) ∷ []
