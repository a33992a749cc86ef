-- The multipliers of slots that those of rows and the extras of columns stand for.
use Rattle.std.specs.Prelude.{◌≡◌, ◌≢◌, ℕ, ◌<◌, ℤ, pos, ◌+ℤ◌, ◌-ℤ◌, ◌≤ℤ◌, length, slice_index}
use Rattle.zr_base.specs.Terms.{Terms, coef_at, value_at}
use Rattle.zr_game.specs.Players.{PlayerOf}
use Rattle.zr_game.specs.Leaves.{LeafOf, slots}
use Rattle.zr_simplex.specs.Answers.{weighed}
use Rattle.zr_tree.specs.Form.{AreMultipliers}
use Rattle.zr_tree.specs.Right.{ArePresent, left_of, right_of}
use Rattle.zr_asked.specs.Branches.{bound_at, present}
use Rattle.zr_asked.specs.Parts.{part_at, parts_of}
use Rattle.zr_branch.specs.declared.program.Question.{Question}

-- the sum of the rows' numbers at a variable, each times its multiplier
abbrev pub row_sum : PlayerOf → LeafOf → Terms → ℕ → ℤ
row_sum player leaf mult j =
    value_at mult (λ r. (bound_at (present (slots player leaf)) r).coef j)

-- c is the first column of variable j
abbrev pub IsFirstColumn : PlayerOf → ℕ → ℕ → Type 0
IsFirstColumn player j c =
    (c < length (parts_of player.vars)) × (part_at (parts_of player.vars) c ≡ (j, pos 1))

-- the list has multipliers of slots that are present, whose combination is that of the rows and of
-- the rows `-x <= -low`, each times the extra of its variable's first column
pub record IsSpread (player : PlayerOf) (leaf : LeafOf) (q : Question)
    (mult extra list : Terms) : Type 0 where
  pub form : AreMultipliers list
  pub present_are : ArePresent (slots player leaf) list
  pub left : (j c : ℕ) → IsFirstColumn player j c
      → left_of (slots player leaf) list j ≡ row_sum player leaf mult j -ℤ coef_at extra c
  pub right : right_of (slots player leaf) list ≤ℤ (weighed q.lp mult).le
  pub sums : (c : ℕ → ℤ) → value_at list c ≡ value_at mult (λ r. c (slice_index q.places.items r))
      +ℤ value_at extra (λ k. c (slice_index q.lows.items k))
