-- The system as inequalities over its columns.
use Rattle.std.specs.Prelude.{ℕ, ◌+◌, ◌*◌, ℤ, pos, neg_ℤ, List, [], ◌∷◌, map, length, if◌then◌else◌}
use Rattle.std.specs.Ordering.{int_eq}
use Rattle.zr_base.specs.Terms.{Terms}
use Rattle.zr_lin.specs.Ineqs.{IneqOf}
use Rattle.zr_game.specs.Players.{GameOf}
use Rattle.zr_game.specs.declared.choice.Choice.{Choice}
use Rattle.zr_system.specs.declared.unknown.Unknown.{Unknown}
use Rattle.zr_system.specs.declared.unknown.Unknown.TheVariants.{One}
use Rattle.zr_system.specs.Regions.{LeavesOf}
use Rattle.zr_system.specs.Forms.{Form, FormRow, number_at}
use Rattle.zr_system.specs.Unknowns.{columns}
use Rattle.zr_system.specs.Lines.{all_lines, base_lines, row_of_line}

-- the number, listed at column j, unless it is 0
abbrev pub listed : ℕ → ℤ → Terms
listed j z = if int_eq z (pos 0) then [] else (j, z) ∷ []

-- the form's numbers at the unknowns, by column from j on, as far as they aren't 0
abbrev pub terms_from : ℕ → List Unknown → Form → Terms
terms_from j [] form = []
terms_from j (u ∷ us) form = if int_eq (number_at form u) (pos 0) then terms_from (j + 1) us form
    else (j, number_at form u) ∷ terms_from (j + 1) us form

-- the row over the columns, its number by itself on the right side
abbrev pub ineq_over : List Unknown → FormRow → IneqOf
ineq_over order row = record {
  coef = terms_from 0 order row.left;
  le = neg_ℤ (number_at row.left One);
  strict = row.strict;
}

-- the rows of the system under a path of choices
abbrev pub system_rows : GameOf → LeavesOf → List Choice → List IneqOf
system_rows game leaves path =
    map (λ line. ineq_over (columns game leaves) (row_of_line game leaves line))
    (all_lines game leaves path)

-- rows times columns, where no choice is made
abbrev pub cell_count : GameOf → LeavesOf → ℕ
cell_count game leaves = length (base_lines game leaves) * length (columns game leaves)
