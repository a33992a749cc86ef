-- The columns of a branch's program as the code has them.
use Rattle.std.specs.Prelude.{◌≡◌, ℕ, zero, suc, ◌+◌, ℤ, pos, negsuc, ◌-ℤ◌, ◌*ℤ◌, ◌==◌, Bool, true, false, if◌then◌else◌, ◌≤ℤ◌, Some, List, [], ◌∷◌, map, length, slice_index_or}
use Rattle.zr_base.specs.Terms.{Terms, coef_at}
use Rattle.zr_game.specs.Players.{PlayerOf, VarOf}
use Rattle.zr_game.specs.Leaves.{Bound, LeafOf, low_of, slots}
use Rattle.zr_lin.specs.declared.system.Ineq.{Ineq}
use Rattle.zr_lin.specs.Ineqs.{IsIneq, ineq_of}
use Rattle.zr_simplex.specs.Programs.{IsLp, numbers}
use Rattle.zr_asked.specs.Branches.{present}
use Rattle.zr_asked.specs.Drawn.{places_from}
use Rattle.zr_asked.specs.Parts.{Part as APart, by_part, is_from_zero, parts_of}
use Rattle.zr_branch.specs.declared.part.Part.{Part}
use Rattle.zr_branch.specs.declared.program.Question.{Question}

-- a column: its variable's number, and 1 or -1
abbrev pub sign_of : Bool → ℤ
sign_of false = pos 1
sign_of true = negsuc 0

abbrev pub part_of : Part → APart
part_of part = (part.var, sign_of part.negative)

-- the columns of variable v: one, or two
abbrev pub own_parts : ℕ → Bool → List Part
own_parts v true = (record { var = v; negative = false }) ∷ []
own_parts v false =
    (record { var = v; negative = false }) ∷ (record { var = v; negative = true }) ∷ []

-- the number of a column where variables have these
abbrev pub part_number : (ℕ → ℤ) → Part → ℤ
part_number coef part = sign_of part.negative *ℤ coef part.var

abbrev pub part_numbers : (ℕ → ℤ) → List Part → List ℤ
part_numbers coef parts = map (part_number coef) parts

-- the number is 0
abbrev pub is_zero : ℤ → Bool
is_zero (pos zero) = true
is_zero _ = false

-- the numbers that aren't zero, with their places from c on
abbrev pub listed_from : ℕ → List ℤ → Terms
listed_from c [] = []
listed_from c (z ∷ zs) =
    if is_zero z then listed_from (suc c) zs else (c, z) ∷ listed_from (suc c) zs

-- how many columns a variable has
abbrev pub width : Bool → ℕ
width true = 1
width false = 2

-- what a variable's columns give: the positive part, or positive minus negative part
abbrev pub own_value : Bool → ℕ → (ℕ → ℤ) → ℤ
own_value true c y = y c
own_value false c y = y c -ℤ y (c + 1)

-- what the columns from c on give, variable by variable
abbrev pub values_from : ℕ → List VarOf → (ℕ → ℤ) → List ℤ
values_from c [] y = []
values_from c (var ∷ vars) y =
    own_value (is_from_zero var.low) c y
    ∷ values_from (c + width (is_from_zero var.low)) vars y

-- the row with a number for each column
abbrev pub row_bound : Ineq → Bound
row_bound row = record { coef = coef_at row.coef.items; le = row.le }

-- the row by columns
abbrev pub by_columns : List APart → Bound → Bound
by_columns parts row = record { coef = by_part parts row.coef; le = row.le }

-- its columns ascend, no number is too wide, and it isn't strict
abbrev pub IsWeakRow : ℕ → Ineq → Type 0
IsWeakRow columns row = IsIneq columns (ineq_of row) × (row.strict ≡ false)

-- the low bounds' slots, by column
abbrev pub low_slots : PlayerOf → List ℕ
low_slots player = map (λ part. length player.rows + part.0 + part.0) (parts_of player.vars)

-- the question is that of the leaf: its rows are the slots that are present, whose numbers are
-- `places`, and `lows` are the slots of the lower bounds by column
pub record IsBranchQuestion (player : PlayerOf) (leaf : LeafOf) (aim : List ℤ)
    (q : Question) : Type 0 where
  pub good : IsLp q.lp
  pub columns : q.lp.columns ≡ length (parts_of player.vars)
  pub rows : map row_bound q.lp.rows.items
      ≡ map (by_columns (parts_of player.vars)) (present (slots player leaf))
  pub aims : (c : ℕ) → numbers q.lp.aim.items c ≡ by_part (parts_of player.vars) (numbers aim) c
  pub places_are : q.places.items ≡ places_from 0 (slots player leaf)
  pub lows_are : q.lows.items ≡ low_slots player

-- a lower bound of at least 0 of a variable is kept
abbrev pub KeepsLows : PlayerOf → LeafOf → Type 0
KeepsLows player leaf =
    (v : ℕ) (low : ℤ) → low_of player.vars v ≡ Some low → (pos 0) ≤ℤ low
    → (kept : ℤ) × (leaf.low v ≡ Some kept) × ((pos 0) ≤ℤ kept)

-- of each column, whether it is the only one of its variable
abbrev pub singles : List VarOf → List Bool
singles [] = []
singles (var ∷ vars) =
    if is_from_zero var.low then true ∷ singles vars else false ∷ false ∷ singles vars

abbrev pub is_single : List VarOf → ℕ → Bool
is_single vars c = slice_index_or (singles vars) c false
