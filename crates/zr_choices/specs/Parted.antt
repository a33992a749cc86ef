-- A system's unknowns as columns that are at least 0: a free unknown as its positive and its
-- negative part, and one last column, which says how far the strict rows are kept.
use Rattle.std.specs.Prelude.{ℕ, zero, suc, ◌+◌, ℤ, pos, neg_ℤ, ◌-ℤ◌, Bool, false, if◌then◌else◌, List, [], ◌∷◌, ◌++◌, map}
use Rattle.zr_base.specs.Terms.{Terms}
use Rattle.zr_lin.specs.Ineqs.{IneqOf}

-- the column of unknown j, or of its positive part: a free unknown takes two columns, and each
-- other one takes one
abbrev pub place : (ℕ → Bool) → ℕ → ℕ
place free zero = 0
place free (suc j) = place free j + (if free j then 2 else 1)

-- the number of an unknown, at its columns
abbrev pub part_terms : (ℕ → Bool) → ℕ × ℤ → Terms
part_terms free t =
    if free t.0 then (place free t.0, t.1) ∷ ((place free t.0 + 1, neg_ℤ t.1) ∷ [])
    else (place free t.0, t.1) ∷ []

abbrev pub parted_terms : (ℕ → Bool) → Terms → Terms
parted_terms free [] = []
parted_terms free (t ∷ ts) = part_terms free t ++ parted_terms free ts

-- the row over the parts; a strict one is kept by what stands in the last column
abbrev pub parted : (ℕ → Bool) → ℕ → IneqOf → IneqOf
parted free unknowns row = record {
  coef = parted_terms free row.coef
      ++ (if row.strict then (place free unknowns, pos 1) ∷ [] else []);
  le = row.le;
  strict = false;
}

-- the column is at most 1
abbrev pub at_most_1 : ℕ → IneqOf
at_most_1 last = record { coef = (last, pos 1) ∷ []; le = pos 1; strict = false }

-- the rows over the parts, and last that the last column is at most 1
abbrev pub parted_rows : (ℕ → Bool) → ℕ → List IneqOf → List IneqOf
parted_rows free unknowns rows =
    map (parted free unknowns) rows ++ (at_most_1 (place free unknowns) ∷ [])

-- the unknowns' numbers, from those of the columns: positive minus negative part
abbrev pub joined : (ℕ → Bool) → (ℕ → ℤ) → ℕ → ℤ
joined free q j = if free j then q (place free j) -ℤ q (place free j + 1) else q (place free j)
