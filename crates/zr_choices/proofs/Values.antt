-- A row's value over the parted_terms is its value at the joined numbers.
use Rattle.std.proofs.Common.{◌≡◌, ℕ, ◌+◌, ◌<◌, arith, refl, ap, ap₂, ◌∙◌, ℤ, pos, neg_ℤ, ◌+ℤ◌, ◌-ℤ◌, ◌*ℤ◌, ◌≤ℤ◌, ◌<ℤ◌, Bool, true, false, if◌then◌else◌, List, [], ◌∷◌, ◌++◌, map, length, get_or}
use Rattle.std.proofs.Math.ListN.{get_or-append}
use Rattle.std.proofs.lemmas.List.{get_or-map, length-map, length-append}
use Rattle.std.proofs.lemmas.Int.{ints}
use Rattle.zr_base.specs.Terms.{Terms, value_at}
use Rattle.zr_base.proofs.Ring.{spread}
use Rattle.zr_lin.specs.DenseRows.{IsBelow}
use Rattle.zr_lin.specs.Ineqs.{IneqOf, IneqHolds, Solves}
use Rattle.zr_choices.specs.Parted.{place, part_terms, parted_terms, parted, at_most_1, parted_rows, joined}

pub value_at-append : (xs ys : Terms) (p : ℕ → ℤ) → value_at (xs ++ ys) p ≡ value_at xs p
    +ℤ value_at ys p
value_at-append [] ys p = omega (arith, ints)
value_at-append (t ∷ ts) ys p = let r = value_at-append ts ys p in omega (arith, ints, r)

minus_product : (a x y : ℤ) → a *ℤ x +ℤ neg_ℤ a *ℤ y ≡ a *ℤ (x -ℤ y)
minus_product a x y = simp spread (omega (arith, ints))

part_value : (b : Bool) (k : ℕ) (a : ℤ) (q : ℕ → ℤ)
    → value_at (if b then (k, a) ∷ ((k + 1, neg_ℤ a) ∷ []) else (k, a) ∷ []) q ≡ a
    *ℤ (if b then q k -ℤ q (k + 1) else q k)
part_value true k a q = let m = minus_product a (q k) (q (k + 1)) in omega (arith, ints, m)
part_value false k a q = omega (arith, ints)

module _ (free : ℕ → Bool) (q : ℕ → ℤ) where
  pub parts_value : (ts : Terms) → value_at (parted_terms free ts) q ≡ value_at ts (joined free q)
  parts_value [] = refl
  parts_value (t ∷ ts) =
      value_at-append (part_terms free t) (parted_terms free ts) q
      ∙ ap₂ ◌+ℤ◌ (part_value (free t.0) (place free t.0) t.1 q) (parts_value ts)

  below_from : (strict : Bool) (last : ℕ) (v right : ℤ) → (pos 0) <ℤ q last
      → (v +ℤ value_at (if strict then (last, pos 1) ∷ [] else []) q) ≤ℤ right
      → IsBelow strict v right
  below_from true last v right above h = omega (arith, ints, above, h)
  below_from false last v right above h = omega (arith, ints, h)

  -- where the parted row holds, the row does
  pub row_joined : (columns : ℕ) (d : ℤ) (row : IneqOf) → (pos 0) <ℤ q (place free columns)
      → IneqHolds q d (parted free columns row) → IneqHolds (joined free q) d row
  row_joined columns d row above h =
      let last = if row.strict then (place free columns, pos 1) ∷ [] else [] in
      let v = value_at-append (parted_terms free row.coef) last q
      ∙ ap (λ z. z +ℤ value_at last q) (parts_value row.coef) in
      below_from row.strict (place free columns) (value_at row.coef (joined free q))
      (row.le *ℤ d) above (rw v at h)

  abbrev none : IneqOf
  none = record { coef = []; le = pos 0; strict = false }

  pub rows_joined : (columns : ℕ) (rows : List IneqOf) (d : ℤ)
      → Solves (parted_rows free columns rows) q d → (pos 0) <ℤ q (place free columns)
      → Solves rows (joined free q) d
  rows_joined columns rows d s above = (
    s.0,
    λ k e h.
        let n : k < length (map (parted free columns) rows) = rw
        (length-map rows (parted free columns)) h in
        let m : k < length (parted_rows free columns rows) = rw
        (length-append (map (parted free columns) rows) (at_most_1 (place free columns) ∷ []))
        (omega (arith, n)) in
        let is = get_or-append (map (parted free columns) rows)
        (at_most_1 (place free columns) ∷ []) none k n
        ∙ get_or-map (parted free columns) rows k e none h in
        row_joined columns d (get_or rows k e) above (rw is at (s.1 k none m)),
  )
