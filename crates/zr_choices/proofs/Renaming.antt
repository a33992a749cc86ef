-- The extras of columns as multipliers of rows.
use Rattle.std.proofs.Common.{◌≡◌, ◌≢◌, ℕ, ◌+◌, ◌<◌, arith, sym, ap, ◌∙◌, ℤ, pos, List, length, slice_index, ⊎_elim}
use Rattle.zr_base.specs.Terms.{Terms, coef_at, value_at}
use Rattle.zr_branch.specs.Merged.{AreAtLeastOne, IsMultiplier, renamed}
use Rattle.zr_branch.proofs.Merging.{named_at, renamed_ascends, value_renamed}
use Rattle.zr_choices.specs.Merging.{AreRows, first_terms}
use Rattle.zr_choices.proofs.FirstTerms.{first_ascends, first_coef_at}
use Rattle.zr_choices.proofs.Mergeable.{zero_or}

module _ (rows : List ℕ) (mult extra : Terms) (are : AreRows rows mult extra)
    (listed : AreAtLeastOne (length rows + 1) extra) where
  abbrev firsts_of : Terms
  firsts_of = first_terms (length rows) extra

  first_listed : AreAtLeastOne (length rows) (first_terms (length rows) extra)
  first_listed = first_ascends IsMultiplier 0 (length rows) (length rows + 1) extra listed

  still : (k : ℕ) → k < length rows → coef_at (first_terms (length rows) extra) k ≢ pos 0
      → coef_at extra k ≢ pos 0
  still k h n e = n (first_coef_at (length rows) extra k h ∙ e)

  pub right_form : AreAtLeastOne 4294967296
      (renamed (slice_index rows) (first_terms (length rows) extra))
  right_form =
      renamed_ascends (slice_index rows) (length rows) 4294967296 (λ k h. are.fit k h)
      (first_terms (length rows) extra)
      (λ k l h b x y. are.rise k l h b (still k (omega (arith, h, b)) x) (still l b y))
      first_listed

  pub right_apart : (k : ℕ) → coef_at mult k ≢ pos 0
      → coef_at (renamed (slice_index rows) (first_terms (length rows) extra)) k ≡ pos 0
  right_apart k n =
      ⊎_elim (λ (z : coef_at (renamed (slice_index rows) (first_terms (length rows) extra)) k
      ≡ pos 0). z)
      (λ (z : coef_at (renamed (slice_index rows) (first_terms (length rows) extra)) k ≢ pos 0).
      let s = named_at (slice_index rows) (length rows) 4294967296 (λ i h. are.fit i h)
      (first_terms (length rows) extra) k first_listed z in
      absurd (n (ap (coef_at mult) (sym s.2) ∙ are.apart s.0 s.1 (still s.0 s.1 s.3))))
      (zero_or (coef_at (renamed (slice_index rows) (first_terms (length rows) extra)) k))

  pub right_value : (c : ℕ → ℤ)
      → value_at (renamed (slice_index rows) (first_terms (length rows) extra)) c
      ≡ value_at (first_terms (length rows) extra) (λ k. c (slice_index rows k))
  right_value c = value_renamed (slice_index rows) (first_terms (length rows) extra) c
