-- Which numbers of a named item's row may be too wide.
use Rattle.std.proofs.Common.{◌≡◌, ℕ, zero, suc, ◌+◌, ◌<◌, arith, refl, sym, subst, ◌∙◌, ℤ, pos, ◌*ℤ◌, Ok, Err, Result, length, get_or, ⊎_elim, inl, inr}
use Rattle.std.proofs.lemmas.Int.{ints}
use Rattle.std.proofs.lemmas.Option.{get_or_from_slice_get, slice_get_within}
use Rattle.zr_base.specs.declared.step.Wide.{Wide}
use Rattle.zr_base.specs.Steps.{IsNarrow, cross_of, narrow_cross}
use Rattle.zr_base.specs.Sums.{sum_step, sum_steps}
use Rattle.zr_base.proofs.CrossLaws.{narrow_is}
use Rattle.zr_base.proofs.SumSteps.{one_more}
use Rattle.zr_game.specs.Named.{NamedOf}
use Rattle.zr_game.specs.Players.{GameOf}
use Rattle.zr_system.specs.declared.unknown.Unknown.{Unknown}
use Rattle.zr_system.specs.declared.unknown.Unknown.TheVariants.{One, Worth, Share, Weight, Dual}
use Rattle.zr_system.specs.Asked.{HasNumbers, HasWideItem, HaveLeaves, IsUnknown, LeafExists, direction, firsts}
use Rattle.zr_system.specs.Regions.{LeavesOf, var_count}
use Rattle.zr_system.specs.Unknowns.{columns}
use Rattle.zr_system.specs.Values.{along_products}
use Rattle.zr_system.proofs.ColumnPlaces.{first_column, share_found}
use Rattle.zr_system.proofs.Existence.{columns_exist}
use Rattle.zr_system.proofs.NamedRows.{wide_back, wide_made}

zero_step : (m : ℤ) → sum_step (pos 0) (pos 0, m) ≡ Ok (pos 0)
unfolding cross_of narrow_cross
zero_step m =
    let z : IsNarrow (pos 0) = omega arith in
    let a : pos 0 *ℤ m ≡ pos 0 = omega (arith, ints) in
    rw (a, narrow_is (pos 0) z, narrow_is (pos 0) z) refl

-- a sum of products with 0 is never too wide
zero_sum : (n : ℕ) (f : ℕ → ℤ) → sum_steps (pos 0) (firsts n (λ v. (pos 0, f v))) ≡ Ok (pos 0)
zero_sum zero f = refl
zero_sum (suc n) f =
    one_more (firsts n (λ v. (pos 0, f v))) (pos 0, f n) (pos 0) (zero_sum n f) ∙ zero_step (f n)

module _ (game : GameOf) (i : ℕ) (item : NamedOf) where
  abbrev pub made : Unknown → Result ℤ Wide
  made u = sum_steps (pos 0) (along_products game i item u (var_count game i))

  module _ (leaves : LeavesOf) where
    has_column : (u : Unknown) → HasNumbers game leaves u → IsUnknown game leaves u
    has_column u h =
        ⊎_elim (λ (c : (j : ℕ) × (j < length (columns game leaves))
        × (get_or (columns game leaves) j One ≡ u)). subst (IsUnknown game leaves) c.2
        (columns_exist game leaves c.0 One c.1))
        (λ (e : u ≡ One). subst (IsUnknown game leaves) (sym e) tt) h

    pub none_wide : ((j v : ℕ) (w : Wide) → j < length game → v < var_count game j
        → made (Share j 0 v) ≡ Err w → ⊥) → ((w : Wide) → made One ≡ Err w → ⊥) → (w : Wide)
        → HasWideItem game leaves i item w → ⊥
    none_wide shares one w h =
        by h.0 (has_column h.0 h.1) (wide_back game leaves i item h.0 (has_column h.0 h.1) w h.2)
      where
        by : (u : Unknown) → IsUnknown game leaves u → made u ≡ Err w → ⊥
        by One is e = one w e
        by (Share j k v) is e = shares j v w is.0.0 is.1 e
        by (Worth j) is e = let z = zero_sum (var_count game i) (direction item) in absurd (cc (z, e))
        by (Weight j k) is e =
            let z = zero_sum (var_count game i) (direction item) in absurd (cc (z, e))
        by (Dual j k s) is e =
            let z = zero_sum (var_count game i) (direction item) in absurd (cc (z, e))

    pub wide_share : HaveLeaves game leaves → (j v : ℕ) (w : Wide) → j < length game
        → v < var_count game j → made (Share j 0 v) ≡ Err w → HasWideItem game leaves i item w
    wide_share have j v w player var e =
        let leaf : LeafExists game leaves j 0 = (player, have j player) in
        let found = share_found game leaves j 0 leaf v var in
        let at = first_column game leaves j 0 leaf + v in (
          Share j 0 v,
          inl (
            at,
            slice_get_within (columns game leaves) at (Share j 0 v) found,
            get_or_from_slice_get (columns game leaves) at (Share j 0 v) One found,
          ),
          wide_made game leaves i item (Share j 0 v) (leaf, var) w (sym e),
        )

    pub wide_one : (w : Wide) → made One ≡ Err w → HasWideItem game leaves i item w
    wide_one w e = (One, inr refl, wide_made game leaves i item One tt w (sym e))
