-- Each unknown that has a column has just one.
use Rattle.std.proofs.Common.{◌≡◌, ℕ, zero, suc, arith, refl, ap, ℤ, pos, ◌≤ℤ◌, Bool, true, false, List, [], ◌∷◌, slice_get, Some}
use Rattle.std.proofs.lemmas.Int.{ints}
use Rattle.std.proofs.lemmas.Option.{get_or_from_slice_get, same_Some, slice_get_within}
use Rattle.zr_game.specs.Players.{GameOf}
use Rattle.zr_system.specs.declared.unknown.Unknown.{Unknown}
use Rattle.zr_system.specs.Asked.{IsInColumns}
use Rattle.zr_system.specs.Forms.{is_same, only}
use Rattle.zr_system.specs.Regions.{LeavesOf}
use Rattle.zr_system.specs.Unknowns.{columns}
use Rattle.zr_system.proofs.Existence.{columns_hold}
use Rattle.zr_system.proofs.Expansion.{once, same_is, same_self, total}

-- the unknown stands at one place of the list
abbrev pub StandsOnce : List Unknown → Unknown → Type 0
StandsOnce us u =
    (j : ℕ) × (slice_get us j ≡ Some u) × ((k : ℕ) → slice_get us k ≡ Some u → k ≡ j)

module _ (u : Unknown) where
  abbrev places : List Unknown → ℤ
  places us = total us (λ w. only w u)

  only_self : only u u ≡ pos 1
  only_self = let e = same_self u in rw e refl

  only_from_0 : (w : Unknown) → (pos 0) ≤ℤ only w u
  only_from_0 w = tested (is_same w u) refl
    where
      tested : (b : Bool) → is_same w u ≡ b → (pos 0) ≤ℤ only w u
      tested true e = rw e (omega (arith, ints))
      tested false e = rw e (omega (arith, ints))

  from_0 : (us : List Unknown) → (pos 0) ≤ℤ places us
  from_0 [] = omega (arith, ints)
  from_0 (w ∷ ws) =
      let a = only_from_0 w in
      let r = from_0 ws in
      omega (arith, ints, a, r)

  from_1 : (us : List Unknown) (k : ℕ) → slice_get us k ≡ Some u → (pos 1) ≤ℤ places us
  from_1 [] k h = absurd cc
  from_1 (w ∷ ws) zero h =
      let e : w ≡ u = same_Some w u h in
      let o : only w u ≡ pos 1 = rw e only_self in
      let r = from_0 ws in
      omega (arith, ints, o, r)
  from_1 (w ∷ ws) (suc k) h =
      let a = only_from_0 w in
      let r = from_1 ws k h in
      omega (arith, ints, a, r)

  at_first : (w : Unknown) (ws : List Unknown) → is_same w u ≡ true → places (w ∷ ws) ≡ pos 1
      → StandsOnce (w ∷ ws) u
  at_first w ws s e = (0, ap (λ x. Some x) (same_is w u s), λ k h. first k h)
    where
      first : (k : ℕ) → slice_get (w ∷ ws) k ≡ Some u → k ≡ 0
      first zero h = refl
      first (suc k) h =
          let o : only w u ≡ pos 1 = rw s refl in
          let r = from_1 ws k h in
          absurd (omega (arith, ints, e, o, r))

  at_later : (w : Unknown) (ws : List Unknown) → is_same w u ≡ false → StandsOnce ws u
      → StandsOnce (w ∷ ws) u
  at_later w ws s r = (suc r.0, r.1, λ k h. later k h)
    where
      later : (k : ℕ) → slice_get (w ∷ ws) k ≡ Some u → k ≡ suc r.0
      later zero h =
          let t : is_same w u ≡ true = rw (same_Some w u h) (same_self u) in absurd (cc (s, t))
      later (suc k) h = ap suc (r.2 k h)

  one_place : (us : List Unknown) → places us ≡ pos 1 → StandsOnce us u
  one_place [] e = absurd (omega (arith, ints, e))
  one_place (w ∷ ws) e = tested (is_same w u) refl (λ h. one_place ws h)
    where
      tested : (b : Bool) → is_same w u ≡ b → (places ws ≡ pos 1 → StandsOnce ws u)
          → StandsOnce (w ∷ ws) u
      tested true s one = at_first w ws s e
      tested false s one =
          let o : only w u ≡ pos 0 = rw s refl in
          at_later w ws s (one (omega (arith, ints, e, o)))

module _ (game : GameOf) (leaves : LeavesOf) where
  pub one_column : (u : Unknown) → IsInColumns game leaves u
      → StandsOnce (columns game leaves) u
  one_column u h = one_place u (columns game leaves) (once game leaves u h)

  pub none_else : (j : ℕ) (u : Unknown) → slice_get (columns game leaves) j ≡ Some u
      → IsInColumns game leaves u
  none_else j u e =
      let h = columns_hold game leaves j u (slice_get_within (columns game leaves) j u e) in
      rw (get_or_from_slice_get (columns game leaves) j u u e) at h
