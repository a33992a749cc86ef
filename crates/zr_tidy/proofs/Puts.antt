-- A part that is put at its place.
use Rattle.std.proofs.Common.{◌≡◌, ℕ, zero, suc, ◌+◌, ◌<◌, ◌≤◌, arith, refl, sym, subst, ◌+ℤ◌, Some, [], ◌∷◌, ◌++◌, length, take, drop, set, slice_get, ⊎_elim}
use Rattle.std.proofs.lemmas.Bool.{cases_lt}
use Rattle.std.proofs.lemmas.Option.{same_Some}
use Rattle.zr_base.specs.Points.{IsSamePoint, PointOf}
use Rattle.zr_game.specs.Profiles.{Part, Strategy}
use Rattle.zr_game.proofs.Items.{one}
use Rattle.zr_tidy.specs.Merges.{AreMerged, HasPut, HasPutLowest, alone, before, met, after}
use Rattle.zr_tidy.specs.Places.{AreBefore}
use Rattle.zr_tidy.specs.Points.{IsBefore}

before_rest : (k : ℕ) (q : Part) (xs : Strategy) (x : PointOf) → AreBefore (suc k) (q ∷ xs) x
    → AreBefore k xs x
before_rest k q xs x a j part h e = a (suc j) part (omega arith) e

pub put_before : (p : Part) (xs : Strategy) (k : ℕ) → k ≤ length xs
    → ((q : Part) → slice_get xs k ≡ Some q → IsBefore p.point q.point)
    → AreBefore k xs p.point → HasPut p xs (take k xs ++ p ∷ drop k xs)
put_before p [] zero h b a = alone
put_before p [] (suc k) h b a = absurd (omega arith)
put_before p (q ∷ xs) zero h b a = before q xs (b q refl)
put_before p (q ∷ xs) (suc k) h b a =
    after q xs (take k xs ++ p ∷ drop k xs) (a 0 q (omega arith) refl)
    (put_before p xs k (omega arith) b (before_rest k q xs p.point a))

-- a part with another's weight added
abbrev pub heavier : Part → Part → Part
heavier q p = record { weight = q.weight +ℤ p.weight; point = q.point }

pub put_met : (p : Part) (xs : Strategy) (k : ℕ) (q : Part) → slice_get xs k ≡ Some q
    → IsSamePoint q.point p.point → AreBefore k xs p.point
    → HasPut p xs (set xs k (heavier q p))
put_met p [] k q e s a = absurd cc
put_met p (r ∷ xs) zero q e s a =
    subst (λ (z : Part). HasPut p (z ∷ xs) (heavier q p ∷ xs)) (sym (same_Some r q e)) (met q xs s)
put_met p (r ∷ xs) (suc k) q e s a =
    after r xs (set xs k (heavier q p)) (a 0 r (omega arith) refl)
    (put_met p xs k q e s (before_rest k r xs p.point a))

pub merged_more : (old raw mid new : Strategy) (p : Part) → AreMerged old raw mid
    → HasPutLowest p mid new → AreMerged old (raw ++ p ∷ []) new
merged_more old [] mid new p m h =
    (new, subst (λ (z : Strategy). HasPutLowest p z new) (sym m) h, refl)
merged_more old (q ∷ raw) mid new p m h = (m.0, m.1, merged_more m.0 raw mid new p m.2 h)

pub before_more : (k : ℕ) (xs : Strategy) (x : PointOf) (q : Part) → slice_get xs k ≡ Some q
    → IsBefore q.point x → AreBefore k xs x → AreBefore (k + 1) xs x
before_more k xs x q e b a j part h s =
    ⊎_elim (λ (p : j < k). a j part p s)
    (λ (p : k ≤ j).
    let i : j ≡ k = omega (arith, h, p) in
    let t : slice_get xs k ≡ Some part = subst (λ (n : ℕ). slice_get xs n ≡ Some part) i s in
    subst (λ (r : Part). IsBefore r.point x) (one xs k q part e t) b) (cases_lt j k)
