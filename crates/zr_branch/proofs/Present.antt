-- The slots that are present, and their numbers.
use Rattle.std.proofs.Common.{◌≡◌, ℕ, zero, suc, ◌+◌, ◌<◌, ◌≤◌, arith, refl, sym, ap, ◌∙◌, Option, Some, None, List, [], ◌∷◌, ◌++◌, map, length, length-append, take, get_or, add-one}
use Rattle.std.proofs.Math.Seq.{take-suc}
use Rattle.std.proofs.lemmas.List.{append-nil, length-map}
use Rattle.zr_game.specs.Players.{PairOf, PlayerOf, VarOf}
use Rattle.zr_game.specs.Leaves.{Bound, LeafOf, pair_slots, row_slot, slot_of, slots, var_slots}
use Rattle.zr_asked.specs.Branches.{bound_at, present}
use Rattle.zr_asked.specs.Drawn.{places_from}

pub present-append : (xs ys : List (Option Bound)) → present (xs ++ ys) ≡ present xs ++ present ys
present-append [] ys = refl
present-append (None ∷ xs) ys = present-append xs ys
present-append (Some b ∷ xs) ys = ap (λ (bs : List Bound). b ∷ bs) (present-append xs ys)

pub places-append : (k : ℕ) (xs ys : List (Option Bound)) → places_from k (xs ++ ys) ≡ places_from k xs ++ places_from (k + length xs) ys
places-append k [] ys = let e : k + 0 ≡ k = omega arith in rw e refl
places-append k (None ∷ xs) ys =
    let e : k + suc (length xs) ≡ suc k + length xs = omega arith in rw e (places-append (suc k) xs ys)
places-append k (Some b ∷ xs) ys =
    let e : k + suc (length xs) ≡ suc k + length xs = omega arith in
    rw e (ap (λ (ks : List ℕ). k ∷ ks) (places-append (suc k) xs ys))

pub places-length : (k : ℕ) (xs : List (Option Bound)) → length (places_from k xs) ≡ length (present xs)
places-length k [] = refl
places-length k (None ∷ xs) = places-length (suc k) xs
places-length k (Some b ∷ xs) = ap suc (places-length (suc k) xs)

-- the slot of row r
pub record PlaceOf (k : ℕ) (xs : List (Option Bound)) (r : ℕ) : Type 0 where
  pub slot : ℕ
  pub below : slot < length xs
  pub place : get_or (places_from k xs) r 0 ≡ k + slot
  pub row : slot_of xs slot ≡ Some (bound_at (present xs) r)

pub place_of : (k : ℕ) (xs : List (Option Bound)) (r : ℕ) → r < length (present xs) → PlaceOf k xs r
place_of k [] r h = absurd (omega (arith, h))
place_of k (None ∷ xs) r h =
    let q = place_of (suc k) xs r h in
    let b = q.below in
    record { slot = suc q.slot; below = omega (arith, b); place = q.place ∙ omega arith; row = q.row }
place_of k (Some b ∷ xs) zero h =
    record { slot = 0; below = omega arith; place = omega arith; row = refl }
place_of k (Some b ∷ xs) (suc r) h =
    let q = place_of (suc k) xs r (omega (arith, h)) in
    let b = q.below in
    record { slot = suc q.slot; below = omega (arith, b); place = q.place ∙ omega arith; row = q.row }

-- the row of a slot that is present
pub record RowOfSlot (k : ℕ) (xs : List (Option Bound)) (slot : ℕ) (b : Bound) : Type 0 where
  pub row : ℕ
  pub below : row < length (present xs)
  pub place : get_or (places_from k xs) row 0 ≡ k + slot
  pub bound : bound_at (present xs) row ≡ b

pub row_of_slot : (k : ℕ) (xs : List (Option Bound)) (slot : ℕ) (b : Bound) → slot_of xs slot ≡ Some b → RowOfSlot k xs slot b
row_of_slot k [] slot b e = absurd cc
row_of_slot k (None ∷ xs) zero b e = absurd cc
row_of_slot k (Some a ∷ xs) zero b e =
    record { row = 0; below = omega arith; place = omega arith; bound = cc }
row_of_slot k (None ∷ xs) (suc slot) b e =
    let q = row_of_slot (suc k) xs slot b e in
    record { row = q.row; below = q.below; place = q.place ∙ omega arith; bound = q.bound }
row_of_slot k (Some a ∷ xs) (suc slot) b e =
    let q = row_of_slot (suc k) xs slot b e in
    let l = q.below in
    record { row = suc q.row; below = omega (arith, l); place = q.place ∙ omega arith; bound = q.bound }

-- their numbers ascend
from_on : (k : ℕ) (xs : List (Option Bound)) (r : ℕ) → r < length (present xs) → k ≤ get_or (places_from k xs) r 0
from_on k xs r h =
    let q = place_of k xs r h in
    let p = q.place in omega (arith, p)

pub places_ascend : (k : ℕ) (xs : List (Option Bound)) (r s : ℕ) → r < s → s < length (present xs) → get_or (places_from k xs) r 0 < get_or (places_from k xs) s 0
places_ascend k [] r s h l = absurd (omega (arith, l))
places_ascend k (None ∷ xs) r s h l = places_ascend (suc k) xs r s h l
places_ascend k (Some b ∷ xs) r zero h l = absurd (omega (arith, h))
places_ascend k (Some b ∷ xs) zero (suc s) h l =
    let f = from_on (suc k) xs s (omega (arith, l)) in omega (arith, f)
places_ascend k (Some b ∷ xs) (suc r) (suc s) h l =
    places_ascend (suc k) xs r s (omega (arith, h)) (omega (arith, l))

slot_is : (xs : List (Option Bound)) (i : ℕ) → slot_of xs i ≡ get_or xs i None
slot_is [] i = refl
slot_is (x ∷ xs) zero = refl
slot_is (x ∷ xs) (suc i) = slot_is xs i

taken : (xs : List (Option Bound)) (i : ℕ) → i < length xs → length (take i xs) ≡ i
taken [] i h = absurd (omega (arith, h))
taken (x ∷ xs) zero h = refl
taken (x ∷ xs) (suc i) h = ap suc (taken xs i (omega (arith, h)))

-- one slot more
more : (xs : List (Option Bound)) (i : ℕ) (o : Option Bound) → i < length xs → slot_of xs i ≡ o → (present (take (i + 1) xs) ≡ present (take i xs) ++ present (o ∷ [])) × (places_from 0 (take (i + 1) xs) ≡ places_from 0 (take i xs) ++ places_from i (o ∷ []))
more xs i o h e =
    let t : take (i + 1) xs ≡ take i xs ++ o ∷ [] = rw add-one (take-suc xs i None h ∙ ap (λ (z : Option Bound). take i xs ++ z ∷ []) (sym (slot_is xs i) ∙ e)) in
    let q = taken xs i h in
    let l : 0 + length (take i xs) ≡ i = omega (arith, q) in
    rw t (present-append (take i xs) (o ∷ []), rw l at (places-append 0 (take i xs) (o ∷ [])))

pub present_some : (xs : List (Option Bound)) (i : ℕ) (b : Bound) → i < length xs → slot_of xs i ≡ Some b → (present (take (i + 1) xs) ≡ present (take i xs) ++ b ∷ []) × (places_from 0 (take (i + 1) xs) ≡ places_from 0 (take i xs) ++ i ∷ [])
present_some xs i b h e = more xs i (Some b) h e

pub present_none : (xs : List (Option Bound)) (i : ℕ) → i < length xs → slot_of xs i ≡ None → (present (take (i + 1) xs) ≡ present (take i xs)) × (places_from 0 (take (i + 1) xs) ≡ places_from 0 (take i xs))
present_none xs i h e =
    let m = more xs i None h e in
    (m.0 ∙ append-nil (present (take i xs)), m.1 ∙ append-nil (places_from 0 (take i xs)))

vars_length : (leaf : LeafOf) (v : ℕ) (vars : List VarOf) → length (var_slots leaf v vars) ≡ length vars + length vars
vars_length leaf v [] = refl
vars_length leaf v (x ∷ vars) = let r = vars_length leaf (suc v) vars in omega (arith, r)

pairs_length : (leaf : LeafOf) (p : ℕ) (pairs : List PairOf) → length (pair_slots leaf p pairs) ≡ length pairs + length pairs
pairs_length leaf p [] = refl
pairs_length leaf p (x ∷ pairs) = let r = pairs_length leaf (suc p) pairs in omega (arith, r)

pub slots_length : (player : PlayerOf) (leaf : LeafOf) → length (slots player leaf) ≡ length player.rows + ((length player.vars + length player.vars) + (length player.pairs + length player.pairs))
slots_length player leaf =
    let v = vars_length leaf 0 player.vars in
    let p = pairs_length leaf 0 player.pairs in
    let r = length-map player.rows row_slot in
    let a = length-append (map row_slot player.rows) (var_slots leaf 0 player.vars ++ pair_slots leaf 0 player.pairs) in
    let b = length-append (var_slots leaf 0 player.vars) (pair_slots leaf 0 player.pairs) in
    omega (arith, v, p, r, a, b)

pub present_few : (xs : List (Option Bound)) → length (present xs) ≤ length xs
present_few [] = omega arith
present_few (None ∷ xs) = let r = present_few xs in omega (arith, r)
present_few (Some b ∷ xs) = let r = present_few xs in omega (arith, r)
