-- What a leaf's rows say of a point, slot by slot, and with which steps.
use Rattle.std.proofs.Common.{◌≡◌, ◌↔◌, ℕ, zero, suc, ◌+◌, ◌*◌, ◌<◌, arith, refl, sym, ap₂, subst, ◌∙◌, ℤ, pos, ◌<ℤ◌, Bool, true, false, ◌&&◌, int_le, IsTrue, IsSome, IfOk, Option, Some, None, List, [], ◌∷◌, ◌++◌, map, length, length-append, get_or, Result, Ok, Err}
use Rattle.std.proofs.lemmas.Int.{ints}
use Rattle.std.proofs.lemmas.List.{length-map}
use Rattle.zr_base.specs.declared.step.Wide.{Wide}
use Rattle.zr_base.specs.Steps.{cross_of, ◌>>=◌}
use Rattle.zr_base.specs.Sums.{sum_steps}
use Rattle.zr_base.specs.Tests.{Tells, wide_in}
use Rattle.zr_base.specs.Points.{PointOf, num_of}
use Rattle.zr_base.proofs.CrossLaws.{cross_ok}
use Rattle.zr_base.proofs.SumSteps.{sum_steps_exact}
use Rattle.zr_base.proofs.Telling.{EachBelow, both_true, tells, true_both}
use Rattle.zr_game.specs.Players.{PairOf, PlayerOf, VarOf}
use Rattle.zr_game.specs.Leaves.{Bound, BoundHolds, IsSettled, LeafOf, pair_slots, row_slot, slot_of, slots, var_slots}
use Rattle.zr_tree.specs.Nodes.{KnownNode}
use Rattle.zr_tree.specs.Covers.{KeepsCover}
use Rattle.zr_tree.specs.CoverSteps.{IsWideForCover, SlotMet, bound_holds_of, column_products, known_wide, slot_wide}
use Rattle.zr_tree.specs.Visits.{EndTells}
use Rattle.zr_tree.proofs.ColumnSums.{column_values}

-- how many slots there are
two_each : (leaf : LeafOf) (v : ℕ) (vars : List VarOf)
    → length (var_slots leaf v vars) ≡ length vars * 2
two_each leaf v [] = refl
two_each leaf v (var ∷ vars) = let r = two_each leaf (suc v) vars in omega (arith, r)

two_pairs : (leaf : LeafOf) (p : ℕ) (pairs : List PairOf)
    → length (pair_slots leaf p pairs) ≡ length pairs * 2
two_pairs leaf p [] = refl
two_pairs leaf p (pair ∷ pairs) = let r = two_pairs leaf (suc p) pairs in omega (arith, r)

pub slot_count : (player : PlayerOf) (leaf : LeafOf)
    → length (slots player leaf)
    ≡ length player.rows + (length player.vars + length player.pairs) * 2
slot_count player leaf =
    let a = length-append (map row_slot player.rows)
    (var_slots leaf 0 player.vars ++ pair_slots leaf 0 player.pairs) in
    let b = length-append (var_slots leaf 0 player.vars) (pair_slots leaf 0 player.pairs) in
    let r = length-map player.rows row_slot in
    let v = two_each leaf 0 player.vars in
    let p = two_pairs leaf 0 player.pairs in
    omega (arith, a, b, r, v, p)

-- slots by place
pub slot_read : (rows : List (Option Bound)) (k : ℕ) (d : Option Bound) → k < length rows
    → get_or rows k d ≡ slot_of rows k
slot_read [] k d h = absurd (omega (arith, h))
slot_read (row ∷ rows) zero d h = refl
slot_read (row ∷ rows) (suc k) d h = slot_read rows k d (omega (arith, h))

slot_below : (rows : List (Option Bound)) (k : ℕ) (row : Bound) → slot_of rows k ≡ Some row
    → k < length rows
slot_below [] k row e = absurd cc
slot_below (slot ∷ rows) zero row e = omega arith
slot_below (slot ∷ rows) (suc k) row e =
    let r = slot_below rows k row e in omega (arith, r)

-- a row's test by what its steps make
pub holds_steps : (columns : ℕ) (x : PointOf) (row : Bound) (left right : Result ℤ Wide)
    → sum_steps (pos 0) (column_products 0 columns row.coef (num_of x)) ≡ left
    → cross_of (row.le, x.den) (pos 0, pos 0) ≡ right
    → bound_holds_of columns x row ≡ (left >>= λ l. right >>= λ r. Ok (int_le l r))
holds_steps columns x row left right e f =
    ap₂ (λ (a b : Result ℤ Wide). a >>= λ l. b >>= λ r. Ok (int_le l r)) e f

module _ (player : PlayerOf) (x : PointOf) where
  abbrev columns : ℕ
  columns = length player.vars

  -- a row's test is exact
  judged : (row : Bound) (left right : Result ℤ Wide)
      → sum_steps (pos 0) (column_products 0 columns row.coef (num_of x)) ≡ left
      → cross_of (row.le, x.den) (pos 0, pos 0) ≡ right
      → IfOk (left >>= λ l. right >>= λ r. Ok (int_le l r))
      (λ yes. IsTrue yes ↔ BoundHolds player x row)
  judged row (Err w) right e f = tt
  judged row (Ok l) (Err w) e f = tt
  judged row (Ok l) (Ok r) e f =
      let left = sum_steps_exact (pos 0) l
      (column_products 0 columns row.coef (num_of x)) e in
      let value = column_values columns row.coef (num_of x) in
      let product = (cross_ok (row.le, x.den) (pos 0, pos 0) r (sym f)).0 in (
        λ h. omega (arith, ints, left, value, product, h),
        λ h. sym (omega (arith, ints, left, value, product, h)),
      )

  pub row_told : (row : Bound) → Tells (bound_holds_of columns x row) (BoundHolds player x row)
      (wide_in (bound_holds_of columns x row))
  row_told row =
      tells (bound_holds_of columns x row) (BoundHolds player x row)
      (judged row (sum_steps (pos 0) (column_products 0 columns row.coef (num_of x)))
      (cross_of (row.le, x.den) (pos 0, pos 0)) refl refl)

  -- a slot's test
  pub none_met : (slot : Option Bound) → None ≡ slot
      → Tells (Ok true) (SlotMet player x slot) (slot_wide columns x slot)
  none_met slot e =
      subst (λ (o : Option Bound). Tells (Ok true) (SlotMet player x o) (slot_wide columns x o)) e
      (refl, (λ h. tt, λ h. refl))

  pub some_met : (row : Bound) (slot : Option Bound) (r : Result Bool Wide) → Some row ≡ slot
      → r ≡ bound_holds_of columns x row
      → Tells r (SlotMet player x slot) (slot_wide columns x slot)
  some_met row slot r e f =
      subst (λ (o : Option Bound). Tells r (SlotMet player x o) (slot_wide columns x o)) e
      (subst (λ (q : Result Bool Wide). Tells q (BoundHolds player x row)
      (wide_in (bound_holds_of columns x row))) (sym f) (row_told row))

  -- all slots' tests
  abbrev pub AllMet : List (Option Bound) → Type 0
  AllMet rows = (k : ℕ) (row : Bound) → slot_of rows k ≡ Some row → BoundHolds player x row

  pub all_met : (rows : List (Option Bound))
      → EachBelow (length rows) (λ k slot. SlotMet player x slot) rows ↔ AllMet rows
  all_met rows = (
    λ h k row e. (let below = slot_below rows k row e in
        subst (SlotMet player x) (slot_read rows k None below ∙ e) (h k None below)),
    λ h k d below. subst (SlotMet player x) (sym (slot_read rows k d below))
        (present k (slot_of rows k) refl h),
  )
    where
      present : (k : ℕ) (o : Option Bound) → slot_of rows k ≡ o → AllMet rows → SlotMet player x o
      present k None e h = tt
      present k (Some row) e h = h k row e

  -- the test of a known point
  module _ (leaf : LeafOf) where
    pub other_length : ((length x.num ≡ columns) → ⊥)
        → EndTells (Ok false) (KeepsCover player) (IsWideForCover player) leaf (KnownNode x)
    other_length apart = (λ w. apart w.0, (λ h. absurd cc, λ k. absurd (apart k.1.len)))

    pub wide_met : (w : Wide) → length x.num ≡ columns → known_wide player leaf x ≡ Some w
        → EndTells (Err w) (KeepsCover player) (IsWideForCover player) leaf (KnownNode x)
    wide_met w len e = (len, subst (λ (o : Option Wide). IsSome o) (sym e) refl)

    pub known_told : (meets settled : Bool) → (pos 0) <ℤ x.den → length x.num ≡ columns
        → (known_wide player leaf x ≡ None) × (IsTrue meets ↔ AllMet (slots player leaf))
        → (IsTrue settled ↔ IsSettled player leaf)
        → EndTells (Ok (meets && settled)) (KeepsCover player) (IsWideForCover player) leaf
        (KnownNode x)
    known_told meets settled positive len met fixed = (
      λ w. none (known_wide player leaf x) met.0 w.1,
      (
        λ h. let b = both_true meets settled h in
            (fixed.0 b.1, record { point = positive; len = len; rows = met.1.0 b.0 }),
        λ k. true_both meets settled (met.1.1 k.1.rows) (fixed.1 k.0),
      ),
    )
      where
        none : (o : Option Wide) → o ≡ None → IsSome o → ⊥
        none None e h = absurd cc
        none (Some w) e h = absurd cc
