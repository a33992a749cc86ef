-- Each slot of a leaf holds at the feasible points inside it.
use Rattle.std.proofs.Common.{◌≡◌, ℕ, zero, suc, ◌+◌, ◌<◌, arith, refl, sym, subst, ◌∙◌, ℤ, pos, negsuc, neg_ℤ, ◌*ℤ◌, ◌≤ℤ◌, IfSome, Option, Some, None, option_and_then, List, [], ◌∷◌, map, length, slice_get, All}
use Rattle.std.proofs.lemmas.Int.{ints}
use Rattle.zr_base.specs.Sums.{sum_products, sum_to}
use Rattle.zr_base.specs.Terms.{Ascends, coef_at}
use Rattle.zr_base.specs.Points.{PointOf, num_of}
use Rattle.zr_base.specs.Rows.{RowHolds, RowOf, products}
use Rattle.zr_base.proofs.Ring.{neg-mul_left}
use Rattle.zr_base.proofs.Dense.{sum_to_same, sum_to-mul, value_dense}
use Rattle.zr_base.proofs.Members.{each_join}
use Rattle.zr_base.proofs.RowLaws.{products_value}
use Rattle.zr_base.proofs.Worth.{Each}
use Rattle.zr_game.specs.declared.leaf.Side.{Side}
use Rattle.zr_game.specs.declared.leaf.Side.TheVariants.{Undecided, VarZero, RowZero}
use Rattle.zr_game.specs.Players.{PairOf, PlayerOf, VarOf}
use Rattle.zr_game.specs.Forms.{IsPairForm, IsRowForm}
use Rattle.zr_game.specs.Feasible.{IsFeasible, PairHolds, slack}
use Rattle.zr_game.specs.Leaves.{Bound, BoundHolds, LeafOf, MeetsLeaf, high_slot, low_slot, pair_slots, root_leaf, row_slot, side_slot, slot_of, slots, var_slots}
use Rattle.zr_game.proofs.Columns.{one_column}
use Rattle.zr_game.proofs.TermColumns.{ascends}

abbrev pub SlotHolds : PlayerOf → PointOf → Option Bound → Type 0
SlotHolds player x None = Unit {0}
SlotHolds player x (Some bound) = BoundHolds player x bound

abbrev pub SideHolds : PointOf → PairOf → Side → Type 0
SideHolds x pair Undecided = Unit {0}
SideHolds x pair VarZero = num_of x pair.var ≡ pos 0
SideHolds x pair RowZero = slack pair x ≡ pos 0

-- the point meets the leaf's bounds and sides
pub record Inside (player : PlayerOf) (leaf : LeafOf) (x : PointOf) : Type 0 where
  pub lows : (v : ℕ) (l : ℤ) → v < length player.vars → leaf.low v ≡ Some l
      → (l *ℤ x.den) ≤ℤ num_of x v
  pub highs : (v : ℕ) (h : ℤ) → v < length player.vars → leaf.high v ≡ Some h
      → num_of x v ≤ℤ (h *ℤ x.den)
  pub sides : (p : ℕ) (pair : PairOf) → slice_get player.pairs p ≡ Some pair
      → SideHolds x pair (leaf.side p)

module _ (player : PlayerOf) (x : PointOf) where
  abbrev columns : ℕ
  columns = length player.vars

  sparse : (ts : List (ℕ × ℤ)) → Ascends 0 columns ts
      → sum_to columns (λ j. coef_at ts j *ℤ num_of x j) ≡ sum_products (products ts x.num)
  sparse ts form = sym (value_dense 0 columns ts (num_of x) form) ∙ sym (products_value ts x.num)

  minus : (ts : List (ℕ × ℤ)) → Ascends 0 columns ts
      → sum_to columns (λ j. neg_ℤ (coef_at ts j) *ℤ num_of x j) ≡ neg_ℤ
      (sum_products (products ts x.num))
  minus ts form =
      let s = sum_to_same columns (λ j. neg_ℤ (coef_at ts j) *ℤ num_of x j)
      (λ j. negsuc 0 *ℤ (coef_at ts j *ℤ num_of x j))
      (λ j h. neg-mul_left (coef_at ts j) (num_of x j) ∙ omega (arith, ints)) in
      let m = sum_to-mul columns (negsuc 0) (λ j. coef_at ts j *ℤ num_of x j) in
      let v = sparse ts form in
      s ∙ m ∙ omega (arith, ints, v)

  pub row_slots : (rows : List RowOf) → All (IsRowForm columns) rows → All (RowHolds x) rows
      → Each (SlotHolds player x) (map row_slot rows)
  row_slots [] form hold = tt
  row_slots (row ∷ rows) form hold =
      let e = sparse row.coef (ascends row.coef 0 columns (form 0 row (omega arith)).coef) in
      let h = hold 0 row (omega arith) in (
        rw e h,
        row_slots rows (λ k d p. form (suc k) d (omega arith))
            (λ k d p. hold (suc k) d (omega arith)),
      )

  module _ (leaf : LeafOf) (inside : Inside player leaf x) where
    low_holds : (v : ℕ) → v < columns → (o : Option ℤ) → leaf.low v ≡ o
        → SlotHolds player x (low_slot v o)
    low_holds v h None e = tt
    low_holds v h (Some low) e =
        let c = one_column columns v (negsuc 0) (num_of x) h in
        let l = inside.lows v low h e in
        let m = neg-mul_left low x.den in
        rw (c, m) (omega (arith, ints, l))

    high_holds : (v : ℕ) → v < columns → (o : Option ℤ) → leaf.high v ≡ o
        → SlotHolds player x (high_slot v o)
    high_holds v h None e = tt
    high_holds v h (Some up) e =
        let c = one_column columns v (pos 1) (num_of x) h in
        let l = inside.highs v up h e in
        rw c (omega (arith, ints, l))

    pub all_vars : (v : ℕ) (vars : List VarOf) → v + length vars ≡ columns
        → Each (SlotHolds player x) (var_slots leaf v vars)
    all_vars v [] e = tt
    all_vars v (var ∷ vars) e = (
      low_holds v (omega arith) (leaf.low v) refl,
      (high_holds v (omega arith) (leaf.high v) refl, all_vars (suc v) vars (omega arith)),
    )

    sign_holds : (pair : PairOf) → IsPairForm columns pair → PairHolds x pair
        → BoundHolds player x (record { coef = λ j. neg_ℤ (coef_at pair.coef j); le = pair.add })
    sign_holds pair form hold =
        let e = minus pair.coef (ascends pair.coef 0 columns form.coef) in
        let h = hold.1 in
        rw e (omega (arith, ints, h))

    side_holds : (pair : PairOf) → IsPairForm columns pair → (side : Side) → SideHolds x pair side
        → SlotHolds player x (side_slot pair side)
    side_holds pair form Undecided h = tt
    side_holds pair form VarZero h =
        let e = one_column columns pair.var (pos 1) (num_of x) form.var in
        rw (e, h) (omega (arith, ints))
    side_holds pair form RowZero h =
        let e = sparse pair.coef (ascends pair.coef 0 columns form.coef) in
        let m = neg-mul_left pair.add x.den in
        rw (e, m) (omega (arith, ints, h))

    pub all_pairs : (p : ℕ) (pairs : List PairOf)
        → ((q : ℕ) (pair : PairOf) → slice_get pairs q ≡ Some pair
        → SideHolds x pair (leaf.side (p + q))) → All (IsPairForm columns) pairs
        → All (PairHolds x) pairs → Each (SlotHolds player x) (pair_slots leaf p pairs)
    all_pairs p [] sides form hold = tt
    all_pairs p (pair ∷ pairs) sides form hold =
        let here : p + 0 ≡ p = omega arith in
        let f = form 0 pair (omega arith) in (
          sign_holds pair f (hold 0 pair (omega arith)),
          (
            side_holds pair f (leaf.side p)
                (subst (λ (n : ℕ). SideHolds x pair (leaf.side n)) here (sides 0 pair refl)),
            all_pairs (suc p) pairs (λ q other e. let next : p + suc q ≡ suc p + q = omega arith in
                subst (λ (n : ℕ). SideHolds x other (leaf.side n)) next (sides (suc q) other e))
                (λ k d h. form (suc k) d (omega arith)) (λ k d h. hold (suc k) d (omega arith)),
          ),
        )

    pub all_slots : All (IsRowForm columns) player.rows → All (IsPairForm columns) player.pairs
        → IsFeasible player x → Each (SlotHolds player x) (slots player leaf)
    all_slots rows pairs f =
        each_join (SlotHolds player x) (map row_slot player.rows) _
        (row_slots player.rows rows f.rows)
        (each_join (SlotHolds player x) (var_slots leaf 0 player.vars) _
        (all_vars 0 player.vars (omega arith))
        (all_pairs 0 player.pairs (λ q pair e. let next : 0 + q ≡ q = omega arith in
        subst (λ (n : ℕ). SideHolds x pair (leaf.side n)) (sym next) (inside.sides q pair e))
        pairs f.pairs))

-- ---- a feasible point meets the leaf of all points

var_found : (vars : List VarOf) (v : ℕ) (pick : VarOf → Option ℤ) (b : ℤ)
    → option_and_then pick (slice_get vars v) ≡ Some b
    → (var : VarOf) × (slice_get vars v ≡ Some var) × (pick var ≡ Some b)
var_found vars v pick b e = look (slice_get vars v) refl e
  where
    look : (o : Option VarOf) → slice_get vars v ≡ o → option_and_then pick o ≡ Some b
        → (var : VarOf) × (slice_get vars v ≡ Some var) × (pick var ≡ Some b)
    look None is e = absurd cc
    look (Some var) is e = (var, is, e)

pub in_root : (player : PlayerOf) (x : PointOf) → IsFeasible player x
    → Inside player (root_leaf player) x
in_root player x f = record {
  lows = λ v l h e.
      let w = var_found player.vars v (λ var. var.low) l e in
      subst (λ (o : Option ℤ). IfSome o (λ low. (low *ℤ x.den) ≤ℤ num_of x v)) w.2
      (f.bounds v w.0 w.1).low;
  highs = λ v u h e.
      let w = var_found player.vars v (λ var. var.up) u e in
      subst (λ (o : Option ℤ). IfSome o (λ up. num_of x v ≤ℤ (up *ℤ x.den))) w.2
      (f.bounds v w.0 w.1).high;
  sides = λ p pair e. tt;
}

-- the row of a slot that is present
pub slot_holds : (player : PlayerOf) (x : PointOf) (rows : List (Option Bound)) (k : ℕ)
    (row : Bound) → Each (SlotHolds player x) rows → slot_of rows k ≡ Some row
    → BoundHolds player x row
slot_holds player x [] k row each e = absurd cc
slot_holds player x (slot ∷ rows) zero row each e = subst (SlotHolds player x) e each.0
slot_holds player x (slot ∷ rows) (suc k) row each e = slot_holds player x rows k row each.1 e

pub meets_root : (player : PlayerOf) (x : PointOf)
    → All (IsRowForm (length player.vars)) player.rows
    → All (IsPairForm (length player.vars)) player.pairs → IsFeasible player x
    → MeetsLeaf player (root_leaf player) x
meets_root player x rows pairs f =
    let all = all_slots player x (root_leaf player) (in_root player x f) rows pairs f in
    record {
      point = f.point;
      len = f.len;
      rows = λ k row e. slot_holds player x (slots player (root_leaf player)) k row all e;
    }
