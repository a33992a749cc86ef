-- Points and directions that keep a leaf's rows: when a point is feasible, and a direction a ray.
use Rattle.std.proofs.Common.{◌≡◌, ℕ, zero, suc, ◌+◌, ◌<◌, arith, refl, sym, ap, subst, ◌∙◌, ℤ, pos, negsuc, neg_ℤ, ◌+ℤ◌, ◌*ℤ◌, ◌≤ℤ◌, true, false, IfSome, Option, Some, None, List, [], ◌∷◌, length, slice_get, All, ◌⊎◌, inl, inr, ⊎_elim, option_and_then}
use Rattle.std.proofs.lemmas.Int.{ints}
use Rattle.std.proofs.lemmas.Option.{slice_get_within}
use Rattle.zr_base.specs.Sums.{sum_to}
use Rattle.zr_base.specs.Terms.{Ascends, Terms, coef_at, value_at}
use Rattle.zr_base.specs.Points.{PointOf}
use Rattle.zr_base.specs.Rows.{RowOf}
use Rattle.zr_base.proofs.Dense.{sum_to_same, sum_to-mul, value_dense}
use Rattle.zr_base.proofs.Ring.{neg-mul_left}
use Rattle.zr_game.specs.declared.leaf.Side.{Side}
use Rattle.zr_game.specs.declared.leaf.Side.TheVariants.{Undecided, VarZero, RowZero}
use Rattle.zr_game.specs.Players.{PairOf, PlayerOf, VarOf}
use Rattle.zr_game.specs.Forms.{IsFromZero, IsPairForm, IsRowForm}
use Rattle.zr_game.specs.Feasible.{IsFeasible, PairHolds}
use Rattle.zr_game.specs.Leaves.{LeafOf, MeetsLeaf, at_column, high_slot, low_slot, root_leaf, side_slot}
use Rattle.zr_game.specs.Rays.{Direction, IsRay, IsRelaxedRay, KeepsBounds, KeepsPair, KeepsRow, along, change_of}
use Rattle.zr_game.proofs.Columns.{one_column}
use Rattle.zr_game.proofs.Items.{at_number}
use Rattle.zr_game.proofs.TermColumns.{ascends}
use Rattle.zr_tree.proofs.LeafRows.{row_reads, slack_reads, var_reads, zero_reads}
use Rattle.zr_tree.proofs.SettledLeaves.{IsLowered, IsRaised, KeepsRoot, pair_kept, root_keeps, var_up, within_bounds}
use Rattle.zr_tree.proofs.SlotPlaces.{at_pair, at_row, at_var}
use Rattle.zr_branch.specs.Replies.{IsSomePlayer, IsUnboundedAt, KeepsLeaf}
use Rattle.zr_bnb.specs.Splits.{IsStill, IsWholePoint}

pub all_get : {A : Type 0} (P : A → Type 0) (xs : List A) (k : ℕ) (x : A) → All P xs
    → slice_get xs k ≡ Some x → P x
all_get P [] k x all e = absurd cc
all_get P (y ∷ xs) zero x all e = let f : y ≡ x = cc in subst P f (all 0 y (omega arith))
all_get P (y ∷ xs) (suc k) x all e =
    all_get P xs k x (λ j d h. all (suc j) d (omega (arith, h))) e

-- a fact of each item, by its number
pub all_if : {A : Type 0} (P : A → Type 0) (xs : List A)
    → ((k : ℕ) (x : A) → slice_get xs k ≡ Some x → P x) → All P xs
all_if P [] each k d h = absurd (omega (arith, h))
all_if P (x ∷ xs) each zero d h = each 0 x refl
all_if P (x ∷ xs) each (suc k) d h =
    all_if P xs (λ j y e. each (suc j) y e) k d (omega (arith, h))

-- what a direction that keeps a leaf's rows keeps
module _ (player : PlayerOf) (some : (i : ℕ) × IsSomePlayer i player) (leaf : LeafOf)
    (keeps_root : KeepsRoot player leaf) (dir : Direction) (keeps : KeepsLeaf player leaf dir) where
  abbrev V : ℕ
  V = length player.vars

  products_along : (ts : Terms) → value_at ts (change_of dir) ≡ along ts dir
  products_along [] = refl
  products_along (t ∷ ts) = ap (λ a. t.1 *ℤ change_of dir t.0 +ℤ a) (products_along ts)

  by_terms : (ts : Terms) → Ascends 0 V ts
      → sum_to V (λ j. coef_at ts j *ℤ change_of dir j) ≡ along ts dir
  by_terms ts form = sym (value_dense 0 V ts (change_of dir) form) ∙ products_along ts

  by_negated : (ts : Terms) → Ascends 0 V ts
      → sum_to V (λ j. neg_ℤ (coef_at ts j) *ℤ change_of dir j) ≡ neg_ℤ (along ts dir)
  by_negated ts form =
      let s = sum_to_same V (λ j. neg_ℤ (coef_at ts j) *ℤ change_of dir j)
      (λ j. negsuc 0 *ℤ (coef_at ts j *ℤ change_of dir j))
      (λ j h. neg-mul_left (coef_at ts j) (change_of dir j) ∙ omega (arith, ints)) in
      let m = sum_to-mul V (negsuc 0) (λ j. coef_at ts j *ℤ change_of dir j) in
      let v = by_terms ts form in
      s ∙ m ∙ omega (arith, ints, v)

  pub row_kept : (k : ℕ) (row : RowOf) → slice_get player.rows k ≡ Some row → KeepsRow dir row
  row_kept k row e =
      let form = all_get (IsRowForm V) player.rows k row some.1.1.rows e in
      let h = keeps k (record { coef = coef_at row.coef; le = row.le }) (at_row player leaf k row e) in
      let v = by_terms row.coef (ascends row.coef 0 V form.coef) in
      omega (arith, ints, h, v)

  low_keeps : (v : ℕ) (low : ℤ) → v < V → (o : Option ℤ) → leaf.low v ≡ o → IsRaised o low
      → (pos 0) ≤ℤ change_of dir v
  low_keeps v low h None e r = absurd r
  low_keeps v low h (Some a) e r =
      let slot = length player.rows + (v + v + 0) in
      let s = at_var player leaf slot v false refl h ∙ ap (low_slot v) e in
      let k = keeps slot (record { coef = at_column v (negsuc 0); le = neg_ℤ a }) s in
      let c = one_column V v (negsuc 0) (change_of dir) h in
      omega (arith, ints, k, c)

  high_keeps : (v : ℕ) (up : ℤ) → v < V → (o : Option ℤ) → leaf.high v ≡ o → IsLowered o up
      → change_of dir v ≤ℤ (pos 0)
  high_keeps v up h None e r = absurd r
  high_keeps v up h (Some a) e r =
      let slot = length player.rows + (v + v + 1) in
      let s = at_var player leaf slot v true refl h ∙ ap (high_slot v) e in
      let k = keeps slot (record { coef = at_column v (pos 1); le = a }) s in
      let c = one_column V v (pos 1) (change_of dir) h in
      omega (arith, ints, k, c)

  pub bounds_kept : (v : ℕ) (var : VarOf) → slice_get player.vars v ≡ Some var
      → KeepsBounds var (change_of dir v)
  bounds_kept v var e = record { low = lows var.low refl; up = ups var.up refl }
    where
      found : (pick : VarOf → Option ℤ) (b : ℤ) → pick var ≡ Some b
          → option_and_then pick (slice_get player.vars v) ≡ Some b
      found pick b f = ap (option_and_then pick) e ∙ f

      lows : (o : Option ℤ) → var.low ≡ o → IfSome o (λ low. (pos 0) ≤ℤ change_of dir v)
      lows None f = tt
      lows (Some low) f =
          low_keeps v low (slice_get_within player.vars v var e) (leaf.low v) refl
          (keeps_root.lows v low (found (λ u. u.low) low f))

      ups : (o : Option ℤ) → var.up ≡ o → IfSome o (λ up. change_of dir v ≤ℤ (pos 0))
      ups None f = tt
      ups (Some up) f =
          high_keeps v up (slice_get_within player.vars v var e) (leaf.high v) refl
          (keeps_root.ups v up (found (λ u. u.up) up f))

  module _ (p : ℕ) (pair : PairOf) (is : slice_get player.pairs p ≡ Some pair) where
    form : IsPairForm V pair
    form = all_get (IsPairForm V) player.pairs p pair some.1.1.pairs is

    pub pair_sum_kept : (pos 0) ≤ℤ along pair.coef dir
    pair_sum_kept =
        let slot = length player.rows + (V + p + (V + p) + 0) in
        let k = keeps slot (record { coef = λ j. neg_ℤ (coef_at pair.coef j); le = pair.add })
        (at_pair player leaf slot p false pair refl is) in
        let v = by_negated pair.coef (ascends pair.coef 0 V form.coef) in
        omega (arith, ints, k, v)

    pub pair_var_kept : leaf.side p ≡ VarZero → change_of dir pair.var ≡ pos 0
    pair_var_kept e =
        let slot = length player.rows + (V + p + (V + p) + 1) in
        let s = at_pair player leaf slot p true pair refl is ∙ ap (side_slot pair) e in
        let k = keeps slot (record { coef = at_column pair.var (pos 1); le = pos 0 }) s in
        let c = one_column V pair.var (pos 1) (change_of dir) form.var in
        let zero_low = all_get (λ (r : PairOf). IsFromZero player.vars r.var) player.pairs p pair
        some.1.1.from_zero is in
        let u = var_at in
        let low = low_keeps pair.var (pos 0) form.var (leaf.low pair.var) refl
        (keeps_root.lows pair.var (pos 0)
        (ap (option_and_then (λ (w : VarOf). w.low)) u.1 ∙ zero_low u.0 u.1)) in
        omega (arith, ints, k, c, low)
      where
        var_at : (var : VarOf) × (slice_get player.vars pair.var ≡ Some var)
        var_at = at_number player.vars pair.var form.var

    pub pair_row_kept : leaf.side p ≡ RowZero → along pair.coef dir ≡ pos 0
    pair_row_kept e =
        let slot = length player.rows + (V + p + (V + p) + 1) in
        let s = at_pair player leaf slot p true pair refl is ∙ ap (side_slot pair) e in
        let k = keeps slot (record { coef = coef_at pair.coef; le = neg_ℤ pair.add }) s in
        let v = by_terms pair.coef (ascends pair.coef 0 V form.coef) in
        let low = pair_sum_kept in
        omega (arith, ints, k, v, low)

either_side : (side : Side) → (side ≡ Undecided) ⊎ ((side ≡ VarZero) ⊎ (side ≡ RowZero))
either_side Undecided = inl refl
either_side VarZero = inr (inl refl)
either_side RowZero = inr (inr refl)

module _ (player : PlayerOf) (some : (i : ℕ) × IsSomePlayer i player) (leaf : LeafOf)
    (keeps_root : KeepsRoot player leaf) (x : PointOf) (meets : MeetsLeaf player leaf x)
    (whole : IsWholePoint player x) (dir : Direction) (still : IsStill player leaf x dir) where
  module _ (p : ℕ) (pair : PairOf) (is : slice_get player.pairs p ≡ Some pair) where
    pair_form : IsPairForm (length player.vars) pair
    pair_form = all_get (IsPairForm (length player.vars)) player.pairs p pair some.1.1.pairs is

    zero_low : IsFromZero player.vars pair.var
    zero_low =
        all_get (λ (r : PairOf). IsFromZero player.vars r.var) player.pairs p pair some.1.1.from_zero is

    holds_by : (side : Side) → leaf.side p ≡ side → PairHolds x pair
    holds_by side e =
        ⊎_elim (λ (u : leaf.side p ≡ Undecided).
        let z = still p pair is u in (
          var_up player leaf keeps_root x meets some.1.1.rows some.1.1.pairs some.1.1.from_zero p pair is
              pair_form zero_low,
          slack_reads player x leaf meets p pair is pair_form,
          inl z.0,
        ))
        (λ (t : (leaf.side p ≡ VarZero) ⊎ (leaf.side p ≡ RowZero)).
        pair_kept player leaf keeps_root x meets some.1.1.rows some.1.1.pairs some.1.1.from_zero p pair is
        pair_form zero_low (leaf.side p) refl (λ u. decided u t)) (either_side (leaf.side p))
      where
        decided : leaf.side p ≡ Undecided → (leaf.side p ≡ VarZero) ⊎ (leaf.side p ≡ RowZero) → ⊥
        decided u t =
            ⊎_elim (λ (v : leaf.side p ≡ VarZero). apart_var (sym u ∙ v))
            (λ (v : leaf.side p ≡ RowZero). apart_row (sym u ∙ v)) t
          where
            apart_var : Undecided ≡ VarZero → ⊥
            apart_var f = cc

            apart_row : Undecided ≡ RowZero → ⊥
            apart_row f = cc

  -- what meets a leaf is feasible where it is whole and no open pair is broken
  pub is_feasible : IsFeasible player x
  is_feasible = record {
    point = meets.point;
    len = meets.len;
    bounds = λ v var e. within_bounds player leaf keeps_root x meets some.1.1.rows some.1.1.pairs
        some.1.1.from_zero v var e (whole v var e);
    rows = all_if _ player.rows (λ k row e. row_reads player x leaf meets k row e
        (all_get (IsRowForm (length player.vars)) player.rows k row some.1.1.rows e));
    pairs = all_if (PairHolds x) player.pairs (λ p pair e. holds_by p pair e (leaf.side p) refl);
  }

  pair_stays : KeepsLeaf player leaf dir → (p : ℕ) (pair : PairOf)
      → slice_get player.pairs p ≡ Some pair → KeepsPair x dir pair
  pair_stays keeps p pair is = (
    pair_sum_kept player some leaf keeps_root dir keeps p pair is,
    ⊎_elim (λ (u : leaf.side p ≡ Undecided). inl (still p pair is u))
        (λ (t : (leaf.side p ≡ VarZero) ⊎ (leaf.side p ≡ RowZero)). ⊎_elim
        (λ (v : leaf.side p ≡ VarZero).
        let a = var_up player leaf keeps_root x meets some.1.1.rows some.1.1.pairs
        some.1.1.from_zero p pair is (pair_form p pair is) (zero_low p pair is) in
        let b = var_reads player x leaf meets p pair is (pair_form p pair is) v in
        inl (omega (arith, ints, a, b), pair_var_kept player some leaf keeps_root dir keeps p pair is v))
        (λ (v : leaf.side p ≡ RowZero).
        let a = slack_reads player x leaf meets p pair is (pair_form p pair is) in
        let b = zero_reads player x leaf meets p pair is (pair_form p pair is) v in
        inr (omega (arith, ints, a, b), pair_row_kept player some leaf keeps_root dir keeps p pair is v)) t)
        (either_side (leaf.side p)),
  )

  -- and a direction that keeps its rows is then a ray there
  pub is_ray : length dir ≡ length player.vars → KeepsLeaf player leaf dir → IsRay player x dir
  is_ray len keeps = record {
    base_is = is_feasible;
    len = len;
    bounds = bounds_kept player some leaf keeps_root dir keeps;
    rows = all_if (KeepsRow dir) player.rows (row_kept player some leaf keeps_root dir keeps);
    pairs = all_if (KeepsPair x dir) player.pairs (pair_stays keeps);
  }

-- a direction that keeps the rows of the leaf of all points is a ray of the relaxation
pub is_relaxed : (player : PlayerOf) → (i : ℕ) × IsSomePlayer i player → (aim : List ℤ)
    → (x : PointOf) (dir : Direction) → IsUnboundedAt player (root_leaf player) aim x dir
    → IsRelaxedRay player dir
is_relaxed player some aim x dir un = record {
  some = (x, un.meets);
  len = un.len;
  bounds = bounds_kept player some (root_leaf player) (root_keeps player) dir un.keeps;
  rows = all_if (KeepsRow dir) player.rows
      (row_kept player some (root_leaf player) (root_keeps player) dir un.keeps);
  pairs = all_if _ player.pairs
      (pair_sum_kept player some (root_leaf player) (root_keeps player) dir un.keeps);
}
