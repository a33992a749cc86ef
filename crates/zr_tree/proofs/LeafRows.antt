-- What the rows of a leaf say of a point that meets them.
use Rattle.std.proofs.Common.{◌≡◌, ℕ, ◌+◌, ◌<◌, arith, refl, sym, ap, ◌∙◌, ℤ, pos, negsuc, neg_ℤ, ◌*ℤ◌, ◌≤ℤ◌, true, false, Some, length, slice_get}
use Rattle.std.proofs.lemmas.Int.{ints}
use Rattle.zr_base.specs.Sums.{sum_products, sum_to}
use Rattle.zr_base.specs.Terms.{Ascends, Terms, coef_at}
use Rattle.zr_base.specs.Points.{PointOf, num_of}
use Rattle.zr_base.specs.Rows.{RowHolds, RowOf, products}
use Rattle.zr_base.proofs.Ring.{neg-mul_left}
use Rattle.zr_base.proofs.Dense.{sum_to_same, sum_to-mul, value_dense}
use Rattle.zr_base.proofs.RowLaws.{products_value}
use Rattle.zr_game.specs.declared.leaf.Side.TheVariants.{VarZero, RowZero}
use Rattle.zr_game.specs.Players.{PairOf, PlayerOf}
use Rattle.zr_game.specs.Forms.{IsPairForm, IsRowForm}
use Rattle.zr_game.specs.Feasible.{slack}
use Rattle.zr_game.specs.Leaves.{LeafOf, MeetsLeaf, at_column, high_slot, low_slot, side_slot}
use Rattle.zr_game.proofs.Columns.{one_column}
use Rattle.zr_game.proofs.TermColumns.{ascends}
use Rattle.zr_tree.proofs.SlotPlaces.{at_pair, at_row, at_var}

module _ (player : PlayerOf) (x : PointOf) where
  abbrev columns : ℕ
  columns = length player.vars

  by_terms : (ts : Terms) → Ascends 0 columns ts
      → sum_to columns (λ j. coef_at ts j *ℤ num_of x j) ≡ sum_products (products ts x.num)
  by_terms ts form = sym (value_dense 0 columns ts (num_of x) form) ∙ sym (products_value ts x.num)

  by_negated : (ts : Terms) → Ascends 0 columns ts
      → sum_to columns (λ j. neg_ℤ (coef_at ts j) *ℤ num_of x j)
      ≡ neg_ℤ (sum_products (products ts x.num))
  by_negated ts form =
      let s = sum_to_same columns (λ j. neg_ℤ (coef_at ts j) *ℤ num_of x j)
      (λ j. negsuc 0 *ℤ (coef_at ts j *ℤ num_of x j))
      (λ j h. neg-mul_left (coef_at ts j) (num_of x j) ∙ omega (arith, ints)) in
      let m = sum_to-mul columns (negsuc 0) (λ j. coef_at ts j *ℤ num_of x j) in
      let v = by_terms ts form in
      s ∙ m ∙ omega (arith, ints, v)

  module _ (leaf : LeafOf) (meets : MeetsLeaf player leaf x) where
    pub row_reads : (k : ℕ) (row : RowOf) → slice_get player.rows k ≡ Some row
        → IsRowForm columns row → RowHolds x row
    row_reads k row e form =
        let h = meets.rows k (record { coef = coef_at row.coef; le = row.le })
        (at_row player leaf k row e) in
        let v = by_terms row.coef (ascends row.coef 0 columns form.coef) in
        omega (arith, ints, h, v)

    pub low_reads : (v : ℕ) (low : ℤ) → v < columns → leaf.low v ≡ Some low
        → (low *ℤ x.den) ≤ℤ num_of x v
    low_reads v low h e =
        let slot = length player.rows + (v + v + 0) in
        let s = at_var player leaf slot v false refl h ∙ ap (low_slot v) e in
        let r = meets.rows slot (record { coef = at_column v (negsuc 0); le = neg_ℤ low }) s in
        let c = one_column columns v (negsuc 0) (num_of x) h in
        let m = neg-mul_left low x.den in
        omega (arith, ints, r, c, m)

    pub high_reads : (v : ℕ) (high : ℤ) → v < columns → leaf.high v ≡ Some high
        → num_of x v ≤ℤ (high *ℤ x.den)
    high_reads v high h e =
        let slot = length player.rows + (v + v + 1) in
        let s = at_var player leaf slot v true refl h ∙ ap (high_slot v) e in
        let r = meets.rows slot (record { coef = at_column v (pos 1); le = high }) s in
        let c = one_column columns v (pos 1) (num_of x) h in
        omega (arith, ints, r, c)

    module _ (p : ℕ) (pair : PairOf) (is : slice_get player.pairs p ≡ Some pair) (form : IsPairForm columns pair) where
      abbrev place : ℕ
      place = length player.rows + (columns + p + (columns + p) + 0)

      abbrev second_place : ℕ
      second_place = length player.rows + (columns + p + (columns + p) + 1)

      pub slack_reads : (pos 0) ≤ℤ slack pair x
      slack_reads =
          let r = meets.rows place (record { coef = λ j. neg_ℤ (coef_at pair.coef j); le = pair.add })
          (at_pair player leaf place p false pair refl is) in
          let v = by_negated pair.coef (ascends pair.coef 0 columns form.coef) in
          omega (arith, ints, r, v)

      pub var_reads : leaf.side p ≡ VarZero → num_of x pair.var ≤ℤ (pos 0)
      var_reads e =
          let s = at_pair player leaf second_place p true pair refl is ∙ ap (side_slot pair) e in
          let r = meets.rows second_place (record { coef = at_column pair.var (pos 1); le = pos 0 }) s in
          let c = one_column columns pair.var (pos 1) (num_of x) form.var in
          omega (arith, ints, r, c)

      pub zero_reads : leaf.side p ≡ RowZero → slack pair x ≤ℤ (pos 0)
      zero_reads e =
          let s = at_pair player leaf second_place p true pair refl is ∙ ap (side_slot pair) e in
          let r = meets.rows second_place (record { coef = coef_at pair.coef; le = neg_ℤ pair.add }) s in
          let v = by_terms pair.coef (ascends pair.coef 0 columns form.coef) in
          let m = neg-mul_left pair.add x.den in
          omega (arith, ints, r, v, m)
