use Rattle.std.proofs.Common.{rules, ◌≡◌, ◌<◌, ◌∙◌, sym, arith, refl, inl, inr, ℕ, ℤ, pos, ◌+ℤ◌, ◌*ℤ◌, ◌<ℤ◌, ◌≤ℤ◌, IfSome, Option, Some, None, length, FitsSigned}
use Rattle.std.specs.Int.{w64, w128}
use Rattle.std.proofs.lemmas.Int.{to_z-of_z}
use Rattle.std.proofs.lemmas.List.{length-map}
use Rattle.zr_base.specs.Points.{num_of}
use Rattle.zr_base.proofs.SumSteps.{get_or_default}
use Rattle.zr_game.specs.Players.{PlayerOf, player_of, var_of}
use Rattle.zr_game.specs.Forms.{IsPairForm}
use Rattle.zr_game.specs.Leaves.{IsWholeVar, LeafOf, leaf_of}
use Rattle.zr_game.specs.Feasible.{IsMultiple}
use Rattle.zr_tree.proofs.LeafRows.{high_reads, low_reads}
use Rattle.zr_bnb.specs.Splits.{AreNear, IsNear}
use Rattle.zr_bnb.proofs.Directions.{all_get}
use Rattle.zr_bnb.proofs.Apart.{is_split}
use Rattle.zr_bnb.proofs.Floors.{high_floor, low_floor}
use Rattle.zr_bnb.proofs.split.where_to_split.Goals as goal
use Rattle.zr_bnb.proofs.split.where_to_split.Goals.{After-index-in-Some-first_fractional}

if_some : {A : Type 0} (P Q : A → Type 0) (o : Option A) → ((a : A) → o ≡ Some a → Q a) → IfSome o Q
if_some P Q None f = tt
if_some P Q (Some a) f = f a refl

module _ (c : After-index-in-Some-first_fractional) where
  abbrev player : PlayerOf
  player = player_of c.args.player.now

  abbrev v : ℕ
  v = c.in-Some-first_fractional.v

  found_at : (v < length c.args.player.now.vars.items) × IsWholeVar player v
      × (IsMultiple (num_of c.args.point.now v) c.args.point.now.den → ⊥)
  found_at = rw c.deref-3.ensures.value at c.in-Some-first_fractional.ensures

  inside : v < length player.vars
  inside =
      let h = found_at.0 in
      omega (arith, h, length-map c.args.player.now.vars.items var_of)

  low_is : c.index.result.now ≡ (leaf_of c.args.leaf.now).low v
  low_is =
      let h = inside in
      c.index.ensures ∙
      get_or_default c.args.leaf.now.low.items v c.index.result.now None
      (omega (arith, h, c.requires.lengths.lows))

  high_is : c.index-in-Some-first_fractional.result.now ≡ (leaf_of c.args.leaf.now).high v
  high_is =
      let h = inside in
      c.index-in-Some-first_fractional.ensures ∙
      get_or_default c.args.leaf.now.high.items v c.index-in-Some-first_fractional.result.now None
      (omega (arith, h, c.requires.lengths.highs))

  floor_is : ((c.floor-value.result *ℤ c.args.point.now.den) ≤ℤ num_of c.args.point.now v)
      × (num_of c.args.point.now v <ℤ ((c.floor-value.result +ℤ pos 1) *ℤ c.args.point.now.den))
  floor_is =
      let n : FitsSigned w128 c.num.result = search rules in
      let d : FitsSigned w128 c.den.result = search rules in (
        rw (c.den.ensures.value, c.num.ensures.value) at (simp to_z-of_z at c.floor-value.ensures.below),
        rw (c.den.ensures.value, c.num.ensures.value) at (simp to_z-of_z at c.floor-value.ensures.above),
      )

  low_holds : (o : Option ℤ) → (leaf_of c.args.leaf.now).low v ≡ o
      → IfSome o (λ l. l ≤ℤ c.floor-value.result)
  low_holds None e = tt
  low_holds (Some l) e =
      low_floor l c.floor-value.result (num_of c.args.point.now v) c.args.point.now.den
      c.requires.point.point
      (low_reads player c.args.point.now (leaf_of c.args.leaf.now) c.requires.point v l inside e)
      floor_is.1

  high_holds : (o : Option ℤ) → (leaf_of c.args.leaf.now).high v ≡ o
      → IfSome o (λ h. c.floor-value.result <ℤ h)
  high_holds None e = tt
  high_holds (Some h) e =
      high_floor h c.floor-value.result (num_of c.args.point.now v) c.args.point.now.den
      c.requires.point.point
      (high_reads player c.args.point.now (leaf_of c.args.leaf.now) c.requires.point v h inside e)
      floor_is.0 found_at.2

near_low : (leaf : LeafOf) (v more : ℕ) → AreNear leaf more → (o : Option ℤ) → leaf.low v ≡ o
    → IfSome o (IsNear more)
near_low leaf v more near None e = tt
near_low leaf v more near (Some b) e = near v b (inl e)

near_high : (leaf : LeafOf) (v more : ℕ) → AreNear leaf more → (o : Option ℤ) → leaf.high v ≡ o
    → IfSome o (IsNear more)
near_high leaf v more near None e = tt
near_high leaf v more near (Some b) e = near v b (inr e)

pub split_number-at-requires-clause-low : goal.split_number-at-requires-clause-low
split_number-at-requires-clause-low c =
    let at = (goal.at.split_number-at-requires-clause-low c).After-index-in-Some-first_fractional in
    let f : FitsSigned w128 c.floor-value.result = search rules in
    simp to_z-of_z (low_holds at c.index.result.now (sym (low_is at)))

pub split_number-at-requires-clause-high : goal.split_number-at-requires-clause-high
split_number-at-requires-clause-high c =
    let at = (goal.at.split_number-at-requires-clause-high c).After-index-in-Some-first_fractional in
    let f : FitsSigned w128 c.floor-value.result = search rules in
    simp to_z-of_z (high_holds at c.index-in-Some-first_fractional.result.now (sym (high_is at)))

pub split_number-at-requires-clause-near : goal.split_number-at-requires-clause-near
split_number-at-requires-clause-near c =
    let at = (goal.at.split_number-at-requires-clause-near c).After-index-in-Some-first_fractional in
    near_high (leaf_of c.args.leaf.now) c.in-Some-first_fractional.v 1000000000 c.requires.near
    c.index-in-Some-first_fractional.result.now (sym (high_is at))

pub returns-in-Some-first_fractional-clause-split : goal.returns-in-Some-first_fractional-clause-split
returns-in-Some-first_fractional-clause-split c more near =
    let at = (goal.at.returns-in-Some-first_fractional-clause-split c).After-index-in-Some-first_fractional in
    let leaf = leaf_of c.args.leaf.now in
    let v = c.in-Some-first_fractional.v in
    let r : FitsSigned w64 c.split_number-at.result = search rules in
    let low = rw (low_is at) at c.split_number-at.ensures.low in
    let high = rw (high_is at) at c.split_number-at.ensures.high in
    let n = c.split_number-at.ensures.near more
    (near_low leaf v more near c.index.result.now (sym (low_is at)))
    (near_high leaf v more near c.index-in-Some-first_fractional.result.now (sym (high_is at))) in
    simp to_z-of_z (is_split (player_of c.args.player.now) leaf v c.split_number-at.result (found_at at).1 low high, n.0, n.1)

pub first_open_pair-requires-clause-vars : goal.first_open_pair-requires-clause-vars
first_open_pair-requires-clause-vars c p pair e =
    let player = player_of c.args.player.now in
    let f = all_get (IsPairForm (length player.vars)) player.pairs p pair
    c.requires.player.1.1.pairs (rw c.deref.ensures.value at e) in
    let v = f.var in
    let n = c.requires.point.len in
    omega (arith, v, n)

pub returns-in-None-clause-none : goal.returns-in-None-clause-none
returns-in-None-clause-none c =
    (rw c.deref-3.ensures.value at c.in-None.ensures, rw (c.deref.ensures.value, c.deref-2.ensures.value) at c.in_default.ensures)
