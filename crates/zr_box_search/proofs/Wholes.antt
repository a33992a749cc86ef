-- Whole points of players of whole variables: their sizes, when they are better, and where they lie.
use Rattle.std.proofs.Common.{◌≡◌, ℕ, ◌<◌, arith, refl, ap, ◌∙◌, subst, ℤ, pos, ◌*ℤ◌, ◌<ℤ◌, ◌≤ℤ◌, IfSome, IsSome, Option, Some, None, List, length, slice_get}
use Rattle.std.proofs.lemmas.Int.{ints}
use Rattle.std.proofs.lemmas.Option.{slice_get_within}
use Rattle.zr_base.specs.Points.{PointOf, num_of}
use Rattle.zr_game.specs.Players.{GameOf, PairOf, PlayerOf}
use Rattle.zr_game.specs.Feasible.{IsFeasible}
use Rattle.zr_game.specs.Forms.{IsGame, IsPlayer, IsVarForm}
use Rattle.zr_game.specs.Leaves.{HasPoint, LeafOf}
use Rattle.zr_game.proofs.Holding.{Inside, SideHolds}
use Rattle.zr_game.proofs.Items.{at_number}
use Rattle.zr_tree.proofs.CoverLaws.{inside_meets}
use Rattle.zr_bnb.proofs.Directions.{all_get}
use Rattle.zr_boxes.specs.Boxes.{BoxOf}
use Rattle.zr_boxes.specs.Gains.{least_gain}
use Rattle.zr_boxes.specs.Right.{IsBetter}
use Rattle.zr_box_search.specs.Dues.{AreRanged}
use Rattle.zr_box_search.specs.Sizes.{IsNearPoint, IsUpTo, number_size}
use Rattle.zr_box_search.specs.Whole.{IsBoxPlayer}
use Rattle.zr_box_search.proofs.Replies.{gain_bounded}

some_is : (o : Option ℤ) → IsSome o → (b : ℤ) × (o ≡ Some b)
some_is None h = absurd cc
some_is (Some b) h = (b, refl)

times_one : (z d : ℤ) → d ≡ pos 1 → z *ℤ d ≡ z
times_one z d e = ap (λ (k : ℤ). z *ℤ k) e ∙ omega (arith, ints)

module _ (game : GameOf) (sound : IsGame game) (i : ℕ) (player : PlayerOf)
    (is : IsPlayer game i player) (is_box : IsBoxPlayer player) (x : PointOf)
    (feasible : IsFeasible player x) (one : x.den ≡ pos 1) where
  pub near_whole : IsNearPoint player x
  near_whole = record { whole = one; len = feasible.len; size = λ v h. size v h }
    where
      size : (v : ℕ) → v < length player.vars → IsUpTo number_size (num_of x v)
      size v h =
          let var = at_number player.vars v h in
          let b = is_box.vars v var.0 var.1 in
          let f = all_get IsVarForm player.vars v var.0 (sound.players i player is).vars var.1 in
          let l = some_is var.0.low b.low in
          let u = some_is var.0.up b.up in
          let w = feasible.bounds v var.0 var.1 in
          let m = (f.low l.0 l.1).0 in
          let n = (f.up u.0 u.1).1 in
          let p = subst (λ (o : Option ℤ). IfSome o (λ low. (low *ℤ x.den) ≤ℤ num_of x v)) l.1 w.low in
          let q = subst (λ (o : Option ℤ). IfSome o (λ up. num_of x v ≤ℤ (up *ℤ x.den))) u.1 w.high in
          let s = times_one l.0 x.den one in
          let t = times_one u.0 x.den one in
          omega (arith, ints, m, n, p, q, s, t)

  pub better_whole : (box : BoxOf) → AreRanged game box
      → (pos 0) <ℤ least_gain player i box x → IsBetter player i box x
  better_whole box ranged gain = record {
    feasible = feasible;
    bounded = gain_bounded game sound box ranged i player is;
    gain = gain;
  }

  pub witness : (leaf : LeafOf)
      → ((v : ℕ) → v < length x.num → IfSome (leaf.low v) (λ low. low ≤ℤ num_of x v))
      → ((v : ℕ) → v < length x.num → IfSome (leaf.high v) (λ high. num_of x v ≤ℤ high))
      → HasPoint player leaf
  witness leaf lows highs =
      let form = sound.players i player is in
      (x, inside_meets player form.rows form.pairs form.from_zero x feasible leaf inside)
    where
      within : (v : ℕ) → v < length player.vars → v < length x.num
      within v h = let n = feasible.len in omega (arith, h, n)

      inside : Inside player leaf x
      inside = record {
        lows = λ v l h e.
            let p = subst (λ (o : Option ℤ). IfSome o (λ low. low ≤ℤ num_of x v)) e (lows v (within v h)) in
            let s = times_one l x.den one in
            omega (arith, ints, p, s);
        highs = λ v u h e.
            let p = subst (λ (o : Option ℤ). IfSome o (λ high. num_of x v ≤ℤ high)) e (highs v (within v h)) in
            let s = times_one u x.den one in
            omega (arith, ints, p, s);
        sides = λ p pair e. none p pair e;
      }
        where
          none : (p : ℕ) (pair : PairOf) → slice_get player.pairs p ≡ Some pair
              → SideHolds x pair (leaf.side p)
          none p pair e =
              let w = slice_get_within player.pairs p pair e in
              let n = ap (λ (pairs : List PairOf). length pairs) is_box.pairs in
              absurd (omega (arith, w, n))
