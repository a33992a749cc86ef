-- Points that meet the rows of a settled leaf are feasible.
use Rattle.std.proofs.Common.{◌≡◌, ℕ, ◌<◌, ◌==◌, arith, refl, sym, ap, subst, ◌∙◌, ℤ, pos, ◌+ℤ◌, ◌*ℤ◌, ◌≤ℤ◌, int_le, Bool, true, false, cond, IsTrue, IfSome, All, Option, Some, None, option_and_then, length, get_or, slice_get, inl, inr}
use Rattle.std.proofs.lemmas.Int.{ints}
use Rattle.std.proofs.lemmas.Option.{slice_get-get_or, slice_get_within}
use Rattle.zr_base.specs.Points.{PointOf, num_of}
use Rattle.zr_base.proofs.Worth.{le_times}
use Rattle.zr_game.specs.declared.leaf.Side.{Side}
use Rattle.zr_game.specs.declared.leaf.Side.TheVariants.{Undecided, VarZero, RowZero}
use Rattle.zr_game.specs.Players.{PairOf, PlayerOf, VarOf}
use Rattle.zr_game.specs.Forms.{IsFromZero, IsPairForm, IsRowForm}
use Rattle.zr_game.specs.Feasible.{IsFeasible, IsMultiple, IsWithin, PairHolds}
use Rattle.zr_game.specs.Leaves.{IsSettled, LeafOf, MeetsLeaf, above, below, decided, greater, lesser, low_of, root_leaf, up_of}
use Rattle.zr_game.proofs.Items.{at_number}
use Rattle.zr_tree.proofs.LeafRows.{high_reads, low_reads, row_reads, slack_reads, var_reads, zero_reads}

-- a lower bound of at least that; an upper bound of at most that
abbrev pub IsRaised : Option ℤ → ℤ → Type 0
IsRaised None low = ⊥
IsRaised (Some a) low = low ≤ℤ a

abbrev pub IsLowered : Option ℤ → ℤ → Type 0
IsLowered None up = ⊥
IsLowered (Some a) up = a ≤ℤ up

-- the leaf keeps the bounds of the player's variables
pub record KeepsRoot (player : PlayerOf) (leaf : LeafOf) : Type 0 where
  pub lows : (v : ℕ) (low : ℤ) → low_of player.vars v ≡ Some low → IsRaised (leaf.low v) low
  pub ups : (v : ℕ) (up : ℤ) → up_of player.vars v ≡ Some up → IsLowered (leaf.high v) up

greater_raised : (o : Option ℤ) (b low : ℤ) → IsRaised o low → IsRaised (Some (greater o b)) low
greater_raised None b low h = absurd h
greater_raised (Some a) b low h = which (int_le a b) refl
  where
    which : (t : Bool) → int_le a b ≡ t → low ≤ℤ cond t b a
    which true e = omega (arith, ints, e, h)
    which false e = h

lesser_lowered : (o : Option ℤ) (b up : ℤ) → IsLowered o up → IsLowered (Some (lesser o b)) up
lesser_lowered None b up h = absurd h
lesser_lowered (Some a) b up h = which (int_le a b) refl
  where
    which : (t : Bool) → int_le a b ≡ t → cond t a b ≤ℤ up
    which true e = h
    which false e = omega (arith, ints, e, h)

module _ (player : PlayerOf) where
  pub root_keeps : KeepsRoot player (root_leaf player)
  root_keeps = record {
    lows = λ v low e. subst (λ (o : Option ℤ). IsRaised o low) (sym e) (omega (arith, ints));
    ups = λ v up e. subst (λ (o : Option ℤ). IsLowered o up) (sym e) (omega (arith, ints));
  }

  module _ (leaf : LeafOf) (keeps : KeepsRoot player leaf) where
    pub below_keeps : (v : ℕ) (at : ℤ) → KeepsRoot player (below leaf v at)
    below_keeps v at = record {
      lows = keeps.lows;
      ups = λ w up e. which w up (v == w) (keeps.ups w up e);
    }
      where
        which : (w : ℕ) (up : ℤ) (t : Bool) → IsLowered (leaf.high w) up
            → IsLowered (cond t (Some (lesser (leaf.high w) at)) (leaf.high w)) up
        which w up true h = lesser_lowered (leaf.high w) at up h
        which w up false h = h

    pub above_keeps : (v : ℕ) (at : ℤ) → KeepsRoot player (above leaf v at)
    above_keeps v at = record {
      lows = λ w low e. which w low (v == w) (keeps.lows w low e);
      ups = keeps.ups;
    }
      where
        which : (w : ℕ) (low : ℤ) (t : Bool) → IsRaised (leaf.low w) low
            → IsRaised (cond t (Some (greater (leaf.low w) (at +ℤ pos 1))) (leaf.low w)) low
        which w low true h = greater_raised (leaf.low w) (at +ℤ pos 1) low h
        which w low false h = h

    pub decided_keeps : (p : ℕ) (side : Side) → KeepsRoot player (decided leaf p side)
    decided_keeps p side = record { lows = keeps.lows; ups = keeps.ups }

    module _ (x : PointOf) (meets : MeetsLeaf player leaf x) where
      pub low_kept : (v : ℕ) (low : ℤ) → v < length player.vars → (o : Option ℤ) → leaf.low v ≡ o
          → IsRaised o low → (low *ℤ x.den) ≤ℤ num_of x v
      low_kept v low h None e k = absurd k
      low_kept v low h (Some a) e k =
          let r = low_reads player x leaf meets v a h e in
          let t = le_times low a x.den meets.point k in
          omega (arith, ints, r, t)

      up_kept : (v : ℕ) (up : ℤ) → v < length player.vars → (o : Option ℤ) → leaf.high v ≡ o
          → IsLowered o up → num_of x v ≤ℤ (up *ℤ x.den)
      up_kept v up h None e k = absurd k
      up_kept v up h (Some a) e k =
          let r = high_reads player x leaf meets v a h e in
          let t = le_times a up x.den meets.point k in
          omega (arith, ints, r, t)

      module _ (rows : All (IsRowForm (length player.vars)) player.rows)
          (pairs : All (IsPairForm (length player.vars)) player.pairs)
          (zeros : All (λ pair. IsFromZero player.vars pair.var) player.pairs) where
        bound_found : (v : ℕ) (var : VarOf) (pick : VarOf → Option ℤ) (b : ℤ)
            → slice_get player.vars v ≡ Some var → pick var ≡ Some b
            → option_and_then pick (slice_get player.vars v) ≡ Some b
        bound_found v var pick b e f = ap (option_and_then pick) e ∙ f

        module _ (v : ℕ) (var : VarOf) (is : slice_get player.vars v ≡ Some var) where
          inside : v < length player.vars
          inside = slice_get_within player.vars v var is

          low_holds : (o : Option ℤ) → var.low ≡ o → IfSome o (λ low. (low *ℤ x.den) ≤ℤ num_of x v)
          low_holds None e = tt
          low_holds (Some low) e =
              low_kept v low inside (leaf.low v) refl
              (keeps.lows v low (bound_found v var (λ u. u.low) low is e))

          up_holds : (o : Option ℤ) → var.up ≡ o → IfSome o (λ up. num_of x v ≤ℤ (up *ℤ x.den))
          up_holds None e = tt
          up_holds (Some up) e =
              up_kept v up inside (leaf.high v) refl
              (keeps.ups v up (bound_found v var (λ u. u.up) up is e))

          pub within_bounds : (IsTrue var.whole → IsMultiple (num_of x v) x.den)
              → IsWithin var (num_of x v) x.den
          within_bounds whole = record {
            low = low_holds var.low refl;
            high = up_holds var.up refl;
            whole = whole;
          }

        module _ (p : ℕ) (pair : PairOf) (is : slice_get player.pairs p ≡ Some pair) (form : IsPairForm (length player.vars) pair) (zero_low : IsFromZero player.vars pair.var) where
          pub var_up : (pos 0) ≤ℤ num_of x pair.var
          var_up =
              let u = at_number player.vars pair.var form.var in
              let e = bound_found pair.var u.0 (λ w. w.low) (pos 0) u.1 (zero_low u.0 u.1) in
              let r = low_kept pair.var (pos 0) form.var (leaf.low pair.var) refl
              (keeps.lows pair.var (pos 0) e) in
              omega (arith, ints, r)

          pub pair_kept : (side : Side) → leaf.side p ≡ side → (side ≡ Undecided → ⊥)
              → PairHolds x pair
          pair_kept Undecided e open_ = absurd (open_ refl)
          pair_kept VarZero e open_ =
              let a = var_up in
              let b = var_reads player x leaf meets p pair is form e in
              (a, slack_reads player x leaf meets p pair is form, inl (omega (arith, ints, a, b)))
          pair_kept RowZero e open_ =
              let a = slack_reads player x leaf meets p pair is form in
              let b = zero_reads player x leaf meets p pair is form e in
              (var_up, a, inr (omega (arith, ints, a, b)))

        -- a settled leaf fixes what has to be whole, and decides each pair
        pub settled_feasible : IsSettled player leaf → IsFeasible player x
        settled_feasible settled = record {
          point = meets.point;
          len = meets.len;
          bounds = λ v var e. within_bounds v var e (λ t. whole v var e t);
          rows = λ k d h. row_reads player x leaf meets k (get_or player.rows k d)
              (slice_get-get_or player.rows k d h) (rows k d h);
          pairs = λ k d h. pair_kept k (get_or player.pairs k d)
              (slice_get-get_or player.pairs k d h) (pairs k d h) (zeros k d h) (leaf.side k) refl
              (λ e. settled.pairs k h e);
        }
          where
            whole : (v : ℕ) (var : VarOf) → slice_get player.vars v ≡ Some var → IsTrue var.whole
                → IsMultiple (num_of x v) x.den
            whole v var e t =
                let s = settled.vars v var e t in
                let l = slice_get_within player.vars v var e in
                let a = low_reads player x leaf meets v s.0 l s.1 in
                let b = high_reads player x leaf meets v s.0 l s.2 in
                (s.0, omega (arith, ints, a, b))
