-- Bounds that are near, from a leaf to the children of a split.
use Rattle.std.proofs.Common.{◌≡◌, ℕ, ◌+◌, ◌≤◌, ◌==◌, arith, refl, subst, ℤ, pos, ◌+ℤ◌, int_le, Bool, true, false, cond, Option, Some, None, IfSome, inl, inr, ⊎_elim, slice_get, option_and_then}
use Rattle.std.specs.Option.{ForSome}
use Rattle.std.proofs.lemmas.Int.{ints}
use Rattle.zr_game.specs.Players.{PlayerOf, VarOf}
use Rattle.zr_game.specs.Forms.{IsNumber, IsVarForm}
use Rattle.zr_game.specs.Leaves.{LeafOf, above, below, greater, lesser, root_leaf}
use Rattle.zr_asked.specs.Paths.{child_by}
use Rattle.zr_branch.specs.Replies.{IsSomePlayer}
use Rattle.zr_bnb.specs.Splits.{AreNear, IsNear}
use Rattle.zr_bnb.proofs.Directions.{all_get}
use Rattle.zr_cover.specs.declared.split.Split.{Split}
use Rattle.zr_cover.specs.declared.split.Split.TheVariants as ASplit
use Rattle.zr_cover.specs.Splits.{PartsLeaf, IsNearSplit, first_step, second_step}

further : (a b : ℕ) (z : ℤ) → a ≤ b → IsNear a z → IsNear b z
further a b z h near =
    let l = near.0 in
    let u = near.1 in (omega (arith, ints, h, l), omega (arith, ints, h, u))

pub are_further : (leaf : LeafOf) (a b : ℕ) → a ≤ b → AreNear leaf a → AreNear leaf b
are_further leaf a b h near v bound is = further a b bound h (near v bound is)

lesser_near : (o : Option ℤ) (at b : ℤ) (more : ℕ) → ((a : ℤ) → o ≡ Some a → IsNear more a)
    → IsNear more at → lesser o at ≡ b → IsNear more b
lesser_near None at b more old new e = subst (IsNear more) e new
lesser_near (Some a) at b more old new e = which (int_le a at) e
  where
    which : (t : Bool) → cond t a at ≡ b → IsNear more b
    which true f = subst (IsNear more) f (old a refl)
    which false f = subst (IsNear more) f new

greater_near : (o : Option ℤ) (at b : ℤ) (more : ℕ) → ((a : ℤ) → o ≡ Some a → IsNear more a)
    → IsNear more at → greater o at ≡ b → IsNear more b
greater_near None at b more old new e = subst (IsNear more) e new
greater_near (Some a) at b more old new e = which (int_le a at) e
  where
    which : (t : Bool) → cond t at a ≡ b → IsNear more b
    which true f = subst (IsNear more) f new
    which false f = subst (IsNear more) f (old a refl)

module _ (leaf : LeafOf) (more : ℕ) (near : AreNear leaf more) (w : ℕ) (at : ℤ)
    (is : IsNearSplit more at) where
  below_near : AreNear (below leaf w at) (more + 1)
  below_near v bound which =
      ⊎_elim (λ (e : leaf.low v ≡ Some bound).
      further more (more + 1) bound (omega arith) (near v bound (inl e)))
      (λ (e : cond (w == v) (Some (lesser (leaf.high v) at)) (leaf.high v) ≡ Some bound).
      at_high (w == v) e) which
    where
      at_high : (t : Bool) → cond t (Some (lesser (leaf.high v) at)) (leaf.high v) ≡ Some bound
          → IsNear (more + 1) bound
      at_high true e =
          let f : lesser (leaf.high v) at ≡ bound = cc in
          let l = is.0 in
          let u = is.1 in
          lesser_near (leaf.high v) at bound (more + 1)
          (λ a k. further more (more + 1) a (omega arith) (near v a (inr k)))
          (omega (arith, ints, l), omega (arith, ints, u)) f
      at_high false e = further more (more + 1) bound (omega arith) (near v bound (inr e))

  above_near : AreNear (above leaf w at) (more + 1)
  above_near v bound which =
      ⊎_elim (λ (e : cond (w == v) (Some (greater (leaf.low v) (at +ℤ pos 1))) (leaf.low v)
      ≡ Some bound). at_low (w == v) e)
      (λ (e : leaf.high v ≡ Some bound).
      further more (more + 1) bound (omega arith) (near v bound (inr e))) which
    where
      at_low : (t : Bool)
          → cond t (Some (greater (leaf.low v) (at +ℤ pos 1))) (leaf.low v) ≡ Some bound
          → IsNear (more + 1) bound
      at_low true e =
          let f : greater (leaf.low v) (at +ℤ pos 1) ≡ bound = cc in
          let l = is.0 in
          let u = is.1 in
          greater_near (leaf.low v) (at +ℤ pos 1) bound (more + 1)
          (λ a k. further more (more + 1) a (omega arith) (near v a (inl k)))
          (omega (arith, ints, l), omega (arith, ints, u)) f
      at_low false e = further more (more + 1) bound (omega arith) (near v bound (inl e))

module _ (player : PlayerOf) (leaf : LeafOf) (more : ℕ) (near : AreNear leaf more) where
  pub first_near : (split : Split) → PartsLeaf player leaf more split
      → AreNear (child_by leaf (first_step split)) (more + 1)
  first_near (ASplit.Var w at) is v bound which =
      below_near leaf more near w at is.1 v bound which
  first_near (ASplit.Pair p) is v bound which =
      further more (more + 1) bound (omega arith) (near v bound which)

  pub second_near : (split : Split) → PartsLeaf player leaf more split
      → AreNear (child_by leaf (second_step split)) (more + 1)
  second_near (ASplit.Var w at) is v bound which =
      above_near leaf more near w at is.1 v bound which
  second_near (ASplit.Pair p) is v bound which =
      further more (more + 1) bound (omega arith) (near v bound which)

-- the bounds of a game's variables are near
pub root_near : (player : PlayerOf) → (i : ℕ) × IsSomePlayer i player → AreNear (root_leaf player) 0
root_near player some v bound which =
    ⊎_elim (λ (e : option_and_then (λ (u : VarOf). u.low) (slice_get player.vars v) ≡ Some bound).
    near (slice_get player.vars v) refl (λ u. u.low) (λ u f. f.low) e)
    (λ (e : option_and_then (λ (u : VarOf). u.up) (slice_get player.vars v) ≡ Some bound).
    near (slice_get player.vars v) refl (λ u. u.up) (λ u f. f.up) e) which
  where
    number : (o : Option ℤ) → ForSome o IsNumber → o ≡ Some bound → IsNear 0 bound
    number None f e = absurd cc
    number (Some a) f e =
        let g : a ≡ bound = cc in
        let n = f a refl in
        let l = n.0 in
        let u = n.1 in
        subst (IsNear 0) g (omega (arith, ints, l), omega (arith, ints, u))

    near : (o : Option VarOf) → slice_get player.vars v ≡ o → (pick : VarOf → Option ℤ)
        → ((u : VarOf) → IsVarForm u → ForSome (pick u) IsNumber)
        → option_and_then pick o ≡ Some bound → IsNear 0 bound
    near None e pick form f = absurd cc
    near (Some u) e pick form f =
        number (pick u) (form u (all_get IsVarForm player.vars v u some.1.1.vars e)) f

-- a bound of a leaf is near, where its bounds are
pub near_if : (more : ℕ) (o : Option ℤ) → ((b : ℤ) → o ≡ Some b → IsNear more b)
    → IfSome o (IsNear more)
near_if more None f = tt
near_if more (Some b) f = f b refl
