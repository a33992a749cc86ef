-- The children of a split differ from its leaf.
use Rattle.std.proofs.Common.{◌≡◌, ℕ, ◌==◌, arith, refl, ap, ◌∙◌, sym, ℤ, pos, ◌+ℤ◌, ◌<ℤ◌, ◌≤ℤ◌, int_le, Bool, true, false, cond, IfSome, Option, Some, None}
use Rattle.std.proofs.lemmas.Int.{ints}
use Rattle.std.proofs.lemmas.Bool.Decides.{nat_tests}
use Rattle.zr_game.specs.Players.{PlayerOf}
use Rattle.zr_game.specs.Leaves.{IsWholeVar, LeafOf, greater, lesser}
use Rattle.zr_asked.specs.Paths.{IsSplit}

here : {A : Type 0} (v : ℕ) (a b : A) → cond (v == v) a b ≡ a
here v a b = let e : (v == v) ≡ true = grind (arith, nat_tests) in rw e refl

lesser_moves : (o : Option ℤ) (at : ℤ) → IfSome o (λ h. at <ℤ h) → Some (lesser o at) ≡ o → ⊥
lesser_moves None at h e = cc
lesser_moves (Some a) at h e = which (int_le a at) refl e
  where
    which : (t : Bool) → int_le a at ≡ t → Some (cond t a at) ≡ Some a → ⊥
    which true f g = omega (arith, ints, h, f)
    which false f g = let k : at ≡ a = cc in omega (arith, ints, h, k)

greater_moves : (o : Option ℤ) (at : ℤ) → IfSome o (λ l. l ≤ℤ at)
    → Some (greater o (at +ℤ pos 1)) ≡ o → ⊥
greater_moves None at h e = cc
greater_moves (Some a) at h e = which (int_le a (at +ℤ pos 1)) refl e
  where
    which : (t : Bool) → int_le a (at +ℤ pos 1) ≡ t → Some (cond t (at +ℤ pos 1) a) ≡ Some a → ⊥
    which true f g = let k : (at +ℤ pos 1) ≡ a = cc in omega (arith, ints, h, k)
    which false f g = omega (arith, ints, h, f)

pub is_split : (player : PlayerOf) (leaf : LeafOf) (v : ℕ) (at : ℤ) → IsWholeVar player v
    → IfSome (leaf.low v) (λ l. l ≤ℤ at) → IfSome (leaf.high v) (λ h. at <ℤ h)
    → IsSplit player leaf v at
is_split player leaf v at whole low high = record {
  whole = whole;
  low = λ e. lesser_moves (leaf.high v) at high
      (sym (here v (Some (lesser (leaf.high v) at)) (leaf.high v)) ∙ ap (λ (l : LeafOf). l.high v) e);
  high = λ e. greater_moves (leaf.low v) at low
      (sym (here v (Some (greater (leaf.low v) (at +ℤ pos 1))) (leaf.low v)) ∙
      ap (λ (l : LeafOf). l.low v) e);
}
