-- Feasible points whose variables are whole and bounded are points with the denominator 1.
use Rattle.std.proofs.Common.{◌≡◌, ℕ, ◌<◌, ◌≤◌, arith, sym, ap, subst, ◌∙◌, ℤ, pos, ◌*ℤ◌, ◌<ℤ◌, ◌≤ℤ◌, unsigned_abs, int_div, IsTrue, IfSome, Option, Some, None, length, map, slice_get, ⊎_elim}
use Rattle.std.specs.Int.{◌∣◌}
use Rattle.std.proofs.Math.Nat.{dvd-mul_left}
use Rattle.std.proofs.lemmas.Int.{ints, unsigned_abs-mul}
use Rattle.std.proofs.lemmas.Bool.{cases_lt}
use Rattle.std.proofs.lemmas.List.{get_or-map, get_or_past, length-map}
use Rattle.zr_base.specs.Fractions.{HaveSameCross}
use Rattle.zr_base.specs.Points.{IsSamePoint, PointOf, num_of, value_of}
use Rattle.zr_base.proofs.Divisors.{quot_exact}
use Rattle.zr_base.proofs.Worth.{le_of_times}
use Rattle.zr_game.specs.Players.{PlayerOf, VarOf}
use Rattle.zr_game.specs.Feasible.{IsFeasible, IsMultiple}
use Rattle.zr_game.proofs.Items.{at_number}
use Rattle.zr_game.proofs.SamePoints.{feasible_same}

-- a whole multiple of the denominator, between the bounds
pub record IsWholeValue (n d least greatest : ℤ) : Type 0 where
  pub k : ℤ
  pub is : n ≡ k *ℤ d
  pub low : least ≤ℤ k
  pub high : k ≤ℤ greatest

-- what holds of the bound that there is
bound_is : (P : ℤ → Type 0) (o : Option ℤ) (b : ℤ) → o ≡ Some b → IfSome o P → P b
bound_is P None b e h = absurd cc
bound_is P (Some a) b e h = let s : a ≡ b = cc in subst P s h

pub whole_value : (player : PlayerOf) (x : PointOf) → IsFeasible player x → (v : ℕ) (var : VarOf)
    → slice_get player.vars v ≡ Some var → IsTrue var.whole → (low up : ℤ) → var.low ≡ Some low
    → var.up ≡ Some up → IsWholeValue (num_of x v) x.den low up
whole_value player x f v var found whole low up low_is up_is =
    let w = f.bounds v var found in
    let m = w.whole whole in
    let above = bound_is (λ b. (b *ℤ x.den) ≤ℤ num_of x v) var.low low low_is w.low in
    let below = bound_is (λ b. num_of x v ≤ℤ (b *ℤ x.den)) var.up up up_is w.high in
    record {
      k = m.0;
      is = m.1;
      low = le_of_times low m.0 x.den f.point (subst (λ z. (low *ℤ x.den) ≤ℤ z) m.1 above);
      high = le_of_times m.0 up x.den f.point (subst (λ z. z ≤ℤ (up *ℤ x.den)) m.1 below);
    }

-- each numerator is divided by the denominator
abbrev pub whole_of : PointOf → PointOf
whole_of x = record { num = map (λ n. int_div n x.den) x.num; den = pos 1 }

-- whole values: the denominator divides each numerator
abbrev pub IsWholePoint : PointOf → Type 0
IsWholePoint x = (v : ℕ) → v < length x.num → IsMultiple (num_of x v) x.den

pub exact_quotient : (n d : ℤ) → IsMultiple n d → int_div n d *ℤ d ≡ n
exact_quotient n d m =
    quot_exact n d (subst (λ z. unsigned_abs d ∣ z) (sym (unsigned_abs-mul m.0 d) ∙
    ap unsigned_abs (sym m.1)) (dvd-mul_left (unsigned_abs d) (unsigned_abs m.0)))

pub same_whole : (x : PointOf) → (pos 0) <ℤ x.den → IsWholePoint x → IsSamePoint x (whole_of x)
same_whole x positive whole = record {
  left = positive;
  right = omega (arith, ints);
  len = sym (length-map x.num (λ n. int_div n x.den));
  values = each;
}
  where
    inside : (v : ℕ) → v < length x.num → HaveSameCross (value_of x v) (value_of (whole_of x) v)
    inside v h =
        let e = exact_quotient (num_of x v) x.den (whole v h) in
        let n = get_or-map (λ n. int_div n x.den) x.num v (pos 0) (pos 0) h in
        let one : num_of x v *ℤ pos 1 ≡ num_of x v = omega (arith, ints) in
        one ∙ sym e ∙ ap (λ z. z *ℤ x.den) (sym n)

    outside : (v : ℕ) → length x.num ≤ v → HaveSameCross (value_of x v) (value_of (whole_of x) v)
    outside v h =
        let n = get_or_past x.num v (pos 0) h in
        let len = length-map x.num (λ n. int_div n x.den) in
        let m = get_or_past (whole_of x).num v (pos 0) (omega (arith, len, h)) in
        rw (n, m) (omega (arith, ints))

    each : (v : ℕ) → HaveSameCross (value_of x v) (value_of (whole_of x) v)
    each v = ⊎_elim (inside v) (outside v) (cases_lt v (length x.num))

-- where all variables are whole, a feasible point is whole
pub feasible_whole : (player : PlayerOf) (x : PointOf) → IsFeasible player x
    → ((v : ℕ) (var : VarOf) → slice_get player.vars v ≡ Some var → IsTrue var.whole)
    → IsWholePoint x
feasible_whole player x f all v h =
    let len = f.len in
    let var = at_number player.vars v (omega arith) in
    (f.bounds v var.0 var.1).whole (all v var.0 var.1)

-- and so is the point with the denominator 1
pub whole_feasible : (player : PlayerOf) (x : PointOf) → IsFeasible player x → IsWholePoint x
    → IsFeasible player (whole_of x)
whole_feasible player x f whole =
    feasible_same x (whole_of x) (same_whole x f.point whole) player f

-- its numbers are between the bounds
pub whole_within : (player : PlayerOf) (x : PointOf) → IsFeasible player x → IsWholePoint x
    → (v : ℕ) (var : VarOf) → slice_get player.vars v ≡ Some var → (low up : ℤ) → var.low ≡ Some low
    → var.up ≡ Some up → (low ≤ℤ num_of (whole_of x) v) × (num_of (whole_of x) v ≤ℤ up)
whole_within player x f whole v var found low up low_is up_is =
    let n = num_of (whole_of x) v in
    let w = (whole_feasible player x f whole).bounds v var found in
    let above = bound_is (λ b. (b *ℤ pos 1) ≤ℤ n) var.low low low_is w.low in
    let below = bound_is (λ b. n ≤ℤ (b *ℤ pos 1)) var.up up up_is w.high in
    (omega (arith, ints, above), omega (arith, ints, below))
