-- How values and points compare, from the fractions in lowest terms.
use Rattle.std.proofs.Common.{◌≡◌, ℕ, ◌<◌, ◌≤◌, arith, sym, ◌∙◌, ℤ, pos, ◌*ℤ◌, ◌<ℤ◌, ◌≤ℤ◌, length, ⊎_elim}
use Rattle.std.proofs.Math.IntN.{zero-*ℤ}
use Rattle.std.proofs.lemmas.Bool.{cases_lt}
use Rattle.std.proofs.lemmas.Cmp.{int_ranked}
use Rattle.std.proofs.lemmas.Int.{ints}
use Rattle.std.proofs.lemmas.List.{get_or_past}
use Rattle.std.specs.Ordering.{MatchOrdering}
use Rattle.std.specs.declared.cmp.Ordering.{Ordering}
use Rattle.std.specs.declared.cmp.Ordering.TheVariants.{Less, Equal, Greater}
use Rattle.zr_base.specs.Fractions.{Fraction, IsLess, IsSame, order_of}
use Rattle.zr_base.specs.Points.{IsSamePoint, PointOf, num_of, value_of}
use Rattle.zr_base.proofs.SameLaws.{order_same, same_sym, same_through}
use Rattle.zr_tidy.specs.Points.{IsValueOrder}

less_unless : (u v : ℤ) → (v ≤ℤ u → ⊥) → u <ℤ v
less_unless u v h = grind (arith, ints, h)

not_both : (u v : ℤ) → u <ℤ v → v ≤ℤ u → ⊥
not_both u v h k = omega (arith, ints, h, k)

-- fractions of the same values are ordered alike
less_same : (x y a b : Fraction) → IsSame x a → IsSame y b → IsLess x y → IsLess a b
less_same x y a b s t h =
    less_unless (a.num *ℤ b.den) (b.num *ℤ a.den)
    (λ k. not_both (x.num *ℤ y.den) (y.num *ℤ x.den) h
    (order_same b a y x (same_sym y b t) (same_sym x a s) k))

pub value_order : (r : Ordering) (x y a b : Fraction) → IsSame x a → IsSame y b
    → r ≡ order_of x y → IsValueOrder r a b
value_order r x y a b s t e =
    ranked r (int_ranked (x.num *ℤ y.den) (y.num *ℤ x.den) r e)
  where
    ranked : (q : Ordering) → MatchOrdering q ((x.num *ℤ y.den) <ℤ (y.num *ℤ x.den))
        (x.num *ℤ y.den ≡ y.num *ℤ x.den) ((y.num *ℤ x.den) <ℤ (x.num *ℤ y.den))
        → IsValueOrder q a b
    ranked Less h = less_same x y a b s t h
    ranked Equal h =
        let e : IsSame x y = record { left = s.left; right = t.left; cross = h } in
        same_through a y b (same_through a x y (same_sym x a s) e) t
    ranked Greater h = less_same y x b a t s h

no_number : (x : PointOf) (v : ℕ) → length x.num ≤ v → num_of x v ≡ pos 0
no_number x v h = get_or_past x.num v (pos 0) h

past_cross : (n m d e : ℤ) → n ≡ pos 0 → m ≡ pos 0 → n *ℤ d ≡ m *ℤ e
past_cross n m d e p q = rw (p, q) (zero-*ℤ d ∙ sym (zero-*ℤ e))

-- points with the same values at all variables that they have
pub same_points : (x y : PointOf) → (pos 0) <ℤ x.den → (pos 0) <ℤ y.den
    → length x.num ≡ length y.num
    → ((v : ℕ) → v < length x.num → IsSame (value_of x v) (value_of y v)) → IsSamePoint x y
same_points x y p q e h = record {
  left = p;
  right = q;
  len = e;
  values = λ v. ⊎_elim (λ (k : v < length x.num). (h v k).cross)
      (λ (k : length x.num ≤ v). past_cross (num_of x v) (num_of y v) y.den x.den
      (no_number x v k) (no_number y v (omega (arith, k, e)))) (cases_lt v (length x.num));
}
