-- Each common multiple is a multiple of the least one.
use Rattle.std.proofs.Common.{◌≡◌, ℕ, zero, suc, ◌+◌, ◌*◌, ◌/◌, ◌%◌, ◌<◌, arith, refl, sym, ap, ◌∙◌, ℤ, pos, ◌-ℤ◌, ◌+ℤ◌, ◌*ℤ◌, ◌<ℤ◌, unsigned_abs, List, get_or, All}
use Rattle.std.proofs.Math.Nat.{mod-add-div', mod-lt}
use Rattle.std.proofs.lemmas.Int.{ints}
use Rattle.zr_base.specs.Fractions.{Fraction}
use Rattle.zr_base.proofs.Divisors.{nonneg_abs}
use Rattle.zr_base.proofs.Ring.{mul_assoc, spread}
use Rattle.zr_game.specs.Feasible.{IsMultiple}
use Rattle.zr_mix.specs.Claims.{IsLeastMultiple, IsMultipleOf}

pos-mul : (a b : ℕ) → pos (a * b) ≡ pos a *ℤ pos b
pos-mul a b = refl

-- what a multiple leaves over a multiple is one
left_over : (n by r q : ℤ) (f : Fraction) → r +ℤ q *ℤ by ≡ n → IsMultipleOf n f → IsMultipleOf by f
    → IsMultipleOf r f
left_over n by r q f e m b =
    (m.0 -ℤ q *ℤ b.0, gather r q m.0 b.0 f.den (e ∙ m.1) b.1)
  where
    gather : (r q k l d : ℤ) → r +ℤ q *ℤ by ≡ k *ℤ d → by ≡ l *ℤ d → r ≡ (k -ℤ q *ℤ l) *ℤ d
    gather r q k l d s t =
        let u : q *ℤ by ≡ (q *ℤ l) *ℤ d = ap (λ z. q *ℤ z) t ∙ sym (mul_assoc q l d) in
        let v : (k -ℤ q *ℤ l) *ℤ d ≡ k *ℤ d -ℤ (q *ℤ l) *ℤ d = simp spread (omega (arith, ints)) in
        omega (arith, ints, s, u, v)

module _ (by : ℤ) (slopes : List Fraction) (value : Fraction)
    (common : IsLeastMultiple by slopes value) where
  pub divides_common : (n : ℤ) → (pos 0) <ℤ n → All (IsMultipleOf n) slopes → IsMultipleOf n value
      → IsMultiple n by
  divides_common n positive all of_value =
      whole (m % b) refl
    where
      m : ℕ
      m = unsigned_abs n

      b : ℕ
      b = unsigned_abs by

      some : 0 < b
      some = let p = common.positive in omega (arith, ints, p)

      parts : pos (m % b) +ℤ pos (m / b) *ℤ by ≡ n
      parts =
          let e = mod-add-div' m b in
          let x : by ≡ pos b = nonneg_abs by common.positive in
          let y : n ≡ pos m = nonneg_abs n positive in
          let s : pos (m % b) +ℤ pos (m / b * b) ≡ pos m = ap pos e in
          ap (λ z. pos (m % b) +ℤ pos (m / b) *ℤ z) x ∙ s ∙ sym y

      whole : (r : ℕ) → m % b ≡ r → IsMultiple n by
      whole zero e =
          let z : pos (m % b) ≡ pos 0 = ap pos e in
          (pos (m / b), omega (arith, ints, parts, z))
      whole (suc r) e =
          let low = mod-lt m some in
          let above : (pos 0) <ℤ pos (m % b) = omega (arith, ints, e) in
          let l = common.least (pos (m % b)) above
          (λ k d h. left_over n by (pos (m % b)) (pos (m / b)) (get_or slopes k d) parts (all k d h) (common.slopes k d h))
          (left_over n by (pos (m % b)) (pos (m / b)) value parts of_value common.of_value) in
          let x : by ≡ pos b = nonneg_abs by common.positive in
          absurd (omega (arith, ints, l, x, low))
