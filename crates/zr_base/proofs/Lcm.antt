-- Least common multiples: a product without its factors' common divisor divides each common multiple.
use Rattle.std.proofs.Common.{◌≡◌, ℕ, zero, suc, ◌*◌, ◌/◌, ◌<◌, arith, div-add-mod', sym, ap, subst, ◌∙◌, ℤ, pos, ◌*ℤ◌, ◌<ℤ◌, unsigned_abs}
use Rattle.std.proofs.Math.Nat.{mul-dvd-mul_left, mul-dvd-mul_right, dvd_of_mul-dvd-mul_right, dvd-mul_left, mod-eq-zero_of_dvd}
use Rattle.std.proofs.lemmas.Nat.Gcd.{dvd_trans, dvd-zero}
use Rattle.std.proofs.lemmas.Int.{ints, unsigned_abs-mul}
use Rattle.std.specs.Int.{IsGcd, ◌∣◌}
use Rattle.zr_base.specs.Lowest.{gcd_of}
use Rattle.zr_base.proofs.Gcds.{gcd_of_is}

-- a common divisor of two multiples by z divides the divisor's multiple by z
scaled : (o d g z e : ℕ) → IsGcd o d g → 0 < z → e ∣ o * z → e ∣ d * z → e ∣ g * z
scaled o d g z e gcd positive left right =
    let h = gcd_of (o * z) (d * z) in
    let is = gcd_of_is (o * z) (d * z) in
    let whole : z ∣ h = is.2 z (dvd-mul_left z o) (dvd-mul_left z d) in
    let k = h / z in
    let parts : k * z ≡ h = (let m = mod-eq-zero_of_dvd z whole in let q = div-add-mod' h z in omega (arith, m, q)) in
    let one : k ∣ o = dvd_of_mul-dvd-mul_right k positive (subst (λ x. x ∣ o * z) (sym parts) is.0) in
    let two : k ∣ d = dvd_of_mul-dvd-mul_right k positive (subst (λ x. x ∣ d * z) (sym parts) is.1) in
    dvd_trans e (is.2 e left right) (subst (λ x. x ∣ g * z) parts (mul-dvd-mul_right k (gcd.2 k one two) z))

least : (b d g z : ℕ) → 0 < g → IsGcd (b * g) d g → b * g ∣ z → d ∣ z → d * b ∣ z
least b d g zero positive gcd left right = dvd-zero (d * b)
least b d g (suc z) positive gcd left right =
    let n = suc z in
    let x : (d * b) * g ∣ (b * g) * n = subst (λ q. q ∣ (b * g) * n) (omega arith) (mul-dvd-mul_left d (b * g) right) in
    let y : (d * b) * g ∣ d * n = subst (λ q. q ∣ d * n) (omega arith) (mul-dvd-mul_left (b * g) d left) in
    let s = scaled (b * g) d g n ((d * b) * g) gcd (omega arith) x y in
    dvd_of_mul-dvd-mul_right (d * b) positive (subst (λ q. (d * b) * g ∣ q) (omega arith) s)

pub least_more : (by over own den more : ℤ) (z : ℕ) → (pos 0) <ℤ over → by *ℤ over ≡ own → more ≡ den *ℤ by → IsGcd (unsigned_abs own) (unsigned_abs den) (unsigned_abs over) → unsigned_abs own ∣ z → unsigned_abs den ∣ z → unsigned_abs more ∣ z
least_more by over own den more z positive first made gcd left right =
    let g = unsigned_abs over in
    let b = unsigned_abs by in
    let is : unsigned_abs own ≡ b * g = ap unsigned_abs (sym first) ∙ unsigned_abs-mul by over in
    let m : unsigned_abs more ≡ unsigned_abs den * b = ap unsigned_abs made ∙ unsigned_abs-mul den by in
    rw m (least b (unsigned_abs den) g z (omega (arith, ints, positive)) (rw is at gcd) (rw is at left) right)
