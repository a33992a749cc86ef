-- Equations in proportion without common divisors are the same.
use Rattle.std.proofs.Common.{◌≡◌, ℕ, zero, suc, ◌+◌, ◌*◌, ◌/◌, ◌<◌, ◌≤◌, arith, sym, ap, subst, ◌∙◌, ℤ, pos, ◌*ℤ◌, ◌<ℤ◌, unsigned_abs, div-add-mod', one-mul}
use Rattle.std.proofs.Math.Nat.{mod-eq-zero_of_dvd, dvd-mul_right, dvd_of_mul-dvd-mul_right, mul-dvd-mul_right, pos_of_dvd_of_pos, one-dvd}
use Rattle.std.proofs.Math.IntN.{*ℤ_comm}
use Rattle.std.proofs.lemmas.Int.{ints, unsigned_abs-mul}
use Rattle.std.proofs.lemmas.Nat.Gcd.{dvd-zero}
use Rattle.std.specs.Int.{IsGcd, ◌∣◌}
use Rattle.zr_base.specs.Lowest.{gcd_of}
use Rattle.zr_base.proofs.Divisors.{cancel, nonneg_abs}
use Rattle.zr_base.proofs.Gcds.{gcd_of_is}
use Rattle.zr_base.proofs.Lowest.{divides_other}
use Rattle.zr_basis.specs.Programs.{Program}
use Rattle.zr_basis.specs.BasicForms.{right_column, IsPrimitive, IsBasicForm}
use Rattle.zr_basis.proofs.Among.{HaveSameColumns, have_same}
use Rattle.zr_basis.specs.Bases.{IsSameBasis}
use Rattle.zr_basis.proofs.Unique.{in_proportion}

exact : (g c : ℕ) → c ∣ g → g / c * c ≡ g
exact g c h = let z = mod-eq-zero_of_dvd c h in omega (arith, div-add-mod' g c, z)

divides_it : (a b c : ℕ) → IsGcd b a 1 → a ∣ b * c → a ∣ c
divides_it a b zero coprime h = dvd-zero a
divides_it a b (suc c) coprime h = divides_other b a (suc c) (omega arith) coprime h

-- what is left of two numbers without their greatest common divisor
coprime_parts : (a b h x y : ℕ) → 0 < h → IsGcd a b h → x * h ≡ a → y * h ≡ b → IsGcd x y 1
coprime_parts a b h x y positive gcd first second =
    (one-dvd x, one-dvd y, λ d p q. dvd_of_mul-dvd-mul_right d positive (subst (λ z. d * h ∣ z) (sym (one-mul h)) (gcd.2 (d * h) (subst (λ z. d * h ∣ z) first (mul-dvd-mul_right d p h)) (subst (λ z. d * h ∣ z) second (mul-dvd-mul_right d q h)))))

swap_gcd : (a b g : ℕ) → IsGcd a b g → IsGcd b a g
swap_gcd a b g (p, q, r) = (q, p, λ d x y. r d y x)

-- a factor of one side that shares nothing with the other factor is 1
is_one : (n : ℕ) (f : ℕ → ℤ) (u : ℕ → ℕ) (a b h x y : ℕ) → 0 < h → IsPrimitive n f → IsGcd y x 1 → x * h ≡ a → y * h ≡ b → ((j : ℕ) → j < n → a * u j ≡ b * unsigned_abs (f j)) → x ≡ 1
is_one n f u a b h x y positive primitive coprime first second each =
    primitive x (λ j q. divides_it x y (unsigned_abs (f j)) coprime (dvd_of_mul-dvd-mul_right x positive (subst (λ z. x * h ∣ z) (reorder y h (unsigned_abs (f j))) (subst (λ z. x * h ∣ z * unsigned_abs (f j)) (sym second) (subst (λ z. z ∣ b * unsigned_abs (f j)) (sym first) (subst (λ z. a ∣ z) (each j q) (dvd-mul_right a (u j))))))))
  where
    reorder : (y h v : ℕ) → (y * h) * v ≡ (y * v) * h
    reorder y h v = omega arith

pub primitive_same : (n : ℕ) (e f : ℕ → ℤ) (m o : ℤ) → (pos 0) <ℤ m → (pos 0) <ℤ o → IsPrimitive n e → IsPrimitive n f → ((j : ℕ) → j < n → m *ℤ e j ≡ o *ℤ f j) → (j : ℕ) → j < n → e j ≡ f j
primitive_same n e f m o mp op re rf each j q =
    let a = unsigned_abs m in
    let b = unsigned_abs o in
    let h = gcd_of a b in
    let is = gcd_of_is a b in
    let least : 0 < a = omega (arith, ints, mp) in
    let positive : 0 < h = pos_of_dvd_of_pos is.0 least in
    let first = exact a h is.0 in
    let second = exact b h is.1 in
    let coprime = coprime_parts a b h (a / h) (b / h) positive is first second in
    let sizes : (j : ℕ) → j < n → a * unsigned_abs (e j) ≡ b * unsigned_abs (f j) = λ j q. sym (unsigned_abs-mul m (e j)) ∙ ap unsigned_abs (each j q) ∙ unsigned_abs-mul o (f j) in
    let one = is_one n f (λ j. unsigned_abs (e j)) a b h (a / h) (b / h) positive rf (swap_gcd (a / h) (b / h) 1 coprime) first second sizes in
    let two = is_one n e (λ j. unsigned_abs (f j)) b a h (b / h) (a / h) positive re coprime second first (λ j q. sym (sizes j q)) in
    let same : a ≡ b = sym first ∙ ap (λ z. z * h) (one ∙ sym two) ∙ second in
    let equal : m ≡ o = nonneg_abs m mp ∙ ap pos same ∙ sym (nonneg_abs o op) in
    cancel (e j) (f j) m mp (*ℤ_comm (e j) m ∙ each j q ∙ ap (λ z. z *ℤ f j) (sym equal) ∙ *ℤ_comm m (f j))

-- bases with the same columns have the same equations
pub same_equations : (p : Program) (basis other : ℕ → ℕ) (form made : ℕ → ℕ → ℤ) → IsBasicForm p basis form → IsBasicForm p other made → HaveSameColumns p basis other → (i k : ℕ) → i ≤ p.rows → k ≤ p.rows → basis i ≡ other k → (j : ℕ) → j ≤ right_column p → form i j ≡ made k j
same_equations p basis other form made basic second same i k h q e j b =
    primitive_same (p.columns + p.rows + 2) (form i) (made k) (made k (other k)) (form i (basis i)) (second.own k q) (basic.own i h) (basic.primitive i h) (second.primitive k q) (λ j c. in_proportion p basis other form made basic second same i k h q e j (omega arith)) j (omega arith)

-- the same, from the columns before the value's
pub one_form : (p : Program) (basis other : ℕ → ℕ) (form made : ℕ → ℕ → ℤ) → IsBasicForm p basis form → IsBasicForm p other made → IsSameBasis p.rows basis other → (i k : ℕ) → i ≤ p.rows → k ≤ p.rows → basis i ≡ other k → (j : ℕ) → j ≤ right_column p → form i j ≡ made k j
one_form p basis other form made basic second same =
    same_equations p basis other form made basic second (have_same p basis other basic.value second.value same)
