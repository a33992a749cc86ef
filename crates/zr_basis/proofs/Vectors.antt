-- Laws of the lexicographic order.
use Rattle.std.proofs.Common.{◌≡◌, ℕ, zero, suc, ◌<◌, ◌≤◌, arith, ap, ◌∙◌, ℤ, pos, neg_ℤ, ◌+ℤ◌, ◌-ℤ◌, ◌*ℤ◌, ◌<ℤ◌, ◌⊎◌, inl, inr, ⊎_elim}
use Rattle.std.proofs.lemmas.Int.{ints}
use Rattle.zr_base.proofs.Ring.{spread}
use Rattle.zr_base.proofs.Divisors.{mul_positive}
use Rattle.zr_basis.specs.Vectors.{IsLeading, IsLower}
use Rattle.zr_basis.proofs.Signs.{side, sign, zero_factor, above_factor}

abbrev pub IsNought : ℕ → (ℕ → ℤ) → Type 0
IsNought count v = (j : ℕ) → j < count → v j ≡ pos 0

-- a vector of zeros isn't positive
pub never_both : (n : ℕ) (v : ℕ → ℤ) → IsLeading n v → IsNought n v → ⊥
never_both n v lead none = let a = lead.3 in let z = none lead.0 lead.1 in omega (arith, ints, a, z)

-- vectors in proportion
pub in_proportion : (n : ℕ) (u v : ℕ → ℤ) (p q : ℤ) → (pos 0) <ℤ p → (pos 0) <ℤ q → ((k : ℕ) → k < n → p *ℤ u k ≡ q *ℤ v k) → IsLeading n v → IsLeading n u
in_proportion n u v p q pp qp same lead =
    (lead.0, lead.1, λ j h. zero_factor p (u j) pp (same j (omega (arith, lead.1)) ∙ ap (λ z. q *ℤ z) (lead.2 j h) ∙ omega (arith, ints)), above_factor p (u lead.0) pp (let s = same lead.0 lead.1 in let m = mul_positive q (v lead.0) qp lead.3 in omega (arith, ints, s, m)))

-- a sum of positive vectors
pub leading_sum : (n : ℕ) (u v : ℕ → ℤ) → IsLeading n u → IsLeading n v → IsLeading n (λ k. u k +ℤ v k)
leading_sum n u v a b = ⊎_elim (λ (h : a.0 < b.0). (a.0, a.1, λ j q. let x = a.2 j q in let y = b.2 j (omega arith) in omega (arith, ints, x, y), (let x = a.3 in let y = b.2 a.0 h in omega (arith, ints, x, y)))) (λ (h : b.0 ≤ a.0). ⊎_elim (λ (g : b.0 < a.0). (b.0, b.1, (λ j q. let x = a.2 j (omega arith) in let y = b.2 j q in omega (arith, ints, x, y)), (let x = b.3 in let y = a.2 b.0 g in omega (arith, ints, x, y)))) (λ (g : a.0 ≤ b.0). let e : b.0 ≡ a.0 = omega arith in (a.0, a.1, (λ j q. let x = a.2 j q in let y = b.2 j (omega arith) in omega (arith, ints, x, y)), (let x = a.3 in let y = b.3 in let z = ap v e in omega (arith, ints, x, y, z)))) (side b.0 a.0)) (side a.0 b.0)

pub leading_sum_nought : (n : ℕ) (u v : ℕ → ℤ) → IsLeading n u → IsNought n v → IsLeading n (λ k. u k +ℤ v k)
leading_sum_nought n u v a none =
    (a.0, a.1, (λ j q. let x = a.2 j q in let y = none j (omega (arith, a.1)) in omega (arith, ints, x, y)), (let x = a.3 in let y = none a.0 a.1 in omega (arith, ints, x, y)))

pub same_leading : (n : ℕ) (u v : ℕ → ℤ) → ((k : ℕ) → k < n → u k ≡ v k) → IsLeading n v → IsLeading n u
same_leading n u v same lead =
    (lead.0, lead.1, (λ j h. same j (omega (arith, lead.1)) ∙ lead.2 j h), (let s = same lead.0 lead.1 in let m = lead.3 in omega (arith, ints, s, m)))

-- a vector is positive, zero, or negative
pub three_ways : (n : ℕ) (v : ℕ → ℤ) → IsLeading n v ⊎ (IsNought n v ⊎ IsLeading n (λ k. neg_ℤ (v k)))
three_ways zero v = inr (inl (λ j h. absurd (omega arith)))
three_ways (suc n) v =
    ⊎_elim (λ (a : IsLeading n v). inl (a.0, omega (arith, a.1), a.2, a.3)) (λ (r : IsNought n v ⊎ IsLeading n (λ k. neg_ℤ (v k))). ⊎_elim (λ (none : IsNought n v). last none) (λ (a : IsLeading n (λ k. neg_ℤ (v k))). inr (inr (a.0, omega (arith, a.1), a.2, a.3))) r) (three_ways n v)
  where
    last : IsNought n v → IsLeading (suc n) v ⊎ (IsNought (suc n) v ⊎ IsLeading (suc n) (λ k. neg_ℤ (v k)))
    last none = ⊎_elim (λ (h : (pos 0) <ℤ v n). inl (n, omega arith, none, h)) (λ (r : (v n ≡ pos 0) ⊎ (v n <ℤ (pos 0))). ⊎_elim (λ (z : v n ≡ pos 0). inr (inl (λ j q. ⊎_elim (λ (b : j < n). none j b) (λ (b : n ≤ j). let e : j ≡ n = omega arith in ap v e ∙ z) (side j n)))) (λ (h : v n <ℤ (pos 0)). inr (inr (n, omega arith, (λ j q. let z = none j q in omega (arith, ints, z)), omega (arith, ints, h)))) r) (sign (v n))

between : (x y z a b c : ℤ) → b *ℤ (z *ℤ a -ℤ x *ℤ c) ≡ c *ℤ (y *ℤ a -ℤ x *ℤ b) +ℤ a *ℤ (z *ℤ b -ℤ y *ℤ c)
between x y z a b c = simp spread (omega (arith, ints))

pub times_leading : (n : ℕ) (c : ℤ) (v : ℕ → ℤ) → (pos 0) <ℤ c → IsLeading n v → IsLeading n (λ k. c *ℤ v k)
times_leading n c v h lead = in_proportion n (λ k. c *ℤ v k) v (pos 1) c (omega (arith, ints)) h (λ k q. omega (arith, ints)) lead

-- what is below what is below
pub lower_trans : (n : ℕ) (x y z : ℕ → ℤ) (a b c : ℤ) → (pos 0) <ℤ a → (pos 0) <ℤ b → (pos 0) <ℤ c → IsLower n x a y b → IsLower n y b z c → IsLower n x a z c
lower_trans n x y z a b c ap bp cp first second =
    in_proportion n (λ k. z k *ℤ a -ℤ x k *ℤ c) (λ k. c *ℤ (y k *ℤ a -ℤ x k *ℤ b) +ℤ a *ℤ (z k *ℤ b -ℤ y k *ℤ c)) b (pos 1) bp (omega (arith, ints)) (λ k h. between (x k) (y k) (z k) a b c ∙ omega (arith, ints)) (leading_sum n (λ k. c *ℤ (y k *ℤ a -ℤ x k *ℤ b)) (λ k. a *ℤ (z k *ℤ b -ℤ y k *ℤ c)) (times_leading n c (λ k. y k *ℤ a -ℤ x k *ℤ b) cp first) (times_leading n a (λ k. z k *ℤ b -ℤ y k *ℤ c) ap second))

difference : (x y a b : ℤ) → x *ℤ b ≡ y *ℤ a → y *ℤ a -ℤ x *ℤ b ≡ pos 0
difference x y a b e = omega (arith, ints, e)

-- equal vectors aren't below each other
pub lower_apart : (n : ℕ) (x y : ℕ → ℤ) (a b : ℤ) → ((k : ℕ) → k < n → x k *ℤ b ≡ y k *ℤ a) → IsLower n x a y b → ⊥
lower_apart n x y a b same lower = never_both n (λ k. y k *ℤ a -ℤ x k *ℤ b) lower (nought same)
  where
    nought : ((k : ℕ) → k < n → x k *ℤ b ≡ y k *ℤ a) → IsNought n (λ k. y k *ℤ a -ℤ x k *ℤ b)
    nought s k h = difference (x k) (y k) a b (s k h)
