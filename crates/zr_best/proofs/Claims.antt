-- The claim of a least value, from the aim's.
use Rattle.std.proofs.Common.{◌≡◌, ℕ, zero, suc, ◌*◌, ◌<◌, arith, refl, sym, ap, subst, ◌∙◌, ℤ, pos, neg_ℤ, ◌*ℤ◌, ◌<ℤ◌, ◌≤ℤ◌, unsigned_abs, int_div, List, [], ◌∷◌, map, length, get_or, slice_index_or, All}
use Rattle.std.proofs.Math.Nat.{dvd-mul_left}
use Rattle.std.proofs.lemmas.Int.{ints, unsigned_abs-mul}
use Rattle.std.proofs.lemmas.List.{length-map}
use Rattle.std.specs.Int.{IsGcd, ◌∣◌}
use Rattle.std.proofs.lemmas.Nat.Gcd.{IsGcd-swap}
use Rattle.zr_base.specs.Fractions.{Fraction, IsSame, times, whole}
use Rattle.zr_base.proofs.Divisors.{cancel, mul_positive, positive_factor, quot_exact}
use Rattle.zr_base.proofs.Lowest.{divides_other}
use Rattle.zr_base.proofs.Ring.{mul_assoc, spread}
use Rattle.zr_base.proofs.Worth.{le_times}
use Rattle.zr_game.specs.Feasible.{IsMultiple}
use Rattle.zr_game.specs.Leaves.{Bound, bound_with}
use Rattle.zr_simplex.specs.Programs.{numbers}
use Rattle.zr_bnb.specs.Values.{least_row}
use Rattle.zr_mix.specs.Claims.{IsClaim, IsLeastMultiple, IsMultipleOf}
use Rattle.zr_mix.specs.Values.{item_of}
use Rattle.zr_mix.proofs.Multiples.{divides_multiple, multiple_trans}
use Rattle.zr_best.proofs.Along.{numbers_turned}
use Rattle.zr_best.proofs.Divides.{divides_common}

multiple_divided : (n d : ℤ) → unsigned_abs d ∣ unsigned_abs n → IsMultiple n d
multiple_divided n d h = (int_div n d, sym (quot_exact n d h))

at_least : (n m : ℤ) → (pos 0) <ℤ n → (pos 0) <ℤ m → IsMultiple n m → m ≤ℤ n
at_least n m positive above k =
    let p : (pos 0) <ℤ (k.0 *ℤ m) = subst (λ z. (pos 0) <ℤ z) k.1 positive in
    let q : (pos 0) <ℤ k.0 = positive_factor k.0 m p above in
    let l = le_times (pos 1) k.0 m above (omega (arith, ints, q)) in
    let one : pos 1 *ℤ m ≡ m = omega (arith, ints) in
    let e = k.1 in
    omega (arith, ints, l, one, e)

-- value is `n / (m * by)`, n and m share no divisor, and neither do the value's numbers
module _ (slopes : List Fraction) (by : ℤ) (left : List ℤ) (right : ℤ)
    (claim : IsClaim slopes (whole (pos 0)) by left right) (n m : ℤ) (above : (pos 0) <ℤ m)
    (coprime : IsGcd (unsigned_abs n) (unsigned_abs m) 1) (value : Fraction)
    (den : (pos 0) <ℤ value.den)
    (lowest : IsGcd (unsigned_abs value.num) (unsigned_abs value.den) 1)
    (e : value.num *ℤ (m *ℤ by) ≡ n *ℤ value.den) where
  some : (pos 0) <ℤ (m *ℤ by)
  some = mul_positive m by above claim.common.positive

  of_value : IsMultipleOf (m *ℤ by) value
  of_value =
      let s : unsigned_abs value.den ∣ unsigned_abs value.num * unsigned_abs (m *ℤ by) =
      subst (λ k. unsigned_abs value.den ∣ k)
      (sym (unsigned_abs-mul n value.den) ∙ ap unsigned_abs (sym e) ∙ unsigned_abs-mul value.num (m *ℤ by))
      (dvd-mul_left (unsigned_abs value.den) (unsigned_abs n)) in
      let positive : 0 < unsigned_abs (m *ℤ by) = (let p = some in omega (arith, ints, p)) in
      multiple_divided (m *ℤ by) value.den
      (divides_other (unsigned_abs value.num) (unsigned_abs value.den) (unsigned_abs (m *ℤ by)) positive lowest s)

  -- a common multiple is a multiple of it
  least : (k : ℤ) → (pos 0) <ℤ k → All (IsMultipleOf k) slopes → IsMultipleOf k value
      → (m *ℤ by) ≤ℤ k
  least k positive all of =
      let d = divides_common by slopes (whole (pos 0)) claim.common k positive all (k, omega (arith, ints)) in
      let q = d.0 in
      let r = of.0 in
      -- n * q is a multiple of m
      let s : n *ℤ q ≡ (r *ℤ value.num) *ℤ m = product q r d.1 of.1 in
      let t : unsigned_abs m ∣ unsigned_abs n * unsigned_abs q =
      subst (λ z. unsigned_abs m ∣ z)
      (sym (unsigned_abs-mul (r *ℤ value.num) m) ∙ ap unsigned_abs (sym s) ∙ unsigned_abs-mul n q)
      (dvd-mul_left (unsigned_abs m) (unsigned_abs (r *ℤ value.num))) in
      let qp : (pos 0) <ℤ q = positive_factor q by (subst (λ z. (pos 0) <ℤ z) d.1 positive) claim.common.positive in
      let u = divides_other (unsigned_abs n) (unsigned_abs m) (unsigned_abs q) (omega (arith, ints, qp)) coprime t in
      let v = multiple_divided q m u in
      at_least k (m *ℤ by) positive some (v.0, d.1 ∙ ap (λ z. z *ℤ by) v.1 ∙ mul_assoc v.0 m by)
    where
      product : (q r : ℤ) → k ≡ q *ℤ by → k ≡ r *ℤ value.den → n *ℤ q ≡ (r *ℤ value.num) *ℤ m
      product q r a b =
          let x = simp spread at (ap (λ z. z *ℤ r) e) in
          let y = simp spread at (ap (λ z. n *ℤ z) (sym b ∙ a)) in
          cancel (n *ℤ q) ((r *ℤ value.num) *ℤ m) by claim.common.positive
          (simp spread (omega (arith, ints, x, y)))

  pub common : IsLeastMultiple (m *ℤ by) slopes value
  common = record {
    positive = some;
    slopes = λ k d h. multiple_trans (m *ℤ by) by (get_or slopes k d).den (m, refl) (claim.common.slopes k d h);
    of_value = of_value;
    least = least;
  }

  scaled_left : List ℤ
  scaled_left = map (λ z. m *ℤ z) left

  scaled_at : (xs : List ℤ) (j : ℕ) → slice_index_or (map (λ z. m *ℤ z) xs) j (pos 0) ≡ m *ℤ slice_index_or xs j (pos 0)
  scaled_at [] j = omega (arith, ints)
  scaled_at (z ∷ xs) zero = refl
  scaled_at (z ∷ xs) (suc j) = scaled_at xs j

  lefts : (v : ℕ) → v < length slopes
      → IsSame (times (whole (m *ℤ by)) (slice_index_or slopes v (whole (pos 0))))
      (whole (neg_ℤ (slice_index_or (map (λ z. m *ℤ z) left) v (pos 0))))
  lefts v h =
      let s = claim.lefts v h in
      let f = slice_index_or slopes v (whole (pos 0)) in
      let l = slice_index_or left v (pos 0) in
      record {
        left = s.left;
        right = s.right;
        cross = rw (scaled_at left v) (wider f.num f.den l s.cross);
      }
    where
      wider : (a d l : ℤ) → (by *ℤ a) *ℤ pos 1 ≡ neg_ℤ l *ℤ (pos 1 *ℤ d)
          → ((m *ℤ by) *ℤ a) *ℤ pos 1 ≡ neg_ℤ (m *ℤ l) *ℤ (pos 1 *ℤ d)
      wider a d l s =
          let one : pos 1 *ℤ d ≡ d = omega (arith, ints) in
          let two : (by *ℤ a) *ℤ pos 1 ≡ by *ℤ a = omega (arith, ints) in
          let three : ((m *ℤ by) *ℤ a) *ℤ pos 1 ≡ (m *ℤ by) *ℤ a = omega (arith, ints) in
          let t : by *ℤ a ≡ neg_ℤ l *ℤ d = sym two ∙ s ∙ ap (λ z. neg_ℤ l *ℤ z) one in
          let u = simp spread at (ap (λ z. m *ℤ z) t) in
          rw (one, three) (simp spread (omega (arith, ints, u)))

  rights : IsSame (times (whole (m *ℤ by)) value) (whole (neg_ℤ (neg_ℤ n)))
  rights =
      let one : pos 1 *ℤ value.den ≡ value.den = omega (arith, ints) in
      record {
        left = rw one den;
        right = omega (arith, ints);
        cross = turn value.num value.den e;
      }
    where
      turn : (a d : ℤ) → a *ℤ (m *ℤ by) ≡ n *ℤ d
          → ((m *ℤ by) *ℤ a) *ℤ pos 1 ≡ neg_ℤ (neg_ℤ n) *ℤ (pos 1 *ℤ d)
      turn a d s =
          let one : pos 1 *ℤ d ≡ d = omega (arith, ints) in
          let two : neg_ℤ (neg_ℤ n) ≡ n = omega (arith, ints) in
          let three : ((m *ℤ by) *ℤ a) *ℤ pos 1 ≡ (m *ℤ by) *ℤ a = omega (arith, ints) in
          let four : (m *ℤ by) *ℤ a ≡ a *ℤ (m *ℤ by) = simp spread refl in
          rw (one, two, three) (four ∙ s)

  -- the claim with the value
  pub claim_of_value : IsClaim slopes value (m *ℤ by) (map (λ z. m *ℤ z) left) (neg_ℤ n)
  claim_of_value = record {
    common = common;
    len = length-map left (λ z. m *ℤ z) ∙ claim.len;
    lefts = lefts;
    rights = rights;
  }

  -- its row is the one that says that the aim is at least `n / m`
  pub row_is : least_row (map neg_ℤ left) (record { num = n; den = m })
      ≡ bound_with (map (λ z. m *ℤ z) left) (neg_ℤ n)
  row_is = λ k. record { coef = λ j. coef j k; le = neg_ℤ n }
    where
      coef : (j : ℕ) → neg_ℤ (m *ℤ numbers (map neg_ℤ left) j) ≡ slice_index_or (map (λ z. m *ℤ z) left) j (pos 0)
      coef j = ap (λ z. neg_ℤ (m *ℤ z)) (numbers_turned left j) ∙ twice m (numbers left j) ∙ sym (scaled_at left j)
        where
          twice : (a b : ℤ) → neg_ℤ (a *ℤ neg_ℤ b) ≡ a *ℤ b
          twice a b = simp spread (omega (arith, ints))
