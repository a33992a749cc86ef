-- Sums over listed multipliers.
use Rattle.std.proofs.Common.{◌≡◌, ◌≢◌, ℕ, zero, suc, ◌+◌, ◌<◌, ◌≤◌, ◌==◌, arith, refl, sym, ap, ap₂, ◌∙◌, ℤ, pos, negsuc, neg_ℤ, ◌+ℤ◌, ◌*ℤ◌, ◌<ℤ◌, ◌≤ℤ◌, Bool, true, false, cond, List, [], ◌∷◌, map, length, get_or, ◌⊎◌, inl, inr, ⊎_elim}
use Rattle.std.proofs.lemmas.Int.{ints}
use Rattle.std.proofs.lemmas.Bool.Decides.{nat_tests}
use Rattle.std.proofs.Math.IntN.{*ℤ_comm}
use Rattle.zr_base.specs.Sums.{sum_products}
use Rattle.zr_base.specs.Terms.{Ascends, AscendWith, Terms, coef_at, value_at}
use Rattle.zr_base.proofs.Ring.{mul-add_left, mul_left_comm, neg-mul_left}
use Rattle.zr_base.proofs.Worth.{le_times}
use Rattle.zr_game.specs.Leaves.{at_column}
use Rattle.zr_branch.specs.Merged.{AreAtLeastOne, IsMultiplier}
use Rattle.zr_branch.proofs.Merging.{head_same, one_apart, tail_same}

pub both_ascend : (low n : ℕ) (ts : Terms) → AscendWith (λ z. (pos 1) ≤ℤ z) low n ts
    → Ascends low n ts → AscendWith IsMultiplier low n ts
both_ascend low n [] a b = tt
both_ascend low n (t ∷ ts) a b =
    (a.0, a.1, (a.2, b.2), both_ascend (t.0 + 1) n ts a.3 b.3)

pub products_value : (mult : Terms) (a : ℕ → ℤ)
    → sum_products (map (λ t. (t.1, a t.0)) mult) ≡ value_at mult a
products_value [] a = refl
products_value (t ∷ ts) a = ap (λ z. t.1 *ℤ a t.0 +ℤ z) (products_value ts a)

-- the sum is the same where the numbers at what is listed are
pub value_listed : (low n : ℕ) (ts : Terms) (a b : ℕ → ℤ) → AscendWith IsMultiplier low n ts
    → ((r : ℕ) → low ≤ r → r < n → coef_at ts r ≢ pos 0 → a r ≡ b r)
    → value_at ts a ≡ value_at ts b
value_listed low n [] a b all same = refl
value_listed low n (t ∷ ts) a b all same =
    let h = all.0 in
    ap₂ (λ x y. t.1 *ℤ x +ℤ y)
    (same t.0 all.0 all.1 (λ z. one_apart t.1 all.2.0 (sym (head_same t ts) ∙ z)))
    (value_listed (t.0 + 1) n ts a b all.3
    (λ r l m k. same r (omega (arith, h, l)) m (λ z. k (sym (tail_same t ts r l) ∙ z))))

pub value_same : (n : ℕ) (ts : Terms) (a b : ℕ → ℤ) → AreAtLeastOne n ts
    → ((r : ℕ) → r < n → a r ≡ b r) → value_at ts a ≡ value_at ts b
value_same n ts a b all same = value_listed 0 n ts a b all (λ r l m k. same r m)

-- the sum isn't above zero where no number is
down_times : (m l : ℤ) → (pos 1) ≤ℤ m → l ≤ℤ (pos 0) → (m *ℤ l) ≤ℤ (pos 0)
down_times m l one down =
    let h = le_times l (pos 0) m (omega (arith, ints, one)) down in
    let c = *ℤ_comm m l in
    let z : pos 0 *ℤ m ≡ pos 0 = omega (arith, ints) in
    omega (arith, ints, h, c, z)

pub value_down : (low n : ℕ) (ts : Terms) (a : ℕ → ℤ) → AscendWith IsMultiplier low n ts
    → ((r : ℕ) → low ≤ r → r < n → coef_at ts r ≢ pos 0 → a r ≤ℤ (pos 0))
    → value_at ts a ≤ℤ (pos 0)
value_down low n [] a all down = omega (arith, ints)
value_down low n (t ∷ ts) a all down =
    let q = all.0 in
    let h = down_times t.1 (a t.0) all.2.0
    (down t.0 all.0 all.1 (λ z. one_apart t.1 all.2.0 (sym (head_same t ts) ∙ z))) in
    let r = value_down (t.0 + 1) n ts a all.3
    (λ r l m k. down r (omega (arith, q, l)) m (λ z. k (sym (tail_same t ts r l) ∙ z))) in
    omega (arith, ints, h, r)

pub value_times : (k : ℤ) (ts : Terms) (a : ℕ → ℤ)
    → value_at ts (λ r. k *ℤ a r) ≡ k *ℤ value_at ts a
value_times k [] a = omega (arith, ints)
value_times k (t ∷ ts) a =
    ap₂ (λ x y. x +ℤ y) (mul_left_comm t.1 k (a t.0)) (value_times k ts a) ∙
    sym (mul-add_left k (t.1 *ℤ a t.0) (value_at ts a))

none_below : (low n j : ℕ) (ts : Terms) → AscendWith IsMultiplier low n ts → j < low
    → value_at ts (λ v. at_column v (negsuc 0) j) ≡ pos 0
none_below low n j [] all h = refl
none_below low n j (t ∷ ts) all h =
    let a = all.0 in
    let e : (t.0 == j) ≡ false = grind (arith, nat_tests, a, h) in
    let r = none_below (t.0 + 1) n j ts all.3 (omega (arith, a, h)) in
    rw e (omega (arith, ints, r))

extra_which : (b : Bool) (k j : ℕ) (z rest coef : ℤ) → (k == j) ≡ b → (j < k + 1 → rest ≡ pos 0)
    → rest ≡ neg_ℤ coef → z *ℤ cond b (negsuc 0) (pos 0) +ℤ rest ≡ neg_ℤ (cond b z coef)
extra_which true k j z rest coef e none h =
    let q : k ≡ j = grind (arith, nat_tests, e) in
    let r = none (omega (arith, q)) in
    omega (arith, ints, r)
extra_which false k j z rest coef e none h = omega (arith, ints, h)

-- with -1 at one place, the sum is that place's number, negated
pub minus_one : (low n j : ℕ) (ts : Terms) → AscendWith IsMultiplier low n ts
    → value_at ts (λ v. at_column v (negsuc 0) j) ≡ neg_ℤ (coef_at ts j)
minus_one low n j [] all = omega (arith, ints)
minus_one low n j (t ∷ ts) all =
    extra_which (t.0 == j) t.0 j t.1 (value_at ts (λ v. at_column v (negsuc 0) j)) (coef_at ts j)
    refl (λ l. none_below (t.0 + 1) n j ts all.3 l) (minus_one (t.0 + 1) n j ts all.3)

coef_which : (b : Bool) (a z : ℤ) → (pos 0) ≤ℤ a → (pos 0) ≤ℤ z → (pos 0) ≤ℤ cond b a z
coef_which true a z p q = p
coef_which false a z p q = q

pub coef_up : (low n : ℕ) (ts : Terms) (j : ℕ) → AscendWith (λ z. (pos 1) ≤ℤ z) low n ts
    → (pos 0) ≤ℤ coef_at ts j
coef_up low n [] j all = omega (arith, ints)
coef_up low n (t ∷ ts) j all =
    let one = all.2 in
    coef_which (t.0 == j) t.1 (coef_at ts j) (omega (arith, ints, one))
    (coef_up (t.0 + 1) n ts j all.3)

pub below_or : (v n : ℕ) → (v < n) ⊎ (n ≤ v)
below_or zero zero = inr (omega arith)
below_or zero (suc n) = inl (omega arith)
below_or (suc v) zero = inr (omega arith)
below_or (suc v) (suc n) =
    ⊎_elim (λ (h : v < n). inl (omega (arith, h))) (λ (h : n ≤ v). inr (omega (arith, h)))
    (below_or v n)

pub past_end : {A : Type 0} (xs : List A) (j : ℕ) (d : A) → length xs ≤ j → get_or xs j d ≡ d
past_end [] j d h = refl
past_end (x ∷ xs) zero d h = absurd (omega (arith, h))
past_end (x ∷ xs) (suc j) d h = past_end xs j d (omega (arith, h))
