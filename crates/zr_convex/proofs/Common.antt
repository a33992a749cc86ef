-- One denominator for finitely many facts, and one choice for finitely many numbers.
use Rattle.std.proofs.Common.{◌≡◌, ◌≢◌, ℕ, zero, suc, ◌<◌, arith, sym, subst, ℤ, pos, ◌*ℤ◌, ◌<ℤ◌, ⊎_elim, if◌then◌else◌, ◌==◌}
use Rattle.std.proofs.lemmas.Int.{ints}
use Rattle.std.proofs.lemmas.Bool.{cases_eq}
use Rattle.std.proofs.lemmas.Bool.Decides.{nat_tests}
use Rattle.std.proofs.Math.IntN.{*ℤ_comm}
use Rattle.zr_base.proofs.Divisors.{mul_positive}

-- facts that hold at every multiple of their denominators hold at a common one
pub common : (P : ℕ → ℤ → Type 0) → ((i : ℕ) (q m : ℤ) → (pos 0) <ℤ m → P i q → P i (q *ℤ m))
    → (n : ℕ) → ((i : ℕ) → i < n → (q : ℤ) × ((pos 0) <ℤ q) × P i q) → (q : ℤ) × ((pos 0) <ℤ q)
    × ((i : ℕ) → i < n → P i q)
common P scales zero f = (pos 1, omega (arith, ints), λ i h. absurd (omega arith))
common P scales (suc n) f = joined (common P scales n (λ i h. f i (omega arith)))
    (f n (omega arith))
  where
    joined : ((q : ℤ) × ((pos 0) <ℤ q) × ((i : ℕ) → i < n → P i q))
        → ((q : ℤ) × ((pos 0) <ℤ q) × P n q) → (q : ℤ) × ((pos 0) <ℤ q)
        × ((i : ℕ) → i < suc n → P i q)
    joined rest new = (
      rest.0 *ℤ new.0,
      mul_positive rest.0 new.0 rest.1 new.1,
      λ i h. ⊎_elim
          (λ (e : i ≡ n). subst (λ j. P j (rest.0 *ℤ new.0)) (sym e)
          (subst (P n) (*ℤ_comm new.0 rest.0) (scales n new.0 rest.0 rest.1 new.2)))
          (λ (c : i ≢ n). scales i rest.0 new.0 new.1 (rest.2 i (omega arith))) (cases_eq i n),
    )

pub choose : {A : Type 0} (P : ℕ → A → Type 0) (other : A) (n : ℕ)
    → ((i : ℕ) → i < n → (a : A) × P i a) → (f : ℕ → A) × ((i : ℕ) → i < n → P i (f i))
choose P other zero f = (λ i. other, λ i h. absurd (omega arith))
choose {A} P other (suc n) f = joined (choose P other n (λ i h. f i (omega arith)))
    (f n (omega arith))
  where
    at_n : (n : ℕ) (a b : A) → (if n == n then a else b) ≡ a
    at_n n a b = grind (arith, nat_tests)

    elsewhere : (i n : ℕ) (a b : A) → i ≢ n → (if i == n then a else b) ≡ b
    elsewhere i n a b c = grind (arith, nat_tests)

    joined : ((f : ℕ → A) × ((i : ℕ) → i < n → P i (f i))) → ((a : A) × P n a) → (f : ℕ → A)
        × ((i : ℕ) → i < suc n → P i (f i))
    joined rest new = (
      λ i. if i == n then new.0 else rest.0 i,
      λ i h. ⊎_elim
          (λ (e : i ≡ n). subst (λ j. P j (if j == n then new.0 else rest.0 j)) (sym e)
          (subst (P n) (sym (at_n n new.0 (rest.0 n))) new.1))
          (λ (c : i ≢ n). subst (P i) (sym (elsewhere i n new.0 (rest.0 i) c))
          (rest.1 i (omega arith))) (cases_eq i n),
    )
