-- As many bases, no two of them the same, as there are ways to choose their columns.
use Rattle.std.proofs.Common.{◌≡◌, ◌≢◌, ℕ, zero, suc, ◌+◌, ◌<◌, arith, refl, sym, ◌∙◌, List, [], ◌∷◌, length, ⊎_elim, if◌then◌else◌, ◌==◌}
use Rattle.std.specs.List.{All, AllPairs}
use Rattle.std.proofs.lemmas.Bool.{cases_eq}
use Rattle.std.proofs.lemmas.Bool.Decides.{nat_tests}
use Rattle.std.proofs.lemmas.List.Elements.{All-nil, All-head, All-tail, All-cons}
use Rattle.std.proofs.lemmas.List.Kept.{AllPairs-cons}
use Rattle.zr_basis.specs.Choices.{choose}
use Rattle.zr_basis.specs.Bases.{IsBasis, HasColumn, IsOtherBasis}
use Rattle.zr_basis.proofs.Counting.{pairs_head, pairs_tail, AllPairs-nil}

pub record Bases (columns size many : ℕ) : Type 0 where
  pub bases : List (ℕ → ℕ)
  pub are : All (IsBasis columns size) bases
  pub differ : AllPairs (IsOtherBasis size) bases
  pub count : length bases ≡ many

-- basis b, and column n after its k columns
abbrev with_last : ℕ → ℕ → (ℕ → ℕ) → ℕ → ℕ
with_last n k b j = if j == k then n else b j

module _ (n k : ℕ) where
  at_last : (b : ℕ → ℕ) (j : ℕ) → j ≡ k → with_last n k b j ≡ n
  at_last b j e = grind (arith, nat_tests)

  before_last : (b : ℕ → ℕ) (j : ℕ) → j ≢ k → with_last n k b j ≡ b j
  before_last b j e = grind (arith, nat_tests)

  is_basis : (b : ℕ → ℕ) → IsBasis n k b → IsBasis (suc n) (suc k) (with_last n k b)
  is_basis b is = record { below = below; different = different }
    where
      under : (j : ℕ) → j < suc k → j ≢ k → with_last n k b j < n
      under j h c =
          let a = is.below j (omega (arith, h, c)) in
          rw (before_last b j c) a

      below : (j : ℕ) → j < suc k → with_last n k b j < suc n
      below j h = ⊎_elim (λ (e : j ≡ k). rw (at_last b j e) (omega arith)) (λ (c : j ≢ k). let a = under j h c in omega (arith, a)) (cases_eq j k)

      different : (i j : ℕ) → i < suc k → j < suc k → i ≢ j → with_last n k b i ≢ with_last n k b j
      different i j h g c e = ⊎_elim (λ (p : i ≡ k). ⊎_elim (λ (q : j ≡ k). c (p ∙ sym q)) (λ (q : j ≢ k). let a = under j g q in omega (arith, a, e, at_last b i p)) (cases_eq j k)) (λ (p : i ≢ k). ⊎_elim (λ (q : j ≡ k). let a = under i h p in omega (arith, a, e, at_last b j q)) (λ (q : j ≢ k). is.different i j (omega (arith, h, p)) (omega (arith, g, q)) c (sym (before_last b i p) ∙ e ∙ before_last b j q)) (cases_eq j k)) (cases_eq i k)

  -- what has the same columns and column n has the same columns without it
  same_before : (b c : ℕ → ℕ) → IsBasis n k b → ((j : ℕ) → HasColumn (suc k) (with_last n k b) j → HasColumn (suc k) (with_last n k c) j) → (j : ℕ) → HasColumn k b j → HasColumn k c j
  same_before b c is f j h =
      let small : j < n = let a = is.below h.0 h.1 in omega (arith, a, h.2) in
      let g = f j (h.0, omega (arith, h.1), before_last b h.0 (λ e. omega (arith, e, h.1)) ∙ h.2) in
      let off : g.0 ≢ k = λ e. let a = at_last c g.0 e in omega (arith, a, g.2, small) in
      (g.0, omega (arith, g.1, off), sym (before_last c g.0 off) ∙ g.2)

  other_of_other : (b c : ℕ → ℕ) → IsBasis n k b → IsBasis n k c → IsOtherBasis k b c → IsOtherBasis (suc k) (with_last n k b) (with_last n k c)
  other_of_other b c is it other same =
      other (λ j. (same_before b c is (λ i. (same i).0) j, same_before c b it (λ i. (same i).1) j))

  other_of_below : (b c : ℕ → ℕ) → IsBasis n (suc k) c → IsOtherBasis (suc k) (with_last n k b) c
  other_of_below b c it same =
      let h = (same n).0 (k, omega arith, at_last b k refl) in
      let a = it.below h.0 h.1 in
      omega (arith, a, h.2)

  wider : (b : ℕ → ℕ) → IsBasis n (suc k) b → IsBasis (suc n) (suc k) b
  wider b is = record {
    below = λ j h. let a = is.below j h in omega (arith, a);
    different = is.different;
  }

  module _ (rest : List (ℕ → ℕ)) (rest_are : All (IsBasis n (suc k)) rest) (rest_differ : AllPairs (IsOtherBasis (suc k)) rest) where
    record Joined (bs : List (ℕ → ℕ)) : Type 0 where
      out : List (ℕ → ℕ)
      are : All (IsBasis (suc n) (suc k)) out
      differ : AllPairs (IsOtherBasis (suc k)) out
      count : length out ≡ length bs + length rest
      others : (b : ℕ → ℕ) → IsBasis n k b → All (IsOtherBasis k b) bs → All (IsOtherBasis (suc k) (with_last n k b)) out

    joined : (bs : List (ℕ → ℕ)) → All (IsBasis n k) bs → AllPairs (IsOtherBasis k) bs → Joined bs
    joined [] are differ = record {
      out = rest;
      are = λ i d q. wider _ (rest_are i d q);
      differ = rest_differ;
      count = omega arith;
      others = λ b is h i d q. other_of_below b _ (rest_are i d q);
    }
    joined (c ∷ cs) are differ =
        let r = joined cs (All-tail (IsBasis n k) c cs are) (pairs_tail (IsOtherBasis k) c cs differ) in
        let is = All-head (IsBasis n k) c cs are in
        record {
          out = with_last n k c ∷ r.out;
          are = All-cons (IsBasis (suc n) (suc k)) (with_last n k c) r.out (is_basis c is) r.are;
          differ = AllPairs-cons (IsOtherBasis (suc k)) (with_last n k c) r.out (r.others c is (pairs_head (IsOtherBasis k) c cs differ)) r.differ;
          count = omega (arith, r.count);
          others = λ b it h. All-cons (IsOtherBasis (suc k) (with_last n k b)) (with_last n k c) r.out (other_of_other b c it is (All-head (IsOtherBasis k b) c cs h)) (r.others b it (All-tail (IsOtherBasis k b) c cs h));
        }

pub as_many : (columns size : ℕ) → Bases columns size (choose columns size)
as_many columns zero = record {
  bases = (λ i. i) ∷ [];
  are = All-cons (IsBasis columns 0) (λ i. i) [] (record { below = λ i h. absurd (omega (arith, h)); different = λ i j h. absurd (omega (arith, h)) }) (All-nil (IsBasis columns 0));
  differ = AllPairs-cons (IsOtherBasis 0) (λ i. i) [] (All-nil (IsOtherBasis 0 (λ i. i))) (AllPairs-nil (IsOtherBasis 0));
  count = refl;
}
as_many zero (suc k) = record {
  bases = [];
  are = All-nil (IsBasis 0 (suc k));
  differ = AllPairs-nil (IsOtherBasis (suc k));
  count = refl;
}
as_many (suc n) (suc k) =
    let a = as_many n k in
    let b = as_many n (suc k) in
    let j = joined n k b.bases b.are b.differ a.bases a.are a.differ in
    record { bases = j.out; are = j.are; differ = j.differ; count = omega (arith, j.count, a.count, b.count) }
