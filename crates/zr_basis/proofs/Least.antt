-- The first marked one of some that none of them is below, found one after the other.
use Rattle.std.proofs.Common.{◌≡◌, ◌≢◌, ℕ, ◌+◌, ◌<◌, arith, subst, Option, None, Some, MatchOption, ◌⊎◌, ⊎_elim}
use Rattle.std.proofs.lemmas.Bool.{cases_eq}

-- of the first n, r is marked, and no marked one is below it
pub record IsLeast (Marked : ℕ → Type 0) (Below : ℕ → ℕ → Type 0) (n r : ℕ) : Type 0 where
  pub inside : r < n
  pub marked : Marked r
  pub least : (i : ℕ) → i < n → Marked i → Below i r → ⊥

-- the best of the first n, if any is marked
abbrev pub IsBestSoFar : (ℕ → Type 0) → (ℕ → ℕ → Type 0) → ℕ → Option ℕ → Type 0
IsBestSoFar Marked Below n best =
    MatchOption best ((i : ℕ) → i < n → Marked i → ⊥) (IsLeast Marked Below n)

-- the better one of the best so far and a new one
abbrev pub IsBetter : (ℕ → ℕ → Type 0) → Option ℕ → ℕ → ℕ → Type 0
IsBetter Below best n result =
    MatchOption best (result ≡ n) (λ last. ((result ≡ n) × Below n last) ⊎ ((result ≡ last) × (Below n last → ⊥)))

module _ (Marked : ℕ → Type 0) (Below : ℕ → ℕ → Type 0) where
  pub at_none : IsBestSoFar Marked Below 0 None
  at_none i h m = absurd (omega arith)

  kept : (n r : ℕ) → IsLeast Marked Below n r → (Marked n → Below n r → ⊥) → IsLeast Marked Below (n + 1) r
  kept n r before never = record {
    inside = omega (arith, before.inside);
    marked = before.marked;
    least = λ i h m b. ⊎_elim (λ (e : i ≡ n). never (subst Marked e m) (subst (λ z. Below z r) e b)) (λ (a : i ≢ n). before.least i (omega (arith, h, a)) m b) (cases_eq i n);
  }

  pub one_unmarked : (n : ℕ) (best : Option ℕ) → (Marked n → ⊥) → IsBestSoFar Marked Below n best → IsBestSoFar Marked Below (n + 1) best
  one_unmarked n None never before = λ i h m. ⊎_elim (λ (e : i ≡ n). never (subst Marked e m)) (λ (a : i ≢ n). before i (omega (arith, h, a)) m) (cases_eq i n)
  one_unmarked n (Some last) never before = kept n last before (λ m b. never m)

  pub one_marked : ((i k m : ℕ) → Marked i → Marked k → Marked m → Below i k → Below k m → Below i m) → ((i : ℕ) → Marked i → Below i i → ⊥) → (n : ℕ) (best : Option ℕ) (result : ℕ) → Marked n → IsBestSoFar Marked Below n best → IsBetter Below best n result → IsLeast Marked Below (n + 1) result
  one_marked chain self n None result mark before is = rw is (record {
    inside = omega arith;
    marked = mark;
    least = λ i h m b. ⊎_elim (λ (e : i ≡ n). self n mark (subst (λ z. Below z n) e b)) (λ (a : i ≢ n). before i (omega (arith, h, a)) m) (cases_eq i n);
  })
  one_marked chain self n (Some last) result mark before is = ⊎_elim new (λ (old : (result ≡ last) × (Below n last → ⊥)). rw old.0 (kept n last before (λ m b. old.1 b))) is
    where
      new : (result ≡ n) × Below n last → IsLeast Marked Below (n + 1) result
      new taken = rw taken.0 (record {
        inside = omega arith;
        marked = mark;
        least = λ i h m b. ⊎_elim (λ (e : i ≡ n). self n mark (subst (λ z. Below z n) e b)) (λ (a : i ≢ n). before.least i (omega (arith, h, a)) m (chain i n last m mark before.marked b taken.1)) (cases_eq i n);
      })
