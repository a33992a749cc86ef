-- A list whose items ascend in an order, told by tests of neighbours.
use Rattle.std.proofs.Common.{◌≡◌, ◌↔◌, ◌≢◌, ℕ, suc, zero, ◌+◌, ◌-◌, ◌<◌, ◌≤◌, arith, refl, sym, subst, ◌∙◌, ap₂, Bool, true, ◌&&◌, IsTrue, List, length, get_or, AllPairs, ⊎_elim}
use Rattle.std.specs.declared.cmp.Ordering.{Ordering}
use Rattle.std.specs.declared.cmp.Ordering.TheVariants.{Less}
use Rattle.std.proofs.lemmas.Bool.{cases_eq}
use Rattle.zr_base.proofs.SumSteps.{get_or_default}
use Rattle.zr_base.proofs.Telling.{both_true, true_both}

module _ {A : Type 0} (order : A → A → Ordering) where
  abbrev IsBefore : A → A → Type 0
  IsBefore s t = order s t ≡ Less

  -- each item from the second up to k stands after the one before it
  abbrev AreBefore : List A → ℕ → Type 0
  AreBefore ts k = (j : ℕ) (d : A) → suc j < k → suc j < length ts →
      IsBefore (get_or ts j d) (get_or ts (suc j) d)

  -- `all` tells whether the first k items ascend
  pub record InOrder (ts : List A) (k : ℕ) (all : Bool) : Type 0 where
    pub told : IsTrue all ↔ AreBefore ts k

  pub none_order : (ts : List A) → InOrder ts 1 true
  none_order ts = record {
    told = (λ h j d below within. absurd (omega arith), λ h. refl);
  }

  other : (ts : List A) (j : ℕ) (d e : A) → suc j < length ts →
      IsBefore (get_or ts j d) (get_or ts (suc j) d) → IsBefore (get_or ts j e) (get_or ts (suc j) e)
  other ts j d e here h =
      let first = get_or_default ts j e d (omega arith) in
      ap₂ order first (get_or_default ts (suc j) e d here) ∙ h

  more_after : (ts : List A) (j : ℕ) (d : A) → suc j < length ts → (all : Bool) →
      InOrder ts (suc j) all → (b : Bool) →
      (IsTrue b ↔ IsBefore (get_or ts j d) (get_or ts (suc j) d)) →
      InOrder ts (suc (suc j)) (all && b)
  more_after ts j d here all before b told = record { told = (to, of) }
    where
      to : IsTrue (all && b) → AreBefore ts (suc (suc j))
      to h i e below within =
          let both = both_true all b h in
          ⊎_elim
          (λ (n : i ≡ j).
          subst (λ m. IsBefore (get_or ts m e) (get_or ts (suc m) e)) (sym n)
          (other ts j d e here (told.0 both.1)))
          (λ (n : i ≢ j). before.told.0 both.0 i e (omega arith) within)
          (cases_eq i j)

      of : AreBefore ts (suc (suc j)) → IsTrue (all && b)
      of h =
          let up = before.told.1 (λ i e below within. h i e (omega arith) within) in
          true_both all b up (told.1 (h j d (omega arith) here))

  pub more_order : (ts : List A) (k : ℕ) (d : A) → 1 ≤ k → k < length ts → (all : Bool) →
      InOrder ts k all → (b : Bool) →
      (IsTrue b ↔ IsBefore (get_or ts (k - 1) d) (get_or ts k d)) → InOrder ts (k + 1) (all && b)
  more_order ts zero d least here all before b told = absurd (omega arith)
  more_order ts (suc j) d least here all before b told =
      let first : suc j - 1 ≡ j = omega arith in
      let next : suc j + 1 ≡ suc (suc j) = omega arith in
      rw next (more_after ts j d here all before b (rw first at told))

  -- an order that can be followed from item to item
  abbrev pub IsTransitive : Type 0
  IsTransitive = (x y z : A) → IsBefore x y → IsBefore y z → IsBefore x z

  module _ (trans : IsTransitive) where
    -- each item stands after all before it
    pairs_of : (ts : List A) →
        ((j : ℕ) (d : A) → suc j < length ts → IsBefore (get_or ts j d) (get_or ts (suc j) d)) →
        (i j : ℕ) (d : A) → i < j → j < length ts → IsBefore (get_or ts i d) (get_or ts j d)
    pairs_of ts next i zero d below within = absurd (omega arith)
    pairs_of ts next i (suc j) d below within =
        ⊎_elim
        (λ (e : i ≡ j).
        subst (λ n. IsBefore (get_or ts n d) (get_or ts (suc j) d)) (sym e) (next j d within))
        (λ (n : i ≢ j).
        let up = pairs_of ts next i j d (omega arith) (omega arith) in
        trans (get_or ts i d) (get_or ts j d) (get_or ts (suc j) d) up (next j d within))
        (cases_eq i j)

    pub in_order : (ts : List A) (k : ℕ) (all : Bool) → length ts ≤ k → InOrder ts k all →
        IsTrue all ↔ AllPairs (λ s t. order s t ≡ Less) ts
    in_order ts k all end t = (
      λ h i j d below within.
          pairs_of ts (λ i d within. t.told.0 h i d (omega arith) within) i j d below within,
      λ h. t.told.1 (λ j d below within. h j (suc j) d (omega arith) within),
    )
