-- Bases of which no two are the same are split by their last column, and counted.
use Rattle.std.proofs.Common.{◌≡◌, ℕ, zero, suc, ◌+◌, ◌^◌, ◌<◌, ◌≤◌, arith, refl, List, [], ◌∷◌, length, ⊎_elim}
use Rattle.std.specs.List.{All, AllPairs}
use Rattle.std.proofs.Math.Nat.{pow-succ'}
use Rattle.std.proofs.lemmas.Nat.{pow_pos}
use Rattle.std.proofs.lemmas.List.Elements.{All-nil, All-head, All-tail, All-cons}
use Rattle.std.proofs.lemmas.List.Kept.{AllPairs-cons}
use Rattle.zr_basis.specs.Choices.{choose}
use Rattle.zr_basis.specs.Bases.{IsBasis, HasColumn, IsSameBasis, IsOtherBasis}
use Rattle.zr_basis.proofs.TakenOut.{has_or_not, TakesOut, take_out, same_of_left, below_last}

pub pairs_head : {X : Type 0} (R : X → X → Type 0) (x : X) (xs : List X) → AllPairs R (x ∷ xs) → All (R x) xs
pairs_head R x xs h k d q = h 0 (suc k) d (omega arith) (omega (arith, q))

pub pairs_tail : {X : Type 0} (R : X → X → Type 0) (x : X) (xs : List X) → AllPairs R (x ∷ xs) → AllPairs R xs
pairs_tail R x xs h i j d p q = h (suc i) (suc j) d (omega (arith, p)) (omega (arith, q))

pub AllPairs-nil : {X : Type 0} (R : X → X → Type 0) → AllPairs R []
AllPairs-nil R i j d p q = absurd (omega (arith, q))

-- what the bases leave that have column n, and those that don't have it
record Split (n k : ℕ) (bases : List (ℕ → ℕ)) : Type 0 where
  left : List (ℕ → ℕ)
  others : List (ℕ → ℕ)
  count : length left + length others ≡ length bases
  left_bases : All (IsBasis n k) left
  other_bases : All (IsBasis n (suc k)) others
  left_differ : AllPairs (IsOtherBasis k) left
  others_differ : AllPairs (IsOtherBasis (suc k)) others
  from_left : (b w : ℕ → ℕ) → TakesOut n k b w → All (IsOtherBasis (suc k) b) bases → All (IsOtherBasis k w) left
  from_others : (b : ℕ → ℕ) → All (IsOtherBasis (suc k) b) bases → All (IsOtherBasis (suc k) b) others

split_none : (n k : ℕ) → Split n k []
split_none n k = record {
  left = [];
  others = [];
  count = refl;
  left_bases = All-nil (IsBasis n k);
  other_bases = All-nil (IsBasis n (suc k));
  left_differ = AllPairs-nil (IsOtherBasis k);
  others_differ = AllPairs-nil (IsOtherBasis (suc k));
  from_left = λ b w out h. All-nil (IsOtherBasis k w);
  from_others = λ b h. h;
}

-- one basis more, b, that is none of the others
module _ (n k : ℕ) (b : ℕ → ℕ) (bs : List (ℕ → ℕ)) (is : IsBasis (suc n) (suc k) b) (apart : All (IsOtherBasis (suc k) b) bs) (rest : Split n k bs) where
  with_it : HasColumn (suc k) b n → Split n k (b ∷ bs)
  with_it has =
      let t = take_out n k b is has in
      record {
        left = t.0 ∷ rest.left;
        others = rest.others;
        count = omega (arith, rest.count);
        left_bases = All-cons (IsBasis n k) t.0 rest.left (t.1).1 rest.left_bases;
        other_bases = rest.other_bases;
        left_differ = AllPairs-cons (IsOtherBasis k) t.0 rest.left (rest.from_left b t.0 t.1 apart) rest.left_differ;
        others_differ = rest.others_differ;
        from_left = λ c w out h. All-cons (IsOtherBasis k w) t.0 rest.left (λ same. All-head (IsOtherBasis (suc k) c) b bs h (same_of_left n k c b w t.0 out t.1 same)) (rest.from_left c w out (All-tail (IsOtherBasis (suc k) c) b bs h));
        from_others = λ c h. rest.from_others c (All-tail (IsOtherBasis (suc k) c) b bs h);
      }

  without_it : (HasColumn (suc k) b n → ⊥) → Split n k (b ∷ bs)
  without_it none = record {
    left = rest.left;
    others = b ∷ rest.others;
    count = omega (arith, rest.count);
    left_bases = rest.left_bases;
    other_bases = All-cons (IsBasis n (suc k)) b rest.others (below_last n (suc k) b is none) rest.other_bases;
    left_differ = rest.left_differ;
    others_differ = AllPairs-cons (IsOtherBasis (suc k)) b rest.others (rest.from_others b apart) rest.others_differ;
    from_left = λ c w out h. rest.from_left c w out (All-tail (IsOtherBasis (suc k) c) b bs h);
    from_others = λ c h. All-cons (IsOtherBasis (suc k) c) b rest.others (All-head (IsOtherBasis (suc k) c) b bs h) (rest.from_others c (All-tail (IsOtherBasis (suc k) c) b bs h));
  }

  split_more : Split n k (b ∷ bs)
  split_more = ⊎_elim with_it without_it (has_or_not (suc k) b n)

split : (n k : ℕ) (bases : List (ℕ → ℕ)) → All (IsBasis (suc n) (suc k)) bases → AllPairs (IsOtherBasis (suc k)) bases → Split n k bases
split n k [] are differ = split_none n k
split n k (b ∷ bs) are differ =
    split_more n k b bs (All-head (IsBasis (suc n) (suc k)) b bs are) (pairs_head (IsOtherBasis (suc k)) b bs differ) (split n k bs (All-tail (IsBasis (suc n) (suc k)) b bs are) (pairs_tail (IsOtherBasis (suc k)) b bs differ))

no_column : (a b : ℕ → ℕ) → IsSameBasis 0 a b
no_column a b j = ((λ h. absurd (omega (arith, h.1))), (λ h. absurd (omega (arith, h.1))))

one_at_most : (bases : List (ℕ → ℕ)) → AllPairs (IsOtherBasis 0) bases → length bases ≤ 1
one_at_most [] differ = omega arith
one_at_most (b ∷ []) differ = omega arith
one_at_most (b ∷ c ∷ bs) differ = absurd (All-head (IsOtherBasis 0 b) c bs (pairs_head (IsOtherBasis 0) b (c ∷ bs) differ) (no_column b c))

none_at_all : (k : ℕ) (bases : List (ℕ → ℕ)) → All (IsBasis 0 (suc k)) bases → length bases ≤ 0
none_at_all k [] are = omega arith
none_at_all k (b ∷ bs) are =
    let h = (All-head (IsBasis 0 (suc k)) b bs are).below 0 (omega arith) in
    absurd (omega (arith, h))

pub few_bases : (columns size : ℕ) (bases : List (ℕ → ℕ)) → All (IsBasis columns size) bases → AllPairs (IsOtherBasis size) bases → length bases ≤ choose columns size
few_bases columns zero bases are differ = one_at_most bases differ
few_bases zero (suc k) bases are differ = none_at_all k bases are
few_bases (suc n) (suc k) bases are differ =
    let s = split n k bases are differ in
    let a = few_bases n k s.left s.left_bases s.left_differ in
    let b = few_bases n (suc k) s.others s.other_bases s.others_differ in
    omega (arith, a, b, s.count)

-- there is at least one way to choose no more than there are
pub one_choice : (columns size : ℕ) → size ≤ columns → 0 < choose columns size
one_choice columns zero h = omega arith
one_choice zero (suc k) h = absurd (omega (arith, h))
one_choice (suc n) (suc k) h =
    let before = one_choice n k (omega (arith, h)) in
    omega (arith, before)

-- and no more than there are binary numbers with a digit for each thing
pub choices_below_power : (columns size : ℕ) → choose columns size ≤ 2 ^ columns
choices_below_power columns zero = pow_pos columns
choices_below_power zero (suc k) = omega arith
choices_below_power (suc n) (suc k) =
    let one = choices_below_power n k in
    let two = choices_below_power n (suc k) in
    let power = pow-succ' 2 n in
    omega (arith, one, two, power)
