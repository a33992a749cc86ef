-- A run that comes to no basis twice makes few pivots.
use Rattle.std.proofs.Common.{◌≡◌, ℕ, zero, suc, ◌<◌, ◌≤◌, arith, refl, List, [], ◌∷◌, length}
use Rattle.std.specs.List.{All, AllPairs}
use Rattle.std.proofs.lemmas.List.Elements.{All-nil, All-cons}
use Rattle.std.proofs.lemmas.List.Kept.{AllPairs-cons}
use Rattle.zr_basis.specs.Choices.{choose}
use Rattle.zr_basis.specs.Bases.{IsBasis, IsOtherBasis}
use Rattle.zr_basis.proofs.Counting.{AllPairs-nil, few_bases}

-- the bases up to the one after t pivots, the last first
abbrev pub visited_by : (ℕ → ℕ → ℕ) → ℕ → List (ℕ → ℕ)
visited_by run zero = run zero ∷ []
visited_by run (suc t) = run (suc t) ∷ visited_by run t

-- they are bases, and no two of them are the same
record IsVisited (columns size pivots : ℕ) (visited : List (ℕ → ℕ)) : Type 0 where
  bases : All (IsBasis columns size) visited
  different : AllPairs (IsOtherBasis size) visited
  count : length visited ≡ suc pivots

module _ (columns size pivots : ℕ) (run : ℕ → ℕ → ℕ) (bases : (t : ℕ) → t ≤ pivots → IsBasis columns size (run t)) (different : (s t : ℕ) → s < t → t ≤ pivots → IsOtherBasis size (run s) (run t)) where
  turned : (u : ℕ) → u ≤ pivots → (t : ℕ) → t < u → IsOtherBasis size (run u) (run t)
  turned u h t p same = different t u p h (λ j. ((same j).1, (same j).0))

  other_than : (u : ℕ) → u ≤ pivots → (t : ℕ) → t < u → All (IsOtherBasis size (run u)) (visited_by run t)
  other_than u h zero p =
      All-cons (IsOtherBasis size (run u)) (run 0) [] (turned u h 0 p) (All-nil (IsOtherBasis size (run u)))
  other_than u h (suc t) p =
      All-cons (IsOtherBasis size (run u)) (run (suc t)) (visited_by run t) (turned u h (suc t) p) (other_than u h t (omega (arith, p)))

  run_visited : (t : ℕ) → t ≤ pivots → IsVisited columns size t (visited_by run t)
  run_visited zero h = record {
    bases = All-cons (IsBasis columns size) (run 0) [] (bases 0 h) (All-nil (IsBasis columns size));
    different = AllPairs-cons (IsOtherBasis size) (run 0) [] (All-nil (IsOtherBasis size (run 0))) (AllPairs-nil (IsOtherBasis size));
    count = refl;
  }
  run_visited (suc t) h =
      let before = run_visited t (omega (arith, h)) in
      record {
        bases = All-cons (IsBasis columns size) (run (suc t)) (visited_by run t) (bases (suc t) h) before.bases;
        different = AllPairs-cons (IsOtherBasis size) (run (suc t)) (visited_by run t) (other_than (suc t) h t (omega arith)) before.different;
        count = omega (arith, before.count);
      }

  pub few_in_run : pivots < choose columns size
  few_in_run =
      let all = run_visited pivots (omega arith) in
      let few = few_bases columns size (visited_by run pivots) all.bases all.different in
      omega (arith, few, all.count)
