-- Sums of the lines of a list's items.
use Rattle.std.proofs.Common.{◌≡◌, ℕ, zero, suc, ◌+◌, ◌≤◌, arith, ap, Some, List, [], ◌∷◌, take, slice_get}
use Rattle.zr_cert.specs.Lines.{sum_lines}

module _ {A : Type 0} (count : A → ℕ) where
  pub lines_more : (xs : List A) (i : ℕ) (x : A) → slice_get xs i ≡ Some x → sum_lines count (take (suc i) xs) ≡ sum_lines count (take i xs) + count x
  lines_more [] i x is = absurd cc
  lines_more (y ∷ ys) zero x is =
      let e : y ≡ x = cc in
      let c = ap count e in
      omega (arith, c)
  lines_more (y ∷ ys) (suc i) x is = let r = lines_more ys i x is in omega (arith, r)

  pub lines_within : (xs : List A) (i : ℕ) → sum_lines count (take i xs) ≤ sum_lines count xs
  lines_within [] zero = omega arith
  lines_within [] (suc i) = omega arith
  lines_within (y ∷ ys) zero = omega arith
  lines_within (y ∷ ys) (suc i) = let r = lines_within ys i in omega (arith, r)
