-- Numbers that are listed where they aren't zero.
use Rattle.std.proofs.Common.{◌≡◌, ◌≢◌, ℕ, zero, suc, ◌+◌, ◌<◌, ◌≤◌, ◌==◌, arith, refl, sym, ap, ◌∙◌, ℤ, pos, negsuc, Bool, true, false, cond, List, [], ◌∷◌, ◌++◌, length, drop, drop-cons, append_assoc, get_or, add-one}
use Rattle.std.specs.List.{All}
use Rattle.std.proofs.lemmas.Bool.Decides.{nat_tests}
use Rattle.std.proofs.lemmas.List.Elements.{All-tail}
use Rattle.zr_base.specs.Steps.{IsNarrow}
use Rattle.zr_base.specs.Terms.{Ascends, Terms, coef_at}
use Rattle.zr_simplex.specs.Programs.{numbers}
use Rattle.zr_branch.specs.Columns.{is_zero, listed_from}

pub listed_step : (c : ℕ) (z : ℤ) (zs : List ℤ)
    → listed_from c (z ∷ zs) ≡ listed_from c (z ∷ []) ++ listed_from (suc c) zs
listed_step c z zs = which (is_zero z)
  where
    which : (b : Bool)
        → cond b (listed_from (suc c) zs) ((c, z) ∷ listed_from (suc c) zs)
        ≡ cond b [] ((c, z) ∷ []) ++ listed_from (suc c) zs
    which true = refl
    which false = refl

zero_if : (z : ℤ) → is_zero z ≡ true → z ≡ pos 0
zero_if (pos zero) e = refl
zero_if (pos (suc n)) e = absurd cc
zero_if (negsuc n) e = absurd cc

before_which : (c j : ℕ) (z : ℤ) (rest : Terms) (b : Bool) → j < c → coef_at rest j ≡ pos 0
    → coef_at (cond b rest ((c, z) ∷ rest)) j ≡ pos 0
before_which c j z rest true h e = e
before_which c j z rest false h e = let t : (c == j) ≡ false = grind (arith, nat_tests, h) in rw t e

pub listed_before : (c j : ℕ) (zs : List ℤ) → j < c → coef_at (listed_from c zs) j ≡ pos 0
listed_before c j [] h = refl
listed_before c j (z ∷ zs) h =
    before_which c j z (listed_from (suc c) zs) (is_zero z) h
    (listed_before (suc c) j zs (omega (arith, h)))

here_which : (c : ℕ) (z : ℤ) (rest : Terms) (b : Bool) → is_zero z ≡ b
    → coef_at rest (c + 0) ≡ pos 0 → coef_at (cond b rest ((c, z) ∷ rest)) (c + 0) ≡ z
here_which c z rest true e none = none ∙ sym (zero_if z e)
here_which c z rest false e none =
    let t : (c == c + 0) ≡ true = grind (arith, nat_tests) in rw t refl

later_which : (c j : ℕ) (z y : ℤ) (rest : Terms) (b : Bool) → coef_at rest (c + suc j) ≡ y
    → coef_at (cond b rest ((c, z) ∷ rest)) (c + suc j) ≡ y
later_which c j z y rest true e = e
later_which c j z y rest false e =
    let t : (c == c + suc j) ≡ false = grind (arith, nat_tests) in rw t e

pub listed_coef : (c j : ℕ) (zs : List ℤ) → coef_at (listed_from c zs) (c + j) ≡ numbers zs j
listed_coef c j [] = refl
listed_coef c zero (z ∷ zs) =
    here_which c z (listed_from (suc c) zs) (is_zero z) refl
    (listed_before (suc c) (c + 0) zs (omega arith))
listed_coef c (suc j) (z ∷ zs) =
    let e : c + suc j ≡ suc c + j = omega arith in
    later_which c j z (numbers zs j) (listed_from (suc c) zs) (is_zero z)
    (ap (λ (n : ℕ). coef_at (listed_from (suc c) zs) n) e ∙ listed_coef (suc c) j zs)

ascends_which : (low c n : ℕ) (z : ℤ) (rest : Terms) (b : Bool) → low ≤ c → c < n → IsNarrow z
    → ((from : ℕ) → from ≤ suc c → Ascends from n rest)
    → Ascends low n (cond b rest ((c, z) ∷ rest))
ascends_which low c n z rest true l below narrow all = all low (omega (arith, l))
ascends_which low c n z rest false l below narrow all =
    (l, below, narrow, all (c + 1) (omega arith))

pub listed_ascends : (low c n : ℕ) (zs : List ℤ) → low ≤ c → c + length zs ≡ n
    → All IsNarrow zs → Ascends low n (listed_from c zs)
listed_ascends low c n [] l e all = tt
listed_ascends low c n (z ∷ zs) l e all =
    ascends_which low c n z (listed_from (suc c) zs) (is_zero z) l (omega (arith, e))
    (all 0 z (omega arith))
    (λ from h. listed_ascends from (suc c) n zs h (omega (arith, e)) (All-tail IsNarrow z zs all))

-- one more number is listed
pub listed_more : (xs : List ℤ) (i : ℕ) (old made all : Terms) → i < length xs
    → made ≡ old ++ listed_from i (get_or xs i (pos 0) ∷ [])
    → old ++ listed_from i (drop i xs) ≡ all
    → made ++ listed_from (i + 1) (drop (i + 1) xs) ≡ all
listed_more xs i old made all h is e =
    let x = get_or xs i (pos 0) in
    rw (add-one i, is) (append_assoc old (listed_from i (x ∷ [])) (listed_from (suc i) (drop (suc i) xs)) ∙
    ap (λ (ts : Terms). old ++ ts) (sym (listed_step i x (drop (suc i) xs))) ∙
    ap (λ (zs : List ℤ). old ++ listed_from i zs) (sym (drop-cons xs i (pos 0) h)) ∙ e)
