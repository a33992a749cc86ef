-- The values that columns give.
use Rattle.std.proofs.Common.{◌≡◌, ◌≢◌, ℕ, zero, suc, ◌+◌, ◌<◌, ◌≤◌, ◌==◌, arith, refl, sym, ap, ap₂, ◌∙◌, ℤ, pos, negsuc, neg_ℤ, ◌+ℤ◌, ◌-ℤ◌, ◌*ℤ◌, Bool, true, false, cond, List, [], ◌∷◌, length, get_or}
use Rattle.std.proofs.lemmas.Int.{ints}
use Rattle.std.proofs.lemmas.Bool.Decides.{nat_tests}
use Rattle.zr_game.specs.Players.{VarOf}
use Rattle.zr_asked.specs.Parts.{Part, is_from_zero, parts_from, parts_of, value_by, value_from}
use Rattle.zr_branch.specs.Columns.{own_value, values_from, width}

pub values_count : (c : ℕ) (vars : List VarOf) (y : ℕ → ℤ) → length (values_from c vars y) ≡ length vars
values_count c [] y = refl
values_count c (var ∷ vars) y =
    ap suc (values_count (c + width (is_from_zero var.low)) vars y)

module _ (y : ℕ → ℤ) where
  hit : (w v : ℕ) (a : ℤ) → w ≡ v → cond (w == v) a (pos 0) ≡ a
  hit w v a e = let t : (w == v) ≡ true = grind (arith, nat_tests) in rw t refl

  miss : (w v : ℕ) (a : ℤ) → w ≢ v → cond (w == v) a (pos 0) ≡ pos 0
  miss w v a e = let t : (w == v) ≡ false = grind (arith, nat_tests) in rw t refl

  abbrev own : Bool → ℕ → List Part → List Part
  own b w rest = cond b ((w, pos 1) ∷ rest) ((w, pos 1) ∷ (w, negsuc 0) ∷ rest)

  -- columns of another variable give nothing to v
  own_apart : (b : Bool) (w c v : ℕ) (rest : List Part) → w ≢ v
      → value_from c (own b w rest) y v ≡ value_from (c + width b) rest y v
  own_apart true w c v rest n =
      let m = miss w v (pos 1 *ℤ y c) n in
      let e : suc c ≡ c + 1 = omega arith in
      let r = ap (λ (k : ℕ). value_from k rest y v) e in
      omega (arith, ints, m, r)
  own_apart false w c v rest n =
      let m = miss w v (pos 1 *ℤ y c) n in
      let k = miss w v (negsuc 0 *ℤ y (suc c)) n in
      let e : suc (suc c) ≡ c + 2 = omega arith in
      let r = ap (λ (j : ℕ). value_from j rest y v) e in
      omega (arith, ints, m, k, r)

  own_here : (b : Bool) (w c v : ℕ) (rest : List Part) → w ≡ v
      → ((k : ℕ) → value_from k rest y v ≡ pos 0)
      → value_from c (own b w rest) y v ≡ own_value b c y
  own_here true w c v rest e none =
      let m = hit w v (pos 1 *ℤ y c) e in
      let z = none (suc c) in
      omega (arith, ints, m, z)
  own_here false w c v rest e none =
      let m = hit w v (pos 1 *ℤ y c) e in
      let k = hit w v (negsuc 0 *ℤ y (suc c)) e in
      let z = none (suc (suc c)) in
      let n : suc c ≡ c + 1 = omega arith in
      let r = ap y n in
      omega (arith, ints, m, k, z, r)

  none_before : (w c v : ℕ) (vars : List VarOf) → v < w
      → value_from c (parts_from w vars) y v ≡ pos 0
  none_before w c v [] h = refl
  none_before w c v (var ∷ vars) h =
      own_apart (is_from_zero var.low) w c v (parts_from (suc w) vars) (omega (arith, h)) ∙
      none_before (suc w) (c + width (is_from_zero var.low)) v vars (omega (arith, h))

  values_at : (w c j : ℕ) (vars : List VarOf) → j < length vars
      → get_or (values_from c vars y) j (pos 0) ≡ value_from c (parts_from w vars) y (w + j)
  values_at w c j [] h = absurd (omega (arith, h))
  values_at w c zero (var ∷ vars) h =
      let e : w ≡ w + 0 = omega arith in
      sym (own_here (is_from_zero var.low) w c (w + 0) (parts_from (suc w) vars) e
      (λ k. none_before (suc w) k (w + 0) vars (omega arith)))
  values_at w c (suc j) (var ∷ vars) h =
      let e : suc w + j ≡ w + suc j = omega arith in
      values_at (suc w) (c + width (is_from_zero var.low)) j vars (omega (arith, h)) ∙
      ap (λ (v : ℕ). value_from (c + width (is_from_zero var.low)) (parts_from (suc w) vars) y v) e ∙
      sym (own_apart (is_from_zero var.low) w c (w + suc j) (parts_from (suc w) vars) (omega arith))

  pub values_are : (vars : List VarOf) (v : ℕ) → v < length vars
      → get_or (values_from 0 vars y) v (pos 0) ≡ value_by (parts_of vars) y v
  values_are vars v h =
      let e : 0 + v ≡ v = omega arith in
      values_at 0 0 v vars h ∙ ap (value_from 0 (parts_of vars) y) e

-- they depend on the columns alone
same_from : (c : ℕ) (parts : List Part) (y z : ℕ → ℤ) (v : ℕ)
    → ((k : ℕ) → c ≤ k → k < c + length parts → y k ≡ z k)
    → value_from c parts y v ≡ value_from c parts z v
same_from c [] y z v same = refl
same_from c (part ∷ parts) y z v same =
    ap₂ (λ (a b : ℤ). cond (part.0 == v) (part.1 *ℤ a) (pos 0) +ℤ b)
    (same c (omega arith) (omega arith))
    (same_from (suc c) parts y z v (λ k l h. same k (omega (arith, l)) (omega (arith, h))))

pub same_values : (parts : List Part) (y z : ℕ → ℤ) (v : ℕ)
    → ((k : ℕ) → k < length parts → y k ≡ z k) → value_by parts y v ≡ value_by parts z v
same_values parts y z v same =
    same_from 0 parts y z v (λ k l h. same k (omega (arith, h)))
