-- Of a row `-x v <= le`, the column v and the row's slack aren't both in one equation with one sign.
use Rattle.std.proofs.Common.{◌≡◌, ◌≢◌, ℕ, ◌+◌, ◌<◌, ◌≤◌, arith, sym, ap, ◌∙◌, ℤ, pos, negsuc, neg_ℤ, ◌*ℤ◌, ◌<ℤ◌, ⊎_elim}
use Rattle.std.proofs.lemmas.Int.{ints}
use Rattle.std.proofs.lemmas.Bool.{cases_eq}
use Rattle.zr_base.proofs.Divisors.{cancel}
use Rattle.zr_basis.specs.Programs.{Program}
use Rattle.zr_basis.specs.BasicForms.{value_column, AreSlacks, IsBasicForm, IsBasicDirection}
use Rattle.zr_basis.proofs.Sums.{sum_to-single}
use Rattle.zr_basis.proofs.Values.{direction_slacks}
use Rattle.zr_basis.proofs.Solved.{direction, in_basis}

module _ (p : Program) (basis : ℕ → ℕ) (form : ℕ → ℕ → ℤ) (basic : IsBasicForm p basis form) where
  -- a column off the basis has a basic direction
  record HasDirection (col : ℕ) : Type 0 where
    x : ℕ → ℤ
    d : ℤ
    direction : IsBasicDirection p basis form col x d

  has_direction : (col : ℕ) → col < value_column p → ((k : ℕ) → k < p.rows → col ≢ basis k) → HasDirection col
  has_direction col below free =
      let found = direction p basis form basic col (below, free) in
      record { x = found.0; d = found.1; direction = found.2 }

  module _ (r v : ℕ) (row : r < p.rows) (column : v < p.columns) (minus : p.coef r v ≡ negsuc 0) (only : (j : ℕ) → j ≢ v → p.coef r j ≡ pos 0) where
    -- the slack goes with the column
    level : (x : ℕ → ℤ) → AreSlacks p x (pos 0) → x (p.columns + r) ≡ x v
    level x slacks =
        let one = sum_to-single p.columns v (λ j. p.coef r j *ℤ x j) column (λ j h a. ap (λ z. z *ℤ x j) (only j a) ∙ omega (arith, ints)) in
        let m : p.coef r v *ℤ x v ≡ neg_ℤ (x v) = rw minus (omega (arith, ints)) in
        let s = slacks r row in
        omega (arith, ints, one, m, s)

    -- what an equation's own column says, by other names
    seen : (x : ℕ → ℤ) (i k j h c : ℕ) (d : ℤ) → i ≡ k → j ≡ h → form i h *ℤ x h ≡ neg_ℤ (form i c) *ℤ d → form k j *ℤ x j ≡ neg_ℤ (form k c) *ℤ d
    seen x i k j h c d e s on = rw (← e, s) on

    -- where both are zero off the basis but one
    opposite : (own other d y : ℤ) → (pos 0) <ℤ d → own *ℤ y ≡ neg_ℤ other *ℤ d → y ≡ d → own ≡ neg_ℤ other
    opposite own other d y positive e s = cancel own (neg_ℤ other) d positive (sym (ap (λ z. own *ℤ z) s) ∙ e)

    module _ (k : ℕ) (inside : k ≤ p.rows) (first : form k v ≢ pos 0) (second : form k (p.columns + r) ≢ pos 0) where
      -- only equation k may have one of them as its own column
      only_k : (j i : ℕ) → form k j ≢ pos 0 → i < p.rows → j ≡ basis i → i ≡ k
      only_k j i apart h e = ⊎_elim (λ (s : i ≡ k). s) (λ (a : i ≢ k). absurd (apart (ap (form k) e ∙ basic.other k i inside (omega arith) (λ s. a (sym s))))) (cases_eq i k)

      -- the other one is off the basis
      other_free : (j l i : ℕ) → form k l ≢ pos 0 → i < p.rows → i ≡ k → j ≡ basis i → j ≢ l → (m : ℕ) → m < p.rows → l ≢ basis m
      other_free j l i apart h e f differ m q g =
          let s : m ≡ k = only_k l m apart q g in
          differ (f ∙ ap basis (e ∙ sym s) ∙ sym g)

      differ : v ≢ p.columns + r
      differ e = omega (arith, e, column)

      pub opposite_signs : form k v ≡ neg_ℤ (form k (p.columns + r))
      opposite_signs = ⊎_elim (λ (f : (i : ℕ) × (i < p.rows) × (v ≡ basis i)). v_in f) (λ (out : (i : ℕ) → i < p.rows → v ≢ basis i). ⊎_elim (λ (g : (i : ℕ) × (i < p.rows) × (p.columns + r ≡ basis i)). b_in out g) (λ (off : (i : ℕ) → i < p.rows → p.columns + r ≢ basis i). none out off) (in_basis basis p.rows (p.columns + r))) (in_basis basis p.rows v)
        where
          v_in : ((i : ℕ) × (i < p.rows) × (v ≡ basis i)) → form k v ≡ neg_ℤ (form k (p.columns + r))
          v_in f =
              let same : f.0 ≡ k = only_k v f.0 first f.1 f.2 in
              let free = other_free v (p.columns + r) f.0 second f.1 same f.2 differ in
              let way = has_direction (p.columns + r) (omega (arith, row)) free in
              let slacks = direction_slacks p basis form basic (p.columns + r) free (omega (arith, row)) way.x way.d way.direction in
              let e : way.x v ≡ way.d = sym (level way.x slacks) ∙ way.direction.raised in
              let on = seen way.x f.0 k v (basis f.0) (p.columns + r) way.d same f.2 (way.direction.on f.0 f.1) in
              opposite (form k v) (form k (p.columns + r)) way.d (way.x v) way.direction.positive on e

          b_in : ((i : ℕ) → i < p.rows → v ≢ basis i) → ((i : ℕ) × (i < p.rows) × (p.columns + r ≡ basis i)) → form k v ≡ neg_ℤ (form k (p.columns + r))
          b_in free g =
              let same : g.0 ≡ k = only_k (p.columns + r) g.0 second g.1 g.2 in
              let way = has_direction v (omega (arith, column)) free in
              let slacks = direction_slacks p basis form basic v free (omega (arith, column)) way.x way.d way.direction in
              let e : way.x (p.columns + r) ≡ way.d = level way.x slacks ∙ way.direction.raised in
              let on = seen way.x g.0 k (p.columns + r) (basis g.0) v way.d same g.2 (way.direction.on g.0 g.1) in
              let s = opposite (form k (p.columns + r)) (form k v) way.d (way.x (p.columns + r)) way.direction.positive on e in
              omega (arith, ints, s)

          none : ((i : ℕ) → i < p.rows → v ≢ basis i) → ((i : ℕ) → i < p.rows → p.columns + r ≢ basis i) → form k v ≡ neg_ℤ (form k (p.columns + r))
          none free off =
              let way = has_direction v (omega (arith, column)) free in
              let slacks = direction_slacks p basis form basic v free (omega (arith, column)) way.x way.d way.direction in
              let e : way.x (p.columns + r) ≡ way.d = level way.x slacks ∙ way.direction.raised in
              let z : way.x (p.columns + r) ≡ pos 0 = way.direction.off (p.columns + r) (omega (arith, row)) (λ s. differ (sym s)) off in
              let q = way.direction.positive in
              absurd (omega (arith, ints, e, z, q))
