-- What the basic form says at the end.
use Rattle.std.proofs.Common.{◌≡◌, ◌≢◌, ℕ, zero, suc, ◌+◌, ◌<◌, ◌≤◌, arith, refl, sym, ap, ◌∙◌, ℤ, pos, negsuc, neg_ℤ, ◌+ℤ◌, ◌-ℤ◌, ◌*ℤ◌, ◌<ℤ◌, ◌≤ℤ◌, Bool, true, false, List, [], ◌∷◌, map, length, get_or, All}
use Rattle.std.proofs.lemmas.Int.{ints}
use Rattle.std.proofs.lemmas.List.{length-map}
use Rattle.zr_base.specs.Sums.{sum_products, sum_to}
use Rattle.zr_base.specs.Terms.{Ascends, Terms, coef_at, value_at}
use Rattle.zr_base.specs.Points.{PointOf, num_of}
use Rattle.zr_base.specs.Steps.{IsNarrow}
use Rattle.zr_base.proofs.Ring.{neg-mul_left}
use Rattle.zr_base.proofs.Dense.{sum_to_same, value_dense}
use Rattle.zr_base.proofs.SumSteps.{get_or_default}
use Rattle.zr_lin.specs.DenseRows.{IsBelow}
use Rattle.zr_lin.specs.Ineqs.{IneqHolds, IneqOf, dense, ineq_of, row_at}
use Rattle.zr_simplex.specs.declared.program.Lp.{Lp}
use Rattle.zr_basis.specs.Programs.{aim_at}
use Rattle.zr_simplex.specs.Programs.{program_of, lp_rows, IsLp, numbers}
use Rattle.zr_basis.specs.BasicForms.{value_column, right_column, AreSlacks}
use Rattle.zr_simplex.specs.Dues.{IsTableau}
use Rattle.zr_simplex.specs.Tableaus.{Equations, basis_of, form_of}
use Rattle.zr_simplex.specs.Answers.{weighed, signed, IsLow, AreListed, IsFeasiblePoint, IsBest, IsEmpty, IsUnbounded, IsBasicPoint, IsBasicRay, AreOf}
use Rattle.zr_basis.proofs.Values.{solution_slacks, solution_value, solution_nonnegative, direction_slacks, direction_value, direction_nonnegative, free_if}
use Rattle.zr_simplex.proofs.Low.{opposite_signs}

neg_sum : (n : ℕ) (e a : ℕ → ℤ) → sum_to n (λ r. neg_ℤ (e r) *ℤ a r) ≡ neg_ℤ (sum_to n (λ r. e r *ℤ a r))
neg_sum zero e a = refl
neg_sum (suc n) e a =
    let r = neg_sum n e a in
    let m = neg-mul_left (e n) (a n) in
    omega (arith, ints, r, m)

below_if : (strict : Bool) (a b : ℤ) → strict ≡ false → a ≤ℤ b → IsBelow strict a b
below_if true a b e h = absurd cc
below_if false a b e h = h

-- the products of multipliers with numbers are a value
products_value : (mult : Terms) (a : ℕ → ℤ) → sum_products (map (λ t. (t.1, a t.0)) mult) ≡ value_at mult a
products_value [] a = refl
products_value (t ∷ ts) a = ap (λ z. t.1 *ℤ a t.0 +ℤ z) (products_value ts a)

-- two numbers of one sign aren't opposite
one_sign : (negated : Bool) (a b : ℤ) → (pos 0) ≤ℤ signed negated a → (pos 0) ≤ℤ signed negated b → a ≡ neg_ℤ b → signed negated a ≡ pos 0
one_sign true a b p q e = omega (arith, ints, p, q, e)
one_sign false a b p q e = omega (arith, ints, p, q, e)

apart_signed : (negated : Bool) (a : ℤ) → signed negated a ≢ pos 0 → a ≢ pos 0
apart_signed true a h e = h (omega (arith, ints, e))
apart_signed false a h e = h e

module _ (lp : Lp) (good : IsLp lp) where
  -- each row holds where its slack isn't negative
  rows_hold : (x : ℕ → ℤ) (d : ℤ) (num : ℕ → ℤ) → AreSlacks (program_of lp) x d → ((j : ℕ) → j < lp.columns + length lp.rows.items → (pos 0) ≤ℤ x j) → ((j : ℕ) → j < lp.columns → num j ≡ x j) → All (IneqHolds num d) (lp_rows lp)
  rows_hold x d num slacks up same k e h =
      let none : IneqOf = record { coef = []; le = pos 0; strict = false } in
      let row = get_or (lp_rows lp) k e in
      let q : k < length lp.rows.items = rw (length-map lp.rows.items ineq_of) at h in
      let is : dense row ≡ row_at (lp_rows lp) k = ap dense (get_or_default (lp_rows lp) k e none h) in
      let long = value_dense 0 lp.columns row.coef num (good.rows k e h).0 in
      let coefs = sum_to_same lp.columns (λ j. coef_at row.coef j *ℤ num j) (λ j. (program_of lp).coef k j *ℤ x j) (λ j i. ap (λ z. z *ℤ num j) (ap (λ r. r.coef j) is) ∙ ap (λ z. (program_of lp).coef k j *ℤ z) (same j i)) in
      let le : row.le ≡ (program_of lp).le k = ap (λ r. r.le) is in
      let right : row.le *ℤ d ≡ (program_of lp).le k *ℤ d = ap (λ z. z *ℤ d) le in
      let s = slacks k q in
      let u = up (lp.columns + k) (omega (arith, q)) in
      below_if row.strict (value_at row.coef num) (row.le *ℤ d) (good.weak k e h) (omega (arith, ints, long, coefs, right, s, u))

  aim_same : (x num : ℕ → ℤ) → ((j : ℕ) → j < lp.columns → num j ≡ x j) → aim_at (program_of lp) num ≡ aim_at (program_of lp) x
  aim_same x num same =
      sum_to_same lp.columns (λ j. numbers lp.aim.items j *ℤ num j) (λ j. numbers lp.aim.items j *ℤ x j) (λ j q. ap (λ z. numbers lp.aim.items j *ℤ z) (same j q))

  -- a listed combination of the rows, by the equation that it was read off
  module _ (e : ℕ → ℤ) (mult extra : Terms) (ascends : Ascends 0 (length lp.rows.items) mult) where
    weighed_plain : AreOf (program_of lp) e false mult extra → (a : ℕ → ℤ) → sum_products (map (λ t. (t.1, a t.0)) mult) ≡ sum_to (length lp.rows.items) (λ r. e (lp.columns + r) *ℤ a r)
    weighed_plain of a =
        products_value mult a ∙ value_dense 0 (length lp.rows.items) mult a ascends ∙ sum_to_same (length lp.rows.items) (λ r. coef_at mult r *ℤ a r) (λ r. e (lp.columns + r) *ℤ a r) (λ r h. ap (λ z. z *ℤ a r) (of.multipliers r h))

    weighed_negated : AreOf (program_of lp) e true mult extra → (a : ℕ → ℤ) → sum_products (map (λ t. (t.1, a t.0)) mult) ≡ neg_ℤ (sum_to (length lp.rows.items) (λ r. e (lp.columns + r) *ℤ a r))
    weighed_negated of a =
        products_value mult a ∙ value_dense 0 (length lp.rows.items) mult a ascends ∙ sum_to_same (length lp.rows.items) (λ r. coef_at mult r *ℤ a r) (λ r. neg_ℤ (e (lp.columns + r)) *ℤ a r) (λ r h. ap (λ z. z *ℤ a r) (of.multipliers r h)) ∙ neg_sum (length lp.rows.items) (λ r. e (lp.columns + r)) a

  module _ (t : Equations) (kept : IsTableau (program_of lp) t) where
    -- a row `-x v <= le` and the extra of v aren't both listed
    pub lists_apart : (k : ℕ) (negated : Bool) (mult extra : Terms) → k ≤ length lp.rows.items → ((j : ℕ) → j < lp.columns + length lp.rows.items → (pos 0) ≤ℤ signed negated (form_of t k j)) → AreOf (program_of lp) (form_of t k) negated mult extra → (r v : ℕ) → r < length lp.rows.items → v < lp.columns → IsLow (row_at (lp_rows lp) r) v → coef_at mult r ≢ pos 0 → coef_at extra v ≡ pos 0
    lists_apart k negated mult extra inside sign of r v row column low listed =
        let a = form_of t k v in
        let b = form_of t k (lp.columns + r) in
        let second : b ≢ pos 0 = apart_signed negated b (λ z. listed (of.multipliers r row ∙ z)) in
        of.extras v column ∙ zero_or a b negated (sign v (omega (arith, column))) (sign (lp.columns + r) (omega (arith, row))) (λ first. opposite_signs (program_of lp) (basis_of t) (form_of t) kept.form r v row column low.0 low.1 k inside first second)
      where
        zero_or : (a b : ℤ) (negated : Bool) → (pos 0) ≤ℤ signed negated a → (pos 0) ≤ℤ signed negated b → (a ≢ pos 0 → a ≡ neg_ℤ b) → signed negated a ≡ pos 0
        zero_or (pos zero) b true p q h = omega (arith, ints)
        zero_or (pos zero) b false p q h = refl
        zero_or (pos (suc n)) b negated p q h =
            one_sign negated (pos (suc n)) b p q (h (λ e. cc))
        zero_or (negsuc n) b negated p q h =
            one_sign negated (negsuc n) b p q (h (λ e. cc))

    pub feasible : (point : PointOf) → IsBasicPoint (program_of lp) (basis_of t) (form_of t) point → ((i : ℕ) → i < length lp.rows.items → (pos 0) ≤ℤ form_of t i (right_column (program_of lp))) → IsFeasiblePoint lp point
    feasible point of rights =
        let slacks = solution_slacks (program_of lp) (basis_of t) (form_of t) kept.form of.all point.den of.solution in
        let up = solution_nonnegative (program_of lp) (basis_of t) (form_of t) kept.form of.all point.den of.solution rights in
        record {
          len = of.len;
          nonnegative = λ j h. rw (of.same j h) (up j (omega (arith, h)));
          rows = (of.solution.positive, rows_hold of.all point.den (num_of point) slacks up of.same);
        }

    empty_column : (e v a s x : ℤ) → e ≡ s -ℤ v *ℤ a → v ≡ pos 0 → x ≡ s → x ≡ e
    empty_column e v a s x h z k =
        let m = ap (λ q. q *ℤ a) z in
        omega (arith, ints, h, m, k)

    pub empty : (row : ℕ) (mult extra : Terms) → row < length lp.rows.items → form_of t row (right_column (program_of lp)) <ℤ (pos 0) → Ascends 0 (length lp.rows.items) mult → AreListed lp mult extra → AreOf (program_of lp) (form_of t row) false mult extra → IsEmpty lp mult extra
    empty row mult extra h below ascends listed of =
        let m = length lp.rows.items in
        let e = form_of t row in
        let c = kept.form.combination row (omega (arith, h)) in
        let zero : e (lp.columns + m) ≡ pos 0 = ap e (sym kept.form.value) ∙ kept.form.other row m (omega (arith, h)) (omega arith) (λ s. let q : row < m = h in omega (arith, s, q)) in
        record {
          listed = listed;
          columns = λ j q. empty_column (e j) (e (lp.columns + m)) (numbers lp.aim.items j) (sum_to m (λ r. e (lp.columns + r) *ℤ (program_of lp).coef r j)) ((weighed lp mult).coef j) (c.columns j q) zero (weighed_plain e mult extra ascends of (λ r. (program_of lp).coef r j)) ∙ sym (of.extras j q);
          right = rw (weighed_plain e mult extra ascends of (program_of lp).le ∙ sym c.right) below;
        }

    best_column : (e v a s x : ℤ) → e ≡ s -ℤ v *ℤ a → x ≡ neg_ℤ s → v *ℤ a +ℤ x ≡ neg_ℤ e
    best_column e v a s x h k = omega (arith, ints, h, k)

    pub best : (point : PointOf) (mult extra : Terms) → IsBasicPoint (program_of lp) (basis_of t) (form_of t) point → ((i : ℕ) → i < length lp.rows.items → (pos 0) ≤ℤ form_of t i (right_column (program_of lp))) → Ascends 0 (length lp.rows.items) mult → AreListed lp mult extra → AreOf (program_of lp) (form_of t (length lp.rows.items)) true mult extra → IsNarrow (form_of t (length lp.rows.items) (value_column (program_of lp))) → IsNarrow (form_of t (length lp.rows.items) (right_column (program_of lp))) → IsBest lp point (form_of t (length lp.rows.items) (value_column (program_of lp))) (form_of t (length lp.rows.items) (right_column (program_of lp))) mult extra
    best point mult extra point_of rights ascends listed of narrow_scale narrow_value =
        let m = length lp.rows.items in
        let e = form_of t m in
        let c = kept.form.combination m (omega arith) in
        let own : (pos 0) <ℤ e (lp.columns + m) = rw (← kept.form.value) (kept.form.own m (omega arith)) in
        let value = solution_value (program_of lp) (basis_of t) (form_of t) kept.form point_of.all point.den point_of.solution in
        let aim = aim_same point_of.all (num_of point) point_of.same in
        let right : neg_ℤ (weighed lp mult).le ≡ e (right_column (program_of lp)) = (let w = weighed_negated e mult extra ascends of (program_of lp).le in let r = c.right in omega (arith, ints, w, r)) in
        record {
          feasible = feasible point point_of rights;
          listed = listed;
          scale_above = omega (arith, ints, own);
          columns = λ j q. best_column (e j) (e (lp.columns + m)) (numbers lp.aim.items j) (sum_to m (λ r. e (lp.columns + r) *ℤ (program_of lp).coef r j)) ((weighed lp mult).coef j) (c.columns j q) (weighed_negated e mult extra ascends of (λ r. (program_of lp).coef r j)) ∙ sym (of.extras j q);
          right = sym right;
          value = rw aim (sym value);
          narrow = (narrow_scale, narrow_value);
        }

    pub unbounded : (col : ℕ) (point : PointOf) (ray : List ℤ) → col < value_column (program_of lp) → IsBasicPoint (program_of lp) (basis_of t) (form_of t) point → IsBasicRay (program_of lp) (basis_of t) (form_of t) col ray → ((i : ℕ) → i < length lp.rows.items → (pos 0) ≤ℤ form_of t i (right_column (program_of lp))) → (pos 0) <ℤ form_of t (length lp.rows.items) col → ((i : ℕ) → i < length lp.rows.items → form_of t i col ≤ℤ (pos 0)) → IsUnbounded lp point ray
    unbounded col point ray below point_of of rights above under =
        let free = free_if (program_of lp) (basis_of t) (form_of t) kept.form col (λ z. omega (arith, ints, above, z)) in
        let slacks = direction_slacks (program_of lp) (basis_of t) (form_of t) kept.form col free below of.all of.raise of.direction in
        let up = direction_nonnegative (program_of lp) (basis_of t) (form_of t) kept.form col free below of.all of.raise of.direction under in
        record {
          feasible = feasible point point_of rights;
          len = of.len;
          nonnegative = λ j h. rw (of.same j h) (up j (omega (arith, h)));
          rows = rows_hold of.all (pos 0) (numbers ray) slacks up of.same;
          falls = rw (aim_same of.all (numbers ray) of.same) (direction_value (program_of lp) (basis_of t) (form_of t) kept.form col free below of.all of.raise of.direction above);
        }
