-- The lexicographic rule of the dual method keeps the directions positive, and the basic solution rises.
use Rattle.std.proofs.Common.{◌≡◌, ◌≢◌, ℕ, zero, suc, ◌+◌, ◌-◌, ◌<◌, ◌≤◌, arith, refl, sym, ap, ◌∙◌, ℤ, pos, neg_ℤ, ◌+ℤ◌, ◌-ℤ◌, ◌*ℤ◌, ◌<ℤ◌, ◌≤ℤ◌, ◌⊎◌, ⊎_elim}
use Rattle.std.proofs.lemmas.Int.{ints}
use Rattle.std.proofs.lemmas.Bool.{cases_eq}
use Rattle.zr_base.proofs.Divisors.{mul_positive}
use Rattle.std.proofs.Math.IntN.{*ℤ_comm}
use Rattle.zr_basis.specs.Programs.{Program, aim_at}
use Rattle.zr_basis.specs.BasicForms.{value_column, right_column, IsFree, IsBasicForm, IsBasicSolution, IsBasicDirection}
use Rattle.zr_basis.specs.Orders.{Order, IsOrder, IsColumnOrder, IsValueOrder, entry_at, in_order}
use Rattle.zr_basis.specs.Stages.{IsDualFeasibleForm}
use Rattle.zr_basis.specs.Bases.{Exchanges}
use Rattle.zr_basis.specs.Vectors.{IsLeading}
use Rattle.zr_basis.specs.Dual.{AreDirectionsPositive, IsDualDue, Rises}
use Rattle.zr_basis.proofs.Signs.{sign, side, above_apart, nonnegative_mul, nonnegative_factor}
use Rattle.zr_basis.proofs.Vectors.{IsNought, in_proportion, leading_sum, leading_sum_nought, same_leading, three_ways, times_leading}
use Rattle.zr_basis.proofs.Turned.{turned, turned_own, own_after, own_here}
use Rattle.zr_basis.proofs.Solved.{in_basis, columns_apart, direction, solution}
use Rattle.zr_basis.proofs.Values.{direction_aim}
use Rattle.zr_basis.proofs.Ordered.{entry_before, entry_value, entry_mixed, entries_scaled}
use Rattle.zr_basis.proofs.Primal.{leading_first}
use Rattle.zr_basis.proofs.DualNumbers.{old_raised, old_on, old_row, old_col, old_zero, left_own, left_on, left_col, left_zero, next_on, next_row, next_left, risen, from_old, opposed}

-- at the slacks each direction leads with its own column
pub positive_at_slacks : (p : Program) (order : Order) (basis : ℕ → ℕ) (form : ℕ → ℕ → ℤ) → IsColumnOrder p order → ((i : ℕ) → i ≤ p.rows → basis i ≡ p.columns + i) → AreDirectionsPositive p order basis form
positive_at_slacks p order basis form columns slacks col free x d ray = (col, omega (arith, free.0, columns.count), (λ j h. reads j (omega (arith, h, free.0)) ∙ ray.off j (omega (arith, h, free.0)) (λ (e : j ≡ col). omega arith) (λ i q e. let s = slacks i (omega arith) in omega (arith, e, s, structural, h))), rw (reads col free.0, ray.raised) ray.positive)
  where
    reads : (j : ℕ) → j < value_column p → in_order p order x j ≡ x j
    reads j h = ap (entry_at p x) (columns.columns j h) ∙ entry_before p x j h

    structural : col < p.columns
    structural = ⊎_elim (λ (b : col < p.columns). b) (λ (b : p.columns ≤ col). absurd (free.1 (col - p.columns) (omega (arith, free.0)) (let s = slacks (col - p.columns) (omega (arith, free.0)) in omega (arith, s, b)))) (side col p.columns)

-- where the value falls along no column, and comes first, each direction leads with it or with its own column
pub positive_at_value : (p : Program) (order : Order) (basis : ℕ → ℕ) (form : ℕ → ℕ → ℤ) → IsBasicForm p basis form → IsDualFeasibleForm p form → IsValueOrder p basis order → AreDirectionsPositive p order basis form
positive_at_value p order basis form basic feasible first col free x d ray = ⊎_elim (λ (up : (pos 0) <ℤ aim_at p x). (0, omega (arith, first.count), (λ j h. absurd (omega (arith, h))), rw value up)) (λ (r : (aim_at p x ≡ pos 0) ⊎ (aim_at p x <ℤ (pos 0))). ⊎_elim (λ (z : aim_at p x ≡ pos 0). own z (first.ordered.each col free.0)) (λ (n : aim_at p x <ℤ (pos 0)). absurd (let a = aim_up in omega (arith, ints, a, n))) r) (sign (aim_at p x))
  where
    value : in_order p order x 0 ≡ aim_at p x
    value = ap (entry_at p x) first.value ∙ entry_value p x (value_column p) refl

    aim_up : (pos 0) ≤ℤ aim_at p x
    aim_up =
        let e = direction_aim p basis form basic col free.1 free.0 x d ray in
        let low = feasible col free.0 in
        let over = ray.positive in
        nonnegative_factor (form p.rows (value_column p)) (aim_at p x) (rw (← basic.value) (basic.own p.rows (omega arith))) (rw e (nonnegative_mul (neg_ℤ (form p.rows col)) d (omega (arith, ints, low)) (omega (arith, ints, over))))

    own : aim_at p x ≡ pos 0 → (m : ℕ) × (m < order.count) × (order.column m ≡ col) → IsLeading order.count (in_order p order x)
    own z (zero, h, e) = absurd (let b = free.0 in let v = sym first.value ∙ e in omega (arith, v, b))
    own z (suc k, h, e) = ⊎_elim (λ (b : k < p.columns). at b) (λ (b : p.columns ≤ k). absurd (on b)) (side k p.columns)
      where
        on : p.columns ≤ k → ⊥
        on b =
            let i : ℕ = k - p.columns in
            let s : suc k ≡ p.columns + 1 + i = omega (arith, b) in
            free.1 i (omega (arith, b, h, first.count)) (sym e ∙ ap order.column s ∙ first.on i (omega (arith, b, h, first.count)))

        here : order.column (k + 1) ≡ col
        here = let s : k + 1 ≡ suc k = omega arith in ap order.column s ∙ e

        at : k < p.columns → IsLeading order.count (in_order p order x)
        at b = (suc k, h, before b, rw (ap (entry_at p x) e ∙ entry_before p x col free.0, ray.raised) ray.positive)
          where
            before : k < p.columns → (j : ℕ) → j < suc k → in_order p order x j ≡ pos 0
            before b zero q = value ∙ z
            before b (suc j) q =
                let s : suc j ≡ j + 1 = omega arith in
                let off = first.off j (omega (arith, q, b)) in
                ap (λ i. entry_at p x (order.column i)) s ∙ entry_before p x (order.column (j + 1)) off.0 ∙ ray.off (order.column (j + 1)) off.0 (λ t. let o = first.once j k (omega (arith, q, b)) b (t ∙ sym here) in omega (arith, o, q)) off.1

-- where the value comes first and the directions are positive, the value falls along no column
pub dual_feasible_if : (p : Program) (order : Order) (basis : ℕ → ℕ) (form : ℕ → ℕ → ℤ) → IsBasicForm p basis form → IsOrder p order → order.column 0 ≡ value_column p → AreDirectionsPositive p order basis form → IsDualFeasibleForm p form
dual_feasible_if p order basis form basic ordered first positive j h = ⊎_elim (λ (g : (i : ℕ) × (i < p.rows) × (j ≡ basis i)). let z = ap (form p.rows) g.2 ∙ basic.other p.rows g.0 (omega arith) (omega (arith, g.1)) (λ t. omega (arith, t, g.1)) in omega (arith, ints, z)) (λ (out : (i : ℕ) → i < p.rows → j ≢ basis i). off out (direction p basis form basic j (h, out))) (in_basis basis p.rows j)
  where
    off : (out : (i : ℕ) → i < p.rows → j ≢ basis i) → (x : ℕ → ℤ) × (d : ℤ) × IsBasicDirection p basis form j x d → form p.rows j ≤ℤ (pos 0)
    off out (x, d, ray) =
        let lead = leading_first order.count (in_order p order x) (positive j (h, out) x d ray) in
        let aim : (pos 0) ≤ℤ aim_at p x = rw (← entry_value p x (order.column 0) first) lead in
        let e = direction_aim p basis form basic j out h x d ray in
        let own : (pos 0) <ℤ form p.rows (value_column p) = rw (← basic.value) (basic.own p.rows (omega arith)) in
        let up = nonnegative_mul (form p.rows (value_column p)) (aim_at p x) (omega (arith, ints, own)) aim in
        let c = *ℤ_comm (neg_ℤ (form p.rows j)) d in
        let low = nonnegative_factor d (neg_ℤ (form p.rows j)) ray.positive (omega (arith, ints, up, e, c)) in
        omega (arith, ints, low)

module _ (p : Program) (order : Order) (ordered : IsOrder p order) (basis : ℕ → ℕ) (form : ℕ → ℕ → ℤ) (basic : IsBasicForm p basis form) (positive : AreDirectionsPositive p order basis form) (row col : ℕ) (due : IsDualDue p order basis form row col) (next : ℕ → ℕ) (exchange : Exchanges basis row col next) (made : ℕ → ℕ → ℤ) (after : IsBasicForm p next made) where
  up : (pos 0) <ℤ neg_ℤ (form row col)
  up = let u = due.under in omega (arith, ints, u)

  over_up : (pos 0) <ℤ (due.over *ℤ neg_ℤ (form row col))
  over_up = mul_positive due.over (neg_ℤ (form row col)) due.is_direction.positive up

  -- the column that enters is off the basis
  pub enters_free : (i : ℕ) → i < p.rows → col ≢ basis i
  enters_free i h e =
      let u = due.under in
      let same = ap (form row) e in
      ⊎_elim (λ (s : i ≡ row). let own = basic.own row (omega (arith, due.below)) in let t = ap (λ z. form row (basis z)) s in omega (arith, ints, u, same, own, t)) (λ (a : i ≢ row). let none = basic.other row i (omega (arith, due.below)) (omega arith) (λ s. a (sym s)) in omega (arith, ints, u, same, none)) (cases_eq i row)

  entering : IsLeading order.count (in_order p order due.direction)
  entering = positive col (due.column, enters_free) due.direction due.over due.is_direction

  ray_zero : (j : ℕ) → j < value_column p → j ≢ col → ((i : ℕ) → i < p.rows → j ≢ basis i) → due.direction j ≡ pos 0
  ray_zero j h a out = due.is_direction.off j h a out

  turn_at : (i : ℕ) → i ≤ p.rows → i ≢ row → (j : ℕ) → j ≤ right_column p → (form i (basis i) *ℤ form row col) *ℤ made i j ≡ made i (basis i) *ℤ (form row col *ℤ form i j -ℤ form i col *ℤ form row j)
  turn_at = turned p basis form basic row col due.below due.column next exchange made after

  turn_row : (j : ℕ) → j ≤ right_column p → form row col *ℤ made row j ≡ made row col *ℤ form row j
  turn_row = turned_own p basis form basic row col due.below due.column next exchange made after

  above_at : (i : ℕ) → i ≤ p.rows → i ≢ row → (pos 0) <ℤ made i (basis i)
  above_at = own_after p basis form basic row col due.below due.column next exchange made after

  above_col : (pos 0) <ℤ made row col
  above_col = own_here p basis form basic row col due.below due.column next exchange made after

  -- off the new basis is what is neither the column that entered nor one of the others
  off_next : (j : ℕ) → j ≢ col → ((i : ℕ) → i < p.rows → i ≢ row → j ≢ basis i) → (i : ℕ) → i < p.rows → j ≢ next i
  off_next j a out i h e = ⊎_elim (λ (s : i ≡ row). a (e ∙ ap next s ∙ exchange.0)) (λ (b : i ≢ row). out i h b (e ∙ exchange.1 i b)) (cases_eq i row)

  -- a direction after the exchange
  module _ (k : ℕ) (free : IsFree p next k) (z : ℕ → ℤ) (f : ℤ) (ray : IsBasicDirection p next made k z f) where
    on_stays : (i : ℕ) → i < p.rows → i ≢ row → made i (basis i) *ℤ z (basis i) ≡ neg_ℤ (made i k) *ℤ f
    on_stays i h a = rw (← exchange.1 i a) (ray.on i h)

    on_row : made row col *ℤ z col ≡ neg_ℤ (made row k) *ℤ f
    on_row = rw (← exchange.0) (ray.on row due.below)

    k_inside : k ≤ right_column p
    k_inside = omega (arith, free.0)

    other_than_col : k ≢ col
    other_than_col e = free.1 row due.below (e ∙ sym exchange.0)

    -- the column that left
    left : k ≡ basis row → IsLeading order.count (in_order p order z)
    left e = in_proportion order.count (in_order p order z) (in_order p order due.direction) (due.over *ℤ neg_ℤ (form row col)) (f *ℤ form row (basis row)) over_up (mul_positive f (form row (basis row)) ray.positive (basic.own row (omega (arith, due.below)))) (λ m h. entries_scaled p z due.direction (due.over *ℤ neg_ℤ (form row col)) (f *ℤ form row (basis row)) same (order.column m) (ordered.inside m h)) entering
      where
        same : (j : ℕ) → j < value_column p → (due.over *ℤ neg_ℤ (form row col)) *ℤ z j ≡ (f *ℤ form row (basis row)) *ℤ due.direction j
        same j h = ⊎_elim (λ (g : (i : ℕ) × (i < p.rows) × (j ≡ basis i)). ⊎_elim (λ (s : g.0 ≡ row). let t : j ≡ basis row = g.2 ∙ ap basis s in rw t (left_own due.over (form row col) (z (basis row)) f (form row (basis row)) (due.direction (basis row)) (ap z (sym e) ∙ ray.raised) (due.is_direction.on row due.below))) (λ (a : g.0 ≢ row). rw g.2 (left_on (form g.0 (basis g.0)) (made g.0 (basis g.0)) (z (basis g.0)) (made g.0 k) f (due.direction (basis g.0)) (form g.0 col) due.over (form row col) (form g.0 k) (form row (basis row)) (basic.own g.0 (omega (arith, g.1))) (above_at g.0 (omega (arith, g.1)) a) (on_stays g.0 g.1 a) (due.is_direction.on g.0 g.1) (turn_at g.0 (omega (arith, g.1)) a k k_inside ∙ ap (λ q. made g.0 (basis g.0) *ℤ (form row col *ℤ form g.0 k -ℤ form g.0 col *ℤ form row q)) e) (ap (form g.0) e ∙ basic.other g.0 row (omega (arith, g.1)) (omega (arith, due.below)) a))) (cases_eq g.0 row)) (λ (out : (i : ℕ) → i < p.rows → j ≢ basis i). ⊎_elim (λ (s : j ≡ col). rw s (left_col (made row col) (z col) (made row k) f due.over (form row col) (form row (basis row)) (due.direction col) above_col on_row (turn_row k k_inside ∙ ap (λ q. made row col *ℤ form row q) e) due.is_direction.raised)) (λ (a : j ≢ col). left_zero (due.over *ℤ neg_ℤ (form row col)) (f *ℤ form row (basis row)) (z j) (due.direction j) (ray.off j h (λ s. out row due.below (s ∙ e)) (off_next j a (λ i q b. out i q))) (ray_zero j h a out)) (cases_eq j col)) (in_basis basis p.rows j)

    -- a column that was off the basis before
    module _ (apart : k ≢ basis row) where
      was_free : (i : ℕ) → i < p.rows → k ≢ basis i
      was_free i h e = ⊎_elim (λ (s : i ≡ row). apart (e ∙ ap basis s)) (λ (a : i ≢ row). free.1 i h (e ∙ sym (exchange.1 i a))) (cases_eq i row)

      abbrev old : ℕ → ℤ
      old j = (due.over *ℤ neg_ℤ (form row col)) *ℤ z j -ℤ (form row k *ℤ f) *ℤ due.direction j

      abbrev old_over : ℤ
      old_over = (due.over *ℤ neg_ℤ (form row col)) *ℤ f

      left_gone : z (basis row) ≡ pos 0
      left_gone = ray.off (basis row) (basic.columns row due.below) (λ e. apart (sym e)) (off_next (basis row) (λ e. enters_free row due.below (sym e)) (λ i h a. columns_apart p basis form basic row i (omega (arith, due.below)) (omega arith) (λ e. a (sym e))))

      old_ray : IsBasicDirection p basis form k old old_over
      old_ray = record {
        positive = mul_positive (due.over *ℤ neg_ℤ (form row col)) f over_up ray.positive;
        raised = old_raised due.over (neg_ℤ (form row col)) f (form row k) (z k) (due.direction k) ray.raised (ray_zero k free.0 other_than_col was_free);
        on = λ i h. ⊎_elim (λ (s : i ≡ row). rw s (old_row (form row (basis row)) (z (basis row)) f (due.direction (basis row)) due.over (form row col) (form row k) left_gone (due.is_direction.on row due.below))) (λ (a : i ≢ row). old_on (form i (basis i)) (made i (basis i)) (z (basis i)) (made i k) f (due.direction (basis i)) (form i col) due.over (form row col) (form i k) (form row k) (above_at i (omega arith) a) (on_stays i h a) (due.is_direction.on i h) (turn_at i (omega arith) a k k_inside)) (cases_eq i row);
        off = λ j h b out. ⊎_elim (λ (s : j ≡ col). rw s (old_col (made row col) (z col) (made row k) f due.over (form row col) (form row k) (due.direction col) above_col on_row (turn_row k k_inside) due.is_direction.raised)) (λ (a : j ≢ col). old_zero (due.over *ℤ neg_ℤ (form row col)) (form row k *ℤ f) (z j) (due.direction j) (ray.off j h b (off_next j a (λ i q c. out i q))) (ray_zero j h a out)) (cases_eq j col);
      }

      old_leads : IsLeading order.count (in_order p order old)
      old_leads = positive k (free.0, was_free) old old_over old_ray

      old_reads : (m : ℕ) → in_order p order old m ≡ (due.over *ℤ neg_ℤ (form row col)) *ℤ in_order p order z m -ℤ (form row k *ℤ f) *ℤ in_order p order due.direction m
      old_reads m =
          entry_mixed p z due.direction (due.over *ℤ neg_ℤ (form row col)) (form row k *ℤ f) (order.column m)

      stays_positive : IsLeading order.count (in_order p order z)
      stays_positive = ⊎_elim (λ (b : (pos 0) <ℤ form row k). made_if (leading_sum order.count (in_order p order old) (λ j. (form row k *ℤ f) *ℤ in_order p order due.direction j) old_leads (times_leading order.count (form row k *ℤ f) (in_order p order due.direction) (mul_positive (form row k) f b ray.positive) entering))) (λ (r : (form row k ≡ pos 0) ⊎ (form row k <ℤ (pos 0))). ⊎_elim (λ (e : form row k ≡ pos 0). made_if (leading_sum_nought order.count (in_order p order old) (λ j. (form row k *ℤ f) *ℤ in_order p order due.direction j) old_leads (λ j h. let t = ap (λ q. (q *ℤ f) *ℤ in_order p order due.direction j) e in t ∙ (let u : pos 0 *ℤ f ≡ pos 0 = omega (arith, ints) in rw u (omega (arith, ints)))))) under r) (sign (form row k))
        where
          made_if : IsLeading order.count (λ j. in_order p order old j +ℤ (form row k *ℤ f) *ℤ in_order p order due.direction j) → IsLeading order.count (in_order p order z)
          made_if lead = in_proportion order.count (in_order p order z) (λ j. in_order p order old j +ℤ (form row k *ℤ f) *ℤ in_order p order due.direction j) (due.over *ℤ neg_ℤ (form row col)) (pos 1) over_up (omega (arith, ints)) (λ j h. let o = old_reads j in let t = from_old (due.over *ℤ neg_ℤ (form row col)) (in_order p order z j) (form row k *ℤ f) (in_order p order due.direction j) in omega (arith, ints, o, t)) lead

          under : form row k <ℤ (pos 0) → IsLeading order.count (in_order p order z)
          under b = ⊎_elim (λ (l : IsLeading order.count (in_order p order z)). l) (λ (r : IsNought order.count (in_order p order z) ⊎ IsLeading order.count (λ j. neg_ℤ (in_order p order z j))). ⊎_elim (λ (none : IsNought order.count (in_order p order z)). absurd (nowhere none (ordered.each k free.0))) (λ (l : IsLeading order.count (λ j. neg_ℤ (in_order p order z j))). absurd (due.least k (free.0, was_free) b old old_over old_ray (same_leading order.count (λ j. in_order p order due.direction j *ℤ (old_over *ℤ neg_ℤ (form row k)) -ℤ in_order p order old j *ℤ (due.over *ℤ neg_ℤ (form row col))) (λ j. ((due.over *ℤ neg_ℤ (form row col)) *ℤ (due.over *ℤ neg_ℤ (form row col))) *ℤ neg_ℤ (in_order p order z j)) (λ j h. ap (λ q. in_order p order due.direction j *ℤ (old_over *ℤ neg_ℤ (form row k)) -ℤ q *ℤ (due.over *ℤ neg_ℤ (form row col))) (old_reads j) ∙ opposed due.over (neg_ℤ (form row col)) f (form row k) (in_order p order z j) (in_order p order due.direction j)) (times_leading order.count ((due.over *ℤ neg_ℤ (form row col)) *ℤ (due.over *ℤ neg_ℤ (form row col))) (λ j. neg_ℤ (in_order p order z j)) (mul_positive (due.over *ℤ neg_ℤ (form row col)) (due.over *ℤ neg_ℤ (form row col)) over_up over_up) l)))) r) (three_ways order.count (in_order p order z))
            where
              nowhere : IsNought order.count (in_order p order z) → (m : ℕ) × (m < order.count) × (order.column m ≡ k) → ⊥
              nowhere none (m, h, e) =
                  above_apart f ray.positive (sym ray.raised ∙ sym (entry_before p z k free.0) ∙ ap (entry_at p z) (sym e) ∙ none m h)

  -- the directions stay positive
  pub dual_keeps : AreDirectionsPositive p order next made
  dual_keeps k free z f ray = ⊎_elim (λ (e : k ≡ basis row). left k free z f ray e) (λ (a : k ≢ basis row). stays_positive k free z f ray a) (cases_eq k (basis row))

  -- the basic solution rises
  pub dual_rises : (s : ℕ → ℤ) (c : ℤ) → IsBasicSolution p basis form s c → Rises p order basis form next made
  dual_rises s c at = (s, c, (λ j. (due.over *ℤ neg_ℤ (form row col)) *ℤ s j -ℤ (form row (right_column p) *ℤ c) *ℤ due.direction j), c *ℤ (due.over *ℤ neg_ℤ (form row col)), at, record { positive = mul_positive c (due.over *ℤ neg_ℤ (form row col)) at.positive over_up; on = on; off = off }, same_leading order.count (λ j. in_order p order (λ i. (due.over *ℤ neg_ℤ (form row col)) *ℤ s i -ℤ (form row (right_column p) *ℤ c) *ℤ due.direction i) j *ℤ c -ℤ in_order p order s j *ℤ (c *ℤ (due.over *ℤ neg_ℤ (form row col)))) (λ j. (neg_ℤ (form row (right_column p)) *ℤ (c *ℤ c)) *ℤ in_order p order due.direction j) (λ j h. ap (λ q. q *ℤ c -ℤ in_order p order s j *ℤ (c *ℤ (due.over *ℤ neg_ℤ (form row col)))) (entry_mixed p s due.direction (due.over *ℤ neg_ℤ (form row col)) (form row (right_column p) *ℤ c) (order.column j)) ∙ risen (in_order p order s j) (in_order p order due.direction j) due.over c (form row col) (form row (right_column p))) (times_leading order.count (neg_ℤ (form row (right_column p)) *ℤ (c *ℤ c)) (in_order p order due.direction) (mul_positive (neg_ℤ (form row (right_column p))) (c *ℤ c) (let r = due.right in omega (arith, ints, r)) (mul_positive c c at.positive at.positive)) entering))
    where
      on : (i : ℕ) → i < p.rows → made i (next i) *ℤ ((due.over *ℤ neg_ℤ (form row col)) *ℤ s (next i) -ℤ (form row (right_column p) *ℤ c) *ℤ due.direction (next i)) ≡ made i (right_column p) *ℤ (c *ℤ (due.over *ℤ neg_ℤ (form row col)))
      on i h = ⊎_elim (λ (e : i ≡ row). rw (e, exchange.0) (next_row (made row col) (s col) (due.direction col) due.over c (form row col) (form row (right_column p)) (made row (right_column p)) (at.off col due.column enters_free) due.is_direction.raised (turn_row (right_column p) (omega arith)))) (λ (a : i ≢ row). rw (exchange.1 i a) (next_on (form i (basis i)) (made i (basis i)) (s (basis i)) (due.direction (basis i)) (form i (right_column p)) (form i col) due.over c (form row col) (form row (right_column p)) (made i (right_column p)) (basic.own i (omega arith)) (at.on i h) (due.is_direction.on i h) (turn_at i (omega arith) a (right_column p) (omega arith)))) (cases_eq i row)

      off : (j : ℕ) → j < value_column p → ((i : ℕ) → i < p.rows → j ≢ next i) → (due.over *ℤ neg_ℤ (form row col)) *ℤ s j -ℤ (form row (right_column p) *ℤ c) *ℤ due.direction j ≡ pos 0
      off j h out = ⊎_elim (λ (g : (i : ℕ) × (i < p.rows) × (j ≡ basis i)). ⊎_elim (λ (e : g.0 ≡ row). let t : j ≡ basis row = g.2 ∙ ap basis e in rw t (next_left (form row (basis row)) (s (basis row)) (due.direction (basis row)) due.over c (form row col) (form row (right_column p)) (basic.own row (omega (arith, due.below))) (at.on row due.below) (due.is_direction.on row due.below))) (λ (a : g.0 ≢ row). absurd (out g.0 g.1 (g.2 ∙ sym (exchange.1 g.0 a)))) (cases_eq g.0 row)) (λ (free : (i : ℕ) → i < p.rows → j ≢ basis i). old_zero (due.over *ℤ neg_ℤ (form row col)) (form row (right_column p) *ℤ c) (s j) (due.direction j) (at.off j h free) (ray_zero j h (λ e. out row due.below (e ∙ sym exchange.0)) free)) (in_basis basis p.rows j)

-- the basic solution rises, whichever it is
pub rises : (p : Program) (order : Order) → IsOrder p order → (basis : ℕ → ℕ) (form : ℕ → ℕ → ℤ) → IsBasicForm p basis form → AreDirectionsPositive p order basis form → (row col : ℕ) → IsDualDue p order basis form row col → (next : ℕ → ℕ) → Exchanges basis row col next → (made : ℕ → ℕ → ℤ) → IsBasicForm p next made → Rises p order basis form next made
rises p order ordered basis form basic positive row col due next exchange made after = from (solution p basis form basic)
  where
    from : (x : ℕ → ℤ) × (d : ℤ) × IsBasicSolution p basis form x d → Rises p order basis form next made
    from (x, d, at) =
        dual_rises p order ordered basis form basic positive row col due next exchange made after x d at
