-- No basis comes twice.
use Rattle.std.proofs.Common.{◌≡◌, ◌≢◌, ℕ, zero, suc, ◌+◌, ◌-◌, ◌<◌, ◌≤◌, arith, refl, sym, ap, ◌∙◌, ℤ, pos, neg_ℤ, ◌-ℤ◌, ◌*ℤ◌, ◌<ℤ◌, ◌≤ℤ◌, ◌⊎◌, inl, inr, ⊎_elim}
use Rattle.std.proofs.lemmas.Int.{ints}
use Rattle.std.proofs.lemmas.Bool.{cases_eq}
use Rattle.std.proofs.Math.IntN.{*ℤ_comm}
use Rattle.zr_base.proofs.Ring.{spread}
use Rattle.zr_base.proofs.Divisors.{mul_positive}
use Rattle.zr_basis.specs.Programs.{Program}
use Rattle.zr_basis.specs.BasicForms.{value_column, right_column, IsBasicSolution}
use Rattle.zr_basis.specs.Orders.{Order, IsOrder, in_order}
use Rattle.zr_basis.specs.Stages.{Stage, IsShort, IsFeasibleForm}
use Rattle.zr_basis.specs.Bases.{IsBasis, IsOtherBasis}
use Rattle.zr_basis.specs.Choices.{choose}
use Rattle.zr_basis.specs.Primal.{place, vector, AreVectorsPositive, Drops}
use Rattle.zr_basis.specs.Dual.{AreDirectionsPositive, Rises}
use Rattle.zr_basis.specs.Runs.{Falls, AreFalling, IsDualStep, IsPrimalStep, IsRun}
use Rattle.zr_basis.proofs.Signs.{sign, side}
use Rattle.zr_basis.proofs.Vectors.{in_proportion, lower_trans, lower_apart}
use Rattle.zr_basis.proofs.Unique as AUnique
use Rattle.zr_basis.proofs.Solved.{solution, same_solution}
use Rattle.zr_basis.proofs.Primal.{positive_at_start, feasible_if, primal_keeps, primal_drops}
use Rattle.zr_basis.proofs.Dual.{dual_keeps, dual_rises}
use Rattle.zr_basis.proofs.Ordered.{entries_alike}
use Rattle.zr_basis.proofs.Among.{HaveSameColumns, basis_of_form, same_columns}
use Rattle.zr_basis.proofs.Visiting.{few_in_run}

-- a right side is below zero, or none is
short_below : (p : Program) (form : ℕ → ℕ → ℤ) (n : ℕ) → ((i : ℕ) × (i < n) × (form i (right_column p) <ℤ (pos 0))) ⊎ ((i : ℕ) → i < n → (pos 0) ≤ℤ form i (right_column p))
short_below p form zero = inr (λ i h. absurd (omega arith))
short_below p form (suc n) = ⊎_elim (λ (f : (i : ℕ) × (i < n) × (form i (right_column p) <ℤ (pos 0))). inl (f.0, omega (arith, f.1), f.2)) (λ (all : (i : ℕ) → i < n → (pos 0) ≤ℤ form i (right_column p)). ⊎_elim (λ (a : (pos 0) <ℤ form n (right_column p)). inr (λ i h. ⊎_elim (λ (s : i ≡ n). rw s (omega (arith, ints, a))) (λ (b : i ≢ n). all i (omega arith)) (cases_eq i n))) (λ (r : (form n (right_column p) ≡ pos 0) ⊎ (form n (right_column p) <ℤ (pos 0))). ⊎_elim (λ (z : form n (right_column p) ≡ pos 0). inr (λ i h. ⊎_elim (λ (s : i ≡ n). rw (s, z) (omega (arith, ints))) (λ (b : i ≢ n). all i (omega arith)) (cases_eq i n))) (λ (b : form n (right_column p) <ℤ (pos 0)). inl (n, omega arith, b)) r) (sign (form n (right_column p)))) (short_below p form n)

pub short_or_feasible : (p : Program) (form : ℕ → ℕ → ℤ) → IsShort p form ⊎ IsFeasibleForm p form
short_or_feasible p form = short_below p form p.rows

never_both : (p : Program) (form : ℕ → ℕ → ℤ) → IsShort p form → IsFeasibleForm p form → ⊥
never_both p form short feasible =
    let a = feasible short.0 short.1 in
    let b = short.2 in
    omega (arith, ints, a, b)

-- bases with the same columns
self : (p : Program) (basis : ℕ → ℕ) → HaveSameColumns p basis basis
self p basis = ((λ i h. (i, h, refl)), (λ i h. (i, h, refl)))

rescaled : (y v z d e g : ℤ) → y *ℤ e ≡ v *ℤ d → e *ℤ (z *ℤ d -ℤ y *ℤ g) ≡ d *ℤ (z *ℤ e -ℤ v *ℤ g)
rescaled y v z d e g h = let k = simp spread at (ap (λ q. q *ℤ g) h) in simp spread (omega (arith, ints, k))

pub rises_trans : (p : Program) (order : Order) → IsOrder p order → (one two three : Stage p) → Rises p order one.basis one.form two.basis two.form → Rises p order two.basis two.form three.basis three.form → Rises p order one.basis one.form three.basis three.form
rises_trans p order ordered one two three (x, d, y, e, at, to, lower) (v, c, z, g, from, end, higher) = (x, d, z, g, at, end, lower_trans order.count (in_order p order x) (in_order p order y) (in_order p order z) d e g at.positive to.positive end.positive lower (in_proportion order.count (λ j. in_order p order z j *ℤ e -ℤ in_order p order y j *ℤ g) (λ j. in_order p order z j *ℤ c -ℤ in_order p order v j *ℤ g) c e from.positive to.positive (λ j h. rescaled (in_order p order y j) (in_order p order v j) (in_order p order z j) e c g (entries_alike p y v c e (same_solution p two.basis two.basis two.form two.form two.basic two.basic (self p two.basis) y v e c to from) (order.column j) (ordered.inside j h))) higher))

own_value : (p : Program) (s : Stage p) → (pos 0) <ℤ s.form p.rows (value_column p)
own_value p s = rw (← s.basic.value) (s.basic.own p.rows (omega arith))

pub drops_trans : (p : Program) (start one two three : Stage p) → Drops p start.basis one.form two.form → Drops p start.basis two.form three.form → Drops p start.basis one.form three.form
drops_trans p start one two three first second = lower_trans (p.rows + 1) (vector p start.basis (three.form p.rows)) (vector p start.basis (two.form p.rows)) (vector p start.basis (one.form p.rows)) (three.form p.rows (value_column p)) (two.form p.rows (value_column p)) (one.form p.rows (value_column p)) (own_value p three) (own_value p two) (own_value p one) second first

pub falls_trans : (p : Program) (order : Order) → IsOrder p order → (start one two three : Stage p) → Falls p order start one two → Falls p order start two three → Falls p order start one three
falls_trans p order ordered start one two three (inl (s, f)) (inl (t, g)) = absurd (never_both p two.form t f)
falls_trans p order ordered start one two three (inl (s, f)) (inr (inl (t, g, r))) = absurd (never_both p two.form t f)
falls_trans p order ordered start one two three (inl (s, f)) (inr (inr (t, g, d))) = inl (s, g)
falls_trans p order ordered start one two three (inr (inl (s, f, r))) (inl (t, g)) = inl (s, g)
falls_trans p order ordered start one two three (inr (inl (s, f, r))) (inr (inl (t, g, q))) = inr (inl (s, g, rises_trans p order ordered one two three r q))
falls_trans p order ordered start one two three (inr (inl (s, f, r))) (inr (inr (t, g, d))) = absurd (never_both p two.form f t)
falls_trans p order ordered start one two three (inr (inr (s, f, r))) (inl (t, g)) = absurd (never_both p two.form t f)
falls_trans p order ordered start one two three (inr (inr (s, f, r))) (inr (inl (t, g, q))) = absurd (never_both p two.form t f)
falls_trans p order ordered start one two three (inr (inr (s, f, r))) (inr (inr (t, g, d))) = inr (inr (s, g, drops_trans p start one two three r d))

sign_kept : (m r o q : ℤ) → (pos 0) <ℤ m → (pos 0) <ℤ o → m *ℤ r ≡ o *ℤ q → r <ℤ (pos 0) → q <ℤ (pos 0)
sign_kept m r o q mp op e b = ⊎_elim (λ (a : (pos 0) <ℤ q). absurd (let u = mul_positive o q op a in let v = mul_positive m (neg_ℤ r) mp (omega (arith, ints, b)) in let w : m *ℤ neg_ℤ r ≡ neg_ℤ (m *ℤ r) = simp spread refl in omega (arith, ints, u, v, w, e))) (λ (r2 : (q ≡ pos 0) ⊎ (q <ℤ (pos 0))). ⊎_elim (λ (z : q ≡ pos 0). absurd (let v = mul_positive m (neg_ℤ r) mp (omega (arith, ints, b)) in let w : m *ℤ neg_ℤ r ≡ neg_ℤ (m *ℤ r) = simp spread refl in let t = ap (λ k. o *ℤ k) z in omega (arith, ints, t, v, w, e))) (λ (c : q <ℤ (pos 0)). c) r2) (sign q)

-- the sign of a right side goes by the columns of the basis
short_alike : (p : Program) (one two : Stage p) → HaveSameColumns p one.basis two.basis → IsShort p one.form → IsFeasibleForm p two.form → ⊥
short_alike p one two same short feasible = found (same.0 short.0 (omega (arith, short.1)))
  where
    found : (k : ℕ) × (k ≤ p.rows) × (one.basis short.0 ≡ two.basis k) → ⊥
    found g = ⊎_elim (λ (b : g.0 < p.rows). let f = feasible g.0 b in let s = sign_kept (two.form g.0 (two.basis g.0)) (one.form short.0 (right_column p)) (one.form short.0 (one.basis short.0)) (two.form g.0 (right_column p)) (two.basic.own g.0 g.1) (one.basic.own short.0 (omega (arith, short.1))) (AUnique.in_proportion p one.basis two.basis one.form two.form one.basic two.basic same short.0 g.0 (omega (arith, short.1)) g.1 g.2 (right_column p) (omega arith)) short.2 in omega (arith, ints, f, s)) (λ (b : p.rows ≤ g.0). let t : g.0 ≡ p.rows = omega (arith, g.1, b) in let u = g.2 ∙ ap two.basis t ∙ two.basic.value in let c = one.basic.columns short.0 short.1 in omega (arith, u, c)) (side g.0 p.rows)

inside : (p : Program) (s : Stage p) (k : ℕ) → k < p.rows + 1 → place p s.basis k ≤ right_column p
inside p s zero h = omega arith
inside p s (suc i) h = let q = s.basic.columns i (omega arith) in omega (arith, q)

turned_about : (m f a b : ℤ) → a *ℤ f ≡ b *ℤ m → m *ℤ b ≡ f *ℤ a
turned_about m f a b e =
    let u = *ℤ_comm a f in
    let v = *ℤ_comm b m in
    omega (arith, ints, u, v, e)

drops_apart : (p : Program) (start one two : Stage p) → HaveSameColumns p one.basis two.basis → Drops p start.basis one.form two.form → ⊥
drops_apart p start one two same lower = lower_apart (p.rows + 1) (vector p start.basis (two.form p.rows)) (vector p start.basis (one.form p.rows)) (two.form p.rows (value_column p)) (one.form p.rows (value_column p)) (λ k h. turned_about (vector p start.basis (two.form p.rows) k) (vector p start.basis (one.form p.rows) k) (two.form p.rows (value_column p)) (one.form p.rows (value_column p)) (ap (λ c. two.form p.rows c *ℤ vector p start.basis (one.form p.rows) k) (sym two.basic.value) ∙ AUnique.in_proportion p one.basis two.basis one.form two.form one.basic two.basic same p.rows p.rows (omega arith) (omega arith) (one.basic.value ∙ sym two.basic.value) (place p start.basis k) (inside p start k h) ∙ ap (λ c. one.form p.rows c *ℤ vector p start.basis (two.form p.rows) k) one.basic.value)) lower

rises_apart : (p : Program) (order : Order) → IsOrder p order → (one two : Stage p) → HaveSameColumns p one.basis two.basis → Rises p order one.basis one.form two.basis two.form → ⊥
rises_apart p order ordered one two same (x, d, y, e, at, to, lower) =
    lower_apart order.count (in_order p order x) (in_order p order y) d e (λ k h. entries_alike p x y e d (same_solution p one.basis two.basis one.form two.form one.basic two.basic same x y d e at to) (order.column k) (ordered.inside k h)) lower

-- a stage that falls from another hasn't its columns
pub falls_apart : (p : Program) (order : Order) → IsOrder p order → (start one two : Stage p) → HaveSameColumns p one.basis two.basis → Falls p order start one two → ⊥
falls_apart p order ordered start one two same (inl (s, f)) = short_alike p one two same s f
falls_apart p order ordered start one two same (inr (inl (s, f, r))) = rises_apart p order ordered one two same r
falls_apart p order ordered start one two same (inr (inr (s, f, d))) = drops_apart p start one two same d

all_fall : (p : Program) (order : Order) → IsOrder p order → (start : Stage p) (last : ℕ) (stage : ℕ → Stage p) → AreFalling p order start last stage → (i j : ℕ) → i < j → j ≤ last → Falls p order start (stage i) (stage j)
all_fall p order ordered start last stage falling i zero h q = absurd (omega arith)
all_fall p order ordered start last stage falling i (suc j) h q = ⊎_elim (λ (b : i < j). falls_trans p order ordered start (stage i) (stage j) (stage (suc j)) (all_fall p order ordered start last stage falling i j b (omega arith)) (falling j (omega arith))) (λ (b : j ≤ i). let e : i ≡ j = omega arith in rw e (falling j (omega arith))) (side i j)

-- of stages that fall, no two have the same columns
pub no_two : (p : Program) (order : Order) → IsOrder p order → (start : Stage p) (last : ℕ) (stage : ℕ → Stage p) → AreFalling p order start last stage → (i j : ℕ) → i < j → j ≤ last → HaveSameColumns p (stage i).basis (stage j).basis → ⊥
no_two p order ordered start last stage falling i j h q same =
    falls_apart p order ordered start (stage i) (stage j) same (all_fall p order ordered start last stage falling i j h q)

-- a run by the rules
module _ (p : Program) (order : Order) (turn last : ℕ) (stage : ℕ → Stage p) (run : IsRun p order turn last stage) where
  -- the directions stay positive
  pub directions_to : (n : ℕ) → n ≤ last → n ≤ turn → AreDirectionsPositive p order (stage n).basis (stage n).form
  directions_to zero h q = run.positive
  directions_to (suc n) h q = next (directions_to n (omega arith) (omega arith)) (run.duals n (omega arith) (omega arith))
    where
      next : AreDirectionsPositive p order (stage n).basis (stage n).form → IsDualStep p order (stage n) (stage (suc n)) → AreDirectionsPositive p order (stage (suc n)).basis (stage (suc n)).form
      next before (row, col, due, exchange) =
          dual_keeps p order run.ordered (stage n).basis (stage n).form (stage n).basic before row col due (stage (suc n)).basis exchange (stage (suc n)).form (stage (suc n)).basic

  vectors : (n : ℕ) → turn + n ≤ last → AreVectorsPositive p (stage turn).basis (stage (turn + n)).form
  vectors zero h = let e : turn + 0 ≡ turn = omega arith in rw e (positive_at_start p (stage turn).basis (stage turn).form (stage turn).basic (run.feasible (omega arith)))
  vectors (suc n) h = let e : turn + suc n ≡ suc (turn + n) = omega arith in rw e (next (vectors n (omega arith)) (run.primals (turn + n) (omega arith) (omega arith)))
    where
      next : AreVectorsPositive p (stage turn).basis (stage (turn + n)).form → IsPrimalStep p (stage turn) (stage (turn + n)) (stage (suc (turn + n))) → AreVectorsPositive p (stage turn).basis (stage (suc (turn + n))).form
      next before (row, col, due, exchange) =
          primal_keeps p (stage turn) (stage (turn + n)).basis (stage (turn + n)).form (stage (turn + n)).basic before row col due (stage (suc (turn + n))).basis exchange (stage (suc (turn + n))).form (stage (suc (turn + n))).basic

  positive_from : (n : ℕ) → turn ≤ n → n ≤ last → AreVectorsPositive p (stage turn).basis (stage n).form
  positive_from n h q = let e : n ≡ turn + (n - turn) = omega arith in rw e (vectors (n - turn) (omega arith))

  -- from the turn on no right side is below zero
  pub feasible_from : (n : ℕ) → turn ≤ n → n ≤ last → IsFeasibleForm p (stage n).form
  feasible_from n h q = feasible_if p (stage turn).basis (stage n).form (positive_from n h q)

  dual_falls : (n : ℕ) → n < last → n < turn → Falls p order (stage turn) (stage n) (stage (suc n))
  dual_falls n h q = by (run.duals n h q)
    where
      by : IsDualStep p order (stage n) (stage (suc n)) → Falls p order (stage turn) (stage n) (stage (suc n))
      by (row, col, due, exchange) = ⊎_elim (λ (s : IsShort p (stage (suc n)).form). inr (inl ((row, due.below, due.right), s, rise (solution p (stage n).basis (stage n).form (stage n).basic)))) (λ (f : IsFeasibleForm p (stage (suc n)).form). inl ((row, due.below, due.right), f)) (short_or_feasible p (stage (suc n)).form)
        where
          rise : (x : ℕ → ℤ) × (d : ℤ) × IsBasicSolution p (stage n).basis (stage n).form x d → Rises p order (stage n).basis (stage n).form (stage (suc n)).basis (stage (suc n)).form
          rise (x, d, at) =
              dual_rises p order run.ordered (stage n).basis (stage n).form (stage n).basic (directions_to n (omega arith) (omega arith)) row col due (stage (suc n)).basis exchange (stage (suc n)).form (stage (suc n)).basic x d at

  primal_falls : (n : ℕ) → n < last → turn ≤ n → Falls p order (stage turn) (stage n) (stage (suc n))
  primal_falls n h q = by (run.primals n h q)
    where
      by : IsPrimalStep p (stage turn) (stage n) (stage (suc n)) → Falls p order (stage turn) (stage n) (stage (suc n))
      by (row, col, due, exchange) = inr (inr (feasible_if p (stage turn).basis (stage n).form (positive_from n q (omega arith)), feasible_if p (stage turn).basis (stage (suc n)).form (positive_from (suc n) (omega arith) (omega arith)), primal_drops p (stage turn) (stage n).basis (stage n).form (stage n).basic (positive_from n q (omega arith)) row col due (stage (suc n)).basis exchange (stage (suc n)).form (stage (suc n)).basic))

  pub run_falls : AreFalling p order (stage turn) last stage
  run_falls n h = ⊎_elim (λ (b : n < turn). dual_falls n h b) (λ (b : turn ≤ n). primal_falls n h b) (side n turn)

  bases : (n : ℕ) → n ≤ last → IsBasis (value_column p) p.rows (stage n).basis
  bases n h = basis_of_form p (stage n).basis (stage n).form (stage n).basic

  -- no basis comes twice in a run
  pub run_apart : (i j : ℕ) → i < j → j ≤ last → IsOtherBasis p.rows (stage i).basis (stage j).basis
  run_apart i j h q same =
      no_two p order run.ordered (stage turn) last stage run_falls i j h q (same_columns p (stage i) (stage j) same)

  -- so its pivots are few
  pub few_in_stages : last < choose (value_column p) p.rows
  few_in_stages = few_in_run (value_column p) p.rows last (λ n. (stage n).basis) bases run_apart
