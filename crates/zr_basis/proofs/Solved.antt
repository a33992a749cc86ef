-- Basic solutions and basic directions are there, and the columns of the basis determine them.
use Rattle.std.proofs.Common.{◌≡◌, ◌≢◌, ℕ, zero, suc, ◌<◌, ◌≤◌, arith, refl, sym, ap, ◌∙◌, ℤ, pos, neg_ℤ, ◌*ℤ◌, ◌<ℤ◌, ◌⊎◌, inl, inr, ⊎_elim}
use Rattle.std.proofs.lemmas.Int.{ints}
use Rattle.std.proofs.lemmas.Bool.{cases_eq}
use Rattle.zr_base.proofs.Ring.{spread}
use Rattle.zr_base.proofs.Divisors.{cancel, mul_positive}
use Rattle.zr_basis.specs.Programs.{Program}
use Rattle.zr_basis.specs.BasicForms.{value_column, right_column, IsFree, IsBasicForm, IsBasicSolution, IsBasicDirection}
use Rattle.zr_basis.proofs.Among.{HaveSameColumns}
use Rattle.zr_basis.proofs.Signs.{side}
use Rattle.zr_basis.proofs.Unique.{in_proportion}

-- a column is one of the first n of the basis, or none of them
pub in_basis : (basis : ℕ → ℕ) (n j : ℕ) → ((k : ℕ) × (k < n) × (j ≡ basis k)) ⊎ ((k : ℕ) → k < n → j ≢ basis k)
in_basis basis zero j = inr (λ k h. absurd (omega arith))
in_basis basis (suc n) j = ⊎_elim (λ (f : (k : ℕ) × (k < n) × (j ≡ basis k)). inl (f.0, omega (arith, f.1), f.2)) (λ (out : (k : ℕ) → k < n → j ≢ basis k). ⊎_elim (λ (e : j ≡ basis n). inl (n, omega arith, e)) (λ (a : j ≢ basis n). inr (λ k h. ⊎_elim (λ (s : k ≡ n). rw s a) (λ (b : k ≢ n). out k (omega arith)) (cases_eq k n))) (cases_eq j (basis n))) (in_basis basis n j)

-- a at j itself, b elsewhere
abbrev pub pick : ℕ → ℕ → ℤ → ℤ → ℤ
pick zero zero a b = a
pick zero (suc j) a b = b
pick (suc i) zero a b = b
pick (suc i) (suc j) a b = pick i j a b

pick_same : (i : ℕ) (a b : ℤ) → pick i i a b ≡ a
pick_same zero a b = refl
pick_same (suc i) a b = pick_same i a b

pick_other : (i j : ℕ) (a b : ℤ) → i ≢ j → pick i j a b ≡ b
pick_other zero zero a b h = absurd (h refl)
pick_other zero (suc j) a b h = refl
pick_other (suc i) zero a b h = refl
pick_other (suc i) (suc j) a b h = pick_other i j a b (λ e. h (ap suc e))

scaled_on : (o m x v d : ℤ) → o *ℤ x ≡ v *ℤ d → o *ℤ (m *ℤ x) ≡ v *ℤ (m *ℤ d)
scaled_on o m x v d e = let g = simp spread at (ap (λ z. m *ℤ z) e) in simp spread (omega (arith, ints, g))

scaled_off : (m x g d : ℤ) → x ≡ g *ℤ d → m *ℤ x ≡ g *ℤ (m *ℤ d)
scaled_off m x g d e = rw e (simp spread refl)

here_on : (o v d : ℤ) → o *ℤ (v *ℤ d) ≡ v *ℤ (o *ℤ d)
here_on o v d = simp spread refl

times_one : (a : ℤ) → a ≡ a *ℤ pos 1
times_one a = omega (arith, ints)

-- two rows have two columns
pub columns_apart : (p : Program) (basis : ℕ → ℕ) (form : ℕ → ℕ → ℤ) → IsBasicForm p basis form → (i k : ℕ) → i ≤ p.rows → k ≤ p.rows → i ≢ k → basis i ≢ basis k
columns_apart p basis form basic i k h q a e =
    let own = basic.own i h in
    let none = basic.other i k h q a in
    let same = ap (form i) e in
    omega (arith, ints, own, none, same)

-- the equations are solved for the columns of the basis, with g off it
pub Solved : (p : Program) → (ℕ → ℕ) → (ℕ → ℕ → ℤ) → (ℕ → ℤ) → (ℕ → ℤ) → ℕ → Type 0
Solved p basis form g v m =
    (x : ℕ → ℤ) × (d : ℤ) × ((pos 0) <ℤ d) × ((i : ℕ) → i < m → form i (basis i) *ℤ x (basis i) ≡ v i *ℤ d) × ((j : ℕ) → ((i : ℕ) → i < m → j ≢ basis i) → x j ≡ g j *ℤ d)

pub solve : (p : Program) (basis : ℕ → ℕ) (form : ℕ → ℕ → ℤ) → IsBasicForm p basis form → (g v : ℕ → ℤ) (m : ℕ) → m ≤ p.rows → Solved p basis form g v m
unfolding Solved
solve p basis form basic g v zero h = (g, pos 1, omega (arith, ints), (λ i q. absurd (omega arith)), λ j out. times_one (g j))
solve p basis form basic g v (suc m) h = more (solve p basis form basic g v m (omega arith))
  where
    own : (pos 0) <ℤ form m (basis m)
    own = basic.own m (omega arith)

    more : ((x : ℕ → ℤ) × (d : ℤ) × ((pos 0) <ℤ d) × ((i : ℕ) → i < m → form i (basis i) *ℤ x (basis i) ≡ v i *ℤ d) × ((j : ℕ) → ((i : ℕ) → i < m → j ≢ basis i) → x j ≡ g j *ℤ d)) → Solved p basis form g v (suc m)
    more s = (λ j. pick (basis m) j (v m *ℤ s.1) (form m (basis m) *ℤ s.0 j), form m (basis m) *ℤ s.1, mul_positive (form m (basis m)) s.1 own s.2, (λ i q. ⊎_elim (λ (e : i ≡ m). rw e (ap (λ z. form m (basis m) *ℤ z) (pick_same (basis m) (v m *ℤ s.1) (form m (basis m) *ℤ s.0 (basis m))) ∙ here_on (form m (basis m)) (v m) s.1)) (λ (a : i ≢ m). ap (λ z. form i (basis i) *ℤ z) (pick_other (basis m) (basis i) (v m *ℤ s.1) (form m (basis m) *ℤ s.0 (basis i)) (λ e. columns_apart p basis form basic i m (omega arith) (omega arith) a (sym e))) ∙ scaled_on (form i (basis i)) (form m (basis m)) (s.0 (basis i)) (v i) s.1 (s.3 i (omega arith))) (cases_eq i m)), (λ j out. pick_other (basis m) j (v m *ℤ s.1) (form m (basis m) *ℤ s.0 j) (λ e. out m (omega arith) (sym e)) ∙ scaled_off (form m (basis m)) (s.0 j) (g j) s.1 (s.4 j (λ i q. out i (omega arith)))))

-- each basis has a basic solution
pub solution : (p : Program) (basis : ℕ → ℕ) (form : ℕ → ℕ → ℤ) → IsBasicForm p basis form → (x : ℕ → ℤ) × (d : ℤ) × IsBasicSolution p basis form x d
unfolding Solved
solution p basis form basic = got (solve p basis form basic (λ j. pos 0) (λ i. form i (right_column p)) p.rows (omega arith))
  where
    got : Solved p basis form (λ j. pos 0) (λ i. form i (right_column p)) p.rows → (x : ℕ → ℤ) × (d : ℤ) × IsBasicSolution p basis form x d
    got s = (s.0, s.1, record { positive = s.2; on = s.3; off = λ j h out. s.4 j out ∙ omega (arith, ints) })

-- and along each column off it a basic direction
pub direction : (p : Program) (basis : ℕ → ℕ) (form : ℕ → ℕ → ℤ) → IsBasicForm p basis form → (col : ℕ) → IsFree p basis col → (x : ℕ → ℤ) × (d : ℤ) × IsBasicDirection p basis form col x d
unfolding Solved
direction p basis form basic col free = got (solve p basis form basic (λ j. pick col j (pos 1) (pos 0)) (λ i. neg_ℤ (form i col)) p.rows (omega arith))
  where
    got : Solved p basis form (λ j. pick col j (pos 1) (pos 0)) (λ i. neg_ℤ (form i col)) p.rows → (x : ℕ → ℤ) × (d : ℤ) × IsBasicDirection p basis form col x d
    got s = (s.0, s.1, record { positive = s.2; raised = s.4 col free.1 ∙ ap (λ z. z *ℤ s.1) (pick_same col (pos 1) (pos 0)) ∙ omega (arith, ints); on = s.3; off = λ j h a out. s.4 j out ∙ ap (λ z. z *ℤ s.1) (pick_other col j (pos 1) (pos 0) (λ e. a (sym e))) ∙ omega (arith, ints) })

same_value : (o m r q x y d e : ℤ) → (pos 0) <ℤ o → (pos 0) <ℤ m → o *ℤ x ≡ r *ℤ d → m *ℤ y ≡ q *ℤ e → m *ℤ r ≡ o *ℤ q → x *ℤ e ≡ y *ℤ d
same_value o m r q x y d e op mp first second third =
    cancel (x *ℤ e) (y *ℤ d) (o *ℤ m) (mul_positive o m op mp) (let g = simp spread at (ap (λ z. z *ℤ (m *ℤ e)) first) in let h = simp spread at (ap (λ z. z *ℤ (o *ℤ d)) second) in let k = simp spread at (ap (λ z. z *ℤ (d *ℤ e)) third) in simp spread (omega (arith, ints, g, h, k)))

zeros_alike : (x y d e : ℤ) → x ≡ pos 0 → y ≡ pos 0 → x *ℤ e ≡ y *ℤ d
zeros_alike x y d e h i = rw (h, i) (omega (arith, ints))

-- bases with the same columns have the same basic solution
pub same_solution : (p : Program) (basis other : ℕ → ℕ) (form made : ℕ → ℕ → ℤ) → IsBasicForm p basis form → IsBasicForm p other made → HaveSameColumns p basis other → (x y : ℕ → ℤ) (d e : ℤ) → IsBasicSolution p basis form x d → IsBasicSolution p other made y e → (j : ℕ) → j < value_column p → x j *ℤ e ≡ y j *ℤ d
same_solution p basis other form made basic second same x y d e first last j h = ⊎_elim (λ (f : (k : ℕ) × (k < p.rows) × (j ≡ basis k)). on f (same.0 f.0 (omega (arith, f.1)))) (λ (out : (k : ℕ) → k < p.rows → j ≢ basis k). zeros_alike (x j) (y j) d e (first.off j h out) (last.off j h (λ k q s. off out k q s (same.1 k (omega arith))))) (in_basis basis p.rows j)
  where
    on : (f : (k : ℕ) × (k < p.rows) × (j ≡ basis k)) → (k : ℕ) × (k ≤ p.rows) × (basis f.0 ≡ other k) → x j *ℤ e ≡ y j *ℤ d
    on f g =
        let inside : g.0 < p.rows = ⊎_elim (λ (b : g.0 < p.rows). b) (λ (b : p.rows ≤ g.0). let t : g.0 ≡ p.rows = omega (arith, g.1, b) in let u = f.2 ∙ g.2 ∙ ap other t ∙ second.value in absurd (omega (arith, u, h))) (side g.0 p.rows) in
        let to : j ≡ other g.0 = f.2 ∙ g.2 in
        same_value (form f.0 (basis f.0)) (made g.0 (other g.0)) (form f.0 (right_column p)) (made g.0 (right_column p)) (x j) (y j) d e (basic.own f.0 (omega (arith, f.1))) (second.own g.0 g.1) (ap (λ z. form f.0 (basis f.0) *ℤ x z) f.2 ∙ first.on f.0 f.1) (ap (λ z. made g.0 (other g.0) *ℤ y z) to ∙ last.on g.0 inside) (in_proportion p basis other form made basic second same f.0 g.0 (omega (arith, f.1)) g.1 g.2 (right_column p) (omega arith))

    off : ((k : ℕ) → k < p.rows → j ≢ basis k) → (k : ℕ) → k < p.rows → j ≡ other k → (m : ℕ) × (m ≤ p.rows) × (other k ≡ basis m) → ⊥
    off out k q s g = ⊎_elim (λ (b : g.0 < p.rows). out g.0 b (s ∙ g.2)) (λ (b : p.rows ≤ g.0). let t : g.0 ≡ p.rows = omega (arith, g.1, b) in let u = s ∙ g.2 ∙ ap basis t ∙ basic.value in absurd (omega (arith, u, h))) (side g.0 p.rows)
