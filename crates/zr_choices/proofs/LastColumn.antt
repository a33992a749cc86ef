-- What the equations of a program that asks say of its last column, and of the row that it is at
-- most 1.
use Rattle.std.proofs.Common.{◌≡◌, ◌≢◌, ℕ, zero, suc, ◌+◌, ◌<◌, ◌≤◌, ◌==◌, arith, refl, sym, ap, ◌∙◌, ℤ, pos, negsuc, ◌+ℤ◌, ◌-ℤ◌, ◌*ℤ◌, ◌<ℤ◌, ◌≤ℤ◌, Bool, true, false, if◌then◌else◌, List, length, ◌⊎◌, inl, inr, ⊎_elim}
use Rattle.std.proofs.lemmas.Bool.{cases_eq}
use Rattle.std.proofs.lemmas.Bool.Decides.{nat_tests}
use Rattle.std.proofs.lemmas.Int.{ints}
use Rattle.zr_base.specs.Sums.{sum_to}
use Rattle.zr_base.proofs.Ring.{cancel_mul, spread}
use Rattle.zr_lin.specs.DenseRows.{DenseRow}
use Rattle.zr_lin.specs.Ineqs.{IneqOf}
use Rattle.zr_basis.specs.BasicForms.{CombinesEquations, IsBasicForm, IsBasicSolution, right_column, value_column}
use Rattle.zr_basis.proofs.Unique.{determined, mixed}
use Rattle.zr_simplex.specs.declared.program.Lp.{Lp}
use Rattle.zr_simplex.specs.Programs.{numbers, program_of}
use Rattle.zr_choices.specs.Asking.{Asks}
use Rattle.zr_choices.specs.Parted.{place}
use Rattle.zr_choices.proofs.AskedRows.{last_apart, last_here, last_right, lp_count, rows_are}
use Rattle.zr_choices.proofs.Halves.{find}
use Rattle.zr_choices.proofs.Sums.{sum_to-all_zero, sum_to-single}

-- 1 at one column
abbrev pub unit : ℕ → ℕ → ℤ
unit c j = if j == c then pos 1 else pos 0

pub unit_here : (c j : ℕ) → j ≡ c → unit c j ≡ pos 1
unit_here c j e = let t : (j == c) ≡ true = grind (arith, nat_tests, e) in rw t refl

pub unit_apart : (c j : ℕ) → j ≢ c → unit c j ≡ pos 0
unit_apart c j n = let t : (j == c) ≡ false = grind (arith, nat_tests, n) in rw t refl

-- what is nowhere zero but at one column
one_times : (z : ℤ) → pos 1 *ℤ z ≡ z
one_times z = omega (arith, ints)

zero_times : (z : ℤ) → pos 0 *ℤ z ≡ pos 0
zero_times z = omega (arith, ints)

pub product_zero : (a b : ℤ) → (pos 0) <ℤ b → a *ℤ b ≡ pos 0 → a ≡ pos 0
product_zero a (pos zero) up e = absurd (omega (arith, ints, up))
product_zero a (pos (suc k)) up e =
    let z : pos 0 *ℤ pos (suc k) ≡ pos 0 = omega (arith, ints) in
    cancel_mul a (pos 0) (suc k) (omega arith) (e ∙ sym z)
product_zero a (negsuc k) up e = absurd (omega (arith, ints, up))

module _ (free : ℕ → Bool) (n : ℕ) (rows : List IneqOf) (lp : Lp) (asks : Asks free n rows lp)
  where
    -- the slack of the row that the last column is at most 1
    abbrev pub end_slack : ℕ
    end_slack = lp.columns + length rows

    end_coef : (c : ℕ) → c < place free n → (program_of lp).coef (length rows) c ≡ pos 0
    end_coef c h =
        ap (λ (d : DenseRow). d.coef c) (rows_are free n rows lp asks (length rows))
        ∙ last_apart free n rows c h

    end_last : (program_of lp).coef (length rows) (place free n) ≡ pos 1
    end_last =
        ap (λ (d : DenseRow). d.coef (place free n)) (rows_are free n rows lp asks (length rows))
        ∙ last_here free n rows

    end_right : (program_of lp).le (length rows) ≡ pos 1
    end_right =
        ap (λ (d : DenseRow). d.le) (rows_are free n rows lp asks (length rows))
        ∙ last_right free n rows

    -- the equation of that row
    abbrev bound : ℕ → ℤ
    bound j = unit (place free n) j +ℤ unit end_slack j +ℤ unit (right_column (program_of lp)) j

    -- the equation of the value
    abbrev worth : ℕ → ℤ
    worth j = unit (place free n) j +ℤ unit (value_column (program_of lp)) j

    bound_slack : (r : ℕ) → r < length lp.rows.items
        → bound (lp.columns + r) ≡ unit (length rows) r
    bound_slack r h =
        let w = asks.width in
        let m = lp_count free n rows lp asks in
        let a = unit_apart (place free n) (lp.columns + r) (λ e. omega (arith, e, w)) in
        let c = unit_apart (right_column (program_of lp)) (lp.columns + r)
        (λ e. omega (arith, e, h)) in
        ⊎_elim (λ (e : r ≡ length rows).
        let x = unit_here end_slack (lp.columns + r) (ap (λ (k : ℕ). lp.columns + k) e) in
        let y = unit_here (length rows) r e in omega (arith, ints, a, c, x, y))
        (λ (d : r ≢ length rows).
        let x = unit_apart end_slack (lp.columns + r) (λ e. d (omega (arith, e))) in
        let y = unit_apart (length rows) r d in omega (arith, ints, a, c, x, y))
        (cases_eq r (length rows))

    picked : (f : ℕ → ℤ)
        → sum_to (length lp.rows.items) (λ r. bound (lp.columns + r) *ℤ f r) ≡ f (length rows)
    picked f =
        let m = lp_count free n rows lp asks in
        sum_to-single (length lp.rows.items) (length rows) (λ r. bound (lp.columns + r) *ℤ f r)
        (omega (arith, m))
        (λ r h d. ap (λ z. z *ℤ f r) (bound_slack r h ∙ unit_apart (length rows) r d)
        ∙ zero_times (f r))
        ∙ ap (λ z. z *ℤ f (length rows)) (bound_slack (length rows) (omega (arith, m))
        ∙ unit_here (length rows) (length rows) refl) ∙ one_times (f (length rows))

    coef_unit : (j : ℕ) → j < lp.columns
        → (program_of lp).coef (length rows) j ≡ unit (place free n) j
    coef_unit j h =
        let w = asks.width in
        ⊎_elim (λ (e : j ≡ place free n).
        ap (λ (k : ℕ). (program_of lp).coef (length rows) k) e ∙ end_last
        ∙ sym (unit_here (place free n) j e))
        (λ (d : j ≢ place free n).
        end_coef j (omega (arith, h, w, d)) ∙ sym (unit_apart (place free n) j d))
        (cases_eq j (place free n))

    bound_combines : CombinesEquations (program_of lp) bound
    bound_combines = record {
      columns = λ j h.
          let m = lp_count free n rows lp asks in
          let s = picked (λ r. (program_of lp).coef r j) in
          let c = coef_unit j h in
          let w = asks.width in
          let x = unit_apart end_slack j (λ e. omega (arith, e, h)) in
          let y = unit_apart (right_column (program_of lp)) j (λ e. omega (arith, e, h)) in
          let v = bound_value in
          let z = ap (λ k. k *ℤ numbers lp.aim.items j) v ∙ zero_times (numbers lp.aim.items j) in
          omega (arith, ints, s, c, x, y, z);
      right =
          let m = lp_count free n rows lp asks in
          let s = picked (λ r. (program_of lp).le r) in
          let e = end_right in
          let w = asks.width in
          let x = unit_apart (place free n) (right_column (program_of lp))
          (λ q. omega (arith, q, w)) in
          let y = unit_apart end_slack (right_column (program_of lp)) (λ q. omega (arith, q, m)) in
          let z = unit_here (right_column (program_of lp)) (right_column (program_of lp)) refl in
          omega (arith, ints, s, e, x, y, z);
    }
      where
        bound_value : bound (value_column (program_of lp)) ≡ pos 0
        bound_value =
            let m = lp_count free n rows lp asks in
            let w = asks.width in
            let x = unit_apart (place free n) (value_column (program_of lp))
            (λ q. omega (arith, q, w)) in
            let y = unit_apart end_slack (value_column (program_of lp)) (λ q. omega (arith, q, m)) in
            let z = unit_apart (right_column (program_of lp)) (value_column (program_of lp))
            (λ q. omega (arith, q)) in
            omega (arith, ints, x, y, z)

    worth_combines : CombinesEquations (program_of lp) worth
    worth_combines = record {
      columns = λ j h.
          let w = asks.width in
          let s = sum_to-all_zero (length lp.rows.items)
          (λ r. worth (lp.columns + r) *ℤ (program_of lp).coef r j)
          (λ r q. ap (λ z. z *ℤ (program_of lp).coef r j) (none r q)
          ∙ zero_times ((program_of lp).coef r j)) in
          let v = unit_apart (place free n) (value_column (program_of lp))
          (λ q. omega (arith, q, w)) in
          let u = unit_here (value_column (program_of lp)) (value_column (program_of lp)) refl in
          let x = unit_apart (value_column (program_of lp)) j (λ e. omega (arith, e, h)) in
          let k : worth (value_column (program_of lp)) ≡ pos 1 = omega (arith, ints, v, u) in
          let z = ap (λ y. y *ℤ numbers lp.aim.items j) k ∙ one_times (numbers lp.aim.items j) in
          let a = aim_unit j h in
          omega (arith, ints, s, x, z, a);
      right =
          let w = asks.width in
          let s = sum_to-all_zero (length lp.rows.items)
          (λ r. worth (lp.columns + r) *ℤ (program_of lp).le r)
          (λ r q. ap (λ z. z *ℤ (program_of lp).le r) (none r q)
          ∙ zero_times ((program_of lp).le r)) in
          let x = unit_apart (place free n) (right_column (program_of lp))
          (λ q. omega (arith, q, w)) in
          let y = unit_apart (value_column (program_of lp)) (right_column (program_of lp))
          (λ q. omega (arith, q)) in
          omega (arith, ints, s, x, y);
    }
      where
        none : (r : ℕ) → r < length lp.rows.items → worth (lp.columns + r) ≡ pos 0
        none r q =
            let w = asks.width in
            let x = unit_apart (place free n) (lp.columns + r) (λ e. omega (arith, e, w)) in
            let y = unit_apart (value_column (program_of lp)) (lp.columns + r)
            (λ e. omega (arith, e, q)) in
            omega (arith, ints, x, y)

        aim_unit : (j : ℕ) → j < lp.columns
            → unit (place free n) j +ℤ numbers lp.aim.items j ≡ pos 0
        aim_unit j h =
            let w = asks.width in
            ⊎_elim (λ (e : j ≡ place free n).
            let x = unit_here (place free n) j e in
            let a = ap (numbers lp.aim.items) e ∙ asks.last in omega (arith, ints, x, a))
            (λ (d : j ≢ place free n).
            let x = unit_apart (place free n) j d in
            let a = asks.aim j (omega (arith, h, w, d)) in omega (arith, ints, x, a))
            (cases_eq j (place free n))

    module _ (basis : ℕ → ℕ) (form : ℕ → ℕ → ℤ) (good : IsBasicForm (program_of lp) basis form) where
      inside : (i : ℕ) → i ≤ length lp.rows.items → basis i ≤ value_column (program_of lp)
      inside i h =
          ⊎_elim (λ (e : i ≡ length lp.rows.items).
          let q = ap basis e ∙ good.value in omega (arith, q))
          (λ (d : i ≢ length lp.rows.items).
          let q = good.columns i (omega (arith, h, d)) in omega (arith, q))
          (cases_eq i (length lp.rows.items))

      -- at a basis column that is neither, that row's equation is zero
      bound_zero : (i : ℕ) → i ≤ length lp.rows.items → basis i ≢ place free n
          → basis i ≢ end_slack → bound (basis i) ≡ pos 0
      bound_zero i h a b =
          let q = inside i h in
          let x = unit_apart (place free n) (basis i) a in
          let y = unit_apart end_slack (basis i) b in
          let z = unit_apart (right_column (program_of lp)) (basis i) (λ e. omega (arith, e, q)) in
          omega (arith, ints, x, y, z)

      bound_right : bound (right_column (program_of lp)) ≡ pos 1
      bound_right =
          let w = asks.width in
          let m = lp_count free n rows lp asks in
          let x = unit_apart (place free n) (right_column (program_of lp))
          (λ q. omega (arith, q, w)) in
          let y = unit_apart end_slack (right_column (program_of lp)) (λ q. omega (arith, q, m)) in
          let z = unit_here (right_column (program_of lp)) (right_column (program_of lp)) refl in
          omega (arith, ints, x, y, z)

      bound_last : bound (place free n) ≡ pos 1
      bound_last =
          let w = asks.width in
          let m = lp_count free n rows lp asks in
          let x = unit_here (place free n) (place free n) refl in
          let y = unit_apart end_slack (place free n) (λ q. omega (arith, q, w)) in
          let z = unit_apart (right_column (program_of lp)) (place free n)
          (λ q. omega (arith, q, w)) in
          omega (arith, ints, x, y, z)

      -- a basis column has a number in its own equation alone
      elsewhere : (i row : ℕ) → i ≤ length lp.rows.items → row ≤ length lp.rows.items → i ≢ row
          → (c : ℕ) → form row c ≢ pos 0 → basis i ≢ c
      elsewhere i row h q d c n e = n (ap (form row) (sym e) ∙ good.other row i q h (λ s. d (sym s)))

      -- in an equation that no point meets that row has no multiplier
      module _ (row : ℕ) (below : row < length lp.rows.items)
          (low : form row (right_column (program_of lp)) <ℤ (pos 0))
          (up : (pos 0) ≤ℤ form row end_slack)
          (over : form row end_slack ≤ℤ form row (place free n)) where
        none_if : (pos 0) <ℤ form row (basis row)
            → ((j : ℕ) → j ≤ right_column (program_of lp)
            → form row (basis row) *ℤ bound j -ℤ bound (basis row) *ℤ form row j ≡ pos 0)
            → ⊥
        none_if above zeros =
            let z = zeros (right_column (program_of lp)) (omega arith) in
            let b = bound_right in
            let x = ap (λ y. form row (basis row) *ℤ y) b in
            by (bound (basis row)) (unit_up (basis row)) (omega (arith, ints, z, x))
          where
            unit_or : (c j : ℕ) → (unit c j ≡ pos 0) ⊎ (unit c j ≡ pos 1)
            unit_or c j =
                ⊎_elim (λ (e : j ≡ c). inr (unit_here c j e)) (λ (d : j ≢ c). inl (unit_apart c j d))
                (cases_eq j c)

            unit_up : (j : ℕ) → (pos 0) ≤ℤ bound j
            unit_up j =
                ⊎_elim (λ (a : unit (place free n) j ≡ pos 0). first j (omega (arith, ints, a)))
                (λ (a : unit (place free n) j ≡ pos 1). first j (omega (arith, ints, a)))
                (unit_or (place free n) j)
              where
                second : (j : ℕ) → (pos 0) ≤ℤ unit (place free n) j → (pos 0) ≤ℤ unit end_slack j
                    → (pos 0) ≤ℤ bound j
                second j a b =
                    ⊎_elim (λ (c : unit (right_column (program_of lp)) j ≡ pos 0).
                    omega (arith, ints, a, b, c))
                    (λ (c : unit (right_column (program_of lp)) j ≡ pos 1).
                    omega (arith, ints, a, b, c)) (unit_or (right_column (program_of lp)) j)

                first : (j : ℕ) → (pos 0) ≤ℤ unit (place free n) j → (pos 0) ≤ℤ bound j
                first j a =
                    ⊎_elim (λ (b : unit end_slack j ≡ pos 0). second j a (omega (arith, ints, b)))
                    (λ (b : unit end_slack j ≡ pos 1). second j a (omega (arith, ints, b)))
                    (unit_or end_slack j)

            down : (k : ℕ) (z : ℤ) → z <ℤ (pos 0) → (pos k *ℤ z) ≤ℤ (pos 0)
            down zero z h = let e = zero_times z in omega (arith, ints, e)
            down (suc k) z h =
                let r = down k z h in
                let e : pos (suc k) *ℤ z ≡ z +ℤ pos k *ℤ z = omega (arith, ints) in
                omega (arith, ints, r, e, h)

            by : (z : ℤ) → (pos 0) ≤ℤ z
                → form row (basis row) ≡ z *ℤ form row (right_column (program_of lp)) → ⊥
            by (pos k) a e =
                let d = down k (form row (right_column (program_of lp))) low in
                omega (arith, ints, d, e, above)
            by (negsuc k) a e = omega (arith, ints, a)

        pub end_of_empty : form row end_slack ≡ pos 0
        end_of_empty =
            ⊎_elim (λ (z : form row end_slack ≡ pos 0). z)
            (λ (d : form row end_slack ≢ pos 0). absurd
            (none_if (good.own row (omega (arith, below)))
            (determined (program_of lp) basis form good
            (λ j. form row (basis row) *ℤ bound j -ℤ bound (basis row) *ℤ form row j)
            (mixed (program_of lp) bound (form row) (form row (basis row)) (bound (basis row))
            bound_combines (good.combination row (omega (arith, below)))) (λ i h. at d i h))))
            (zero_or (form row end_slack))
          where
            zero_or : (z : ℤ) → (z ≡ pos 0) ⊎ (z ≢ pos 0)
            zero_or (pos zero) = inl refl
            zero_or (pos (suc k)) = inr (λ e. cc)
            zero_or (negsuc k) = inr (λ e. cc)

            crossed : (a b : ℤ) → a *ℤ b -ℤ b *ℤ a ≡ pos 0
            crossed a b = simp spread (omega (arith, ints))

            at : form row end_slack ≢ pos 0 → (i : ℕ) → i ≤ length lp.rows.items
                → form row (basis row) *ℤ bound (basis i) -ℤ bound (basis row) *ℤ form row (basis i)
                ≡ pos 0
            at d i h =
                ⊎_elim (λ (e : i ≡ row).
                ap (λ (k : ℕ). form row (basis row) *ℤ bound (basis k)
                -ℤ bound (basis row) *ℤ form row (basis k)) e
                ∙ crossed (form row (basis row)) (bound (basis row)))
                (λ (s : i ≢ row).
                let a = bound_zero i h (elsewhere i row h (omega (arith, below)) s (place free n)
                (λ z. d (omega (arith, ints, z, up, over))))
                (elsewhere i row h (omega (arith, below)) s end_slack d) in
                let b = good.other row i (omega (arith, below)) h (λ q. s (sym q)) in
                let x = ap (λ z. form row (basis row) *ℤ z) a in
                let y = ap (λ z. bound (basis row) *ℤ z) b in
                let u : form row (basis row) *ℤ pos 0 ≡ pos 0 = omega (arith, ints) in
                let v : bound (basis row) *ℤ pos 0 ≡ pos 0 = omega (arith, ints) in
                omega (arith, ints, x, y, u, v))
                (cases_eq i row)

      -- at a least value the last column is in the basis; and where it has the value 0, that row has
      -- no multiplier
      module _ (least : (j : ℕ) → j < value_column (program_of lp)
          → form (length lp.rows.items) j ≤ℤ (pos 0)) where
        scale_up : (pos 0) <ℤ form (length lp.rows.items) (value_column (program_of lp))
        scale_up =
            let o = good.own (length lp.rows.items) (omega arith) in
            rw good.value at o

        zero_or : (z : ℤ) → (z ≡ pos 0) ⊎ (z ≢ pos 0)
        zero_or (pos zero) = inl refl
        zero_or (pos (suc k)) = inr (λ e. cc)
        zero_or (negsuc k) = inr (λ e. cc)

        pub last_of_least : form (length lp.rows.items) (place free n) ≡ pos 0
        last_of_least =
            ⊎_elim (λ (z : form (length lp.rows.items) (place free n) ≡ pos 0). z)
            (λ (d : form (length lp.rows.items) (place free n) ≢ pos 0). absurd (off d))
            (zero_or (form (length lp.rows.items) (place free n)))
          where
            worth_value : worth (value_column (program_of lp)) ≡ pos 1
            worth_value =
                let w = asks.width in
                let v = unit_apart (place free n) (value_column (program_of lp))
                (λ q. omega (arith, q, w)) in
                let u = unit_here (value_column (program_of lp)) (value_column (program_of lp))
                refl in
                omega (arith, ints, v, u)

            worth_last : worth (place free n) ≡ pos 1
            worth_last =
                let w = asks.width in
                let v = unit_here (place free n) (place free n) refl in
                let u = unit_apart (value_column (program_of lp)) (place free n)
                (λ q. omega (arith, q, w)) in
                omega (arith, ints, v, u)

            at : form (length lp.rows.items) (place free n) ≢ pos 0
                → (i : ℕ) → i ≤ length lp.rows.items
                → form (length lp.rows.items) (value_column (program_of lp)) *ℤ worth (basis i)
                -ℤ pos 1 *ℤ form (length lp.rows.items) (basis i) ≡ pos 0
            at d i h =
                ⊎_elim (λ (e : i ≡ length lp.rows.items).
                let v = ap basis e ∙ good.value in
                let x = ap worth v ∙ worth_value in
                let y = ap (form (length lp.rows.items)) v in
                let a = ap (λ z. form (length lp.rows.items) (value_column (program_of lp)) *ℤ z)
                x in
                let b : form (length lp.rows.items) (value_column (program_of lp)) *ℤ pos 1
                ≡ form (length lp.rows.items) (value_column (program_of lp)) = omega (arith, ints) in
                let c = one_times (form (length lp.rows.items) (basis i)) in
                omega (arith, ints, a, b, c, y))
                (λ (s : i ≢ length lp.rows.items).
                let l = good.columns i (omega (arith, h, s)) in
                let v = unit_apart (place free n) (basis i)
                (elsewhere i (length lp.rows.items) h (omega arith) s (place free n) d) in
                let u = unit_apart (value_column (program_of lp)) (basis i)
                (λ q. omega (arith, q, l)) in
                let x : worth (basis i) ≡ pos 0 = omega (arith, ints, v, u) in
                let y = good.other (length lp.rows.items) i (omega arith) h (λ q. s (sym q)) in
                let a = ap (λ z. form (length lp.rows.items) (value_column (program_of lp)) *ℤ z)
                x in
                let b : form (length lp.rows.items) (value_column (program_of lp)) *ℤ pos 0 ≡ pos 0
                = omega (arith, ints) in
                let c = one_times (form (length lp.rows.items) (basis i)) in
                omega (arith, ints, a, b, c, y))
                (cases_eq i (length lp.rows.items))

            off : form (length lp.rows.items) (place free n) ≢ pos 0 → ⊥
            off d =
                let w = asks.width in
                let z = determined (program_of lp) basis form good
                (λ j. form (length lp.rows.items) (value_column (program_of lp)) *ℤ worth j
                -ℤ pos 1 *ℤ form (length lp.rows.items) j)
                (mixed (program_of lp) worth (form (length lp.rows.items))
                (form (length lp.rows.items) (value_column (program_of lp))) (pos 1) worth_combines
                (good.combination (length lp.rows.items) (omega arith))) (λ i h. at d i h)
                (place free n) (omega (arith, w)) in
                let a = ap (λ y. form (length lp.rows.items) (value_column (program_of lp)) *ℤ y)
                worth_last in
                let b : form (length lp.rows.items) (value_column (program_of lp)) *ℤ pos 1
                ≡ form (length lp.rows.items) (value_column (program_of lp)) = omega (arith, ints) in
                let c = one_times (form (length lp.rows.items) (place free n)) in
                let up = scale_up in
                let down = least (place free n) (omega (arith, w)) in
                omega (arith, ints, z, a, b, c, up, down)

        module _ (x : ℕ → ℤ) (d : ℤ)
            (solution : IsBasicSolution (program_of lp) basis form x d)
            (at_zero : x (place free n) ≡ pos 0) where
          slack_off : form (length lp.rows.items) end_slack ≢ pos 0 → (k : ℕ)
              → k ≤ length lp.rows.items → basis k ≢ end_slack
          slack_off s k q =
              ⊎_elim (λ (e : k ≡ length lp.rows.items).
              let v = ap basis e ∙ good.value in
              let m = lp_count free n rows lp asks in
              λ g. omega (arith, v, g, m))
              (λ (f : k ≢ length lp.rows.items).
              elsewhere k (length lp.rows.items) q (omega arith) f end_slack s)
              (cases_eq k (length lp.rows.items))

          in_basis : (i : ℕ) → i < length lp.rows.items → place free n ≡ basis i
              → form (length lp.rows.items) end_slack ≢ pos 0 → ⊥
          in_basis i h e s =
              let z = determined (program_of lp) basis form good
              (λ j. form i (basis i) *ℤ bound j -ℤ pos 1 *ℤ form i j)
              (mixed (program_of lp) bound (form i) (form i (basis i)) (pos 1) bound_combines
              (good.combination i (omega (arith, h)))) (λ k q. at k q)
              (right_column (program_of lp)) (omega arith) in
              let a = ap (λ y. form i (basis i) *ℤ y) bound_right in
              let b : form i (basis i) *ℤ pos 1 ≡ form i (basis i) = omega (arith, ints) in
              let c = one_times (form i (right_column (program_of lp))) in
              let up = good.own i (omega (arith, h)) in
              let r = right_zero in
              omega (arith, ints, z, a, b, c, up, r)
            where
              right_zero : form i (right_column (program_of lp)) ≡ pos 0
              right_zero =
                  let o = solution.on i h in
                  let v : x (basis i) ≡ pos 0 = ap x (sym e) ∙ at_zero in
                  let q : form i (basis i) *ℤ x (basis i) ≡ pos 0 =
                  ap (λ y. form i (basis i) *ℤ y) v ∙ omega (arith, ints) in
                  product_zero (form i (right_column (program_of lp))) d solution.positive
                  (sym o ∙ q)

              at : (k : ℕ) → k ≤ length lp.rows.items
                  → form i (basis i) *ℤ bound (basis k) -ℤ pos 1 *ℤ form i (basis k) ≡ pos 0
              at k q =
                  ⊎_elim (λ (f : k ≡ i).
                  let u = ap bound (ap basis f ∙ sym e) ∙ bound_last in
                  let v = ap (form i) (ap basis f) in
                  let a = ap (λ y. form i (basis i) *ℤ y) u in
                  let b : form i (basis i) *ℤ pos 1 ≡ form i (basis i) = omega (arith, ints) in
                  let c = one_times (form i (basis k)) in
                  omega (arith, ints, a, b, c, v))
                  (λ (f : k ≢ i).
                  let own = good.own i (omega (arith, h)) in
                  let u = bound_zero k q (elsewhere k i q (omega (arith, h)) f (place free n)
                  (λ w. let g = ap (form i) e in omega (arith, ints, own, w, g))) (off k q) in
                  let v = good.other i k (omega (arith, h)) q (λ g. f (sym g)) in
                  let a = ap (λ y. form i (basis i) *ℤ y) u in
                  let b : form i (basis i) *ℤ pos 0 ≡ pos 0 = omega (arith, ints) in
                  let c = one_times (form i (basis k)) in
                  omega (arith, ints, a, b, c, v))
                  (cases_eq k i)
                where
                  off : (k : ℕ) → k ≤ length lp.rows.items → basis k ≢ end_slack
                  off k q = slack_off s k q

          pub end_of_least : form (length lp.rows.items) end_slack ≡ pos 0
          end_of_least =
              ⊎_elim (λ (z : form (length lp.rows.items) end_slack ≡ pos 0). z)
              (λ (s : form (length lp.rows.items) end_slack ≢ pos 0). absurd
              (⊎_elim (λ (r : (i : ℕ) × (i < length lp.rows.items) × (place free n ≡ basis i)).
              in_basis r.0 r.1 r.2 s)
              (λ (r : (i : ℕ) → i < length lp.rows.items → place free n ≢ basis i). outside s r)
              (find (length lp.rows.items) basis (place free n))))
              (zero_or (form (length lp.rows.items) end_slack))
            where
              outside : form (length lp.rows.items) end_slack ≢ pos 0
                  → ((i : ℕ) → i < length lp.rows.items → place free n ≢ basis i) → ⊥
              outside s r =
                  let w = asks.width in
                  let z = determined (program_of lp) basis form good bound bound_combines
                  (λ k q. bound_zero k q (away k q) (slack_off s k q)) (place free n)
                  (omega (arith, w)) in
                  let a = bound_last in
                  omega (arith, ints, z, a)
                where
                  away : (k : ℕ) → k ≤ length lp.rows.items → basis k ≢ place free n
                  away k q =
                      ⊎_elim (λ (e : k ≡ length lp.rows.items).
                      let v = ap basis e ∙ good.value in
                      let w = asks.width in
                      λ g. omega (arith, v, g, w))
                      (λ (f : k ≢ length lp.rows.items).
                      λ g. r k (omega (arith, q, f)) (sym g))
                      (cases_eq k (length lp.rows.items))
