-- The merged multipliers are in proportion to an equation, without a common divisor.
use Rattle.std.proofs.Common.{◌≡◌, ◌≢◌, ℕ, zero, suc, ◌+◌, ◌*◌, ◌<◌, ◌≤◌, ◌==◌, arith, refl, sym, ap, ap₂, subst, ◌∙◌, ℤ, pos, negsuc, neg_ℤ, ◌+ℤ◌, ◌*ℤ◌, Bool, true, false, cond, if◌then◌else◌, List, length, get_or, unsigned_abs, All, ⊎_elim}
use Rattle.std.specs.Int.{◌∣◌}
use Rattle.std.proofs.Math.Nat.{dvd-mul_left}
use Rattle.std.proofs.Math.IntN.{*ℤ_comm}
use Rattle.std.proofs.lemmas.Bool.{cases_eq}
use Rattle.std.proofs.lemmas.Bool.Decides.{nat_tests}
use Rattle.std.proofs.lemmas.Int.{ints, unsigned_abs-mul}
use Rattle.std.proofs.lemmas.List.{length-map}
use Rattle.zr_base.specs.Sums.{sum_to}
use Rattle.zr_base.specs.Terms.{Terms, coef_at, value_at}
use Rattle.zr_base.proofs.Dense.{sum_to-mul, sum_to_same}
use Rattle.zr_base.proofs.Divisors.{quot_exact}
use Rattle.zr_base.proofs.Ring.{mul-add_left, mul-add_right, mul_assoc, neg-mul_left}
use Rattle.zr_lin.specs.Ineqs.{IneqOf, IsIneq, ineq_of, row_at}
use Rattle.zr_basis.specs.Programs.{Program}
use Rattle.zr_basis.specs.BasicForms.{IsBasicForm, right_column, value_column}
use Rattle.zr_game.specs.Players.{GameOf}
use Rattle.zr_game.specs.Leaves.{at_column}
use Rattle.zr_game.specs.declared.choice.Choice.{Choice}
use Rattle.zr_simplex.specs.declared.program.Lp.{Lp}
use Rattle.zr_simplex.specs.Answers.{AreListed, AreOf, signed, weighed}
use Rattle.zr_simplex.specs.Programs.{IsLp, numbers, program_of}
use Rattle.zr_system.specs.declared.unknown.Unknown.TheVariants.{One}
use Rattle.zr_system.specs.Asked.{no_line}
use Rattle.zr_system.specs.Lines.{all_lines}
use Rattle.zr_system.specs.Regions.{LeavesOf}
use Rattle.zr_system.specs.System.{system_rows}
use Rattle.zr_system.specs.Unknowns.{columns}
use Rattle.zr_branch.specs.Merged.{AreAtLeastOne}
use Rattle.zr_branch.proofs.Listing.{below_or, past_end}
use Rattle.zr_choices.specs.Asking.{Asks}
use Rattle.zr_choices.specs.Drawn.{AreDrawn, AreInProportion, keeps_up, row_number}
use Rattle.zr_choices.specs.Merging.{first_terms}
use Rattle.zr_choices.specs.Parted.{parted_rows, place}
use Rattle.zr_choices.specs.Programs.{choices_program, is_free, last_column, last_raised}
use Rattle.zr_choices.proofs.AskedRows.{lp_count}
use Rattle.zr_choices.proofs.Closing.{extra_term, hit, no_hit, number_in, term_bound, term_free}
use Rattle.zr_choices.proofs.Mergeable.{sign_apart, zero_or}
use Rattle.zr_choices.proofs.Places.{place_below}
use Rattle.zr_choices.proofs.SignPlaces.{keeps, keeps_none, row_count, row_of, rows_rise, sign_at}
use Rattle.zr_choices.proofs.Sums.{sum_to-all_zero, sum_to-single}

-- the number is so many times d
abbrev Times : ℕ → ℤ → Type 0
Times d z = (w : ℤ) × (z ≡ w *ℤ pos d)

times_if : (d : ℕ) (z : ℤ) → d ∣ unsigned_abs z → Times d z
times_if d z h = (_, sym (quot_exact z (pos d) h))

divides_if : (d : ℕ) (z : ℤ) → Times d z → d ∣ unsigned_abs z
divides_if d z t =
    let e : unsigned_abs z ≡ unsigned_abs t.0 * d = ap unsigned_abs t.1
    ∙ unsigned_abs-mul t.0 (pos d) in
    subst (λ (n : ℕ). d ∣ n) (sym e) (dvd-mul_left d (unsigned_abs t.0))

times_zero : (d : ℕ) → Times d (pos 0)
times_zero d = (pos 0, omega (arith, ints))

times_add : (d : ℕ) (a b : ℤ) → Times d a → Times d b → Times d (a +ℤ b)
times_add d a b s t = (
  s.0 +ℤ t.0,
  ap₂ (λ x y. x +ℤ y) s.1 t.1
      ∙ sym (mul-add_right s.0 t.0 (pos d)),
)

times_mul : (d : ℕ) (k a : ℤ) → Times d a → Times d (a *ℤ k)
times_mul d k a t =
    (k *ℤ t.0, *ℤ_comm a k ∙ ap (λ z. k *ℤ z) t.1 ∙ sym (mul_assoc k t.0 (pos d)))

times_neg : (d : ℕ) (z : ℤ) → Times d z → Times d (neg_ℤ z)
times_neg d z t = (
  neg_ℤ t.0,
  (let h = t.1 in let m = neg-mul_left t.0 (pos d) in omega
      (arith, ints, h, m)),
)

times_sum : (d n : ℕ) (f : ℕ → ℤ) → ((j : ℕ) → j < n → Times d (f j)) → Times d (sum_to n f)
times_sum d zero f all = times_zero d
times_sum d (suc n) f all =
    times_add d (sum_to n f) (f n) (times_sum d n f (λ j h. all j (omega (arith, h))))
    (all n (omega arith))

-- how far one number is past another
at_distance : (a b : ℕ) → a ≤ b → (r : ℕ) × (b ≡ a + r)
at_distance zero b h = (b, omega arith)
at_distance (suc a) zero h = absurd (omega (arith, h))
at_distance (suc a) (suc b) h =
    let r = at_distance a b (omega (arith, h)) in
    let e = r.1 in (r.0, omega (arith, e))

abbrev pub sign_of : Bool → ℤ
sign_of negated = cond negated (negsuc 0) (pos 1)

signed_is : (negated : Bool) (z : ℤ) → signed negated z ≡ sign_of negated *ℤ z
signed_is true z = omega (arith, ints)
signed_is false z = omega (arith, ints)

-- the sign taken twice
twice : (negated : Bool) (z y : ℤ) → y ≡ sign_of negated *ℤ z → z ≡ y *ℤ sign_of negated
twice true z y e = omega (arith, ints, e)
twice false z y e = omega (arith, ints, e)

sign_not_0 : (negated : Bool) → sign_of negated ≢ pos 0
sign_not_0 true e = cc
sign_not_0 false e = cc

zero_times : (z : ℤ) → pos 0 *ℤ z ≡ pos 0
zero_times z = omega (arith, ints)

times_0 : (z : ℤ) → z *ℤ pos 0 ≡ pos 0
times_0 z = omega (arith, ints)

times_minus : (z : ℤ) → z *ℤ negsuc 0 ≡ neg_ℤ z
times_minus z = omega (arith, ints)

one_times : (z : ℤ) → pos 1 *ℤ z ≡ z
one_times z = omega (arith, ints)

one_term : (b : Bool) (x y s : ℤ) → x ≡ s *ℤ y
    → x *ℤ (if b then negsuc 0 else pos 0) ≡ neg_ℤ s *ℤ (if b then y else pos 0)
one_term true x y s e = let n = neg-mul_left s y in omega (arith, ints, e, n)
one_term false x y s e = omega (arith, ints)

module _ (game : GameOf) (leaves : LeavesOf) (path : List Choice) (lp : Lp)
    (asks : Asks (is_free game leaves) (length (columns game leaves))
    (system_rows game leaves path) lp)
    (lp_good : IsLp lp) where
  aim_is : (c : ℕ) → numbers lp.aim.items c ≡ last_raised (last_column game leaves) c
  aim_is c =
      ⊎_elim (λ (h : c < last_column game leaves). asks.aim c h
      ∙ sym (low (λ e. omega (arith, e, h))))
      (λ (h : last_column game leaves ≤ c). ⊎_elim
      (λ (e : c ≡ last_column game leaves). ap (numbers lp.aim.items) e ∙ asks.last ∙ sym (top e))
      (λ (e : c ≢ last_column game leaves).
      let w = asks.width in
      let l = lp_good.aim in
      past_end lp.aim.items c (pos 0) (omega (arith, w, l, h, e)) ∙ sym (low e))
      (cases_eq c (last_column game leaves)))
      (below_or c (last_column game leaves))
    where
      low : c ≢ last_column game leaves → last_raised (last_column game leaves) c ≡ pos 0
      low n = let t : (c == last_column game leaves)
          ≡ false = grind (arith, nat_tests, n) in rw t refl

      top : c ≡ last_column game leaves → last_raised (last_column game leaves) c ≡ negsuc 0
      top e = let t : (c == last_column game leaves)
          ≡ true = grind (arith, nat_tests, e) in rw t refl

  rows_count : length lp.rows.items
      ≡ length (parted_rows (is_free game leaves) (length (columns game leaves))
      (system_rows game leaves path))
  rows_count = sym (length-map lp.rows.items ineq_of)
      ∙ ap (λ (rs : List IneqOf). length rs) asks.parts

  -- the program is that of the path
  pub program_same : program_of lp ≡ choices_program game leaves path
  program_same = λ i. record {
    columns = asks.width i;
    rows = rows_count i;
    coef = λ r. (row_at (asks.parts i) r).coef;
    le = λ r. (row_at (asks.parts i) r).le;
    aim = λ c. aim_is c i;
  }

  module _ (form_rows : All (IsIneq (length (columns game leaves))) (system_rows game leaves path))
      (mult extra : Terms) (listed : AreListed lp mult extra)
      (columns_are : (c : ℕ) → c < place (is_free game leaves) (length (columns game leaves))
      → (weighed lp mult).coef c ≡ coef_at extra c)
      (end : coef_at mult (length (system_rows game leaves path)) ≡ pos 0)
      (list : Terms) (are : AreAtLeastOne 4294967296 list)
      (sums : (f : ℕ → ℤ) → value_at list f ≡ value_at mult f
      +ℤ value_at (first_terms (place (is_free game leaves) (length (columns game leaves))) extra)
      (λ k. f (row_of game leaves path k))) where
    abbrev free : ℕ → Bool
    free = is_free game leaves

    abbrev n : ℕ
    n = length (columns game leaves)

    abbrev m : ℕ
    m = length (system_rows game leaves path)

    abbrev at : ℕ → ℕ
    at j = row_of game leaves path (place (is_free game leaves) j)

    abbrev term : ℕ → ℕ → ℤ
    term r j =
        extra_term game leaves path lp asks form_rows mult extra listed
        (λ k. at_column k (negsuc 0) r) j

    number_is : (r : ℕ) → neg_ℤ (coef_at list r)
        ≡ sum_to m (λ k. coef_at mult k *ℤ at_column k (negsuc 0) r) +ℤ sum_to n (term r)
    number_is r =
        number_in game leaves path lp asks form_rows mult extra listed columns_are end list are
        sums r

    own_number : (r : ℕ) → r < m
        → sum_to m (λ k. coef_at mult k *ℤ at_column k (negsuc 0) r) ≡ neg_ℤ (coef_at mult r)
    own_number r h =
        sum_to-single m r (λ k. coef_at mult k *ℤ at_column k (negsuc 0) r) h
        (λ k l d. ap (λ z. coef_at mult k *ℤ z) (no_hit k r d) ∙ times_0 (coef_at mult k))
        ∙ ap (λ z. coef_at mult r *ℤ z) (hit r r refl) ∙ times_minus (coef_at mult r)

    free_term : (r j : ℕ) → free j ≡ true → term r j ≡ pos 0
    free_term r j e =
        term_free game leaves path lp asks form_rows mult extra listed
        (λ k. at_column k (negsuc 0) r) j e

    bound_term : (r j : ℕ) → free j ≡ false
        → term r j ≡ coef_at extra (place free j) *ℤ at_column (at j) (negsuc 0) r
    bound_term r j e =
        term_bound game leaves path lp asks form_rows mult extra listed
        (λ k. at_column k (negsuc 0) r) j e

    term_by : (r j : ℕ) → (free j ≡ false → coef_at extra (place free j)
        *ℤ at_column (at j) (negsuc 0) r ≡ pos 0)
        → term r j ≡ pos 0
    term_by r j z = by (free j) refl
      where
        by : (b : Bool) → free j ≡ b → term r j ≡ pos 0
        by true e = free_term r j e
        by false e = bound_term r j e ∙ z e

    -- a row with a multiplier has no extra
    row_alone : (r : ℕ) → r < m → coef_at mult r ≢ pos 0 → coef_at list r ≡ coef_at mult r
    row_alone r h d =
        let v = number_is r in
        let a = own_number r h in
        let b = sum_to-all_zero n (term r) (λ j l. term_by r j (λ e. none j l e)) in
        omega (arith, ints, v, a, b)
      where
        none : (j : ℕ) → j < n → free j ≡ false
            → coef_at extra (place free j) *ℤ at_column (at j) (negsuc 0) r ≡ pos 0
        none j l e =
            ⊎_elim (λ (q : at j ≡ r).
            ap (λ z. z *ℤ at_column (at j) (negsuc 0) r)
            (sign_apart game leaves path lp asks form_rows mult extra listed j l e
            (λ z. d (ap (coef_at mult) (sym q) ∙ z)))
            ∙ zero_times (at_column (at j) (negsuc 0) r))
            (λ (q : at j ≢ r). ap (λ z. coef_at extra (place free j) *ℤ z) (no_hit (at j) r q)
            ∙ times_0 (coef_at extra (place free j)))
            (cases_eq (at j) r)

    -- a row with an extra has no multiplier
    extra_alone : (j : ℕ) → j < n → free j ≡ false → coef_at extra (place free j) ≢ pos 0
        → coef_at list (at j) ≡ coef_at extra (place free j)
    extra_alone j h f d =
        let v = number_is (at j) in
        let s = (sign_at game leaves path j h f).0 in
        let c = row_count game leaves path in
        let a = own_number (at j) (omega (arith, s, c)) in
        let z = no_mult in
        let b = sum_to-single n j (term (at j)) h (λ i l q. term_by (at j) i (λ e. none i l e q))
        ∙ bound_term (at j) j f
        ∙ ap (λ y. coef_at extra (place free j) *ℤ y) (hit (at j) (at j) refl)
        ∙ times_minus (coef_at extra (place free j)) in
        omega (arith, ints, v, a, z, b)
      where
        no_mult : coef_at mult (at j) ≡ pos 0
        no_mult =
            ⊎_elim (λ (z : coef_at mult (at j) ≡ pos 0). z)
            (λ (z : coef_at mult (at j) ≢ pos 0).
            absurd (d (sign_apart game leaves path lp asks form_rows mult extra listed j h f z)))
            (zero_or (coef_at mult (at j)))

        none : (i : ℕ) → i < n → free i ≡ false → i ≢ j
            → coef_at extra (place free i) *ℤ at_column (at i) (negsuc 0) (at j) ≡ pos 0
        none i l e q =
            ap (λ y. coef_at extra (place free i) *ℤ y) (no_hit (at i) (at j) apart)
            ∙ times_0 (coef_at extra (place free i))
          where
            apart : at i ≢ at j
            apart s =
                ⊎_elim (λ (k : i < j).
                let r = rows_rise game leaves path i j k h e f in omega (arith, r, s))
                (λ (k : j ≤ i).
                let r = rows_rise game leaves path j i (omega (arith, k, q)) l f e in omega
                (arith, r, s))
                (below_or i j)

    module _ (basis : ℕ → ℕ) (form : ℕ → ℕ → ℤ) (row : ℕ)
        (is_form : IsBasicForm (program_of lp) basis form) (below : row ≤ length lp.rows.items)
        (negated : Bool) (of : AreOf (program_of lp) (form row) negated mult extra) where
      abbrev sign : ℤ
      sign = sign_of negated

      -- the equation's number at an unknown's column, where the row is the unknown's
      abbrev kept : ℕ → ℕ → ℤ
      kept r j =
          if keeps_up (get_or (all_lines game leaves path) r no_line)
          (get_or (columns game leaves) j One)
          then form row (place (is_free game leaves) j) else pos 0

      term_is : (r j : ℕ) → r < m → j < n → term r j ≡ neg_ℤ sign *ℤ kept r j
      term_is r j h l = by (free j) refl
        where
          by : (b : Bool) → free j ≡ b → term r j ≡ neg_ℤ sign *ℤ kept r j
          by true f =
              let k = keeps_none game leaves path r j f in
              let z : kept r j ≡ pos 0 = rw k refl in
              free_term r j f ∙ sym (ap (λ y. neg_ℤ sign *ℤ y) z ∙ times_0 (neg_ℤ sign))
          by false f =
              let c = row_count game leaves path in
              let k = keeps game leaves path r j (omega (arith, h, c)) l f in
              let w = asks.width in
              let p = place_below free j n l in
              bound_term r j f
              ∙ one_term (at j == r) (coef_at extra (place free j)) (form row (place free j)) sign
              (of.extras (place free j) (omega (arith, w, p))
              ∙ signed_is negated (form row (place free j)))
              ∙ ap (λ (b : Bool). neg_ℤ sign *ℤ (if b then form row (place free j) else pos 0)) k

      row_is : (r : ℕ) → r < m → coef_at list r
          ≡ sign *ℤ row_number game leaves path (form row) r
      row_is r h =
          let v = number_is r in
          let a = own_number r h in
          let b = sum_to_same n (term r) (λ j. neg_ℤ sign *ℤ kept r j) (λ j l. term_is r j h l)
          ∙ sum_to-mul n (neg_ℤ sign) (kept r) in
          let c = neg-mul_left sign (sum_to n (kept r)) in
          let k = lp_count free n (system_rows game leaves path) lp asks in
          let u = of.multipliers r (omega (arith, h, k))
          ∙ signed_is negated (form row (lp.columns + r))
          ∙ ap (λ (i : ℕ). sign *ℤ form row (i + r)) asks.width in
          let s = mul-add_left sign (form row (last_column game leaves + 1 + r))
          (sum_to n (kept r)) in
          omega (arith, ints, v, a, b, c, u, s)

      proportion : AreInProportion game leaves path (form row) list
      proportion = record {
        by = pos 1;
        of = sign;
        by_apart = λ z. cc;
        of_apart = sign_not_0 negated;
        rows_are = λ r h. one_times (coef_at list r) ∙ row_is r h;
      }

      module _ (d : ℕ) (divides : (k : ℕ) → d ∣ unsigned_abs (coef_at list k))
          (at_value : ((r : ℕ) → r < length lp.rows.items → Times d (form row (lp.columns + r)))
          → Times d (form row (value_column (program_of lp)))) where
        in_list : (k : ℕ) (z : ℤ) → coef_at list k ≡ z → Times d z
        in_list k z h = subst (Times d) h (times_if d (coef_at list k) (divides k))

        mult_times : (r : ℕ) → r < m → Times d (coef_at mult r)
        mult_times r h =
            ⊎_elim (λ (z : coef_at mult r ≡ pos 0). subst (Times d) (sym z) (times_zero d))
            (λ (z : coef_at mult r ≢ pos 0). in_list r (coef_at mult r) (row_alone r h z))
            (zero_or (coef_at mult r))

        slack_times : (r : ℕ) → r < length lp.rows.items → Times d (form row (lp.columns + r))
        slack_times r h =
            subst (Times d) (sym (twice negated (form row (lp.columns + r)) (coef_at mult r)
            (of.multipliers r h ∙ signed_is negated (form row (lp.columns + r)))))
            (times_mul d sign (coef_at mult r) times)
          where
            times : Times d (coef_at mult r)
            times =
                let k = lp_count free n (system_rows game leaves path) lp asks in
                ⊎_elim (λ (q : r < m). mult_times r q)
                (λ (q : m ≤ r). let s : r ≡ m = omega (arith, h, k, q) in
                subst (Times d) (sym (ap (coef_at mult) s ∙ end)) (times_zero d))
                (below_or r m)

        value_times : Times d (form row (value_column (program_of lp)))
        value_times = at_value (λ r h. slack_times r h)

        -- each number is a combination of the multipliers
        column_times : (j : ℕ) → j < lp.columns → Times d (form row j)
        column_times j h =
            subst (Times d) (sym ((is_form.combination row below).columns j h))
            (times_add d (sum_to (length lp.rows.items)
            (λ r. form row (lp.columns + r) *ℤ (program_of lp).coef r j))
            (neg_ℤ (form row (value_column (program_of lp)) *ℤ numbers lp.aim.items j))
            (times_sum d (length lp.rows.items)
            (λ r. form row (lp.columns + r) *ℤ (program_of lp).coef r j)
            (λ r l. times_mul d ((program_of lp).coef r j) (form row (lp.columns + r))
            (slack_times r l)))
            (times_neg d (form row (value_column (program_of lp)) *ℤ numbers lp.aim.items j)
            (times_mul d (numbers lp.aim.items j) (form row (value_column (program_of lp)))
            value_times)))

        right_times : Times d (form row (right_column (program_of lp)))
        right_times =
            subst (Times d) (sym (is_form.combination row below).right)
            (times_sum d (length lp.rows.items)
            (λ r. form row (lp.columns + r) *ℤ (program_of lp).le r)
            (λ r h. times_mul d ((program_of lp).le r) (form row (lp.columns + r))
            (slack_times r h)))

        each : (j : ℕ) → j < lp.columns + length lp.rows.items + 2 → Times d (form row j)
        each j h =
            ⊎_elim (λ (l : j < lp.columns). column_times j l)
            (λ (l : lp.columns ≤ j). ⊎_elim
            (λ (k : j < lp.columns + length lp.rows.items). slack j l k)
            (λ (k : lp.columns + length lp.rows.items ≤ j). ⊎_elim
            (λ (o : j ≡ value_column (program_of lp)).
            subst (λ (i : ℕ). Times d (form row i)) (sym o) value_times)
            (λ (o : j ≢ value_column (program_of lp)).
            let f : j ≡ right_column (program_of lp) = omega (arith, h, k, o) in
            subst (λ (i : ℕ). Times d (form row i)) (sym f) right_times)
            (cases_eq j (value_column (program_of lp))))
            (below_or j (lp.columns + length lp.rows.items))) (below_or j lp.columns)
          where
            slack : (i : ℕ) → lp.columns ≤ i → i < lp.columns + length lp.rows.items
                → Times d (form row i)
            slack i l k =
                let r = at_distance lp.columns i l in
                let f : i ≡ lp.columns + r.0 = r.1 in
                subst (λ (x : ℕ). Times d (form row x)) (sym f)
                (slack_times r.0 (omega (arith, k, f)))

        one : d ≡ 1
        one = is_form.primitive row below d (λ j h. divides_if d (form row j) (each j h))

      drawn_if : ((d : ℕ)
          → ((r : ℕ) → r < length lp.rows.items → Times d (form row (lp.columns + r)))
          → Times d (form row (value_column (program_of lp)))) → AreDrawn game leaves path list
      drawn_if at_value = record {
        basis = basis;
        form = form;
        row = row;
        is_form = subst (λ (x : Program). IsBasicForm x basis form) program_same is_form;
        below = subst (λ (x : Program). row ≤ x.rows) program_same below;
        proportion = proportion;
        divisors = λ d a c. one d c (at_value d);
      }

      -- an equation of a row has no number at the value
      pub drawn_empty : row < length lp.rows.items → AreDrawn game leaves path list
      drawn_empty less =
          drawn_if (λ d slacks. subst (Times d) (sym zero_there) (times_zero d))
        where
          zero_there : form row (value_column (program_of lp)) ≡ pos 0
          zero_there =
              ap (form row) (sym is_form.value)
              ∙ is_form.other row (length lp.rows.items) below (omega arith)
              (λ q. omega (arith, less, q))

      -- the number at the value is a combination of the multipliers where that at the last column
      -- is 0
      pub drawn_least : form row (place (is_free game leaves) (length (columns game leaves)))
          ≡ pos 0
          → AreDrawn game leaves path list
      drawn_least zero_last =
          drawn_if (λ d slacks. subst (Times d) (sym value_is)
          (times_neg d (sum_to (length lp.rows.items)
          (λ r. form row (lp.columns + r) *ℤ (program_of lp).coef r (place free n)))
          (times_sum d (length lp.rows.items)
          (λ r. form row (lp.columns + r) *ℤ (program_of lp).coef r (place free n))
          (λ r l. times_mul d ((program_of lp).coef r (place free n)) (form row (lp.columns + r))
          (slacks r l)))))
        where
          value_is : form row (value_column (program_of lp))
              ≡ neg_ℤ (sum_to (length lp.rows.items)
              (λ r. form row (lp.columns + r) *ℤ (program_of lp).coef r (place free n)))
          value_is =
              let w = asks.width in
              let c = (is_form.combination row below).columns (place free n) (omega (arith, w)) in
              let a = ap (λ z. form row (value_column (program_of lp)) *ℤ z) asks.last
              ∙ times_minus (form row (value_column (program_of lp))) in
              omega (arith, ints, c, a, zero_last)
