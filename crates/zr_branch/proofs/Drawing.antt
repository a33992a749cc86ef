-- The multipliers of slots are in proportion to an equation, without a common divisor.
use Rattle.std.proofs.Common.{◌≡◌, ◌≢◌, ℕ, zero, suc, ◌+◌, ◌*◌, ◌<◌, ◌≤◌, ◌==◌, arith, refl, sym, ap, ap₂, subst, ◌∙◌, ℤ, pos, negsuc, neg_ℤ, ◌+ℤ◌, ◌*ℤ◌, Bool, true, false, cond, Option, List, [], ◌∷◌, ◌++◌, length, get_or, slice_index, unsigned_abs, ◌⊎◌, inl, inr, ⊎_elim}
use Rattle.std.specs.Int.{◌∣◌}
use Rattle.std.proofs.Math.Nat.{dvd-mul_left}
use Rattle.std.proofs.Math.IntN.{*ℤ_comm}
use Rattle.std.proofs.lemmas.Int.{ints, unsigned_abs-mul}
use Rattle.std.proofs.lemmas.Bool.{cases_eq}
use Rattle.std.proofs.lemmas.Bool.Decides.{nat_tests}
use Rattle.std.proofs.lemmas.List.{get_or_append_left, get_or-append-add}
use Rattle.zr_base.specs.Sums.{sum_to}
use Rattle.zr_base.specs.Terms.{Terms, coef_at, value_at}
use Rattle.zr_base.proofs.Dense.{sum_to-mul, sum_to_same, value_dense}
use Rattle.zr_base.proofs.Divisors.{quot_exact}
use Rattle.zr_base.proofs.Ring.{mul-add_left, mul-add_right, mul_assoc, neg-mul_left, neg-mul_right}
use Rattle.zr_basis.specs.BasicForms.{CombinesEquations, IsBasicForm, IsPrimitive, right_column, value_column}
use Rattle.zr_basis.specs.Programs.{Program}
use Rattle.zr_basis.proofs.Sums.{sum_to-append}
use Rattle.zr_game.specs.Players.{PlayerOf}
use Rattle.zr_game.specs.Leaves.{Bound, LeafOf, at_column, slots}
use Rattle.zr_simplex.specs.Answers.{AreListed, AreOf, signed}
use Rattle.zr_simplex.specs.Programs.{numbers, program_of}
use Rattle.zr_asked.specs.Branches.{branch_program, present}
use Rattle.zr_asked.specs.Drawn.{IsDrawnProof, HasNoDivisor, IsInProportion, column_slots, places_from, slot_number}
use Rattle.zr_asked.specs.Parts.{parts_of}
use Rattle.zr_branch.specs.declared.program.Question.{Question}
use Rattle.zr_branch.specs.Columns.{IsBranchQuestion, KeepsLows, is_single, low_slots}
use Rattle.zr_branch.specs.Merged.{AreAtLeastOne}
use Rattle.zr_branch.specs.Programs.{IsSpread}
use Rattle.zr_branch.specs.Replies.{IsSomePlayer}
use Rattle.zr_branch.proofs.Listing.{below_or, minus_one, value_listed, value_times}
use Rattle.zr_branch.proofs.Merging.{zero_or}
use Rattle.zr_branch.proofs.Questions.{columns_listed, lists_apart, low_count, low_names, place_count, place_names, program_same, row_count, rows_listed, same_test}

-- the number is so many times d
abbrev Times : ℕ → ℤ → Type 0
Times d z = (w : ℤ) × (z ≡ w *ℤ pos d)

times_if : (d : ℕ) (z : ℤ) → d ∣ unsigned_abs z → Times d z
times_if d z h = (_, sym (quot_exact z (pos d) h))

divides_if : (d : ℕ) (z : ℤ) → Times d z → d ∣ unsigned_abs z
divides_if d z t =
    let e : unsigned_abs z ≡ unsigned_abs t.0 * d = ap unsigned_abs t.1 ∙ unsigned_abs-mul t.0 (pos d) in
    subst (λ (n : ℕ). d ∣ n) (sym e) (dvd-mul_left d (unsigned_abs t.0))

times_zero : (d : ℕ) → Times d (pos 0)
times_zero d = (pos 0, omega (arith, ints))

times_add : (d : ℕ) (a b : ℤ) → Times d a → Times d b → Times d (a +ℤ b)
times_add d a b s t = (s.0 +ℤ t.0, ap₂ (λ x y. x +ℤ y) s.1 t.1 ∙ sym (mul-add_right s.0 t.0 (pos d)))

times_mul : (d : ℕ) (k a : ℤ) → Times d a → Times d (a *ℤ k)
times_mul d k a t =
    (k *ℤ t.0, *ℤ_comm a k ∙ ap (λ z. k *ℤ z) t.1 ∙ sym (mul_assoc k t.0 (pos d)))

times_sum : (d n : ℕ) (f : ℕ → ℤ) → ((j : ℕ) → j < n → Times d (f j)) → Times d (sum_to n f)
times_sum d zero f all = times_zero d
times_sum d (suc n) f all =
    times_add d (sum_to n f) (f n) (times_sum d n f (λ j h. all j (omega (arith, h)))) (all n (omega arith))

-- how far one number is past another
at_distance : (a b : ℕ) → a ≤ b → (r : ℕ) × (b ≡ a + r)
at_distance zero b h = (b, omega arith)
at_distance (suc a) zero h = absurd (omega (arith, h))
at_distance (suc a) (suc b) h =
    let r = at_distance a b (omega (arith, h)) in
    let e = r.1 in (r.0, omega (arith, e))

abbrev pub sign_of : Bool → ℤ
sign_of negated = cond negated (negsuc 0) (pos 1)

signed_is : (negated : Bool) (z : ℤ) → signed negated z ≡ sign_of negated *ℤ z
signed_is true z = omega (arith, ints)
signed_is false z = omega (arith, ints)

-- the sign taken twice
twice : (negated : Bool) (z y : ℤ) → y ≡ sign_of negated *ℤ z → z ≡ y *ℤ sign_of negated
twice true z y e = omega (arith, ints, e)
twice false z y e = omega (arith, ints, e)

sign_apart : (negated : Bool) → sign_of negated ≢ pos 0
sign_apart true e = cc
sign_apart false e = cc

one_term : (b : Bool) (x y s : ℤ) → x ≡ s *ℤ y
    → x *ℤ cond b (negsuc 0) (pos 0) ≡ neg_ℤ s *ℤ cond b y (pos 0)
one_term true x y s e =
    let n = neg-mul_left s y in omega (arith, ints, e, n)
one_term false x y s e = omega (arith, ints)

value_zero : (ts : Terms) → value_at ts (λ k. pos 0) ≡ pos 0
value_zero [] = refl
value_zero (t ∷ ts) = let r = value_zero ts in omega (arith, ints, r)

no_hit : (v j : ℕ) → v ≢ j → at_column v (negsuc 0) j ≡ pos 0
no_hit v j n = let t : (v == j) ≡ false = grind (arith, nat_tests, n) in rw t refl

module _ (player : PlayerOf) (leaf : LeafOf) (aim : List ℤ) (q : Question)
    (b : IsBranchQuestion player leaf aim q) (some : (i : ℕ) × IsSomePlayer i player)
    (keeps : KeepsLows player leaf) (mult extra : Terms) (listed : AreListed q.lp mult extra)
    (single : (c : ℕ) → c < q.lp.columns → coef_at extra c ≢ pos 0
    → is_single player.vars c ≡ true) (list : Terms) (s : IsSpread player leaf q mult extra list) where
  abbrev place : ℕ → ℕ
  place r = slice_index q.places.items r

  abbrev low : ℕ → ℕ
  low c = slice_index q.lows.items c

  rows_are : AreAtLeastOne (length q.places.items) mult
  rows_are = rows_listed player leaf aim q b some keeps mult extra listed single

  columns_are : AreAtLeastOne (length q.lows.items) extra
  columns_are = columns_listed player leaf aim q b some keeps mult extra listed single

  picked : (k : ℕ) → neg_ℤ (coef_at list k)
      ≡ value_at mult (λ r. at_column (place r) (negsuc 0) k)
      +ℤ value_at extra (λ c. at_column (low c) (negsuc 0) k)
  picked k =
      sym (minus_one 0 4294967296 k list s.form) ∙ s.sums (λ m. at_column m (negsuc 0) k)

  apart_by : (name : ℕ → ℕ) (n r t : ℕ) → r < n → t < n
      → ((x y : ℕ) → x < y → y < n → (x ≡ r) ⊎ (x ≡ t) → (y ≡ r) ⊎ (y ≡ t) → name x < name y)
      → r ≢ t → name r ≢ name t
  apart_by name n r t h k rises m e =
      ⊎_elim (λ (l : r < t). let u = rises r t l k (inl refl) (inr refl) in omega (arith, u, e))
      (λ (l : t ≤ r). let u = rises t r (omega (arith, l, m)) h (inr refl) (inl refl) in
      omega (arith, u, e)) (below_or r t)

  either : (xs : Terms) (r t x : ℕ) → coef_at xs r ≢ pos 0 → coef_at xs t ≢ pos 0
      → (x ≡ r) ⊎ (x ≡ t) → coef_at xs x ≢ pos 0
  either xs r t x h k which =
      ⊎_elim (λ (e : x ≡ r). subst (λ (n : ℕ). coef_at xs n ≢ pos 0) (sym e) h)
      (λ (e : x ≡ t). subst (λ (n : ℕ). coef_at xs n ≢ pos 0) (sym e) k) which

  -- a row's slot has the row's multiplier
  at_place : (r : ℕ) → r < length q.places.items → coef_at mult r ≢ pos 0
      → coef_at list (place r) ≡ coef_at mult r
  at_place r h n =
      let names = place_names player leaf aim q b some mult in
      let x = value_listed 0 (length q.places.items) mult
      (λ t. at_column (place t) (negsuc 0) (place r)) (λ t. at_column t (negsuc 0) r) rows_are
      (λ t l k m. same_test (place t) (place r) t r (λ e. ap place e)
      (apart_by place (length q.places.items) t r k h
      (λ u v less below p o. names.rises u v less below (either mult t r u m n p) (either mult t r v m n o)))) in
      let y = value_listed 0 (length q.lows.items) extra
      (λ c. at_column (low c) (negsuc 0) (place r)) (λ c. pos 0) columns_are
      (λ c l k m. no_hit (low c) (place r)
      (λ e. m (lists_apart player leaf aim q b some keeps mult extra listed single r c h k (sym e) n))) in
      let z = value_zero extra in
      let o = minus_one 0 (length q.places.items) r mult rows_are in
      let p = picked (place r) in
      omega (arith, ints, x, y, z, o, p)

  -- a column's slot has the column's extra
  at_low : (c : ℕ) → c < length q.lows.items → coef_at extra c ≢ pos 0
      → coef_at list (low c) ≡ coef_at extra c
  at_low c h n =
      let names = low_names player leaf aim q b some keeps mult extra listed single in
      let x = value_listed 0 (length q.lows.items) extra
      (λ t. at_column (low t) (negsuc 0) (low c)) (λ t. at_column t (negsuc 0) c) columns_are
      (λ t l k m. same_test (low t) (low c) t c (λ e. ap low e)
      (apart_by low (length q.lows.items) t c k h
      (λ u v less below p o. names.rises u v less below (either extra t c u m n p) (either extra t c v m n o)))) in
      let y = value_listed 0 (length q.places.items) mult
      (λ r. at_column (place r) (negsuc 0) (low c)) (λ r. pos 0) rows_are
      (λ r l k m. no_hit (place r) (low c)
      (λ e. n (lists_apart player leaf aim q b some keeps mult extra listed single r c k h e m))) in
      let z = value_zero mult in
      let o = minus_one 0 (length q.lows.items) c extra columns_are in
      let p = picked (low c) in
      omega (arith, ints, x, y, z, o, p)

  module _ (basis : ℕ → ℕ) (form : ℕ → ℕ → ℤ) (row : ℕ)
      (is_form : IsBasicForm (program_of q.lp) basis form) (below : row ≤ (program_of q.lp).rows)
      (negated : Bool) (of : AreOf (program_of q.lp) (form row) negated mult extra) (scale : ℤ)
      (scale_is : scale ≡ sign_of negated *ℤ neg_ℤ (form row (value_column (program_of q.lp)))) where
    abbrev p : Program
    p = branch_program player leaf (numbers aim)

    abbrev e : ℕ → ℤ
    e = form row

    form_is : IsBasicForm p basis form
    form_is = subst (λ (x : Program). IsBasicForm x basis form) (program_same player leaf aim q b) is_form

    of_is : AreOf p e negated mult extra
    of_is = subst (λ (x : Program). AreOf x e negated mult extra) (program_same player leaf aim q b) of

    scale_at : scale ≡ sign_of negated *ℤ neg_ℤ (e (value_column p))
    scale_at =
        subst (λ (x : Program). scale ≡ sign_of negated *ℤ neg_ℤ (e (value_column x)))
        (program_same player leaf aim q b) scale_is

    columns_count : length q.lows.items ≡ p.columns
    columns_count = low_count player leaf aim q b

    rows_count : length q.places.items ≡ p.rows
    rows_count = place_count player leaf aim q b ∙ row_count player leaf aim q b

    first_slot : (c : ℕ) → c < p.columns → get_or (column_slots player leaf) c 0 ≡ low c
    first_slot c h =
        let l = columns_count in
        let n : length (low_slots player) ≡ length q.lows.items = ap length (sym b.lows_are) in
        get_or_append_left (low_slots player) (places_from 0 (slots player leaf)) 0 c (omega (arith, h, l, n)) ∙
        ap (λ (ks : List ℕ). get_or ks c 0) (sym b.lows_are)

    later_slot : (r : ℕ) → get_or (column_slots player leaf) (p.columns + r) 0 ≡ place r
    later_slot r =
        let n : length (low_slots player) ≡ p.columns = ap length (sym b.lows_are) ∙ columns_count in
        ap (λ (m : ℕ). get_or (column_slots player leaf) (m + r) 0) (sym n) ∙
        get_or-append-add (low_slots player) (places_from 0 (slots player leaf)) r 0 ∙
        ap (λ (ks : List ℕ). get_or ks r 0) (sym b.places_are)

    abbrev term : ℕ → ℕ → ℤ
    term k c = cond (get_or (column_slots player leaf) c 0 == k) (e c) (pos 0)

    abbrev sign : ℤ
    sign = sign_of negated

    extras_sum : (k : ℕ) → value_at extra (λ c. at_column (low c) (negsuc 0) k)
        ≡ neg_ℤ sign *ℤ sum_to p.columns (term k)
    extras_sum k =
        value_dense 0 p.columns extra (λ c. at_column (low c) (negsuc 0) k)
        (rw (← b.columns) listed.narrow.1) ∙
        sum_to_same p.columns (λ c. coef_at extra c *ℤ at_column (low c) (negsuc 0) k)
        (λ c. neg_ℤ sign *ℤ term k c)
        (λ c h. one_term (low c == k) (coef_at extra c) (e c) sign
        (of_is.extras c h ∙ signed_is negated (e c)) ∙
        ap (λ (m : ℕ). neg_ℤ sign *ℤ cond (m == k) (e c) (pos 0)) (sym (first_slot c h))) ∙
        sum_to-mul p.columns (neg_ℤ sign) (term k)

    rows_sum : (k : ℕ) → value_at mult (λ r. at_column (place r) (negsuc 0) k)
        ≡ neg_ℤ sign *ℤ sum_to p.rows (λ r. term k (p.columns + r))
    rows_sum k =
        value_dense 0 p.rows mult (λ r. at_column (place r) (negsuc 0) k)
        (rw (← row_count player leaf aim q b) listed.narrow.0) ∙
        sum_to_same p.rows (λ r. coef_at mult r *ℤ at_column (place r) (negsuc 0) k)
        (λ r. neg_ℤ sign *ℤ term k (p.columns + r))
        (λ r h. one_term (place r == k) (coef_at mult r) (e (p.columns + r)) sign
        (of_is.multipliers r h ∙ signed_is negated (e (p.columns + r))) ∙
        ap (λ (m : ℕ). neg_ℤ sign *ℤ cond (m == k) (e (p.columns + r)) (pos 0)) (sym (later_slot r))) ∙
        sum_to-mul p.rows (neg_ℤ sign) (λ r. term k (p.columns + r))

    slot_is : (k : ℕ)
        → coef_at list k ≡ sign *ℤ slot_number (column_slots player leaf) (value_column p) e k
    slot_is k =
        let a = sum_to p.columns (term k) in
        let r = sum_to p.rows (λ r. term k (p.columns + r)) in
        let split = sum_to-append p.columns p.rows (term k) in
        let whole = ap (λ z. sign *ℤ z) split ∙ mul-add_left sign a r in
        let x = neg-mul_left sign a in
        let y = neg-mul_left sign r in
        let c = picked k in
        let u = extras_sum k in
        let v = rows_sum k in
        omega (arith, ints, whole, x, y, c, u, v)

    proportion : IsInProportion (column_slots player leaf) p e scale list
    proportion = record {
      by = pos 1;
      of = sign;
      by_apart = λ z. cc;
      of_apart = sign_apart negated;
      value = (let h = scale_at in omega (arith, ints, h));
      slots_are = λ k. (let h = slot_is k in omega (arith, ints, h));
    }

    module _ (d : ℕ) (at_scale : d ∣ unsigned_abs scale)
        (at_slots : (k : ℕ) → d ∣ unsigned_abs (coef_at list k)) where
      slot_times : (k : ℕ) (z : ℤ) → coef_at list k ≡ z → Times d z
      slot_times k z h = subst (Times d) h (times_if d (coef_at list k) (at_slots k))

      row_times : (r : ℕ) → r < p.rows → Times d (e (p.columns + r))
      row_times r h =
          let n = rows_count in
          let m : Times d (coef_at mult r) =
          ⊎_elim (λ (z : coef_at mult r ≡ pos 0). subst (Times d) (sym z) (times_zero d))
          (λ (z : coef_at mult r ≢ pos 0). slot_times (place r) (coef_at mult r)
          (at_place r (omega (arith, h, n)) z)) (zero_or (coef_at mult r)) in
          subst (Times d) (sym (twice negated (e (p.columns + r)) (coef_at mult r)
          (of_is.multipliers r h ∙ signed_is negated (e (p.columns + r)))))
          (times_mul d sign (coef_at mult r) m)

      column_times : (c : ℕ) → c < p.columns → Times d (e c)
      column_times c h =
          let n = columns_count in
          let m : Times d (coef_at extra c) =
          ⊎_elim (λ (z : coef_at extra c ≡ pos 0). subst (Times d) (sym z) (times_zero d))
          (λ (z : coef_at extra c ≢ pos 0). slot_times (low c) (coef_at extra c)
          (at_low c (omega (arith, h, n)) z)) (zero_or (coef_at extra c)) in
          subst (Times d) (sym (twice negated (e c) (coef_at extra c)
          (of_is.extras c h ∙ signed_is negated (e c))))
          (times_mul d sign (coef_at extra c) m)

      turned : (z : ℤ) → Times d (neg_ℤ z) → Times d z
      turned z t = (neg_ℤ t.0, (let h = t.1 in let m = neg-mul_left t.0 (pos d) in omega (arith, ints, h, m)))

      value_times_ : Times d (e (value_column p))
      value_times_ =
          turned (e (value_column p)) (subst (Times d)
          (sym (twice negated (neg_ℤ (e (value_column p))) scale scale_at))
          (times_mul d sign scale (times_if d scale at_scale)))

      right_times : Times d (e (right_column p))
      right_times =
          subst (Times d) (sym (form_is.combination row row_below).right)
          (times_sum d p.rows (λ r. e (p.columns + r) *ℤ p.le r)
          (λ r h. times_mul d (p.le r) (e (p.columns + r)) (row_times r h)))
        where
          row_below : row ≤ p.rows
          row_below = subst (λ (x : Program). row ≤ x.rows) (program_same player leaf aim q b) below

      each : (j : ℕ) → j < p.columns + p.rows + 2 → Times d (e j)
      each j h =
          ⊎_elim (λ (l : j < p.columns). column_times j l)
          (λ (l : p.columns ≤ j). ⊎_elim
          (λ (m : j < p.columns + p.rows). slack j l m)
          (λ (m : p.columns + p.rows ≤ j). ⊎_elim
          (λ (o : j ≡ value_column p). subst (λ (n : ℕ). Times d (e n)) (sym o) value_times_)
          (λ (o : j ≢ value_column p). let f : j ≡ right_column p = omega (arith, h, m, o) in
          subst (λ (n : ℕ). Times d (e n)) (sym f) right_times)
          (cases_eq j (value_column p)))
          (below_or j (p.columns + p.rows))) (below_or j p.columns)
        where
          slack : (i : ℕ) → p.columns ≤ i → i < p.columns + p.rows → Times d (e i)
          slack i l m =
              let r = at_distance p.columns i l in
              let f : i ≡ p.columns + r.0 = r.1 in
              subst (λ (n : ℕ). Times d (e n)) (sym f) (row_times r.0 (omega (arith, m, f)))

      one : d ≡ 1
      one =
          (form_is.primitive row (subst (λ (x : Program). row ≤ x.rows) (program_same player leaf aim q b) below))
          d (λ j h. divides_if d (e j) (each j h))

    pub drawn : IsDrawnProof player leaf (numbers aim) scale list
    drawn = record {
      basis = basis;
      form = form;
      row = row;
      is_form = form_is;
      below = subst (λ (x : Program). row ≤ x.rows) (program_same player leaf aim q b) below;
      proportion = proportion;
      divisors = λ d a c. one d a c;
    }
