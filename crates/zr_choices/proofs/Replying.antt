-- A program's answer in terms of the system's unknowns and rows.
use Rattle.std.proofs.Common.{◌≡◌, ◌≢◌, ℕ, zero, suc, ◌+◌, ◌-◌, ◌<◌, ◌≤◌, arith, refl, sym, ap, ap₂, subst, ◌∙◌, ℤ, pos, negsuc, neg_ℤ, ◌+ℤ◌, ◌*ℤ◌, ◌<ℤ◌, ◌≤ℤ◌, Bool, true, false, List, [], ◌∷◌, ◌++◌, length, get_or, slice_index, ⊎_elim}
use Rattle.std.proofs.Math.ListN.{get_or-append}
use Rattle.std.proofs.Math.Seq.{get_or-append_seam}
use Rattle.std.proofs.lemmas.Bool.{cases_eq}
use Rattle.std.proofs.lemmas.Int.{ints}
use Rattle.std.proofs.lemmas.List.{length-append}
use Rattle.zr_base.specs.Points.{PointOf, num_of}
use Rattle.zr_base.specs.Steps.{IsNarrow}
use Rattle.zr_base.specs.Sums.{sum_to}
use Rattle.zr_base.specs.Terms.{AscendWith, Terms, coef_at, value_at}
use Rattle.zr_lin.specs.DenseRows.{Refutes}
use Rattle.zr_lin.specs.Ineqs.{IneqOf, Solves, row_at}
use Rattle.zr_basis.specs.BasicForms.{IsBasicForm, IsBasicSolution}
use Rattle.zr_basis.specs.Programs.{Program, aim_at}
use Rattle.zr_game.specs.Players.{GameOf}
use Rattle.zr_game.specs.declared.choice.Choice.{Choice}
use Rattle.zr_simplex.specs.Answers.{AreListed, AreOf, IsBasicPoint, IsBest, IsEmpty, IsFeasiblePoint, signed, weighed}
use Rattle.zr_simplex.specs.Ends.{IsEmptyAt, IsLeastAt}
use Rattle.zr_simplex.specs.Programs.{program_of}
use Rattle.zr_system.specs.Asked.{firsts}
use Rattle.zr_system.specs.Lines.{all_lines}
use Rattle.zr_system.specs.Regions.{LeavesOf}
use Rattle.zr_system.specs.System.{system_rows}
use Rattle.zr_system.specs.Unknowns.{columns}
use Rattle.zr_branch.specs.Merged.{AreAtLeastOne, IsMultiplier}
use Rattle.zr_branch.proofs.Listing.{both_ascend}
use Rattle.zr_choices.specs.declared.asking.Question.{Question}
use Rattle.zr_choices.specs.Drawn.{AreDrawn}
use Rattle.zr_choices.specs.Merging.{AreRows, first_terms}
use Rattle.zr_choices.specs.Parted.{joined, parted_rows, place}
use Rattle.zr_choices.specs.Programs.{choices_program, free_in, is_free}
use Rattle.zr_choices.specs.Questions.{IsQuestionUnder}
use Rattle.zr_choices.specs.Replies.{IsRefutedBy, IsSolvedBy}
use Rattle.zr_choices.proofs.AskedRows.{aim_last, lp_count, one_if, total_last, weighed_column}
use Rattle.zr_choices.proofs.Closing.{closes_low, closes_strict, good, list_multipliers, list_form, mult_up}
use Rattle.zr_choices.proofs.Drawing.{drawn_empty, drawn_least, program_same}
use Rattle.zr_choices.proofs.LastColumn.{end_of_empty, end_of_least, last_of_least, product_zero}
use Rattle.zr_choices.proofs.Mergeable.{extras_apart, extras_rise}
use Rattle.zr_choices.proofs.Places.{place_below, place_small, second_below}
use Rattle.zr_choices.proofs.SignPlaces.{row_count, row_of, row_small}
use Rattle.zr_choices.proofs.Spreading.{spread_length}
use Rattle.zr_choices.proofs.Values.{rows_joined}

-- a row's value goes by the numbers of its columns
value_over : (P : ℤ → Type 0) (low n : ℕ) (ts : Terms) (a b : ℕ → ℤ) → AscendWith P low n ts
    → ((j : ℕ) → j < n → a j ≡ b j) → value_at ts a ≡ value_at ts b
value_over P low n [] a b all same = refl
value_over P low n (t ∷ ts) a b all same =
    ap₂ (λ x y. t.1 *ℤ x +ℤ y) (same t.0 all.1) (value_over P (t.0 + 1) n ts a b all.3 same)

firsts_count : (n : ℕ) (f : ℕ → ℤ) → length (firsts n f) ≡ n
firsts_count zero f = refl
firsts_count (suc n) f =
    let r = firsts_count n f in
    let l = length-append (firsts n f) (f n ∷ []) in
    omega (arith, r, l)

firsts_get : (n j : ℕ) (f : ℕ → ℤ) → j < n → get_or (firsts n f) j (pos 0) ≡ f j
firsts_get zero j f h = absurd (omega (arith, h))
firsts_get (suc n) j f h =
    ⊎_elim (λ (e : j ≡ n).
    let l = firsts_count n f in
    ap (λ (m : ℕ). get_or (firsts n f ++ (f n ∷ [])) m (pos 0)) (e ∙ sym l)
    ∙ get_or-append_seam (firsts n f) (f n) [] (pos 0) ∙ ap f (sym e))
    (λ (c : j ≢ n).
    let l = firsts_count n f in
    get_or-append (firsts n f) (f n ∷ []) (pos 0) j (omega (arith, h, c, l))
    ∙ firsts_get n j f (omega (arith, h, c))) (cases_eq j n)

wider : (P : ℤ → Type 0) (low n m : ℕ) (ts : Terms) → n ≤ m → AscendWith P low n ts
    → AscendWith P low m ts
wider P low n m [] h all = tt
wider P low n m (t ∷ ts) h all =
    let q = all.1 in (all.0, omega (arith, q, h), all.2, wider P (t.0 + 1) n m ts h all.3)

length_low : (P : ℤ → Type 0) (low n : ℕ) (ts : Terms) → low ≤ n → AscendWith P low n ts
    → length ts + low ≤ n
length_low P low n [] h all = omega (arith, h)
length_low P low n (t ∷ ts) h all =
    let a = all.0 in
    let b = all.1 in
    let r = length_low P (t.0 + 1) n ts (omega (arith, b)) all.3 in
    omega (arith, a, r)

sum_up : (n : ℕ) (f : ℕ → ℤ) → ((j : ℕ) → (pos 0) ≤ℤ f j) → (pos 0) ≤ℤ sum_to n f
sum_up zero f up = omega (arith, ints)
sum_up (suc n) f up = let r = sum_up n f up in let a = up n in omega (arith, ints, r, a)

if_up : (b : Bool) (z : ℤ) → (pos 0) ≤ℤ z → (pos 0) ≤ℤ (z *ℤ one_if b)
if_up true z h = omega (arith, ints, h)
if_up false z h = omega (arith, ints)

times_0 : (z : ℤ) → z *ℤ pos 0 ≡ pos 0
times_0 z = omega (arith, ints)

times_minus : (z : ℤ) → z *ℤ negsuc 0 ≡ neg_ℤ z
times_minus z = omega (arith, ints)

module _ (game : GameOf) (leaves : LeavesOf) (path : List Choice) (q : Question)
    (is : IsQuestionUnder game leaves path q) where
  abbrev free : ℕ → Bool
  free = is_free game leaves

  abbrev n : ℕ
  n = length (columns game leaves)

  abbrev rows : List IneqOf
  rows = system_rows game leaves path

  abbrev t : ℕ
  t = place (is_free game leaves) (length (columns game leaves))

  abbrev row : ℕ → ℕ
  row k = row_of game leaves path k

  signs_count : length q.signs.items ≡ t
  signs_count = ap (λ (rs : List ℕ). length rs) is.signs ∙ spread_length (columns game leaves) _

  signs_row : (k : ℕ) → slice_index q.signs.items k ≡ row k
  signs_row k = ap (λ (rs : List ℕ). slice_index rs k) is.signs

  rows_small : length rows + 1 + (t + 1) < 4294967294
  rows_small =
      let s = is.good.size in
      let w = is.asks.width in
      let k = lp_count free n rows q.lp is.asks in
      omega (arith, s, w, k)

  last_is : q.lp.columns - 1 ≡ t
  last_is = let w = is.asks.width in omega (arith, w)

  module _ (basis : ℕ → ℕ) (form : ℕ → ℕ → ℤ)
      (is_form : IsBasicForm (program_of q.lp) basis form) where
    -- a point with the last column above zero
    pub point_reply : (point x : PointOf) → IsFeasiblePoint q.lp point
        → IsBasicPoint (program_of q.lp) basis form point
        → (pos 0) <ℤ num_of point (q.lp.columns - 1)
        → x.num ≡ firsts (length q.order.items) (joined (free_in q.order.items) (num_of point))
        → x.den ≡ point.den → IsSolvedBy game leaves path x
    point_reply point x feasible basic above made den = record {
      solves = solves;
      solution = record {
        basis = basis;
        form = form;
        parts = basic.all;
        is_form = subst (λ (p : Program). IsBasicForm p basis form) same is_form;
        solution = subst (λ (p : Program). IsBasicSolution p basis form basic.all x.den) same
            (subst (IsBasicSolution (program_of q.lp) basis form basic.all)
            (sym den) basic.solution);
        len = ap (λ (xs : List ℤ). length xs) own ∙ firsts_count n (joined free (num_of point));
        values = λ j h. number_is j h ∙ from_parts j h;
      };
    }
      where
        same : program_of q.lp ≡ choices_program game leaves path
        same = program_same game leaves path q.lp is.asks is.good

        own : x.num ≡ firsts n (joined free (num_of point))
        own = rw is.order at made

        number_is : (j : ℕ) → j < n → num_of x j ≡ joined free (num_of point) j
        number_is j h =
            ap (λ (xs : List ℤ). get_or xs j (pos 0)) own
            ∙ firsts_get n j (joined free (num_of point)) h

        from_parts : (j : ℕ) → j < n → joined free (num_of point) j ≡ joined free basic.all j
        from_parts j h = by (is_free game leaves j) refl
          where
            first : num_of point (place free j) ≡ basic.all (place free j)
            first =
                let p = place_below free j n h in
                basic.same (place free j) (let e = is.asks.width in omega (arith, p, e))

            by : (b : Bool) → is_free game leaves j ≡ b
                → joined free (num_of point) j ≡ joined free basic.all j
            by true e =
                let p = second_below free j n h e in
                let s = basic.same (place free j + 1) (let e = is.asks.width in omega
                (arith, p, e)) in
                let f = first in
                rw e (omega (arith, ints, f, s))
            by false e = let f = first in rw e f

        parted_solves : Solves (parted_rows free n rows) (num_of point) point.den
        parted_solves = subst (λ (rs : List IneqOf). Solves rs (num_of point) point.den)
            is.asks.parts feasible.rows

        joined_solves : Solves rows (joined free (num_of point)) point.den
        joined_solves =
            rows_joined free (num_of point) n rows point.den parted_solves (rw last_is at above)

        solves : Solves rows (num_of x) x.den
        solves = (
          rw den joined_solves.0,
          λ k d h.
              let v = value_over IsNarrow 0 n (get_or rows k d).coef (num_of x)
              (joined free (num_of point)) (is.form k d h).0 (λ j l. number_is j l) in
              rw (v, den) (joined_solves.1 k d h),
        )

  module _ (mult extra : Terms) (listed : AreListed q.lp mult extra)
      (columns_are : (c : ℕ) → c < place (is_free game leaves) (length (columns game leaves))
      → (weighed q.lp mult).coef c ≡ coef_at extra c) where
    pub mult_listed : AreAtLeastOne 4294967296 mult
    mult_listed =
        let s = is.good.size in
        wider IsMultiplier 0 (length q.lp.rows.items) 4294967296 mult (omega (arith, s))
        (both_ascend 0 (length q.lp.rows.items) mult listed.multipliers listed.narrow.0)

    pub extra_listed : AreAtLeastOne (length q.signs.items + 1) extra
    extra_listed =
        let w = is.asks.width in
        let c = signs_count in
        wider IsMultiplier 0 q.lp.columns (length q.signs.items + 1) extra (omega (arith, w, c))
        (both_ascend 0 q.lp.columns extra listed.extras listed.narrow.1)

    pub signs_few : length q.signs.items < 4294967296
    signs_few =
        let c = signs_count in
        let p = place_small free n in
        let f = is.few in
        omega (arith, c, p, f)

    pub signs_are : AreRows q.signs.items mult extra
    signs_are = record {
      fit = λ k h.
          let r = row_small game leaves path 4294967296 k (omega arith) few_lines in
          let e = signs_row k in omega (arith, r, e);
      rise = λ k l h b x y.
          let c = signs_count in
          let r = extras_rise game leaves path q.lp is.asks is.form mult extra listed columns_are
          k l h (omega (arith, b, c)) x y in
          let e = signs_row k in
          let f = signs_row l in
          omega (arith, r, e, f);
      apart = λ k h x.
          let c = signs_count in
          ap (coef_at mult) (signs_row k)
          ∙ extras_apart game leaves path q.lp is.asks is.form mult extra listed columns_are
          k (omega (arith, h, c)) x;
    }
      where
        few_lines : length (all_lines game leaves path) < 4294967296
        few_lines =
            let s = rows_small in
            let c = row_count game leaves path in
            omega (arith, s, c)

    module _ (list : Terms) (are : AreAtLeastOne 4294967296 list)
        (sums : (c : ℕ → ℤ) → value_at list c ≡ value_at mult c
        +ℤ value_at (first_terms (length q.signs.items) extra)
        (λ k. c (slice_index q.signs.items k)))
        (end : coef_at mult (length (system_rows game leaves path)) ≡ pos 0) where
      sums_are : (c : ℕ → ℤ) → value_at list c ≡ value_at mult c
          +ℤ value_at (first_terms (place (is_free game leaves) (length (columns game leaves)))
          extra)
          (λ k. c (row_of game leaves path k))
      sums_are c =
          sums c ∙ ap (λ z. value_at mult c +ℤ z)
          (ap (λ (k : ℕ). value_at (first_terms k extra) (λ i. c (slice_index q.signs.items i)))
          signs_count
          ∙ ap (λ (rs : List ℕ). value_at (first_terms
          (place (is_free game leaves) (length (columns game leaves))) extra)
          (λ i. c (slice_index rs i))) is.signs)

      refuted : Refutes n (row_at rows) list → AreDrawn game leaves path list
          → IsRefutedBy game leaves path list
      refuted refutes drawn = record {
        counted = (are, few_items);
        closes = (
          list_multipliers game leaves path q.lp is.asks is.form mult extra listed columns_are
              end list are sums_are,
          refutes,
        );
        drawn = drawn;
      }
        where
          few_items : length list < 4294967296
          few_items =
              let l = length_low IsMultiplier 0 (length rows) list (omega arith)
              (list_form game leaves path q.lp is.asks is.form mult extra listed columns_are
              end list are sums_are) in
              let s = rows_small in
              omega (arith, l, s)

      pub refuted_low : (weighed q.lp mult).le <ℤ (pos 0) → AreDrawn game leaves path list
          → IsRefutedBy game leaves path list
      refuted_low low drawn =
          refuted (closes_low game leaves path q.lp is.asks is.form mult extra listed columns_are
          end list are sums_are low) drawn

      pub refuted_strict : (weighed q.lp mult).le ≡ pos 0
          → (pos 0) <ℤ (weighed q.lp mult).coef (place (is_free game leaves)
          (length (columns game leaves)))
          → AreDrawn game leaves path list → IsRefutedBy game leaves path list
      refuted_strict right above drawn =
          refuted (closes_strict game leaves path q.lp is.asks is.form mult extra listed
          columns_are
          end list are sums_are right above) drawn

      module _ (basis : ℕ → ℕ) (form : ℕ → ℕ → ℤ) (row_at_ : ℕ)
          (is_form : IsBasicForm (program_of q.lp) basis form) (negated : Bool)
          (of : AreOf (program_of q.lp) (form row_at_) negated mult extra) where
        pub empty_drawn : row_at_ < length q.lp.rows.items → AreDrawn game leaves path list
        empty_drawn less =
            drawn_empty game leaves path q.lp is.asks is.good is.form mult extra listed columns_are
            end list are sums_are basis form row_at_ is_form (omega (arith, less)) negated of less

        pub least_drawn : row_at_ ≡ length q.lp.rows.items
            → form row_at_ (place (is_free game leaves) (length (columns game leaves))) ≡ pos 0
            → AreDrawn game leaves path list
        least_drawn e zero_last =
            drawn_least game leaves path q.lp is.asks is.good is.form mult extra listed columns_are
            end list are sums_are basis form row_at_ is_form (omega (arith, e)) negated of
            zero_last

  module _ (basis : ℕ → ℕ) (form : ℕ → ℕ → ℤ)
      (is_form : IsBasicForm (program_of q.lp) basis form) where
    -- no point is feasible
    module _ (mult extra : Terms) (empty : IsEmpty q.lp mult extra) (at : ℕ)
        (empty_at : IsEmptyAt (program_of q.lp) form at)
        (of : AreOf (program_of q.lp) (form at) false mult extra) where
      pub empty_columns : (c : ℕ) → c < place (is_free game leaves) (length (columns game leaves))
          → (weighed q.lp mult).coef c ≡ coef_at extra c
      empty_columns c h =
          empty.columns c (let w = is.asks.width in omega (arith, w, h))

      end_is : coef_at mult (length (system_rows game leaves path)) ≡ pos 0
      end_is =
          let k = lp_count free n rows q.lp is.asks in
          let w = is.asks.width in
          let a = of.multipliers (length rows) (omega (arith, k)) in
          let b = of.extras t (omega (arith, w)) in
          let up = mult_up game leaves path q.lp is.asks is.form mult extra empty.listed
          (length rows) in
          let c = empty.columns t (omega (arith, w)) in
          let v = weighed_column free n rows q.lp is.asks mult t in
          let total = total_last free n rows mult
          (good game leaves path q.lp is.asks is.form mult extra empty.listed) is.form in
          let s = sum_up (length rows) (λ r. coef_at mult r *ℤ one_if (row_at rows r).strict)
          (λ r. if_up (row_at rows r).strict (coef_at mult r)
          (mult_up game leaves path q.lp is.asks is.form mult extra empty.listed r)) in
          a ∙ end_of_empty free n rows q.lp is.asks basis form is_form at empty_at.0 empty_at.1
          (omega (arith, ints, a, up)) (omega (arith, ints, a, b, c, v, total, s))

      pub empty_reply : (list : Terms) → AreAtLeastOne 4294967296 list
          → ((c : ℕ → ℤ) → value_at list c ≡ value_at mult c
          +ℤ value_at (first_terms (length q.signs.items) extra)
          (λ k. c (slice_index q.signs.items k)))
          → IsRefutedBy game leaves path list
      empty_reply list are sums =
          refuted_low mult extra empty.listed empty_columns list are sums end_is empty.right
          (empty_drawn mult extra empty.listed empty_columns list are sums end_is basis form at
          is_form
          false of empty_at.0)

    -- the last column is 0 at the best
    module _ (point : PointOf) (scale worth : ℤ) (mult extra : Terms)
        (best : IsBest q.lp point scale worth mult extra)
        (least : IsLeastAt (program_of q.lp) form)
        (basic : IsBasicPoint (program_of q.lp) basis form point)
        (of : AreOf (program_of q.lp) (form (length q.lp.rows.items)) true mult extra) where
      pub best_columns : (c : ℕ) → c < place (is_free game leaves) (length (columns game leaves))
          → (weighed q.lp mult).coef c ≡ coef_at extra c
      best_columns c h =
          let w = is.asks.width in
          let a = best.columns c (omega (arith, w, h)) in
          let z = ap (λ y. scale *ℤ y) (is.asks.aim c h) ∙ times_0 scale in
          omega (arith, ints, a, z)

      module _ (down : num_of point (q.lp.columns - 1) ≤ℤ (pos 0)) where
        at_zero : num_of point t ≡ pos 0
        at_zero =
            let d = rw last_is at down in
            let w = is.asks.width in
            let up = best.feasible.nonnegative t (omega (arith, w)) in
            omega (arith, ints, d, up)

        last_zero : form (length q.lp.rows.items) t ≡ pos 0
        last_zero = last_of_least free n rows q.lp is.asks basis form is_form least.1

        end_zero : coef_at mult (length (system_rows game leaves path)) ≡ pos 0
        end_zero =
            let k = lp_count free n rows q.lp is.asks in
            let w = is.asks.width in
            let z = end_of_least free n rows q.lp is.asks basis form is_form least.1 basic.all
            point.den
            basic.solution (sym (basic.same t (omega (arith, w))) ∙ at_zero) in
            let a = of.multipliers (length rows) (omega (arith, k)) in
            a ∙ ap (signed true) z

        extra_zero : coef_at extra t ≡ pos 0
        extra_zero =
            let w = is.asks.width in
            of.extras t (omega (arith, w)) ∙ ap (signed true) last_zero

        right_zero : (weighed q.lp mult).le ≡ pos 0
        right_zero =
            let a = aim_last free n rows q.lp is.asks (num_of point) in
            let z = at_zero in
            let v : aim_at (program_of q.lp) (num_of point) ≡ pos 0 = omega (arith, ints, a, z) in
            let e = best.value ∙ ap (λ y. scale *ℤ y) v ∙ times_0 scale in
            let w = product_zero worth point.den best.feasible.rows.0 e in
            let r = best.right in
            omega (arith, ints, w, r)

        above : (pos 0) <ℤ (weighed q.lp mult).coef
            (place (is_free game leaves) (length (columns game leaves)))
        above =
            let w = is.asks.width in
            let a = best.columns t (omega (arith, w)) in
            let z = ap (λ y. scale *ℤ y) is.asks.last ∙ times_minus scale in
            let x = extra_zero in
            let s = best.scale_above in
            omega (arith, ints, a, z, x, s)

        pub best_reply : (list : Terms) → AreAtLeastOne 4294967296 list
            → ((c : ℕ → ℤ) → value_at list c ≡ value_at mult c
            +ℤ value_at (first_terms (length q.signs.items) extra)
            (λ k. c (slice_index q.signs.items k)))
            → IsRefutedBy game leaves path list
        best_reply list are sums =
            refuted_strict mult extra best.listed best_columns list are sums end_zero right_zero
            above
            (least_drawn mult extra best.listed best_columns list are sums end_zero basis form
            (length q.lp.rows.items) is_form true of refl last_zero)
