-- The rows of a program that asks, and what its multipliers make of them.
use Rattle.std.proofs.Common.{◌≡◌, ◌≢◌, ℕ, zero, suc, ◌+◌, ◌<◌, arith, refl, sym, ap, ap₂, subst, ◌∙◌, add-one, ℤ, pos, neg_ℤ, ◌+ℤ◌, ◌*ℤ◌, ◌≤ℤ◌, Bool, true, false, if◌then◌else◌, List, [], ◌∷◌, map, length, get_or, All}
use Rattle.std.proofs.Math.ListN.{get_or-append}
use Rattle.std.proofs.Math.Seq.{get_or-append_seam}
use Rattle.std.proofs.lemmas.List.{get_or-map, length-map, length-append}
use Rattle.std.proofs.lemmas.Int.{ints}
use Rattle.zr_base.specs.Sums.{sum_products, sum_to}
use Rattle.zr_base.specs.Terms.{Terms, coef_at}
use Rattle.zr_base.specs.Points.{PointOf}
use Rattle.zr_base.specs.Steps.{IsNarrow}
use Rattle.zr_base.proofs.Ring.{neg-mul_right}
use Rattle.zr_base.proofs.Dense.{sum_to_same}
use Rattle.zr_lin.specs.DenseRows.{DenseRow, AreMultipliers}
use Rattle.zr_lin.specs.Ineqs.{IneqOf, IneqHolds, IsIneq, ineq_of, dense, row_at}
use Rattle.zr_simplex.specs.declared.program.Lp.{Lp}
use Rattle.zr_basis.specs.Programs.{aim_at}
use Rattle.zr_simplex.specs.Programs.{program_of, lp_rows, numbers}
use Rattle.zr_simplex.specs.Answers.{weighed, IsUnbounded}
use Rattle.zr_choices.proofs.Sums.{sum_to-single}
use Rattle.zr_choices.specs.Parted.{place, parted, at_most_1, parted_rows}
use Rattle.zr_choices.specs.Asking.{Asks}
use Rattle.zr_choices.proofs.Places.{place_below, second_below}
use Rattle.zr_choices.proofs.Coefs.{here, past, first_coef, second_coef, last_coef}
use Rattle.zr_choices.proofs.Weighing.{weighed_sum}

abbrev pub none : IneqOf
none = record { coef = []; le = pos 0; strict = false }

-- 1 where the row is strict
abbrev pub one_if : Bool → ℤ
one_if b = if b then pos 1 else pos 0

abbrev tail_of : ℕ → Bool → Terms
tail_of last strict = if strict then (last, pos 1) ∷ [] else []

tail_apart : (last j : ℕ) (strict : Bool) → last ≢ j → coef_at (tail_of last strict) j ≡ pos 0
tail_apart last j true n = past (last, pos 1) [] j n
tail_apart last j false n = refl

tail_here : (last : ℕ) (strict : Bool) → coef_at (tail_of last strict) last ≡ one_if strict
tail_here last true = here (last, pos 1) [] last refl
tail_here last false = refl

module _ (free : ℕ → Bool) (n : ℕ) (rows : List IneqOf) where
  abbrev count : ℕ
  count = length rows

  abbrev last : ℕ
  last = place free n

  abbrev pub asked : ℕ → DenseRow
  asked r = row_at (parted_rows free n rows) r

  pub row_before : (r : ℕ) → r < length rows → asked r ≡ dense (parted free n (get_or rows r none))
  row_before r h =
      let q : r < length (map (parted free n) rows) = rw (length-map rows (parted free n)) h in
      ap dense (get_or-append (map (parted free n) rows) (at_most_1 (place free n) ∷ []) none r q
      ∙ get_or-map (parted free n) rows r none none h)

  pub last_row : get_or (parted_rows free n rows) (length rows) none ≡ at_most_1 (place free n)
  last_row =
      let e : length (map (parted free n) rows) ≡ length rows = length-map rows (parted free n) in
      ap (λ (i : ℕ). get_or (parted_rows free n rows) i none) (sym e)
      ∙ get_or-append_seam (map (parted free n) rows) (at_most_1 (place free n)) [] none

  pub row_last : asked (length rows) ≡ dense (at_most_1 (place free n))
  row_last = ap dense last_row

  pub asked_count : length (parted_rows free n rows) ≡ length rows + 1
  asked_count =
      length-append (map (parted free n) rows) (at_most_1 (place free n) ∷ [])
      ∙ ap (λ (i : ℕ). i + 1) (length-map rows (parted free n))

  module _ (r : ℕ) (h : r < length rows) where
    pub first_of : (j : ℕ) → j < n → (asked r).coef (place free j) ≡ (row_at rows r).coef j
    first_of j below =
        let row = get_or rows r none in
        ap (λ (d : DenseRow). d.coef (place free j)) (row_before r h)
        ∙ first_coef free row.coef (tail_of (place free n) row.strict) j
        (tail_apart (place free n) (place free j) row.strict
        (λ e. let b = place_below free j n below in omega (arith, b, e)))

    pub second_of : (j : ℕ) → j < n → free j ≡ true → (asked r).coef (place free j + 1)
        ≡ neg_ℤ ((row_at rows r).coef j)
    second_of j below is =
        let row = get_or rows r none in
        ap (λ (d : DenseRow). d.coef (place free j + 1)) (row_before r h)
        ∙ second_coef free row.coef (tail_of (place free n) row.strict) j is
        (tail_apart (place free n) (place free j + 1) row.strict
        (λ e. let b = second_below free j n below is in omega (arith, b, e)))

    pub last_of : All (IsIneq n) rows → (asked r).coef (place free n)
        ≡ one_if (row_at rows r).strict
    last_of form =
        let row = get_or rows r none in
        ap (λ (d : DenseRow). d.coef (place free n)) (row_before r h)
        ∙ last_coef free IsNarrow 0 n row.coef (tail_of (place free n) row.strict)
        (form r none h).0 ∙ tail_here (place free n) row.strict

    pub right_of : (asked r).le ≡ (row_at rows r).le
    right_of = ap (λ (d : DenseRow). d.le) (row_before r h)

  pub last_apart : (c : ℕ) → c < place free n → (asked (length rows)).coef c ≡ pos 0
  last_apart c h =
      ap (λ (d : DenseRow). d.coef c) row_last
      ∙ past (place free n, pos 1) [] c (λ e. omega (arith, h, e))

  pub last_here : (asked (length rows)).coef (place free n) ≡ pos 1
  last_here =
      ap (λ (d : DenseRow). d.coef (place free n)) row_last
      ∙ here (place free n, pos 1) [] (place free n) refl

  pub last_right : (asked (length rows)).le ≡ pos 1
  last_right = ap (λ (d : DenseRow). d.le) row_last

  -- multipliers of the program's rows
  module _ (mult : Terms) (good : AreMultipliers (length rows + 1) mult) where
    weigh : (f g : ℕ → ℤ) (z : ℤ) → ((r : ℕ) → r < length rows → f r ≡ g r) → f (length rows) ≡ z
        → sum_products (map (λ t. (t.1, f t.0)) mult)
        ≡ sum_to (length rows) (λ r. coef_at mult r *ℤ g r) +ℤ coef_at mult (length rows) *ℤ z
    weigh f g z same end =
        let m = length rows in
        let s : sum_to (m + 1) (λ r. coef_at mult r *ℤ f r)
        ≡ sum_to m (λ r. coef_at mult r *ℤ f r) +ℤ coef_at mult m *ℤ f m = rw add-one refl in
        weighed_sum (λ z. (pos 1) ≤ℤ z) 0 (m + 1) mult f good ∙ s
        ∙ ap₂ ◌+ℤ◌ (sum_to_same m (λ r. coef_at mult r *ℤ f r) (λ r. coef_at mult r *ℤ g r)
        (λ r h. ap (λ x. coef_at mult r *ℤ x) (same r h))) (ap (λ x. coef_at mult m *ℤ x) end)

    abbrev pub summed : ℕ → ℤ
    summed j = sum_to (length rows) (λ r. coef_at mult r *ℤ (row_at rows r).coef j)

    abbrev pub total : ℕ → ℤ
    total c = sum_products (map (λ t. (t.1, (asked t.0).coef c)) mult)

    pub total_first : (j : ℕ) → j < n → total (place free j) ≡ summed j
    total_first j h =
        weigh (λ r. (asked r).coef (place free j)) (λ r. (row_at rows r).coef j) (pos 0)
        (λ r q. first_of r q j h) (last_apart (place free j) (place_below free j n h))
        ∙ omega (arith, ints)

    negated_sum : (k : ℕ) (a f : ℕ → ℤ) → sum_to k (λ r. a r *ℤ neg_ℤ (f r))
        ≡ neg_ℤ (sum_to k (λ r. a r *ℤ f r))
    negated_sum zero a f = refl
    negated_sum (suc k) a f =
        let r = negated_sum k a f in
        let s = neg-mul_right (a k) (f k) in
        omega (arith, ints, r, s)

    pub total_second : (j : ℕ) → j < n → free j ≡ true → total (place free j + 1)
        ≡ neg_ℤ (summed j)
    total_second j h is =
        weigh (λ r. (asked r).coef (place free j + 1)) (λ r. neg_ℤ ((row_at rows r).coef j))
        (pos 0) (λ r q. second_of r q j h is) (last_apart (place free j + 1)
        (second_below free j n h is)) ∙ (let e = negated_sum (length rows) (coef_at mult)
        (λ r. (row_at rows r).coef j) in omega (arith, ints, e))

    pub total_last : All (IsIneq n) rows → total (place free n)
        ≡ sum_to (length rows) (λ r. coef_at mult r *ℤ one_if (row_at rows r).strict)
        +ℤ coef_at mult (length rows)
    total_last form =
        weigh (λ r. (asked r).coef (place free n)) (λ r. one_if (row_at rows r).strict) (pos 1)
        (λ r q. last_of r q form) last_here ∙ omega (arith, ints)

    abbrev pub rights : ℤ
    rights = sum_to (length rows) (λ r. coef_at mult r *ℤ (row_at rows r).le)

    pub total_right : sum_products (map (λ t. (t.1, (asked t.0).le)) mult) ≡ rights
        +ℤ coef_at mult (length rows)
    total_right =
        weigh (λ r. (asked r).le) (λ r. (row_at rows r).le) (pos 1)
        (λ r q. right_of r q) last_right ∙ omega (arith, ints)

  module _ (lp : Lp) (asks : Asks free n rows lp) where
    pub rows_are : (r : ℕ) → row_at (lp_rows lp) r ≡ asked r
    rows_are r = ap (λ (rs : List IneqOf). row_at rs r) asks.parts

    pub lp_count : length lp.rows.items ≡ length rows + 1
    lp_count =
        sym (length-map lp.rows.items ineq_of) ∙ ap (λ (rs : List IneqOf). length rs) asks.parts
        ∙ asked_count

    pub weighed_column : (mult : Terms) (c : ℕ) → (weighed lp mult).coef c
        ≡ sum_products (map (λ t. (t.1, (asked t.0).coef c)) mult)
    weighed_column mult c =
        ap (λ (rs : List IneqOf). sum_products (map (λ t. (t.1, (row_at rs t.0).coef c)) mult))
        asks.parts

    pub weighed_right : (mult : Terms) → (weighed lp mult).le
        ≡ sum_products (map (λ t. (t.1, (asked t.0).le)) mult)
    weighed_right mult =
        ap (λ (rs : List IneqOf). sum_products (map (λ t. (t.1, (row_at rs t.0).le)) mult))
        asks.parts

    pub aim_last : (x : ℕ → ℤ) → aim_at (program_of lp) x ≡ neg_ℤ (x (place free n))
    aim_last x =
        sum_to-single lp.columns (place free n) (λ j. numbers lp.aim.items j *ℤ x j)
        (rw asks.width (omega arith)) (λ j h c. ap (λ z. z *ℤ x j)
        (asks.aim j (let q : j < place free n + 1 = rw asks.width at h in omega
        (arith, q, c))) ∙ omega (arith, ints)) ∙ ap (λ z. z *ℤ x (place free n)) asks.last
        ∙ omega (arith, ints)

    -- the value doesn't fall without end
    pub never_unbounded : (point : PointOf) (ray : List ℤ) → IsUnbounded lp point ray → ⊥
    never_unbounded point ray is =
        let a = aim_last (numbers ray) in
        let f = is.falls in
        let end : length rows < length (parted_rows free n rows) = rw asked_count (omega arith) in
        let rows_hold = subst (λ (rs : List IneqOf). All (IneqHolds (numbers ray) (pos 0)) rs)
        asks.parts is.rows in
        let h = rows_hold (length rows) none end in
        let same : get_or (parted_rows free n rows) (length rows) none
        ≡ at_most_1 (place free n) = last_row in
        let k = subst (λ (row : IneqOf). IneqHolds (numbers ray) (pos 0) row) same h in
        omega (arith, ints, a, f, k)
