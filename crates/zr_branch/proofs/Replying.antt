-- From the answer of a branch's program to what it says of the leaf.
use Rattle.std.proofs.Common.{◌≡◌, ◌≢◌, ℕ, zero, suc, ◌+◌, ◌<◌, ◌≤◌, arith, refl, sym, ap, ap₂, subst, ◌∙◌, ℤ, pos, negsuc, neg_ℤ, ◌+ℤ◌, ◌-ℤ◌, ◌*ℤ◌, ◌<ℤ◌, ◌≤ℤ◌, Bool, true, false, Some, List, [], ◌∷◌, length, get_or, All, ◌⊎◌, inl, inr, ⊎_elim}
use Rattle.std.proofs.lemmas.Int.{ints}
use Rattle.std.proofs.lemmas.List.{length-map}
use Rattle.std.proofs.Math.IntN.{*ℤ_comm}
use Rattle.zr_base.specs.Fractions.{Fraction, IsSame, ratio}
use Rattle.zr_base.specs.Lowest.{IsLowest}
use Rattle.zr_base.specs.Points.{PointOf, num_of}
use Rattle.zr_base.specs.Steps.{IsNarrow}
use Rattle.zr_base.specs.Sums.{sum_to}
use Rattle.zr_base.specs.Terms.{Ascends, Terms, coef_at, value_at}
use Rattle.zr_base.proofs.Ring.{mul_assoc, neg-mul_left, neg-mul_right}
use Rattle.zr_base.proofs.Dense.{sum_to_same, value_dense}
use Rattle.zr_base.proofs.Worth.{le_times, le_of_times}
use Rattle.zr_game.specs.Players.{PlayerOf}
use Rattle.zr_game.specs.Leaves.{Bound, LeafOf, MeetsLeaf, slot_of, slots}
use Rattle.zr_game.specs.Rays.{Direction, change_of}
use Rattle.zr_lin.specs.DenseRows.{IsBelow}
use Rattle.zr_lin.specs.Ineqs.{IneqHolds, IneqOf, ineq_of, row_at}
use Rattle.zr_basis.specs.BasicForms.{IsBasicDirection, IsBasicForm, IsBasicSolution}
use Rattle.zr_basis.specs.Programs.{Program, aim_at}
use Rattle.zr_simplex.specs.Answers.{AreListed, IsBasicPoint, IsBasicRay, IsBest, IsEmpty, IsFeasiblePoint, IsUnbounded, weighed}
use Rattle.zr_simplex.specs.Programs.{lp_rows, numbers, program_of}
use Rattle.zr_tree.specs.Right.{right_of}
use Rattle.zr_asked.specs.Branches.{bound_at, branch_program, present}
use Rattle.zr_asked.specs.Drawn.{IsBranchDirection, IsBranchSolution, IsDrawnProof}
use Rattle.zr_asked.specs.Parts.{Part as APart, by_part, is_from_zero, part_at, parts_of, value_by}
use Rattle.zr_asked.proofs.PartSums.{branch_values}
use Rattle.zr_asked.proofs.PresentRows.{slot_row_of}
use Rattle.zr_branch.specs.declared.program.Question.{Question}
use Rattle.zr_branch.specs.Columns.{IsBranchQuestion, is_single, values_from}
use Rattle.zr_branch.specs.Programs.{IsFirstColumn, IsSpread, row_sum}
use Rattle.zr_branch.specs.Replies.{IsBestAt, IsUnboundedAt, KeepsLeaf, ProvesEmpty, ProvesValue}
use Rattle.zr_branch.specs.Values.{aim_value}
use Rattle.zr_branch.proofs.Listing.{coef_up}
use Rattle.zr_branch.proofs.Points.{same_values, values_are, values_count}
use Rattle.zr_branch.proofs.Questions.{program_same, row_coef, row_count, row_le, weighed_at}
use Rattle.zr_branch.proofs.Singles.{ColumnIn, column_in, first_of}

weak_if : (strict : Bool) (a b : ℤ) → strict ≡ false → IsBelow strict a b → a ≤ℤ b
weak_if true a b e h = absurd cc
weak_if false a b e h = h

cancel : (a b k : ℤ) → (pos 0) <ℤ k → a *ℤ k ≡ b *ℤ k → a ≡ b
cancel a b k above e =
    let x = le_of_times a b k above (omega (arith, ints, e)) in
    let y = le_of_times b a k above (omega (arith, ints, e)) in
    omega (arith, ints, x, y)

-- v / e is w / s, and w / d is s times a over it
value_by_scale : (v e w s d a : ℤ) → (pos 1) ≤ℤ s → v *ℤ s ≡ w *ℤ e → w *ℤ d ≡ s *ℤ a
    → v *ℤ d ≡ e *ℤ a
value_by_scale v e w s d a one same is =
    let x : (v *ℤ d) *ℤ s ≡ (v *ℤ s) *ℤ d =
    mul_assoc v d s ∙ ap (λ z. v *ℤ z) (*ℤ_comm d s) ∙ sym (mul_assoc v s d) in
    let y : (w *ℤ e) *ℤ d ≡ e *ℤ (w *ℤ d) = ap (λ z. z *ℤ d) (*ℤ_comm w e) ∙ mul_assoc e w d in
    let z : e *ℤ (s *ℤ a) ≡ (e *ℤ a) *ℤ s =
    ap (λ q. e *ℤ q) (*ℤ_comm s a) ∙ sym (mul_assoc e a s) in
    cancel (v *ℤ d) (e *ℤ a) s (omega (arith, ints, one))
    (x ∙ ap (λ q. q *ℤ d) same ∙ y ∙ ap (λ q. e *ℤ q) is ∙ z)

right_by : (r l w v e s : ℤ) → (pos 0) <ℤ e → r ≤ℤ l → w ≡ neg_ℤ l → v *ℤ s ≡ w *ℤ e
    → (r *ℤ e) ≤ℤ neg_ℤ (s *ℤ v)
right_by r l w v e s above h is same =
    let m : l ≡ neg_ℤ w = omega (arith, ints, is) in
    let t = le_times r l e above h in
    let u : l *ℤ e ≡ neg_ℤ (w *ℤ e) = ap (λ z. z *ℤ e) m ∙ neg-mul_left w e in
    let c = *ℤ_comm s v in
    omega (arith, ints, t, u, c, same)

-- the numbers at the two columns of a variable are together zero
opposite : (k s a w : ℤ) → (k *ℤ (s *ℤ a) +ℤ s *ℤ w)
    +ℤ (k *ℤ (neg_ℤ s *ℤ a) +ℤ neg_ℤ s *ℤ w) ≡ pos 0
opposite k s a w =
    let x : k *ℤ (neg_ℤ s *ℤ a) ≡ neg_ℤ (k *ℤ (s *ℤ a)) =
    ap (λ z. k *ℤ z) (neg-mul_left s a) ∙ neg-mul_right k (s *ℤ a) in
    let y = neg-mul_left s w in
    omega (arith, ints, x, y)

module _ (player : PlayerOf) (leaf : LeafOf) (aim : List ℤ) (q : Question)
    (b : IsBranchQuestion player leaf aim q) where
  abbrev columns : List APart
  columns = parts_of player.vars

  -- extras stand at columns that are the only ones of their variables
  pub single_extras : (k : ℤ) (mult extra : Terms) → AreListed q.lp mult extra
      → ((c : ℕ) → c < q.lp.columns
      → k *ℤ numbers q.lp.aim.items c +ℤ (weighed q.lp mult).coef c ≡ coef_at extra c)
      → (c : ℕ) → c < q.lp.columns → coef_at extra c ≢ pos 0 → is_single player.vars c ≡ true
  single_extras k mult extra listed at c h n =
      let n_is = b.columns in
      let i = column_in 0 player.vars c (omega (arith, h, n_is)) in
      ⊎_elim (λ (s : (is_single player.vars c ≡ true) × (is_from_zero i.var.low ≡ true)
      × ((part_at columns c).1 ≡ pos 1)). s.0)
      (λ (s : (is_single player.vars c ≡ false) × (is_from_zero i.var.low ≡ false) × (d : ℕ)
      × (d < length columns) × ((part_at columns d).0 ≡ (part_at columns c).0)
      × ((part_at columns d).1 ≡ neg_ℤ (part_at columns c).1)).
      let l = s.3 in
      let m : s.2 < q.lp.columns = omega (arith, l, n_is) in
      absurd (n (both_zero s.2 h m s.4 s.5))) i.which
    where
      both_zero : (d : ℕ) → c < q.lp.columns → d < q.lp.columns
          → (part_at columns d).0 ≡ (part_at columns c).0
          → (part_at columns d).1 ≡ neg_ℤ (part_at columns c).1 → coef_at extra c ≡ pos 0
      both_zero d l m same turned =
          let s = (part_at columns c).1 in
          let v = (part_at columns c).0 in
          let a = numbers aim v in
          let w = row_sum player leaf mult v in
          let here : k *ℤ (s *ℤ a) +ℤ s *ℤ w ≡ coef_at extra c =
          ap₂ (λ x y. k *ℤ x +ℤ y) (sym (b.aims c)) (sym (weighed_at player leaf aim q b mult c)) ∙ at c l in
          let there : k *ℤ (neg_ℤ s *ℤ a) +ℤ neg_ℤ s *ℤ w ≡ coef_at extra d =
          ap₂ (λ x y. k *ℤ x +ℤ y)
          (sym (b.aims d ∙ ap₂ (λ (z : ℤ) (u : ℕ). z *ℤ numbers aim u) turned same))
          (sym (weighed_at player leaf aim q b mult d ∙
          ap₂ (λ (z : ℤ) (u : ℕ). z *ℤ row_sum player leaf mult u) turned same)) ∙ at d m in
          let o = opposite k s a w in
          let x = coef_up 0 q.lp.columns extra c listed.extras in
          let y = coef_up 0 q.lp.columns extra d listed.extras in
          omega (arith, ints, here, there, o, x, y)

  none : IneqOf
  none = record { coef = []; le = pos 0; strict = false }

  -- a row of the program that holds, by the variables' columns
  row_holds : (p : ℕ → ℤ) (d : ℤ) → All (IneqHolds p d) (lp_rows q.lp) → (r : ℕ)
      → r < length q.lp.rows.items
      → sum_to (length columns) (λ c. by_part columns (bound_at (present (slots player leaf)) r).coef c
      *ℤ p c) ≤ℤ ((bound_at (present (slots player leaf)) r).le *ℤ d)
  row_holds p d all r h =
      let row : IneqOf = get_or (lp_rows q.lp) r (record { coef = []; le = pos 0; strict = false }) in
      let e : r < length (lp_rows q.lp) =
      (let m = length-map q.lp.rows.items ineq_of in omega (arith, h, m)) in
      let weak = weak_if row.strict (value_at row.coef p) (row.le *ℤ d)
      (b.good.weak r (record { coef = []; le = pos 0; strict = false }) e)
      (all r (record { coef = []; le = pos 0; strict = false }) e) in
      let asc : Ascends 0 (length columns) row.coef =
      subst (λ (n : ℕ). Ascends 0 n row.coef) b.columns
      (b.good.rows r (record { coef = []; le = pos 0; strict = false }) e).0 in
      let long = value_dense 0 (length columns) row.coef p asc in
      let coefs = sum_to_same (length columns) (λ c. coef_at row.coef c *ℤ p c)
      (λ c. by_part columns (bound_at (present (slots player leaf)) r).coef c *ℤ p c)
      (λ c l. ap (λ z. z *ℤ p c) (row_coef player leaf aim q b r c)) in
      let le : row.le *ℤ d ≡ (bound_at (present (slots player leaf)) r).le *ℤ d =
      ap (λ z. z *ℤ d) (row_le player leaf aim q b r) in
      omega (arith, ints, weak, long, coefs, le)

  module _ (p x : ℕ → ℤ) (values : (v : ℕ) → v < length player.vars → x v ≡ value_by columns p v) where
    -- the leaf's slots hold at the values
    pub slots_hold : (d : ℤ) → All (IneqHolds p d) (lp_rows q.lp) → (k : ℕ) (row : Bound)
        → slot_of (slots player leaf) k ≡ Some row
        → sum_to (length player.vars) (λ j. row.coef j *ℤ x j) ≤ℤ (row.le *ℤ d)
    slots_hold d all k row e =
        let s = slot_row_of (slots player leaf) k row e in
        let n = row_count player leaf aim q b in
        let l = s.1 in
        let h = row_holds p d all s.0 (omega (arith, l, n)) in
        let same = branch_values player.vars (bound_at (present (slots player leaf)) s.0).coef p ∙
        sum_to_same (length player.vars)
        (λ v. (bound_at (present (slots player leaf)) s.0).coef v *ℤ value_by columns p v)
        (λ v. (bound_at (present (slots player leaf)) s.0).coef v *ℤ x v)
        (λ v m. ap (λ z. (bound_at (present (slots player leaf)) s.0).coef v *ℤ z) (sym (values v m))) in
        subst (λ (r : Bound). sum_to (length player.vars) (λ j. r.coef j *ℤ x j) ≤ℤ (r.le *ℤ d)) s.2
        (rw same at h)

    pub aim_same : aim_at (program_of q.lp) p ≡ aim_value player aim x
    aim_same =
        ap (λ (y : Program). aim_at y p) (program_same player leaf aim q b) ∙
        branch_values player.vars (numbers aim) p ∙
        sum_to_same (length player.vars) (λ v. numbers aim v *ℤ value_by columns p v)
        (λ v. numbers aim v *ℤ x v) (λ v h. ap (λ z. numbers aim v *ℤ z) (sym (values v h)))

  module _ (list : List ℤ) (y : ℕ → ℤ) (made : list ≡ values_from 0 player.vars y) where
    pub list_values : (v : ℕ) → v < length player.vars → get_or list v (pos 0) ≡ value_by columns y v
    list_values v h = ap (λ (xs : List ℤ). get_or xs v (pos 0)) made ∙ values_are y player.vars v h

    pub list_len : length list ≡ length player.vars
    list_len = ap length made ∙ values_count 0 player.vars y

  module _ (basis : ℕ → ℕ) (form : ℕ → ℕ → ℤ) (is_form : IsBasicForm (program_of q.lp) basis form) where
    branch_form : IsBasicForm (branch_program player leaf (numbers aim)) basis form
    branch_form =
        subst (λ (p : Program). IsBasicForm p basis form) (program_same player leaf aim q b) is_form

    pub solution_of : (point x : PointOf) → x.num ≡ values_from 0 player.vars (num_of point)
        → x.den ≡ point.den → IsBasicPoint (program_of q.lp) basis form point
        → IsBranchSolution player leaf (numbers aim) x
    solution_of point x made den basic = record {
      basis = basis;
      form = form;
      columns = basic.all;
      is_form = branch_form;
      solution = subst (λ (p : Program). IsBasicSolution p basis form basic.all x.den)
          (program_same player leaf aim q b)
          (subst (IsBasicSolution (program_of q.lp) basis form basic.all) (sym den) basic.solution);
      len = list_len x.num (num_of point) made;
      values = λ v h. list_values x.num (num_of point) made v h ∙
          same_values columns (num_of point) basic.all v
          (λ k l. basic.same k (let n = b.columns in omega (arith, l, n)));
    }

    pub direction_of : (col : ℕ) (ray dir : List ℤ) → dir ≡ values_from 0 player.vars (numbers ray)
        → IsBasicRay (program_of q.lp) basis form col ray
        → IsBranchDirection player leaf (numbers aim) dir
    direction_of col ray dir made basic = record {
      basis = basis;
      form = form;
      column = col;
      columns = basic.all;
      raise = basic.raise;
      is_form = branch_form;
      direction = subst (λ (p : Program). IsBasicDirection p basis form col basic.all basic.raise)
          (program_same player leaf aim q b) basic.direction;
      len = list_len dir (numbers ray) made;
      values = λ v h. list_values dir (numbers ray) made v h ∙
          same_values columns (numbers ray) basic.all v
          (λ k l. basic.same k (let n = b.columns in omega (arith, l, n)));
    }

  pub meets_at : (point x : PointOf) → x.num ≡ values_from 0 player.vars (num_of point)
      → x.den ≡ point.den → IsFeasiblePoint q.lp point → MeetsLeaf player leaf x
  meets_at point x made den feasible = record {
    point = subst (λ (d : ℤ). (pos 0) <ℤ d) (sym den) feasible.rows.0;
    len = list_len x.num (num_of point) made;
    rows = λ k row e. subst (λ (d : ℤ). sum_to (length player.vars) (λ j. row.coef j *ℤ num_of x j)
        ≤ℤ (row.le *ℤ d)) (sym den)
        (slots_hold (num_of point) (num_of x) (list_values x.num (num_of point) made) point.den
        feasible.rows.1 k row e);
  }

  module _ (mult extra list : Terms) (s : IsSpread player leaf q mult extra list) where
    first_column : (j : ℕ) → j < length player.vars → (c : ℕ) × IsFirstColumn player j c
    first_column j h =
        let f = first_of 0 player.vars j h in
        let e : 0 + j ≡ j = omega arith in
        (f.0, (f.1, f.2 ∙ ap (λ (n : ℕ). (n, pos 1)) e))

    one_times : (z : ℤ) → pos 1 *ℤ z ≡ z
    one_times z = omega (arith, ints)

    first_weighed : (j c : ℕ) → IsFirstColumn player j c
        → (weighed q.lp mult).coef c ≡ row_sum player leaf mult j
    first_weighed j c f =
        weighed_at player leaf aim q b mult c ∙
        ap (λ (part : APart). part.1 *ℤ row_sum player leaf mult part.0) f.1 ∙
        one_times (row_sum player leaf mult j)

    first_aim : (j c : ℕ) → IsFirstColumn player j c → numbers q.lp.aim.items c ≡ numbers aim j
    first_aim j c f =
        b.aims c ∙ ap (λ (part : APart). part.1 *ℤ numbers aim part.0) f.1 ∙ one_times (numbers aim j)

    pub empty_reply : IsEmpty q.lp mult extra → IsDrawnProof player leaf (numbers aim) (pos 0) list
        → ProvesEmpty player leaf aim list
    empty_reply e drawn = record {
      multipliers = record { form = s.form; present = s.present_are };
      refuting = record {
        none = refl;
        left = λ j h. (let f = first_column j h in
            let l = s.left j f.0 f.1 in
            let w = first_weighed j f.0 f.1 in
            let g = f.1.0 in
            let c = e.columns f.0 (let n = b.columns in omega (arith, g, n)) in
            omega (arith, ints, l, w, c));
        right = (let r = s.right in let u = e.right in omega (arith, ints, r, u));
      };
      drawn = drawn;
    }

    pub best_reply : (point x : PointOf) (scale worth : ℤ) (value : Fraction)
        → x.num ≡ values_from 0 player.vars (num_of point) → x.den ≡ point.den
        → IsBest q.lp point scale worth mult extra → IsSame value (ratio worth scale)
        → IsLowest value → IsBranchSolution player leaf (numbers aim) x
        → IsDrawnProof player leaf (numbers aim) scale list
        → IsBestAt player leaf aim x value scale list
    best_reply point x scale worth value made den best same lowest solution drawn = record {
      meets = meets_at point x made den best.feasible;
      lowest = lowest;
      value_is = value_by_scale value.num value.den worth scale x.den (aim_value player aim (num_of x))
          best.scale_above same.cross
          (ap (λ z. worth *ℤ z) den ∙ best.value ∙ ap (λ z. scale *ℤ z)
          (aim_same (num_of point) (num_of x) (list_values x.num (num_of point) made)));
      proof = record {
        multipliers = record { form = s.form; present = s.present_are };
        positive = best.scale_above;
        narrow = best.narrow.0;
        left = λ j h. (let f = first_column j h in
            let l = s.left j f.0 f.1 in
            let w = first_weighed j f.0 f.1 in
            let a = ap (λ z. scale *ℤ z) (first_aim j f.0 f.1) in
            let g = f.1.0 in
            let c = best.columns f.0 (let n = b.columns in omega (arith, g, n)) in
            omega (arith, ints, l, w, a, c));
        right = right_by (right_of (slots player leaf) list) (weighed q.lp mult).le worth value.num
            value.den scale lowest.ratio.positive s.right best.right same.cross;
      };
      solution = solution;
      drawn = drawn;
    }

  pub unbounded_reply : (point x : PointOf) (ray dir : List ℤ)
      → x.num ≡ values_from 0 player.vars (num_of point) → x.den ≡ point.den
      → dir ≡ values_from 0 player.vars (numbers ray) → All IsNarrow dir
      → IsUnbounded q.lp point ray → IsBranchSolution player leaf (numbers aim) x
      → IsBranchDirection player leaf (numbers aim) dir → IsUnboundedAt player leaf aim x dir
  unbounded_reply point x ray dir made den along narrow un solution direction = record {
    meets = meets_at point x made den un.feasible;
    len = list_len dir (numbers ray) along;
    narrow = narrow;
    keeps = λ k row e. (let h = slots_hold (numbers ray) (change_of dir)
        (list_values dir (numbers ray) along) (pos 0) un.rows k row e in
        let z : row.le *ℤ pos 0 ≡ pos 0 = omega (arith, ints) in
        omega (arith, ints, h, z));
    falls = subst (λ (z : ℤ). z <ℤ (pos 0))
        (aim_same (numbers ray) (change_of dir) (list_values dir (numbers ray) along)) un.falls;
    solution = solution;
    direction = direction;
  }
