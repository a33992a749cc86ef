-- A point is feasible for a leader exactly where some multipliers make it a feasible point of the expanded player.
use Rattle.std.proofs.Common.{◌≡◌, ℕ, zero, suc, ◌+◌, ◌-◌, ◌<◌, ◌≤◌, ◌==◌, nat_lt, arith, refl, sym, ap, ap₂, subst, ◌∙◌, ℤ, pos, neg_ℤ, ◌+ℤ◌, ◌*ℤ◌, ◌≤ℤ◌, Bool, true, false, ◌⊎◌, ⊎_elim, inl, inr, Option, Some, None, IfSome, List, [], ◌∷◌, ◌++◌, map, length, get_or, slice_get, take, All}
use Rattle.std.specs.List.{filter}
use Rattle.std.proofs.lemmas.Bool.Decides.{nat_tests}
use Rattle.std.proofs.lemmas.List.{get_or-append-add, get_or_append_left, get_or-take, length-append, length-take-le}
use Rattle.std.proofs.lemmas.List.Elements.{All-append}
use Rattle.std.proofs.lemmas.Option.{get_or_from_slice_get, slice_get_within}
use Rattle.std.proofs.Math.Seq.{take-append_seam}
use Rattle.zr_base.proofs.RowLaws.{num_of-scaled, products_value, row_holds_value, same_scaled, scaled}
use Rattle.zr_base.proofs.SameLaws.{same_point_sym}
use Rattle.zr_base.proofs.Worth.{Each}
use Rattle.zr_base.specs.Points.{IsSamePoint, PointOf, num_of}
use Rattle.zr_base.specs.Rows.{RowHolds, RowOf}
use Rattle.zr_base.specs.Sums.{sum_to}
use Rattle.zr_base.specs.Terms.{Terms, coef_at, value_at}
use Rattle.zr_base.proofs.Members.{each_filter, each_weaker}
use Rattle.zr_base.proofs.Members.{each_of_all}
use Rattle.zr_game.proofs.SamePoints.{feasible_same}
use Rattle.zr_game.proofs.TermColumns.{columns_exist}
use Rattle.zr_game.specs.Feasible.{AreWithin, IsFeasible, IsWithin, PairHolds, slack}
use Rattle.zr_game.specs.Forms.{IsCoefficient, IsPairForm, IsPlayerForm, IsRowForm, AreTerms}
use Rattle.zr_game.specs.Players.{GameOf, PairOf, PlayerOf, VarOf}
use Rattle.zr_follow.proofs.Answered.{AllAnswered, Answered, Collected, IsOwnLow, all_same, collected, optimal_of_answered, slack_row, slack_var}
use Rattle.zr_follow.proofs.Pairs.{All_back, All_front, all_of_pairs, at_columns, pairs_of_all}
use Rattle.zr_follow.proofs.Programs.{none, own, row_at}
use Rattle.zr_follow.specs.Expansion.{all_pairs, cross_terms, multipliers}
use Rattle.zr_follow.proofs.Relations.{IsExpanded, IsMultiplier}
use Rattle.zr_source.specs.Optimal.{IsLeaderFeasible, IsOptimal}
use Rattle.zr_follow.specs.BaseParts.{base_part}
use Rattle.zr_source.specs.SourceForms.{AreFree, IsFollowerCross, IsFollowerForm, IsLeaderForm}
use Rattle.zr_source.specs.Sources.{FollowerOf, LeaderOf}
use Rattle.std.proofs.lemmas.Int.{ints}

-- numbers that agree on so many columns
abbrev pub Agree : ℕ → (ℕ → ℤ) → (ℕ → ℤ) → Type 0
Agree columns p q = (v : ℕ) → v < columns → p v ≡ q v

value_below : (ts : Terms) (columns : ℕ) (p q : ℕ → ℤ) → Each (λ t. t.0 < columns) ts → Agree columns p q → value_at ts p ≡ value_at ts q
value_below [] columns p q all agree = refl
value_below (t ∷ ts) columns p q all agree =
    ap₂ ◌+ℤ◌ (ap (λ z. t.1 *ℤ z) (agree t.0 all.0)) (value_below ts columns p q all.1 agree)

pub terms_below : (columns : ℕ) (ts : Terms) → AreTerms columns ts → Each (λ t. t.0 < columns) ts
terms_below columns ts form = each_of_all (λ t. t.0 < columns) ts (columns_exist IsCoefficient 0 columns ts form)

pub value_agree : (columns : ℕ) (ts : Terms) (p q : ℕ → ℤ) → AreTerms columns ts → Agree columns p q → value_at ts p ≡ value_at ts q
value_agree columns ts p q form agree = value_below ts columns p q (terms_below columns ts form) agree

module _ (columns : ℕ) (p q : ℕ → ℤ) (d : ℤ) (agree : Agree columns p q) where
  cross_agree : (f : FollowerOf) (j : ℕ) → IsFollowerForm columns f → value_at (cross_terms f j) p ≡ value_at (cross_terms f j) q
  cross_agree f j form =
      value_below (cross_terms f j) columns p q (moved (filter (λ t. t.0 == j) f.cross) (each_filter (λ (t : ℕ × ℕ × ℤ). t.1 < columns) (λ t. t.0 == j) f.cross (each_weaker (IsFollowerCross f columns) (λ (t : ℕ × ℕ × ℤ). t.1 < columns) f.cross (λ t c. c.var) (each_of_all (IsFollowerCross f columns) f.cross form.cross)))) agree
    where
      moved : (ts : List (ℕ × ℕ × ℤ)) → Each (λ (t : ℕ × ℕ × ℤ). t.1 < columns) ts → Each (λ (t : ℕ × ℤ). t.0 < columns) (map (λ t. (t.1, t.2)) ts)
      moved [] all = tt
      moved (t ∷ ts) all = (all.0, moved ts all.1)

  -- only the leader's columns count
  answered_agree : (f : FollowerOf) → IsFollowerForm columns f → (l : ℕ → ℤ) → Answered f p d l → Answered f q d l
  answered_agree f form l a = record {
    low = a.low;
    vars = λ j h. subst (λ (s : ℤ). ((pos 0) ≤ℤ s) × ((own f q j ≡ pos 0) ⊎ (s ≡ pos 0))) (slack_agree j) (subst (λ (n : ℤ). ((pos 0) ≤ℤ slack_var f p d l j) × ((n ≡ pos 0) ⊎ (slack_var f p d l j ≡ pos 0))) (agree (f.first + j) (let e = form.vars_exist in omega (arith, e, h))) (a.vars j h));
    rows = λ r h. subst (λ (s : ℤ). ((pos 0) ≤ℤ s) × ((l r ≡ pos 0) ⊎ (s ≡ pos 0))) (row_agree r h) (a.rows r h);
  }
    where
      slack_agree : (j : ℕ) → slack_var f p d l j ≡ slack_var f q d l j
      slack_agree j =
          ap (λ (n : ℤ). (coef_at f.cost (f.first + j) *ℤ d +ℤ n) +ℤ sum_to (length f.rows) (λ r. l r *ℤ coef_at (row_at f.rows r).coef (f.first + j))) (cross_agree f (f.first + j) form)

      row_agree : (r : ℕ) → r < length f.rows → slack_row f p d r ≡ slack_row f q d r
      row_agree r h =
          ap (λ (n : ℤ). (row_at f.rows r).le *ℤ d +ℤ neg_ℤ n) (value_agree columns (row_at f.rows r).coef p q (form.rows r none h).coef agree)

  pub all_agree : (fs : List FollowerOf) → All (IsFollowerForm columns) fs → (l : ℕ → ℤ) → AllAnswered fs p d l → AllAnswered fs q d l
  all_agree [] form l a = tt
  all_agree (f ∷ fs) form l a =
      (answered_agree f (form 0 f (omega arith)) l a.0, all_agree fs (λ k e h. form (suc k) e (omega arith)) (λ k. l (length f.rows + k)) a.1)

-- rows and pairs over the leader's columns
module _ (columns : ℕ) (x y : PointOf) (den : x.den ≡ y.den) (agree : Agree columns (num_of x) (num_of y)) where
  pub row_moved : (row : RowOf) → IsRowForm columns row → RowHolds x row → RowHolds y row
  row_moved row form h =
      (row_holds_value y row).1 (subst (λ (d : ℤ). value_at row.coef (num_of y) ≤ℤ (row.le *ℤ d)) den (subst (λ (n : ℤ). n ≤ℤ (row.le *ℤ x.den)) (value_agree columns row.coef (num_of x) (num_of y) form.coef agree) ((row_holds_value x row).0 h)))

  pub pair_moved : (pair : PairOf) → IsPairForm columns pair → PairHolds x pair → PairHolds y pair
  pair_moved pair form h =
      subst (λ (s : ℤ). ((pos 0) ≤ℤ num_of y pair.var) × ((pos 0) ≤ℤ s) × ((num_of y pair.var ≡ pos 0) ⊎ (s ≡ pos 0))) same (subst (λ (n : ℤ). ((pos 0) ≤ℤ n) × ((pos 0) ≤ℤ slack pair x) × ((n ≡ pos 0) ⊎ (slack pair x ≡ pos 0))) (agree pair.var form.var) h)
    where
      same : slack pair x ≡ slack pair y
      same =
          ap₂ ◌+ℤ◌ (products_value pair.coef x.num ∙ value_agree columns pair.coef (num_of x) (num_of y) form.coef agree ∙ sym (products_value pair.coef y.num)) (ap (λ (d : ℤ). pair.add *ℤ d) den)

pub slice_get_front : {A : Type 0} (xs ys : List A) (k : ℕ) (x : A) → slice_get xs k ≡ Some x → slice_get (xs ++ ys) k ≡ Some x
slice_get_front [] ys k x e = absurd cc
slice_get_front (y ∷ xs) ys zero x e = e
slice_get_front (y ∷ xs) ys (suc k) x e = slice_get_front xs ys k x e

pub slice_get_back : {A : Type 0} (xs ys : List A) (k : ℕ) (x : A) → slice_get (xs ++ ys) k ≡ Some x → (slice_get xs k ≡ Some x) ⊎ ((j : ℕ) × (k ≡ length xs + j) × (slice_get ys j ≡ Some x))
slice_get_back [] ys k x e = inr (k, omega arith, e)
slice_get_back (y ∷ xs) ys zero x e = inl e
slice_get_back (y ∷ xs) ys (suc k) x e =
    ⊎_elim (λ (h : slice_get xs k ≡ Some x). inl h) (λ (h : (j : ℕ) × (k ≡ length xs + j) × (slice_get ys j ≡ Some x)). inr (h.0, omega (arith, h.1), h.2)) (slice_get_back xs ys k x e)

pub get_within : {A : Type 0} (xs : List A) (k : ℕ) → k < length xs → (x : A) × (slice_get xs k ≡ Some x)
get_within [] k h = absurd (omega arith)
get_within (x ∷ xs) zero h = (x, refl)
get_within (x ∷ xs) (suc k) h = get_within xs k (omega arith)

slice_get_after : {A : Type 0} (xs ys : List A) (k : ℕ) (y : A) → slice_get ys k ≡ Some y → slice_get (xs ++ ys) (length xs + k) ≡ Some y
slice_get_after [] ys k y e = let s : 0 + k ≡ k = omega arith in rw s e
slice_get_after (x ∷ xs) ys k y e =
    let s : suc (length xs) + k ≡ suc (length xs + k) = omega arith in rw s (slice_get_after xs ys k y e)

all_low : (fs : List FollowerOf) (p : ℕ → ℤ) (d : ℤ) (l : ℕ → ℤ) → AllAnswered fs p d l → (k : ℕ) → k < multipliers fs → (pos 0) ≤ℤ l k
all_low [] p d l a k h = absurd (omega arith)
all_low (f ∷ fs) p d l a k h =
    by_size (nat_lt k (length f.rows)) refl (all_low fs p d (λ j. l (length f.rows + j)) a.1)
  where
    by_size : (b : Bool) → nat_lt k (length f.rows) ≡ b → ((j : ℕ) → j < multipliers fs → (pos 0) ≤ℤ l (length f.rows + j)) → (pos 0) ≤ℤ l k
    by_size true e rest = a.0.low k (grind (arith, nat_tests))
    by_size false e rest =
        let past : length f.rows ≤ k = grind (arith, nat_tests) in
        let s : length f.rows + (k - length f.rows) ≡ k = omega arith in
        subst (λ n. (pos 0) ≤ℤ l n) s (rest (k - length f.rows) (omega arith))

-- a variable with low 0 is at least 0
free_low : (var : VarOf) (n d : ℤ) → var.low ≡ Some (pos 0) → IsWithin var n d → (pos 0) ≤ℤ n
free_low var n d e w =
    let l = subst (λ (o : Option ℤ). IfSome o (λ b. (b *ℤ d) ≤ℤ n)) e w.low in omega (arith, ints, l)

low_free : (var : VarOf) (n d : ℤ) → var.low ≡ Some (pos 0) → (pos 0) ≤ℤ n
    → IfSome var.low (λ b. (b *ℤ d) ≤ℤ n)
low_free var n d e h =
    subst (λ (o : Option ℤ). IfSome o (λ b. (b *ℤ d) ≤ℤ n)) (sym e) (omega (arith, ints, h))

own_low : (base : PlayerOf) (f : FollowerOf) → IsFollowerForm (length base.vars) f
    → AreFree base f → (x : PointOf) → AreWithin base.vars x → IsOwnLow x f
own_low base f form free x bounds v o =
    let p = o.1 in
    let q = form.vars_exist in
    let w = get_within base.vars v (omega (arith, p, q)) in
    free_low w.0 (num_of x v) x.den (free v w.0 o w.1).1 (bounds v w.0 w.1)

module _ (game : GameOf) (i : ℕ) (leader : LeaderOf) (player : PlayerOf) (base_form : IsPlayerForm game i leader.base) (form : IsLeaderForm leader) (expanded : IsExpanded leader player) where
  abbrev columns : ℕ
  columns = length leader.base.vars

  abbrev more : List VarOf
  more = expanded.vars.0

  columns_in : length player.vars ≡ columns + multipliers leader.followers
  columns_in =
      ap length expanded.vars.1 ∙ length-append leader.base.vars more ∙ ap (λ (n : ℕ). columns + n) expanded.vars.2

  multiplier_at : (k : ℕ) (var : VarOf) → slice_get more k ≡ Some var → IsMultiplier var
  multiplier_at k var is =
      let h = slice_get_within more k var is in
      subst IsMultiplier (get_or_from_slice_get more k var var is) (expanded.vars.3 k var h)

  module _ (z : PointOf) (feasible : IsFeasible player z) where
    abbrev base : PointOf
    base = base_part leader z

    base_len : length base.num ≡ columns
    base_len = length-take-le columns z.num (let a = feasible.len in let b = columns_in in omega (arith, a, b))

    base_num : Agree columns (num_of z) (num_of base)
    base_num v h = sym (get_or-take columns z.num v (pos 0) h)

    base_bounds : AreWithin leader.base.vars base
    base_bounds v var e =
        let h = slice_get_within leader.base.vars v var e in
        subst (λ (n : ℤ). IsWithin var n z.den) (base_num v h) (feasible.bounds v var (subst (λ (vs : List VarOf). slice_get vs v ≡ Some var) (sym expanded.vars.1) (slice_get_front leader.base.vars more v var e)))

    base_feasible : IsFeasible leader.base base
    base_feasible = record {
      point = feasible.point;
      len = base_len;
      bounds = base_bounds;
      rows = λ k d h. row_moved columns z base refl base_num (get_or leader.base.rows k d) (base_form.rows k d h) (rows k d h);
      pairs = λ k d h. pair_moved columns z base refl base_num (get_or leader.base.pairs k d) (base_form.pairs k d h) (pairs k d h);
    }
      where
        rows : All (RowHolds z) leader.base.rows
        rows = subst (All (RowHolds z)) expanded.rows feasible.rows

        pairs : All (PairHolds z) leader.base.pairs
        pairs =
            All_front (PairHolds z) leader.base.pairs (all_pairs columns leader.followers) (subst (All (PairHolds z)) expanded.pairs feasible.pairs)

    base_low : (f : FollowerOf) → IsFollowerForm columns f → AreFree leader.base f → IsOwnLow base f
    base_low f f_form free = own_low leader.base f f_form free base base_bounds

    multipliers_low : (k : ℕ) → k < multipliers leader.followers → (pos 0) ≤ℤ at_columns z columns k
    multipliers_low k h =
        let w = get_within more k (rw expanded.vars.2 h) in
        let at : slice_get player.vars (columns + k) ≡ Some w.0 = subst (λ (vs : List VarOf). slice_get vs (columns + k) ≡ Some w.0) (sym expanded.vars.1) (slice_get_after leader.base.vars more k w.0 w.1) in
        free_low w.0 (num_of z (columns + k)) z.den (multiplier_at k w.0 w.1).1 (feasible.bounds (columns + k) w.0 at)

    answered : AllAnswered leader.followers (num_of base) z.den (at_columns z columns)
    answered =
        let pairs = All_back (PairHolds z) leader.base.pairs (all_pairs columns leader.followers) (subst (All (PairHolds z)) expanded.pairs feasible.pairs) in
        all_agree columns (num_of z) (num_of base) z.den base_num leader.followers form.followers (at_columns z columns) (all_of_pairs z columns leader.followers pairs multipliers_low)

    optimal : (fs : List FollowerOf) (l : ℕ → ℤ) → All (IsFollowerForm columns) fs → All (AreFree leader.base) fs → AllAnswered fs (num_of base) z.den l → All (λ f. IsOptimal f base) fs
    optimal [] l forms free a k d h = absurd (omega arith)
    optimal (f ∷ fs) l forms free a zero d h =
        let ff = forms 0 f (omega arith) in
        optimal_of_answered f columns ff base feasible.point base_len (base_low f ff (free 0 f (omega arith))) l a.0
    optimal (f ∷ fs) l forms free a (suc k) d h =
        optimal fs (λ j. l (length f.rows + j)) (λ n e p. forms (suc n) e (omega arith)) (λ n e p. free (suc n) e (omega arith)) a.1 k d (omega arith)

    -- the base part of a feasible point is feasible for the leader
    pub leader_feasible : IsLeaderFeasible leader base
    leader_feasible = record {
      base = base_feasible;
      answers = optimal leader.followers (at_columns z columns) form.followers form.free answered;
    }

  -- a point of the base with multipliers at least 0 that answer all followers
  module _ (y : PointOf) (l : List ℤ) (feasible : IsFeasible leader.base y) (len : length l ≡ multipliers leader.followers) (all : AllAnswered leader.followers (num_of y) y.den (λ k. get_or l k (pos 0))) where
    abbrev with_multipliers : PointOf
    with_multipliers = record { num = y.num ++ l; den = y.den }

    with_num : Agree columns (num_of y) (num_of with_multipliers)
    with_num v h = sym (get_or_append_left y.num l (pos 0) v (let e = feasible.len in omega (arith, e, h)))

    with_more : (k : ℕ) → get_or l k (pos 0) ≡ at_columns with_multipliers columns k
    with_more k =
        sym (ap (λ (n : ℕ). get_or (y.num ++ l) (n + k) (pos 0)) (sym feasible.len) ∙ get_or-append-add y.num l k (pos 0))

    with_bounds : AreWithin player.vars with_multipliers
    with_bounds v var e =
        ⊎_elim (λ (h : slice_get leader.base.vars v ≡ Some var). subst (λ (n : ℤ). IsWithin var n y.den) (with_num v (slice_get_within leader.base.vars v var h)) (feasible.bounds v var h)) (λ (h : (j : ℕ) × (v ≡ columns + j) × (slice_get more j ≡ Some var)). multiplier h.0 h.1 h.2) (slice_get_back leader.base.vars more v var (subst (λ (vs : List VarOf). slice_get vs v ≡ Some var) expanded.vars.1 e))
      where
        up : (o : Option ℤ) → o ≡ None → IfSome o (λ b. num_of with_multipliers v ≤ℤ (b *ℤ y.den))
        up None e = tt
        up (Some b) e = absurd cc

        multiplier : (j : ℕ) → v ≡ columns + j → slice_get more j ≡ Some var → IsWithin var (num_of with_multipliers v) y.den
        multiplier j at_j is =
            let h = slice_get_within more j var is in
            let free = multiplier_at j var is in
            record {
              low = low_free var (num_of with_multipliers v) y.den free.1 (subst (λ (n : ℕ). (pos 0) ≤ℤ num_of with_multipliers n) (sym at_j) (subst (λ (n : ℤ). (pos 0) ≤ℤ n) (with_more j) (all_low leader.followers (num_of y) y.den (λ k. get_or l k (pos 0)) all j (let m = expanded.vars.2 in omega (arith, h, m)))));
              high = up var.up free.2;
              whole = λ w. let e = free.0 in absurd cc;
            }

    with_feasible : IsFeasible player with_multipliers
    with_feasible = record {
      point = feasible.point;
      len = length-append y.num l ∙ ap₂ ◌+◌ feasible.len len ∙ sym columns_in;
      bounds = with_bounds;
      rows = subst (All (RowHolds with_multipliers)) (sym expanded.rows) (λ k d h. row_moved columns y with_multipliers refl with_num (get_or leader.base.rows k d) (base_form.rows k d h) (feasible.rows k d h));
      pairs = subst (All (PairHolds with_multipliers)) (sym expanded.pairs) (All-append (PairHolds with_multipliers) leader.base.pairs (all_pairs columns leader.followers) (λ k d h. pair_moved columns y with_multipliers refl with_num (get_or leader.base.pairs k d) (base_form.pairs k d h) (feasible.pairs k d h)) (pairs_of_all with_multipliers columns leader.followers lows answers));
    }
      where
        low_at : (f : FollowerOf) → IsFollowerForm columns f → AreFree leader.base f → IsOwnLow with_multipliers f
        low_at f f_form free v o =
            let p = o.1 in
            let q = f_form.vars_exist in
            let low = own_low leader.base f f_form free y feasible.bounds v o in
            subst (λ (n : ℤ). (pos 0) ≤ℤ n) (with_num v (omega (arith, p, q))) low

        lows : All (IsOwnLow with_multipliers) leader.followers
        lows k d h =
            low_at (get_or leader.followers k d) (form.followers k d h) (form.free k d h)

        answers : AllAnswered leader.followers (num_of with_multipliers) y.den (at_columns with_multipliers columns)
        answers =
            subst (AllAnswered leader.followers (num_of with_multipliers) y.den) (λ i k. with_more k i) (all_agree columns (num_of y) (num_of with_multipliers) y.den with_num leader.followers form.followers (λ k. get_or l k (pos 0)) all)

    with_base : base_part leader with_multipliers ≡ y
    with_base =
        ap (λ (n : List ℤ). let made : PointOf = record { num = n; den = y.den } in made) (ap (λ (n : ℕ). take n (y.num ++ l)) (sym feasible.len) ∙ take-append_seam y.num l)

  -- a point that is feasible for the leader has multipliers
  pub expanded_feasible : (x : PointOf) → IsLeaderFeasible leader x → (z : PointOf) × IsSamePoint (base_part leader z) x × IsFeasible player z
  expanded_feasible x feasible =
      found (collected leader.followers columns x feasible.base.point feasible.base.len (λ k d h. own_low leader.base (get_or leader.followers k d) (form.followers k d h) (form.free k d h) x feasible.base.bounds) form.followers feasible.answers)
    where
      found : Collected leader.followers x → (z : PointOf) × IsSamePoint (base_part leader z) x × IsFeasible player z
      found c =
          let t = c.0 in
          let y = scaled x t in
          let same = same_scaled x t feasible.base.point c.2 in
          let there = feasible_same x y same leader.base feasible.base in
          let all = all_same leader.followers (λ v. num_of x v *ℤ t) (num_of y) y.den y.den (λ k. get_or c.1 k (pos 0)) (λ k. get_or c.1 k (pos 0)) (λ v. sym (num_of-scaled x t v)) refl (λ k. refl) c.4 in
          (with_multipliers y c.1 there c.3 all, subst (λ (b : PointOf). IsSamePoint b x) (sym (with_base y c.1 there c.3 all)) (same_point_sym x y same), with_feasible y c.1 there c.3 all)
