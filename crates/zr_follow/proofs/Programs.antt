-- A follower's linear program at a point, and that its least points are the optimal answers.
use Rattle.std.proofs.Common.{◌≡◌, ◌↔◌, ℕ, ◌+◌, ◌-◌, ◌<◌, ◌≤◌, ◌==◌, nat_lt, arith, refl, sym, ap, ap₂, subst, ◌∙◌, ℤ, pos, neg_ℤ, ◌+ℤ◌, ◌*ℤ◌, ◌≤ℤ◌, ◌<ℤ◌, Bool, true, false, cond, List, [], ◌∷◌, map, length, get_or, All}
use Rattle.std.specs.List.{filter, range_with_len}
use Rattle.std.proofs.lemmas.Int.{ints}
use Rattle.std.proofs.lemmas.Bool.Decides.{nat_tests}
use Rattle.std.proofs.lemmas.List.FromFn.{get_or-map-range_with_len, length-map-range_with_len}
use Rattle.std.proofs.lemmas.List.{get_or_past}
use Rattle.zr_base.proofs.Ring.{spread, mul_assoc}
use Rattle.zr_base.proofs.Dense.{sum_to_same, sum_to_zero, sum_to-add, value_dense}
use Rattle.zr_base.proofs.Divisors.{mul_positive}
use Rattle.zr_base.proofs.RowLaws.{row_holds_value, value_same, value_at-mul}
use Rattle.zr_base.proofs.Worth.{Each, Worth, at_most, of_at_most, le_times, le_of_times, sum_list, worth-below, worth-multiple, worth-plus, worth-sum, worth-times, worth-whole, worth-wider}
use Rattle.zr_base.specs.Fractions.{IsAtMost, sum_over, times, whole}
use Rattle.zr_base.specs.Points.{PointOf, num_of, value_of}
use Rattle.zr_base.specs.Rows.{RowHolds, RowOf}
use Rattle.zr_base.specs.Sums.{sum_to}
use Rattle.zr_base.specs.Terms.{Ascends, Terms, coef_at, value_at}
use Rattle.zr_base.proofs.Members.{each_of_all}
use Rattle.zr_base.proofs.Members.{each_filter, each_weaker}
use Rattle.zr_game.proofs.TermColumns.{ascends}
use Rattle.zr_base.proofs.SumSteps.{get_or_default}
use Rattle.zr_follow.proofs.Sums.{mul_least, sum_split, sum_times}
use Rattle.zr_follow.specs.Expansion.{cross_terms}
use Rattle.zr_source.specs.Optimal.{IsChoice, IsOptimal, follower_cost, own_slope}
use Rattle.zr_follow.specs.Programs.{IsIn, IsLeast, Program, along}
use Rattle.zr_source.specs.SourceForms.{IsFollowerCross, IsFollowerForm}
use Rattle.zr_source.specs.Sources.{FollowerOf, IsOwn}

-- whether variable v is the follower's own
abbrev pub is_own : FollowerOf → ℕ → Bool
is_own f v = cond (nat_lt v f.first) false (nat_lt v (f.first + f.count))

pub own_true : (f : FollowerOf) (v : ℕ) → IsOwn f v → is_own f v ≡ true
own_true f v h =
    let a = h.0 in
    let b = h.1 in
    let s : nat_lt v f.first ≡ false = grind (arith, nat_tests) in
    let t : nat_lt v (f.first + f.count) ≡ true = grind (arith, nat_tests) in
    rw (s, t) refl

pub own_false : (f : FollowerOf) (v : ℕ) → (IsOwn f v → ⊥) → is_own f v ≡ false
own_false f v h = told (is_own f v) refl
  where
    told : (b : Bool) → is_own f v ≡ b → is_own f v ≡ false
    told false e = e
    told true e = absurd (h (within (nat_lt v f.first) (nat_lt v (f.first + f.count)) refl refl e))
      where
        within : (a b : Bool) → nat_lt v f.first ≡ a → nat_lt v (f.first + f.count) ≡ b → cond a false b ≡ true → IsOwn f v
        within true b p q e = absurd cc
        within false false p q e = absurd cc
        within false true p q e = (grind (arith, nat_tests), grind (arith, nat_tests))

pub not_own : (f : FollowerOf) (v : ℕ) → is_own f v ≡ false → IsOwn f v → ⊥
not_own f v e h = let t = own_true f v h in absurd cc

-- p with 0 at the follower's own variables
abbrev pub others : FollowerOf → (ℕ → ℤ) → ℕ → ℤ
others f p v = cond (is_own f v) (pos 0) (p v)

abbrev pub none : RowOf
none = record { coef = []; le = pos 0 }

-- row r, or `0 <= 0` where there is none
abbrev pub row_at : List RowOf → ℕ → RowOf
row_at rows r = get_or rows r none

-- the follower's slope at `p v / d`, times d
abbrev pub aim_of : FollowerOf → (ℕ → ℤ) → ℤ → ℕ → ℤ
aim_of f p d j = coef_at f.cost (f.first + j) *ℤ d +ℤ value_at (cross_terms f (f.first + j)) p

-- the follower's program at `p v / d`
abbrev pub program_of : FollowerOf → (ℕ → ℤ) → ℤ → Program
program_of f p d = record {
  columns = f.count;
  rows = length f.rows;
  coef = λ r j. coef_at (row_at f.rows r).coef (f.first + j) *ℤ d;
  le = λ r. (row_at f.rows r).le *ℤ d +ℤ neg_ℤ (value_at (row_at f.rows r).coef (others f p));
  aim = aim_of f p d;
}

-- the follower's own numbers
abbrev pub own : FollowerOf → (ℕ → ℤ) → ℕ → ℤ
own f p j = p (f.first + j)

-- a sum over the follower's own columns alone
block : (f : FollowerOf) (columns : ℕ) (g : ℕ → ℤ) → f.first + f.count ≤ columns → sum_to columns (λ v. cond (is_own f v) (g v) (pos 0)) ≡ sum_to f.count (λ j. g (f.first + j))
block f columns g h =
    let h' = λ (v : ℕ). cond (is_own f v) (g v) (pos 0) in
    let e : f.first + f.count + (columns - (f.first + f.count)) ≡ columns = omega arith in
    subst (λ n. sum_to n h' ≡ sum_to f.count (λ j. g (f.first + j))) e (parts h')
  where
    off : (v : ℕ) → (IsOwn f v → ⊥) → cond (is_own f v) (g v) (pos 0) ≡ pos 0
    off v n = rw (own_false f v n) refl

    on : (v : ℕ) → IsOwn f v → cond (is_own f v) (g v) (pos 0) ≡ g v
    on v n = rw (own_true f v n) refl

    parts : (h' : ℕ → ℤ) → sum_to (f.first + f.count + (columns - (f.first + f.count))) (λ v. cond (is_own f v) (g v) (pos 0)) ≡ sum_to f.count (λ j. g (f.first + j))
    parts h' =
        let rest = columns - (f.first + f.count) in
        let all = λ (v : ℕ). cond (is_own f v) (g v) (pos 0) in
        let a = sum_split (f.first + f.count) rest all in
        let b = sum_split f.first f.count all in
        let before = sum_to_same f.first all (λ v. pos 0) (λ v p. off v (λ o. let q = o.0 in omega arith)) ∙ sum_to_zero f.first in
        let inside = sum_to_same f.count (λ j. all (f.first + j)) (λ j. g (f.first + j)) (λ j p. on (f.first + j) (omega arith, omega arith)) in
        let after = sum_to_same rest (λ k. all (f.first + f.count + k)) (λ v. pos 0) (λ k p. off (f.first + f.count + k) (λ o. let q = o.1 in omega arith)) ∙ sum_to_zero rest in
        a ∙ ap₂ ◌+ℤ◌ (b ∙ ap₂ ◌+ℤ◌ before inside) after ∙ omega (arith, ints)

-- a sum of terms, by the follower's own columns and the others
pub value_parts : (f : FollowerOf) (columns : ℕ) (ts : Terms) (y : ℕ → ℤ) → Ascends 0 columns ts → f.first + f.count ≤ columns → value_at ts y ≡ sum_to f.count (λ j. coef_at ts (f.first + j) *ℤ own f y j) +ℤ value_at ts (others f y)
value_parts f columns ts y form h =
    value_dense 0 columns ts y form ∙ sum_to_same columns (λ v. coef_at ts v *ℤ y v) (λ v. cond (is_own f v) (coef_at ts v *ℤ y v) (pos 0) +ℤ coef_at ts v *ℤ others f y v) (λ v p. either (is_own f v) (coef_at ts v) (y v)) ∙ sum_to-add columns (λ v. cond (is_own f v) (coef_at ts v *ℤ y v) (pos 0)) (λ v. coef_at ts v *ℤ others f y v) ∙ ap₂ ◌+ℤ◌ (block f columns (λ v. coef_at ts v *ℤ y v) h) (sym (value_dense 0 columns ts (others f y) form))
  where
    either : (b : Bool) (c z : ℤ) → c *ℤ z ≡ cond b (c *ℤ z) (pos 0) +ℤ c *ℤ cond b (pos 0) z
    either true c z = omega (arith, ints)
    either false c z = omega (arith, ints)

-- a row at a point whose other values are p / d is the program's row
module _ (f : FollowerOf) (columns : ℕ) (ts : Terms) (le : ℤ) (form : Ascends 0 columns ts) (h : f.first + f.count ≤ columns) (p : ℕ → ℤ) (d : ℤ) (y : ℕ → ℤ) (e : ℤ) (positive : (pos 0) <ℤ d) (same : (v : ℕ) → (IsOwn f v → ⊥) → y v *ℤ d ≡ p v *ℤ e) where
  others_same : value_at ts (others f y) *ℤ d ≡ value_at ts (others f p) *ℤ e
  others_same =
      sym (value_at-mul ts (others f y) d) ∙ value_same ts (λ v. others f y v *ℤ d) (λ v. others f p v *ℤ e) (λ v. one v (is_own f v) refl) ∙ value_at-mul ts (others f p) e
    where
      one : (v : ℕ) (b : Bool) → is_own f v ≡ b → cond (is_own f v) (pos 0) (y v) *ℤ d ≡ cond (is_own f v) (pos 0) (p v) *ℤ e
      one v true q = rw q (omega (arith, ints))
      one v false q = rw q (same v (not_own f v q))

  pub own_sum : sum_to f.count (λ j. (coef_at ts (f.first + j) *ℤ d) *ℤ own f y j) ≡ sum_to f.count (λ j. coef_at ts (f.first + j) *ℤ own f y j) *ℤ d
  own_sum =
      sum_to_same f.count (λ j. (coef_at ts (f.first + j) *ℤ d) *ℤ own f y j) (λ j. (coef_at ts (f.first + j) *ℤ own f y j) *ℤ d) (λ j q. swap (coef_at ts (f.first + j)) d (own f y j)) ∙ sym (sum_times f.count (λ j. coef_at ts (f.first + j) *ℤ own f y j) d)
    where
      swap : (a b c : ℤ) → (a *ℤ b) *ℤ c ≡ (a *ℤ c) *ℤ b
      swap a b c = simp spread

  pub row_parts : (value_at ts y ≤ℤ (le *ℤ e)) ↔ (sum_to f.count (λ j. (coef_at ts (f.first + j) *ℤ d) *ℤ own f y j) ≤ℤ ((le *ℤ d +ℤ neg_ℤ (value_at ts (others f p))) *ℤ e))
  row_parts =
      rw (value_parts f columns ts y form h, own_sum) (parts_order (sum_to f.count (λ j. coef_at ts (f.first + j) *ℤ own f y j)) (value_at ts (others f y)) (value_at ts (others f p)) others_same)
    where
      parts_order : (s oy op : ℤ) → oy *ℤ d ≡ op *ℤ e → ((s +ℤ oy) ≤ℤ (le *ℤ e)) ↔ ((s *ℤ d) ≤ℤ ((le *ℤ d +ℤ neg_ℤ op) *ℤ e))
      parts_order s oy op q = (
        λ k. let l = simp spread at (le_times (s +ℤ oy) (le *ℤ e) d positive k) in
            let r = simp spread at q in
            simp spread (omega (arith, ints, l, r)),
        λ k. let l = simp spread at k in
            let r = simp spread at q in
            le_of_times (s +ℤ oy) (le *ℤ e) d positive (simp spread (omega (arith, ints, l, r))),
      )

cross_value : (ts : List (ℕ × ℕ × ℤ)) (p : ℕ → ℤ) → value_at (map (λ t. (t.1, t.2)) ts) p ≡ sum_list ts (λ t. t.2 *ℤ p t.1)
cross_value [] p = refl
cross_value (t ∷ ts) p = ap (λ z. t.2 *ℤ p t.1 +ℤ z) (cross_value ts p)

-- the follower's cost at a point whose other values are p / d, over the product of the denominators
module _ (f : FollowerOf) (columns : ℕ) (form : IsFollowerForm columns f) (p : ℕ → ℤ) (d : ℤ) (y : PointOf) (y_positive : (pos 0) <ℤ y.den) (same : (v : ℕ) → (IsOwn f v → ⊥) → num_of y v *ℤ d ≡ p v *ℤ y.den) where
  abbrev IsOther : ℕ × ℕ × ℤ → Type 0
  IsOther t = IsOwn f t.1 → ⊥

  cross_others : (j : ℕ) → Each IsOther (filter (λ t. t.0 == j) f.cross)
  cross_others j =
      each_filter IsOther (λ t. t.0 == j) f.cross (each_weaker (IsFollowerCross f columns) IsOther f.cross (λ t c. c.other) (each_of_all (IsFollowerCross f columns) f.cross form.cross))

  worth_slope : (j : ℕ) → Worth d (own_slope f y (f.first + j)) (aim_of f p d j)
  worth_slope j =
      let ts = filter (λ t. t.0 == f.first + j) f.cross in
      let sum = worth-sum d IsOther ts (λ t. times (whole t.2) (value_of y t.1)) (λ t. t.2 *ℤ p t.1) (λ t o. worth-multiple d t.2 (value_of y t.1) (p t.1) (record { below = y_positive; equal = same t.1 o })) (cross_others (f.first + j)) in
      worth-plus d (whole (coef_at f.cost (f.first + j))) (sum_over ts (λ t. times (whole t.2) (value_of y t.1))) (coef_at f.cost (f.first + j) *ℤ d) (value_at (cross_terms f (f.first + j)) p) (worth-whole d (coef_at f.cost (f.first + j))) (subst (λ n. Worth d (sum_over ts (λ t. times (whole t.2) (value_of y t.1))) n) (sym (cross_value ts p)) sum)

  pub worth_cost : Worth (d *ℤ y.den) (follower_cost f y) (along (program_of f p d) (aim_of f p d) (own f (num_of y)))
  worth_cost =
      worth-below (d *ℤ y.den) f.count (λ k. times (own_slope f y (f.first + k)) (value_of y (f.first + k))) (λ k. aim_of f p d k *ℤ num_of y (f.first + k)) (λ k h. worth-times d y.den (own_slope f y (f.first + k)) (value_of y (f.first + k)) (aim_of f p d k) (num_of y (f.first + k)) (worth_slope k) (record { below = y_positive; equal = refl }))

-- at a point x of the leader
module _ (f : FollowerOf) (columns : ℕ) (form : IsFollowerForm columns f) (x : PointOf) (positive : (pos 0) <ℤ x.den) (len : length x.num ≡ columns) where
  abbrev pub here : Program
  here = program_of f (num_of x) x.den

  pub row_form : (r : ℕ) → r < length f.rows → Ascends 0 columns (row_at f.rows r).coef
  row_form r h = ascends (row_at f.rows r).coef 0 columns (form.rows r none h).coef

  -- whether the rows hold at a point with x's other values
  row_there : (r : ℕ) → r < length f.rows → (y : PointOf) → ((v : ℕ) → (IsOwn f v → ⊥) → num_of y v *ℤ x.den ≡ num_of x v *ℤ y.den) → RowHolds y (row_at f.rows r) ↔ (along here (here.coef r) (own f (num_of y)) ≤ℤ (here.le r *ℤ y.den))
  row_there r h y same =
      let a = row_holds_value y (row_at f.rows r) in
      let b = row_parts f columns (row_at f.rows r).coef (row_at f.rows r).le (row_form r h) form.vars_exist (num_of x) x.den (num_of y) y.den positive same in
      (λ k. b.0 (a.0 k), λ k. a.1 (b.1 k))

  pub allowed_here : ((v : ℕ) → IsOwn f v → (pos 0) ≤ℤ num_of x v) → All (RowHolds x) f.rows → IsIn here (own f (num_of x)) x.den
  allowed_here low rows = record {
    point = positive;
    low = λ j h. low (f.first + j) (omega arith, omega arith);
    rows = λ r h. (row_there r h x (λ v o. refl)).0 (rows r none h);
  }

  allowed_there : (y : PointOf) → IsChoice f x y → IsIn here (own f (num_of y)) y.den
  allowed_there y is = record {
    point = is.point;
    low = λ j h. is.low (f.first + j) (omega arith, omega arith);
    rows = λ r h. (row_there r h y (λ v o. (is.others v o).cross)).0 (is.rows r none h);
  }

  cost_here : Worth (x.den *ℤ x.den) (follower_cost f x) (along here here.aim (own f (num_of x)))
  cost_here = worth_cost f columns form (num_of x) x.den x positive (λ v o. refl)

  -- least fractions are an optimal answer
  pub optimal_of_least : All (RowHolds x) f.rows → IsLeast here (own f (num_of x)) x.den → IsOptimal f x
  optimal_of_least rows least = record {
    point = positive;
    rows = rows;
    least = λ y is. at_most ((x.den *ℤ x.den) *ℤ y.den) (follower_cost f x) (follower_cost f y) (along here here.aim (own f (num_of x)) *ℤ y.den) (along here here.aim (own f (num_of y)) *ℤ x.den) (mul_positive (x.den *ℤ x.den) y.den (mul_positive x.den x.den positive positive) is.point) (worth-wider (x.den *ℤ x.den) y.den (follower_cost f x) (along here here.aim (own f (num_of x))) cost_here) (subst (λ e. Worth e (follower_cost f y) (along here here.aim (own f (num_of y)) *ℤ x.den)) (turn x.den y.den) (worth-wider (x.den *ℤ y.den) x.den (follower_cost f y) (along here here.aim (own f (num_of y))) (worth_cost f columns form (num_of x) x.den y is.point (λ v o. (is.others v o).cross)))) (least (own f (num_of y)) y.den (allowed_there y is));
  }
    where
      turn : (a b : ℤ) → (a *ℤ b) *ℤ a ≡ (a *ℤ a) *ℤ b
      turn a b = simp spread

  -- x with other fractions `z j / e` for the follower's variables, over a common denominator
  module _ (z : ℕ → ℤ) (e : ℤ) (e_positive : (pos 0) <ℤ e) where
    abbrev moved : ℕ → ℤ
    moved v = cond (is_own f v) (z (v - f.first) *ℤ x.den) (num_of x v *ℤ e)

    abbrev there : PointOf
    there = record { num = map moved (range_with_len 0 columns); den = x.den *ℤ e }

    there_num : (v : ℕ) → num_of there v ≡ moved v
    there_num v = by_size (nat_lt v columns) refl
      where
        by_size : (b : Bool) → nat_lt v columns ≡ b → num_of there v ≡ moved v
        by_size true s =
            let h : v < columns = grind (arith, nat_tests) in
            get_or-map-range_with_len moved 0 columns v v (pos 0) h (omega arith)
        by_size false s =
            let h : columns ≤ v = grind (arith, nat_tests) in
            let n = length-map-range_with_len moved 0 columns in
            let past = get_or_past (map moved (range_with_len 0 columns)) v (pos 0) (omega (arith, n, h)) in
            let off = own_false f v (λ o. let p = o.1 in let q = form.vars_exist in omega (arith, p, q, h)) in
            let zero = get_or_past x.num v (pos 0) (omega (arith, len, h)) in
            let m : moved v ≡ num_of x v *ℤ e = rw off refl in
            past ∙ sym (m ∙ ap (λ a. a *ℤ e) zero ∙ omega (arith, ints))

    own_there : (j : ℕ) → j < f.count → num_of there (f.first + j) ≡ z j *ℤ x.den
    own_there j h =
        let n : f.first + j - f.first ≡ j = omega arith in
        there_num (f.first + j) ∙ rw (own_true f (f.first + j) (omega arith, omega arith), n) refl

    other_there : (v : ℕ) → (IsOwn f v → ⊥) → num_of there v ≡ num_of x v *ℤ e
    other_there v o = there_num v ∙ rw (own_false f v o) refl

    others_there : (v : ℕ) → (IsOwn f v → ⊥) → num_of there v *ℤ x.den ≡ num_of x v *ℤ (x.den *ℤ e)
    others_there v o = ap (λ a. a *ℤ x.den) (other_there v o) ∙ turn (num_of x v) e x.den
      where
        turn : (a b c : ℤ) → (a *ℤ b) *ℤ c ≡ a *ℤ (c *ℤ b)
        turn a b c = simp spread

    along_there : (g : ℕ → ℤ) → along here g (own f (num_of there)) ≡ along here g z *ℤ x.den
    along_there g =
        sum_to_same f.count (λ j. g j *ℤ num_of there (f.first + j)) (λ j. (g j *ℤ z j) *ℤ x.den) (λ j h. ap (λ a. g j *ℤ a) (own_there j h) ∙ sym (mul_assoc (g j) (z j) x.den)) ∙ sym (sum_times f.count (λ j. g j *ℤ z j) x.den)

    choice_there : IsIn here z e → IsChoice f x there
    choice_there inside = record {
      point = mul_positive x.den e positive e_positive;
      len = length-map-range_with_len moved 0 columns ∙ sym len;
      others = λ v o. record { left = mul_positive x.den e positive e_positive; right = positive; cross = others_there v o };
      low = λ v o. low v o;
      rows = λ r d h. rw (get_or_default f.rows r d none h) ((row_there r h there others_there).1 (row r h));
    }
      where
        low : (v : ℕ) → IsOwn f v → (pos 0) ≤ℤ num_of there v
        low v o =
            let a = o.0 in
            let b = o.1 in
            let h : v - f.first < f.count = omega arith in
            let n : f.first + (v - f.first) ≡ v = omega arith in
            subst (λ w. (pos 0) ≤ℤ num_of there w) n (rw (own_there (v - f.first) h) (mul_least (z (v - f.first)) x.den (inside.low (v - f.first) h) (omega (arith, ints, positive))))

        row : (r : ℕ) → r < length f.rows → along here (here.coef r) (own f (num_of there)) ≤ℤ (here.le r *ℤ (x.den *ℤ e))
        row r h =
            let l = le_times (along here (here.coef r) z) (here.le r *ℤ e) x.den positive (inside.rows r h) in
            rw (along_there (here.coef r), ← turn (here.le r) e x.den) l
          where
            turn : (a b c : ℤ) → (a *ℤ b) *ℤ c ≡ a *ℤ (c *ℤ b)
            turn a b c = simp spread

    cost_order : IsAtMost (follower_cost f x) (follower_cost f there) → (along here here.aim (own f (num_of x)) *ℤ e) ≤ℤ (along here here.aim z *ℤ x.den)
    cost_order h =
        let d = x.den *ℤ (x.den *ℤ e) in
        let p = subst (λ a. Worth a (follower_cost f x) (along here here.aim (own f (num_of x)) *ℤ e)) (mul_assoc x.den x.den e) (worth-wider (x.den *ℤ x.den) e (follower_cost f x) (along here here.aim (own f (num_of x))) cost_here) in
        let below = mul_positive x.den e positive e_positive in
        let q = subst (Worth d (follower_cost f there)) (along_there here.aim) (worth_cost f columns form (num_of x) x.den there below others_there) in
        of_at_most d (follower_cost f x) (follower_cost f there) (along here here.aim (own f (num_of x)) *ℤ e) (along here here.aim z *ℤ x.den) (mul_positive x.den (x.den *ℤ e) positive below) p q h

  -- an optimal answer is least
  pub least_of_optimal : IsOptimal f x → IsLeast here (own f (num_of x)) x.den
  least_of_optimal optimal z e inside =
      cost_order z e inside.point (optimal.least (there z e inside.point) (choice_there z e inside.point inside))
