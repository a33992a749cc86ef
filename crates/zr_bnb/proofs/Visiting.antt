-- What a reply means for the branch.
use Rattle.std.proofs.Common.{◌≡◌, ℕ, suc, arith, refl, sym, ap, subst, ◌∙◌, ℤ, pos, negsuc, neg_ℤ, ◌+ℤ◌, ◌*ℤ◌, ◌<ℤ◌, ◌≤ℤ◌, Option, Some, None, List, [], ◌∷◌, length, ◌⊎◌}
use Rattle.std.proofs.lemmas.Int.{ints}
use Rattle.std.proofs.Math.IntN.{*ℤ_comm}
use Rattle.zr_base.specs.Fractions.{Fraction}
use Rattle.zr_base.specs.Points.{PointOf, num_of}
use Rattle.zr_base.specs.Sums.{sum_to}
use Rattle.zr_base.proofs.Ring.{mul_assoc, mul-add_right, neg-mul_left}
use Rattle.zr_base.proofs.Dense.{sum_to_same, sum_to_zero, sum_to-mul}
use Rattle.zr_base.proofs.Worth.{Each, le_times, le_of_times}
use Rattle.zr_game.specs.Players.{PlayerOf}
use Rattle.zr_game.specs.Feasible.{IsFeasible}
use Rattle.zr_game.specs.Leaves.{Bound, BoundHolds, IsWholeVar, LeafOf, MeetsLeaf, at_column, root_leaf, slot_of, slots}
use Rattle.zr_game.specs.Rays.{ChangesWhole, Direction, change_of, moved}
use Rattle.zr_game.proofs.Columns.{one_column}
use Rattle.zr_game.proofs.Holding.{SlotHolds}
use Rattle.zr_simplex.specs.Programs.{numbers}
use Rattle.zr_tree.specs.Nodes.{Multipliers}
use Rattle.zr_tree.specs.Right.{left_of, right_of}
use Rattle.zr_tree.proofs.Combinations.{combined, positive_if}
use Rattle.zr_asked.specs.Stuck.{IsVariableAim}
use Rattle.zr_branch.specs.Replies.{IsBestAt, IsSomePlayer, IsUnboundedAt, ProvesEmpty, ProvesValue}
use Rattle.zr_branch.specs.Values.{IsNotBelow, aim_value}
use Rattle.zr_bnb.specs.Causes.{HasNoLeast, IsInfeasibleLeast}
use Rattle.zr_bnb.specs.Fates.{HasAtMost, IsClosed}
use Rattle.zr_bnb.proofs.Along.{below_all, meets_moved, negative_times, value_moved}
use Rattle.zr_bnb.proofs.Directions.{is_relaxed}

each_holds : (player : PlayerOf) (x : PointOf) (rows : List (Option Bound))
    → ((k : ℕ) (row : Bound) → slot_of rows k ≡ Some row → BoundHolds player x row)
    → Each (SlotHolds player x) rows
each_holds player x [] all = tt
each_holds player x (None ∷ rows) all = (tt, each_holds player x rows (λ k row e. all (suc k) row e))
each_holds player x (Some b ∷ rows) all =
    (all 0 b refl, each_holds player x rows (λ k row e. all (suc k) row e))

-- g <= f and f is no more than a / d
pub at_most_not_below : (gn gd fn fd a d : ℤ) → (pos 0) <ℤ gd → (pos 0) <ℤ fd → (pos 0) <ℤ d
    → (gn *ℤ fd) ≤ℤ (fn *ℤ gd) → (fn *ℤ d) ≤ℤ (fd *ℤ a) → (gn *ℤ d) ≤ℤ (gd *ℤ a)
at_most_not_below gn gd fn fd a d g f positive le below =
    let x = le_times (gn *ℤ fd) (fn *ℤ gd) d positive le in
    let y = le_times (fn *ℤ d) (fd *ℤ a) gd g below in
    let p : (gn *ℤ fd) *ℤ d ≡ (gn *ℤ d) *ℤ fd =
    mul_assoc gn fd d ∙ ap (λ z. gn *ℤ z) (*ℤ_comm fd d) ∙ sym (mul_assoc gn d fd) in
    let q : (fn *ℤ gd) *ℤ d ≡ (fn *ℤ d) *ℤ gd =
    mul_assoc fn gd d ∙ ap (λ z. fn *ℤ z) (*ℤ_comm gd d) ∙ sym (mul_assoc fn d gd) in
    let r : (fd *ℤ a) *ℤ gd ≡ (gd *ℤ a) *ℤ fd =
    *ℤ_comm (fd *ℤ a) gd ∙ ap (λ z. gd *ℤ z) (*ℤ_comm fd a) ∙ sym (mul_assoc gd a fd) in
    le_of_times (gn *ℤ d) (gd *ℤ a) fd f (omega (arith, ints, x, y, p, q, r))

-- of a value reached at one point and not below at another
least_between : (vn vd ax xd ap_ d : ℤ) → (pos 0) <ℤ vd → (pos 0) <ℤ xd → (pos 0) <ℤ d
    → vn *ℤ xd ≡ vd *ℤ ax → (vn *ℤ d) ≤ℤ (vd *ℤ ap_) → (ax *ℤ d) ≤ℤ (ap_ *ℤ xd)
least_between vn vd ax xd ap_ d v x positive same below =
    let y = le_times (vn *ℤ d) (vd *ℤ ap_) xd x below in
    let p : (vn *ℤ d) *ℤ xd ≡ (vn *ℤ xd) *ℤ d =
    mul_assoc vn d xd ∙ ap (λ z. vn *ℤ z) (*ℤ_comm d xd) ∙ sym (mul_assoc vn xd d) in
    let q : (vn *ℤ xd) *ℤ d ≡ (vd *ℤ ax) *ℤ d = ap (λ z. z *ℤ d) same in
    let r : (vd *ℤ ax) *ℤ d ≡ (ax *ℤ d) *ℤ vd = mul_assoc vd ax d ∙ *ℤ_comm vd (ax *ℤ d) in
    let s : (vd *ℤ ap_) *ℤ xd ≡ (ap_ *ℤ xd) *ℤ vd = mul_assoc vd ap_ xd ∙ *ℤ_comm vd (ap_ *ℤ xd) in
    le_of_times (ax *ℤ d) (ap_ *ℤ xd) vd v (omega (arith, ints, y, p, q, r, s))

-- s * (v * d) <= s * (e * a) by way of the right side r
by_right : (s a r d v e : ℤ) → (pos 1) ≤ℤ s → (pos 0) <ℤ d → (pos 0) <ℤ e
    → neg_ℤ (s *ℤ a) ≤ℤ (r *ℤ d) → (r *ℤ e) ≤ℤ neg_ℤ (s *ℤ v) → (v *ℤ d) ≤ℤ (e *ℤ a)
by_right s a r d v e scale positive above first second =
    let f = le_times (neg_ℤ (s *ℤ a)) (r *ℤ d) e above first in
    let g = le_times (r *ℤ e) (neg_ℤ (s *ℤ v)) d positive second in
    let swap : (r *ℤ d) *ℤ e ≡ (r *ℤ e) *ℤ d =
    mul_assoc r d e ∙ ap (λ z. r *ℤ z) (*ℤ_comm d e) ∙ sym (mul_assoc r e d) in
    let x : neg_ℤ (s *ℤ a) *ℤ e ≡ neg_ℤ ((e *ℤ a) *ℤ s) =
    neg-mul_left (s *ℤ a) e ∙ ap (λ z. neg_ℤ z) (*ℤ_comm (s *ℤ a) e ∙
    ap (λ z. e *ℤ z) (*ℤ_comm s a) ∙ sym (mul_assoc e a s)) in
    let y : neg_ℤ (s *ℤ v) *ℤ d ≡ neg_ℤ ((v *ℤ d) *ℤ s) =
    neg-mul_left (s *ℤ v) d ∙ ap (λ z. neg_ℤ z) (mul_assoc s v d ∙ *ℤ_comm s (v *ℤ d)) in
    le_of_times (v *ℤ d) (e *ℤ a) s (omega (arith, ints, scale)) (omega (arith, ints, f, g, swap, x, y))

module _ (player : PlayerOf) (aim : List ℤ) where
  abbrev V : ℕ
  V = length player.vars

  value_scaled : (k : ℤ) (p : ℕ → ℤ) → sum_to V (λ j. neg_ℤ (k *ℤ numbers aim j) *ℤ p j)
      ≡ neg_ℤ (k *ℤ aim_value player aim p)
  value_scaled k p =
      sum_to_same V (λ j. neg_ℤ (k *ℤ numbers aim j) *ℤ p j)
      (λ j. neg_ℤ k *ℤ (numbers aim j *ℤ p j))
      (λ j h. ap (λ z. z *ℤ p j) (sym (neg-mul_left k (numbers aim j))) ∙
      mul_assoc (neg_ℤ k) (numbers aim j) (p j)) ∙
      sum_to-mul V (neg_ℤ k) (λ j. numbers aim j *ℤ p j) ∙ neg-mul_left k (aim_value player aim p)

  module _ (leaf : LeafOf) where
    -- no point of the leaf is below the value that multipliers prove
    proves : (value : Fraction) (scale : ℤ) (mult : Multipliers) → (pos 0) <ℤ value.den
        → ProvesValue player leaf aim value scale mult → (x : PointOf) → MeetsLeaf player leaf x
        → IsNotBelow player aim value x
    proves value scale mult above proof x meets =
        let c = combined player x (slots player leaf) mult
        (each_holds player x (slots player leaf) meets.rows)
        (positive_if 0 mult proof.multipliers.form) proof.multipliers.present in
        let e = sum_to_same V (λ j. left_of (slots player leaf) mult j *ℤ num_of x j)
        (λ j. neg_ℤ (scale *ℤ numbers aim j) *ℤ num_of x j)
        (λ j h. ap (λ z. z *ℤ num_of x j) (proof.left j h)) ∙ value_scaled scale (num_of x) in
        by_right scale (aim_value player aim (num_of x)) (right_of (slots player leaf) mult) x.den
        value.num value.den proof.positive meets.point above (rw e at c) proof.right

    -- multipliers that refute the rows leave no point
    proves_none : (mult : Multipliers) → ProvesEmpty player leaf aim mult → (x : PointOf)
        → MeetsLeaf player leaf x → ⊥
    proves_none mult proof x meets =
        let c = combined player x (slots player leaf) mult
        (each_holds player x (slots player leaf) meets.rows)
        (positive_if 0 mult proof.multipliers.form) proof.multipliers.present in
        let z = sum_to_same V (λ j. left_of (slots player leaf) mult j *ℤ num_of x j) (λ j. pos 0)
        (λ j h. ap (λ a. a *ℤ num_of x j) (proof.refuting.left j h) ∙ omega (arith, ints)) ∙
        sum_to_zero V in
        let n = negative_times (right_of (slots player leaf) mult) x.den meets.point
        proof.refuting.right in
        omega (arith, ints, rw z at c, n)

    pub closed_if_empty : (best : Option Fraction) (mult : Multipliers)
        → ProvesEmpty player leaf aim mult → IsClosed player aim best leaf
    closed_if_empty None mult e = λ x meets. proves_none mult e x meets
    closed_if_empty (Some f) mult e = λ x meets. absurd (proves_none mult e x meets)

    pub closed_by : (x : PointOf) (value : Fraction) (scale : ℤ) (mult : Multipliers)
        → IsBestAt player leaf aim x value scale mult → IsClosed player aim (Some value) leaf
    closed_by x value scale mult b y meets =
        proves value scale mult b.lowest.ratio.positive b.proof y meets

    pub closed_if_best : (best : Option Fraction) (x : PointOf) (value : Fraction) (scale : ℤ)
        (mult : Multipliers) → IsBestAt player leaf aim x value scale mult → HasAtMost best value
        → IsClosed player aim best leaf
    closed_if_best None x value scale mult b h = λ y meets. h
    closed_if_best (Some g) x value scale mult b h = λ y meets.
        at_most_not_below g.num g.den value.num value.den (aim_value player aim (num_of y)) y.den h.0
        b.lowest.ratio.positive meets.point h.1 (closed_by x value scale mult b y meets)

    -- where the aim falls without end the leaf isn't closed
    pub not_closed : (best : Option Fraction) (x : PointOf) (ray : Direction)
        → ((f : Fraction) → best ≡ Some f → (pos 0) <ℤ f.den)
        → IsUnboundedAt player leaf aim x ray → IsClosed player aim best leaf → ⊥
    not_closed None x ray above un closed = closed x un.meets
    not_closed (Some f) x ray above un closed =
        let s = x.den *ℤ aim_value player aim (change_of ray) in
        let n = negative_times (aim_value player aim (change_of ray)) x.den un.meets.point un.falls in
        let c = *ℤ_comm x.den (aim_value player aim (change_of ray)) in
        below_all f (aim_value player aim (num_of x)) s x.den (above f refl) (omega (arith, ints, n, c))
        (λ t. subst (λ z. (f.num *ℤ x.den) ≤ℤ (f.den *ℤ z))
        (value_moved player x ray un.meets.len un.len t aim ∙
        ap (λ z. aim_value player aim (num_of x) +ℤ z)
        (mul_assoc (pos t) x.den (aim_value player aim (change_of ray))))
        (closed (moved x ray t) (meets_moved player x ray un.meets.len un.len t leaf un.meets un.keeps)))

  pub no_least : (x : PointOf) (ray : Direction) → IsUnboundedAt player (root_leaf player) aim x ray
      → HasNoLeast player aim
  no_least x ray un y meets = (
    moved y ray 1,
    meets_moved player y ray meets.len un.len 1 (root_leaf player) meets un.keeps,
    (let a = aim_value player aim (num_of y) in
        let r = aim_value player aim (change_of ray) in
        let e = value_moved player y ray meets.len un.len 1 aim in
        let n = negative_times r y.den meets.point un.falls in
        let one : (pos 1 *ℤ y.den) *ℤ r ≡ r *ℤ y.den =
        ap (λ z. z *ℤ r) (one_times y.den) ∙ *ℤ_comm y.den r in
        let less : aim_value player aim (num_of (moved y ray 1)) <ℤ a = omega (arith, ints, e, n, one) in
        less_times (aim_value player aim (num_of (moved y ray 1))) a y.den meets.point less),
  )
    where
      one_times : (z : ℤ) → pos 1 *ℤ z ≡ z
      one_times z = omega (arith, ints)

      less_times : (p q d : ℤ) → (pos 0) <ℤ d → p <ℤ q → (p *ℤ d) <ℤ (q *ℤ d)
      less_times p q d positive h =
          let l = le_times (p +ℤ pos 1) q d positive (omega (arith, ints, h)) in
          let m = mul-add_right p (pos 1) d in
          let o = one_times d in
          omega (arith, ints, l, m, o, positive)

  pub infeasible_least : (x : PointOf) (value : Fraction) (scale : ℤ) (mult : Multipliers)
      → IsBestAt player (root_leaf player) aim x value scale mult → (IsFeasible player x → ⊥)
      → IsInfeasibleLeast player aim x
  infeasible_least x value scale mult b not = record {
    solution = b.solution;
    meets = b.meets;
    least = λ y meets. least_between value.num value.den (aim_value player aim (num_of x)) x.den
        (aim_value player aim (num_of y)) y.den b.lowest.ratio.positive b.meets.point meets.point
        b.value_is (closed_by (root_leaf player) x value scale mult b y meets);
    infeasible = not;
  }

-- a ray along which a variable's aim falls changes the variable
pub changes : (player : PlayerOf) → (i : ℕ) × IsSomePlayer i player → (v : ℕ) (z : ℤ)
    → IsWholeVar player v → (z ≡ pos 1) ⊎ (z ≡ negsuc 0) → (a : List ℤ) → IsVariableAim player v z a
    → (x : PointOf) (ray : Direction) → IsUnboundedAt player (root_leaf player) a x ray
    → ChangesWhole player ray v
changes player some v z whole sign a is x ray un =
    let s = sum_to_same (length player.vars) (λ j. numbers a j *ℤ change_of ray j)
    (λ j. at_column v z j *ℤ change_of ray j)
    (λ j h. ap (λ y. y *ℤ change_of ray j) (is.2 j h)) in
    let o = one_column (length player.vars) v z (change_of ray) is.0 in
    let f = un.falls in (
      is_relaxed player some a x ray un,
      whole,
      λ e. absurd_zero z (change_of ray v) e (omega (arith, ints, s, o, f)),
    )
  where
    absurd_zero : (k c : ℤ) → c ≡ pos 0 → (k *ℤ c) <ℤ (pos 0) → ⊥
    absurd_zero k c e h =
        let n : k *ℤ c ≡ pos 0 = ap (λ y. k *ℤ y) e ∙ omega (arith, ints) in omega (arith, ints, h, n)
