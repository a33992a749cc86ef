-- The rows of a branch's program are the slots of its leaf that are present.
use Rattle.std.proofs.Common.{◌≡◌, ℕ, zero, suc, ◌+◌, ◌<◌, arith, refl, sym, ap, subst, ◌∙◌, ℤ, pos, ◌*ℤ◌, ◌<ℤ◌, ◌≤ℤ◌, true, Option, Some, None, List, [], ◌∷◌, length, slice_get, option_and_then}
use Rattle.std.proofs.lemmas.Int.{ints}
use Rattle.zr_base.specs.Sums.{sum_to}
use Rattle.zr_base.specs.Points.{PointOf, num_of}
use Rattle.zr_base.proofs.Dense.{sum_to_same}
use Rattle.zr_base.proofs.Worth.{le_times}
use Rattle.std.proofs.lemmas.Option.{slice_get_within}
use Rattle.zr_game.specs.Players.{PlayerOf, VarOf}
use Rattle.zr_game.specs.Leaves.{Bound, BoundHolds, LeafOf, MeetsLeaf, low_of, root_leaf, slot_of, slots}
use Rattle.zr_tree.proofs.SettledLeaves.{KeepsRoot, above_keeps, below_keeps, decided_keeps, low_kept, root_keeps}
use Rattle.zr_game.specs.declared.leaf.Side.TheVariants as ASide
use Rattle.zr_asked.specs.declared.question.Move.{Move}
use Rattle.zr_asked.specs.declared.question.Move.TheVariants as AMove
use Rattle.zr_asked.specs.Branches.{SolvesProgram, bound_at, branch_program, present}
use Rattle.zr_asked.specs.Parts.{by_part, is_from_zero, part_at, parts_of, value_by}
use Rattle.zr_asked.specs.Paths.{branch, child_by, leaf_after}
use Rattle.zr_asked.proofs.PartSums.{branch_values}
use Rattle.zr_asked.proofs.PartValues.{AreUp, clip_up, clipped, clipped_values}

-- each row is a slot, and each slot that is present a row
pub row_slot_of : (rows : List (Option Bound)) (r : ℕ) → r < length (present rows)
    → (k : ℕ) × (slot_of rows k ≡ Some (bound_at (present rows) r))
row_slot_of [] r h = absurd (omega (arith, h))
row_slot_of (None ∷ rows) r h = let s = row_slot_of rows r h in (suc s.0, s.1)
row_slot_of (Some row ∷ rows) zero h = (0, refl)
row_slot_of (Some row ∷ rows) (suc r) h =
    let s = row_slot_of rows r (omega (arith, h)) in (suc s.0, s.1)

pub slot_row_of : (rows : List (Option Bound)) (k : ℕ) (row : Bound) → slot_of rows k ≡ Some row
    → (r : ℕ) × (r < length (present rows)) × (bound_at (present rows) r ≡ row)
slot_row_of [] k row e = absurd cc
slot_row_of (None ∷ rows) zero row e = absurd cc
slot_row_of (Some first ∷ rows) zero row e = (0, omega arith, cc)
slot_row_of (None ∷ rows) (suc k) row e = slot_row_of rows k row e
slot_row_of (Some first ∷ rows) (suc k) row e =
    let s = slot_row_of rows k row e in (suc s.0, omega (arith, s.1), s.2)

module _ (player : PlayerOf) (leaf : LeafOf) (aim y : ℕ → ℤ) (x : PointOf)
    (values : (v : ℕ) → v < length player.vars
    → num_of x v ≡ value_by (parts_of player.vars) y v) where
  -- a row has the same value at the columns and at the point
  same_value : (coef : ℕ → ℤ)
      → sum_to (length (parts_of player.vars)) (λ c. by_part (parts_of player.vars) coef c *ℤ y c)
      ≡ sum_to (length player.vars) (λ v. coef v *ℤ num_of x v)
  same_value coef =
      branch_values player.vars coef y ∙
      sum_to_same (length player.vars) (λ v. coef v *ℤ value_by (parts_of player.vars) y v)
      (λ v. coef v *ℤ num_of x v) (λ v h. ap (λ (z : ℤ). coef v *ℤ z) (sym (values v h)))

  pub solves_if : ((c : ℕ) → c < length (parts_of player.vars) → (pos 0) ≤ℤ y c)
      → MeetsLeaf player leaf x → SolvesProgram (branch_program player leaf aim) y x.den
  solves_if up meets = record {
    positive = meets.point;
    nonnegative = up;
    rows = λ r h. let s = row_slot_of (slots player leaf) r h in
        let row = bound_at (present (slots player leaf)) r in
        subst (λ (z : ℤ). z ≤ℤ (row.le *ℤ x.den)) (sym (same_value row.coef))
        (meets.rows s.0 row s.1);
  }

  pub meets_if : (pos 0) <ℤ x.den → length x.num ≡ length player.vars
      → SolvesProgram (branch_program player leaf aim) y x.den → MeetsLeaf player leaf x
  meets_if positive len solves = record {
    point = positive;
    len = len;
    rows = λ k row e. let s = slot_row_of (slots player leaf) k row e in
        let here = bound_at (present (slots player leaf)) s.0 in
        subst (BoundHolds player x) s.2
        (subst (λ (z : ℤ). z ≤ℤ (here.le *ℤ x.den)) (same_value here.coef) (solves.rows s.0 s.1));
  }

-- a path keeps the bounds of the player's variables
pub path_keeps : (player : PlayerOf) (leaf : LeafOf) (path : List Move) → KeepsRoot player leaf
    → KeepsRoot player (leaf_after leaf path)
path_keeps player leaf [] keeps = keeps
path_keeps player leaf (AMove.Low v at ∷ ms) keeps =
    path_keeps player (child_by leaf (AMove.Low v at)) ms (below_keeps player leaf keeps v at)
path_keeps player leaf (AMove.High v at ∷ ms) keeps =
    path_keeps player (child_by leaf (AMove.High v at)) ms (above_keeps player leaf keeps v at)
path_keeps player leaf (AMove.VarZero p ∷ ms) keeps =
    path_keeps player (child_by leaf (AMove.VarZero p)) ms
    (decided_keeps player leaf keeps p ASide.VarZero)
path_keeps player leaf (AMove.RowZero p ∷ ms) keeps =
    path_keeps player (child_by leaf (AMove.RowZero p)) ms
    (decided_keeps player leaf keeps p ASide.RowZero)

-- a lower bound of at least 0
pub low_up : (o : Option ℤ) → is_from_zero o ≡ true → (low : ℤ) × (o ≡ Some low) × ((pos 0) ≤ℤ low)
low_up None e = absurd cc
low_up (Some low) e = (low, refl, omega (arith, ints, e))

module _ (player : PlayerOf) (path : List Move) (x : PointOf)
    (meets : MeetsLeaf player (branch player path) x) where
  value_up : (v : ℕ) (low : ℤ) → v < length player.vars → low_of player.vars v ≡ Some low
      → (pos 0) ≤ℤ low → (pos 0) ≤ℤ num_of x v
  value_up v low h e up =
      let keeps = path_keeps player (root_leaf player) path (root_keeps player) in
      let k = low_kept player (branch player path) keeps x meets v low h
      ((branch player path).low v) refl (keeps.lows v low e) in
      let t = times_up low x.den up meets.point in
      omega (arith, ints, k, t)
    where
      times_up : (a d : ℤ) → (pos 0) ≤ℤ a → (pos 0) <ℤ d → (pos 0) ≤ℤ (a *ℤ d)
      times_up a d h p = let t = le_times (pos 0) a d p h in omega (arith, ints, t)

  pub all_up : (w : ℕ) (vars : List VarOf)
      → ((u : ℕ) (var : VarOf) → slice_get vars u ≡ Some var
      → slice_get player.vars (w + u) ≡ Some var)
      → AreUp (num_of x) w vars
  all_up w [] there = tt
  all_up w (var ∷ vars) there =
      let here : w + 0 ≡ w = omega arith in
      let is = subst (λ (n : ℕ). slice_get player.vars n ≡ Some var) here (there 0 var refl) in (
        λ f. let l = low_up var.low f in
            value_up w l.0 (slice_get_within player.vars w var is)
            (ap (option_and_then (λ (u : VarOf). u.low)) is ∙ l.1) l.2,
        all_up (suc w) vars (λ u other e.
            let next : w + suc u ≡ suc w + u = omega arith in
            subst (λ (n : ℕ). slice_get player.vars n ≡ Some other) next (there (suc u) other e)),
      )

  pub columns_of : (aim : ℕ → ℤ)
      → (y : ℕ → ℤ) × SolvesProgram (branch_program player (branch player path) aim) y x.den
      × ((v : ℕ) → v < length player.vars
      → num_of x v ≡ value_by (parts_of player.vars) y v)
  columns_of aim =
      let up = all_up 0 player.vars
      (λ u var e. let z : u ≡ 0 + u = omega arith in
      subst (λ (n : ℕ). slice_get player.vars n ≡ Some var) z e) in
      let y = clipped (num_of x) (parts_of player.vars) in
      let values = clipped_values (num_of x) player.vars up in (
        y,
        solves_if player (branch player path) aim y x values
            (λ c h. clip_up ((part_at (parts_of player.vars) c).1
            *ℤ num_of x (part_at (parts_of player.vars) c).0)) meets,
        values,
      )
