-- Rays of a leaf are rays of the relaxation.
use Rattle.std.proofs.Common.{◌≡◌, ℕ, arith, ap, ◌∙◌, ℤ, pos, negsuc, ◌*ℤ◌, ◌<ℤ◌, List, [], ◌∷◌, length, ◌⊎◌, inl, inr, ⊎_elim, subst}
use Rattle.std.proofs.lemmas.Int.{ints}
use Rattle.zr_base.proofs.Dense.{sum_to_same, sum_to_zero}
use Rattle.zr_base.specs.Points.{PointOf}
use Rattle.zr_game.specs.Players.{PlayerOf}
use Rattle.zr_game.specs.Leaves.{HasPoint, IsWholeVar, at_column, root_leaf}
use Rattle.zr_game.specs.Rays.{ChangesWhole, Direction, IsRelaxedRay, KeepsRow, change_of}
use Rattle.zr_game.proofs.Columns.{one_column}
use Rattle.zr_simplex.specs.Programs.{numbers}
use Rattle.zr_tree.proofs.SettledLeaves.{KeepsRoot, root_keeps}
use Rattle.zr_asked.specs.declared.question.Move.{Move}
use Rattle.zr_asked.specs.Paths.{IsOpenPath, branch}
use Rattle.zr_asked.specs.Stuck.{IsPlainAim, IsVariableAim, IsZeroAim}
use Rattle.zr_asked.proofs.PresentRows.{path_keeps}
use Rattle.zr_branch.specs.Replies.{IsSomePlayer, IsUnboundedAt}
use Rattle.zr_bnb.proofs.Directions.{all_if, bounds_kept, pair_sum_kept, row_kept}

root_point : (player : PlayerOf) (path : List Move) → IsOpenPath player path
    → HasPoint player (branch player path) → HasPoint player (root_leaf player)
root_point player [] open_is point = point
root_point player (m ∷ ms) open_is point = open_is.0

module _ (player : PlayerOf) (some : (i : ℕ) × IsSomePlayer i player) (path : List Move)
    (open_is : IsOpenPath player path) (aim : List ℤ) (x : PointOf) (dir : Direction)
    (un : IsUnboundedAt player (branch player path) aim x dir) where
  keeps_root : KeepsRoot player (branch player path)
  keeps_root = path_keeps player (root_leaf player) path (root_keeps player)

  is_relaxed_ray : IsRelaxedRay player dir
  is_relaxed_ray = record {
    some = root_point player path open_is (x, un.meets);
    len = un.len;
    bounds = bounds_kept player some (branch player path) keeps_root dir un.keeps;
    rows = all_if (KeepsRow dir) player.rows
        (row_kept player some (branch player path) keeps_root dir un.keeps);
    pairs = all_if _ player.pairs
        (pair_sum_kept player some (branch player path) keeps_root dir un.keeps);
  }

  -- a ray along which a variable's aim falls changes the variable
  pub changes_whole : (v : ℕ) (z : ℤ) → IsWholeVar player v → IsVariableAim player v z aim
      → ChangesWhole player dir v
  changes_whole v z whole is =
      let s = sum_to_same (length player.vars) (λ j. numbers aim j *ℤ change_of dir j)
      (λ j. at_column v z j *ℤ change_of dir j)
      (λ j h. ap (λ y. y *ℤ change_of dir j) (is.2 j h)) in
      let o = one_column (length player.vars) v z (change_of dir) is.0 in
      let f = un.falls in (
        is_relaxed_ray,
        whole,
        λ e. absurd_zero z (change_of dir v) e (omega (arith, ints, s, o, f)),
      )
    where
      absurd_zero : (k c : ℤ) → c ≡ pos 0 → (k *ℤ c) <ℤ (pos 0) → ⊥
      absurd_zero k c e h =
          let n : k *ℤ c ≡ pos 0 = ap (λ y. k *ℤ y) e ∙ omega (arith, ints) in
          omega (arith, ints, h, n)

  -- no ray changes the aim that is zero
  pub zero_falls_not : IsZeroAim player aim → ⊥
  zero_falls_not is =
      let s = sum_to_same (length player.vars) (λ j. numbers aim j *ℤ change_of dir j)
      (λ j. pos 0) (λ j h. ap (λ a. a *ℤ change_of dir j) (is.1 j h) ∙ omega (arith, ints)) ∙
      sum_to_zero (length player.vars) in
      let f = un.falls in omega (arith, ints, s, f)

pub plain_variable : (player : PlayerOf) (v : ℕ) (z : ℤ) (a : List ℤ)
    → (z ≡ pos 1) ⊎ (z ≡ negsuc 0) → IsVariableAim player v z a → IsPlainAim player a
plain_variable player v z a sign is =
    ⊎_elim (λ (e : z ≡ pos 1). inr (v, inl (subst (λ (y : ℤ). IsVariableAim player v y a) e is)))
    (λ (e : z ≡ negsuc 0). inr (v, inr (subst (λ (y : ℤ). IsVariableAim player v y a) e is))) sign
