-- Sums along a direction, and steps that are known to be narrow.
use Rattle.std.proofs.Common.{◌≡◌, ◌↔◌, Bool, ◌&&◌, IsTrue, All, ℕ, zero, suc, ◌<◌, arith, refl, ap, sym, ◌∙◌, ℤ, pos, Option, Some, None, Ok, List, [], ◌∷◌, length, map, get_or}
use Rattle.std.proofs.lemmas.Int.{ints}
use Rattle.zr_base.specs.declared.step.Wide.{Wide}
use Rattle.zr_base.specs.Rows.{products}
use Rattle.zr_base.specs.Sums.{sum_steps}
use Rattle.zr_base.specs.Terms.{Terms}
use Rattle.zr_base.specs.Tests.{Tells, first_wide, or_else}
use Rattle.zr_base.proofs.SumSteps.{sum_steps_exact}
use Rattle.zr_base.specs.Points.{PointOf}
use Rattle.zr_base.proofs.Telling.{both_true, true_both}
use Rattle.zr_game.specs.Players.{PlayerOf}
use Rattle.zr_game.specs.Feasible.{IsFeasible}
use Rattle.zr_game.specs.FeasibleSteps.{feasible_wide, pair_wide, row_wide, var_wide}
use Rattle.zr_game.specs.Rays.{Direction, IsRay, KeepsAllBounds, KeepsPair, KeepsRow, along}
use Rattle.zr_game.specs.RaySteps.{along_wide, ray_wide}
use Rattle.zr_game.proofs.Items.{first_wide-map}

-- what the steps of a sum along a direction end with
pub along_is : (coef : Terms) (dir : Direction) (v : ℤ)
    → sum_steps (pos 0) (products coef dir) ≡ Ok v → v ≡ along coef dir
along_is coef dir v e =
    let s = sum_steps_exact (pos 0) v (products coef dir) e in omega (arith, ints, s)

-- where neither of two is wide
pub both_narrow : (a b : Option Wide) → or_else a b ≡ None → (a ≡ None) × (b ≡ None)
both_narrow None b e = (refl, e)
both_narrow (Some w) b e = absurd cc

each_narrow : {A : Type 0} (f : A → Option Wide) (xs : List A) (i : ℕ) (x : A)
    → first_wide f xs ≡ None → i < length xs → x ≡ get_or xs i x → f x ≡ None
each_narrow f [] i x none h is = absurd (omega arith)
each_narrow f (y ∷ ys) zero x none h is = ap f is ∙ (both_narrow (f y) (first_wide f ys) none).0
each_narrow f (y ∷ ys) (suc i) x none h is = each_narrow f ys i x
    (both_narrow (f y) (first_wide f ys) none).1 (omega arith) is

-- the steps of one item of a list
pub narrow_item : {A B : Type 0} (g : A → B) (f : B → Option Wide) (xs : List A) (i : ℕ) (x : A)
    → first_wide f (map g xs) ≡ None → i < length xs → x ≡ get_or xs i x → f (g x) ≡ None
narrow_item g f xs i x none h is = each_narrow (λ y. f (g y)) xs i x (sym (first_wide-map g f xs) ∙
    none) h is

pub pairs_narrow : (player : PlayerOf) (x : PointOf) → feasible_wide player x ≡ None
    → first_wide (pair_wide x) player.pairs ≡ None
pairs_narrow player x none =
    let bounds = first_wide (var_wide x.den) player.vars in
    let rows = first_wide (row_wide x) player.rows in
    let pairs = first_wide (pair_wide x) player.pairs in
    (both_narrow rows pairs (both_narrow bounds (or_else rows pairs) none).1).1

-- four tests together are the test of a ray
pub ray_told : (player : PlayerOf) (base : PointOf) (dir : Direction)
    (starts bounds rows pairs : Bool) → length dir ≡ length player.vars
    → Tells (Ok starts) (IsFeasible player base) (feasible_wide player base)
    → (IsTrue bounds ↔ KeepsAllBounds player.vars dir)
    → Tells (Ok rows) (All (KeepsRow dir) player.rows)
    (first_wide (λ row. along_wide dir row.coef) player.rows)
    → Tells (Ok pairs) (All (KeepsPair base dir) player.pairs)
    (first_wide (λ pair. along_wide dir pair.coef) player.pairs)
    → Tells (Ok (((starts && bounds) && rows) && pairs)) (IsRay player base dir)
    (ray_wide player base dir)
ray_told player base dir starts bounds rows pairs len start bound row pair = (
  rw (start.0, row.0, pair.0) refl,
  (
    λ h.
        let p = both_true ((starts && bounds) && rows) pairs h in
        let q = both_true (starts && bounds) rows p.0 in
        let r = both_true starts bounds q.0 in
        record {
          base_is = start.1.0 r.0;
          len = len;
          bounds = bound.0 r.1;
          rows = row.1.0 q.1;
          pairs = pair.1.0 p.1;
        },
    λ f.
        let r = true_both starts bounds (start.1.1 f.base_is) (bound.1 f.bounds) in
        let q = true_both (starts && bounds) rows r (row.1.1 f.rows) in
        true_both ((starts && bounds) && rows) pairs q (pair.1.1 f.pairs),
  ),
)
