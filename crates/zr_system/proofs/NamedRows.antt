-- The numbers of the rows of named points and rays.
use Rattle.std.proofs.Common.{◌≡◌, ℕ, arith, sym, ap, ◌∙◌, ℤ, pos, ◌+ℤ◌, ◌-ℤ◌, ◌*ℤ◌, Ok, Err, List}
use Rattle.std.proofs.Math.IntN.{*ℤ_comm}
use Rattle.std.proofs.lemmas.Int.{ints}
use Rattle.zr_base.specs.declared.step.Wide.{Wide}
use Rattle.zr_base.specs.Sums.{sum_products, sum_steps}
use Rattle.zr_base.proofs.Dense.{sum_to_same}
use Rattle.zr_base.proofs.SumSteps.{sum_steps_exact}
use Rattle.zr_game.specs.Players.{GameOf}
use Rattle.zr_system.specs.declared.unknown.Unknown.{Unknown}
use Rattle.zr_system.specs.declared.unknown.Unknown.TheVariants.{Worth}
use Rattle.zr_game.specs.Named.{NamedOf, NamedPoint, NamedRay}
use Rattle.zr_system.specs.Regions.{LeavesOf, var_count}
use Rattle.zr_system.specs.Forms.{number_at}
use Rattle.zr_system.specs.Lines.{along_form, named_form, slope_form}
use Rattle.zr_system.specs.Asked.{IsUnknown, direction, slope_products}
use Rattle.zr_system.specs.Values.{along_products, own_value, slope_value}
use Rattle.zr_system.proofs.Numbers.{slope_at}
use Rattle.zr_system.proofs.Firsts.{firsts_sum, firsts_same}
use Rattle.zr_system.proofs.Sums.{sum_to-all_zero}

module _ (game : GameOf) (leaves : LeavesOf) (i : ℕ) (item : NamedOf) (u : Unknown)
    (is : IsUnknown game leaves u) where
  pub same_products : slope_products game leaves i item u ≡ along_products game i item u
      (var_count game i)
  same_products =
      firsts_same (var_count game i) (λ v. (
        number_at (slope_form game leaves i v) u,
        direction
            item v,
      )) (λ v. (slope_value game i v u, direction item v))
      (λ v h. ap (λ (z : ℤ). (z, direction item v)) (slope_at game leaves i v u is))

  along_at : number_at (along_form game leaves i (direction item)) u ≡ sum_products
      (along_products game i item u (var_count game i))
  along_at =
      sum_to_same (var_count game i) (λ v. direction item v *ℤ number_at
      (slope_form game leaves i v) u) (λ v. slope_value game i v u *ℤ direction item v)
      (λ v h. ap (λ z. direction item v *ℤ z) (slope_at game leaves i v u is)
      ∙ *ℤ_comm (direction item v) (slope_value game i v u))
      ∙ sym (firsts_sum (var_count game i) (λ v. (slope_value game i v u, direction item v)))

  -- the row's number, by the sum that was made
  pub named_made : (sum : ℤ) → Ok sum ≡ sum_steps (pos 0)
      (along_products game i item u (var_count game i))
      → own_value i item u -ℤ sum ≡ number_at (named_form game leaves i item) u
  named_made sum e =
      let s = sum_steps_exact (pos 0) sum (along_products game i item u (var_count game i)) (sym e)
      in
      by item along_at s
    where
      by : (item : NamedOf) → number_at (along_form game leaves i (direction item))
          u ≡ sum_products (along_products game i item u (var_count game i))
          → sum ≡ pos 0 +ℤ sum_products (along_products game i item u (var_count game i))
          → own_value i item u -ℤ sum ≡ number_at (named_form game leaves i item) u
      by (NamedPoint p) a s = omega (arith, ints, a, s)
      by (NamedRay base dir) a s = omega (arith, ints, a, s)

  pub wide_made : (w : Wide) → Err w ≡ sum_steps (pos 0)
      (along_products game i item u (var_count game i))
      → sum_steps (pos 0) (slope_products game leaves i item u) ≡ Err w
  wide_made w e = ap (λ (ts : List (ℤ × ℤ)). sum_steps (pos 0) ts) same_products ∙ sym e

  pub wide_back : (w : Wide) → sum_steps (pos 0) (slope_products game leaves i item u) ≡ Err w
      → sum_steps (pos 0) (along_products game i item u (var_count game i)) ≡ Err w
  wide_back w e = ap (λ (ts : List (ℤ × ℤ)). sum_steps (pos 0) ts) (sym same_products) ∙ e

-- at a value the slope is 0
pub worth_none : (game : GameOf) (i j n : ℕ) (item : NamedOf) (sum : ℤ)
    → Ok sum ≡ sum_steps (pos 0) (along_products game i item (Worth j) n) → sum ≡ pos 0
worth_none game i j n item sum e =
    let s = sum_steps_exact (pos 0) sum (along_products game i item (Worth j) n) (sym e) in
    let f = firsts_sum n (λ v. (slope_value game i v (Worth j), direction item v)) in
    let z = sum_to-all_zero n (λ v. pos 0 *ℤ direction item v) (λ v h. omega (arith, ints)) in
    omega (arith, ints, s, f, z)
