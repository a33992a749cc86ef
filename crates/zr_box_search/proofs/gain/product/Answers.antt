use Rattle.std.proofs.Common.{◌<◌, ◌^◌, ◌*ℤ◌, arith, refl, unsigned_abs, FitsSigned}
use Rattle.std.specs.Int.{w128}
use Rattle.std.proofs.lemmas.Int.{fits_signed_from_abs, to_z-of_z}
use Rattle.zr_box_search.specs.Sizes.{slope_size}
use Rattle.zr_box_search.proofs.Bounding.{product_up}
use Rattle.zr_box_search.proofs.gain.product.Goals as goal
use Rattle.zr_box_search.proofs.gain.product.Goals.{Start}

module _ (c : Start) where
  pub fits : FitsSigned w128 (c.args.a *ℤ c.args.b)
  fits =
      let k = product_up 2000000000 slope_size c.args.a c.args.b c.requires.way c.requires.slope in
      let l : unsigned_abs (c.args.a *ℤ c.args.b) < 2 ^ 127 = omega (arith, k) in
      fits_signed_from_abs w128 (c.args.a *ℤ c.args.b) l

pub returns-clause-value : goal.returns-clause-value
returns-clause-value c =
    let f : FitsSigned w128 c.args.a = c.ranges.a in
    let g : FitsSigned w128 c.args.b = c.ranges.b in
    let h : FitsSigned w128 (c.args.a *ℤ c.args.b) = fits c in
    simp to_z-of_z refl

pub returns-clause-size : goal.returns-clause-size
returns-clause-size c =
    let f : FitsSigned w128 c.args.a = c.ranges.a in
    let g : FitsSigned w128 c.args.b = c.ranges.b in
    let h : FitsSigned w128 (c.args.a *ℤ c.args.b) = fits c in
    simp to_z-of_z
    (product_up 2000000000 slope_size c.args.a c.args.b c.requires.way c.requires.slope)
