use Rattle.std.proofs.Common.{rules, ◌≡◌, FitsSigned}
use Rattle.std.specs.Int.{int_div_euclid, w128}
use Rattle.std.proofs.lemmas.Int.{to_z-of_z}
use Rattle.zr_bnb.proofs.Floors.{floor_above, floor_below}
use Rattle.zr_bnb.proofs.split.floor.Goals as goal
use Rattle.zr_bnb.proofs.split.floor.Goals.{After-div_euclid}

quotient : (c : After-div_euclid) → c.div_euclid.result ≡ int_div_euclid c.args.num c.args.den
quotient c =
    let n : FitsSigned w128 c.args.num = search rules in
    let d : FitsSigned w128 c.args.den = search rules in
    simp to_z-of_z at c.div_euclid.ensures

pub returns-clause-below : goal.returns-clause-below
returns-clause-below c =
    let f : FitsSigned w128 c.div_euclid.result = search rules in
    simp to_z-of_z (rw (quotient c) (floor_below c.args.num c.args.den c.requires))

pub returns-clause-above : goal.returns-clause-above
returns-clause-above c =
    let f : FitsSigned w128 c.div_euclid.result = search rules in
    simp to_z-of_z (rw (quotient c) (floor_above c.args.num c.args.den c.requires))
