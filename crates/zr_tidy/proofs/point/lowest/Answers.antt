use Rattle.std.proofs.Common.{◌≡◌, rules, sym, subst, Result, Ok, Err, IfOk, FitsSigned}
use Rattle.std.specs.Int.{w128}
use Rattle.std.proofs.lemmas.Int.{to_z-of_z}
use Rattle.zr_base.specs.Points.{IsSamePoint, PointOf}
use Rattle.zr_tidy.specs.Points.{IsLowestPoint, point_without}
use Rattle.zr_tidy.proofs.Lowering.{lowered_lowest, lowered_same}
use Rattle.zr_tidy.proofs.point.lowest.Goals as goal

if_is : {E : Type 0} (P : PointOf → Type 0) (r : Result PointOf E) (x : PointOf) → P x
    → IfOk r (λ y. y ≡ x) → IfOk r P
if_is P (Ok y) x p e = subst P (sym e) p
if_is P (Err e) x p h = h

pub returns-clause-same : goal.returns-clause-same
returns-clause-same c =
    let x = c.args.point.now in
    let z = c.greatest_divisor-shared.result in
    let f : FitsSigned w128 z = search rules in
    if_is (λ y. IsSamePoint y x) c.without.result (point_without z x)
    (lowered_same x z c.den-den.ensures.kept c.greatest_divisor-shared.ensures)
    (simp to_z-of_z at c.without.ensures.value)

pub returns-clause-lowest : goal.returns-clause-lowest
returns-clause-lowest c =
    let x = c.args.point.now in
    let z = c.greatest_divisor-shared.result in
    let f : FitsSigned w128 z = search rules in
    if_is IsLowestPoint c.without.result (point_without z x)
    (lowered_lowest x z c.den-den.ensures.kept c.greatest_divisor-shared.ensures)
    (simp to_z-of_z at c.without.ensures.value)
