use Rattle.std.proofs.Common.{rules, ◌≡◌, length, FitsSigned}
use Rattle.std.proofs.lemmas.Int.{to_z-of_z}
use Rattle.std.specs.Int.{w128}
use Rattle.zr_simplex.proofs.Conclude.{best, empty, unbounded}
use Rattle.zr_simplex.proofs.solve.answer.Goals as goal

pub returns-in-Ok-clause-answer : goal.returns-in-Ok-clause-answer
returns-in-Ok-clause-answer c =
    let due = rw c.in-Best.is at c.requires.end in
    let f : FitsSigned w128 c.number-scale.result = search rules in
    let g : FitsSigned w128 c.number-least.result = search rules in
    let e : c.len-value.result ≡ length c.args.lp.now.rows.items = search rules in
    let scale = rw e at c.number-scale.ensures.value in
    let worth = rw e at c.number-least.ensures.value in
    let lists = c.in-Ok.ensures in
    let of = rw e at lists.of in
    simp to_z-of_z (rw (scale, worth) (best c.args.lp.now c.requires.lp c.args.tableau.now c.requires.kept c.in_ok-point-in-Best.point c.in-Ok.lists.0.items c.in-Ok.lists.1.items c.in_ok-point-in-Best.ensures.point due.0 lists.ascends lists.listed of (rw scale at c.number-scale.ensures.narrow) (rw worth at c.number-least.ensures.narrow)))

pub returns-in-Ok-multipliers-clause-answer : goal.returns-in-Ok-multipliers-clause-answer
returns-in-Ok-multipliers-clause-answer c =
    let due = rw c.in-Empty.is at c.requires.end in
    let lists = c.in-Ok-multipliers.ensures in
    empty c.args.lp.now c.requires.lp c.args.tableau.now c.requires.kept c.in-Empty.row c.in-Ok-multipliers.lists.0.items c.in-Ok-multipliers.lists.1.items due.0 due.1 lists.ascends lists.listed lists.of

pub returns-in_ok-ray-in-Unbounded-clause-answer : goal.returns-in_ok-ray-in-Unbounded-clause-answer
returns-in_ok-ray-in-Unbounded-clause-answer c =
    let due = rw c.in-Unbounded.is at c.requires.end in
    unbounded c.args.lp.now c.requires.lp c.args.tableau.now c.requires.kept c.in-Unbounded.column c.in_ok-point-in-Unbounded.point c.in_ok-ray-in-Unbounded.ray.items due.0 c.in_ok-point-in-Unbounded.ensures.point c.in_ok-ray-in-Unbounded.ensures.ray due.1 due.2 due.3
