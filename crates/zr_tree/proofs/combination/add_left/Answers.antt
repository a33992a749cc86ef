use Rattle.std.proofs.Common.{rules, FitsSigned}
use Rattle.std.specs.Int.{w64, w128}
use Rattle.std.proofs.lemmas.Int.{to_z-of_z}
use Rattle.zr_tree.proofs.combination.add_left.Goals as goal

pub returns-in-Terms-clause-sums : goal.returns-in-Terms-clause-sums
returns-in-Terms-clause-sums c =
    let f : FitsSigned w128 c.args.by = search rules in
    rw c.in-Terms.is (simp to_z-of_z at c.add_terms.ensures.sums)

pub returns-in-Terms-clause-wide : goal.returns-in-Terms-clause-wide
returns-in-Terms-clause-wide c =
    let f : FitsSigned w128 c.args.by = search rules in
    rw c.in-Terms.is (simp to_z-of_z at c.add_terms.ensures.wide)

pub returns-in-Column-clause-sums : goal.returns-in-Column-clause-sums
returns-in-Column-clause-sums c =
    let f : FitsSigned w128 c.args.by = search rules in
    let g : FitsSigned w64 c.in-Column.number = search rules in
    rw c.in-Column.is (simp to_z-of_z at c.add_column.ensures.sums)

pub returns-in-Column-clause-wide : goal.returns-in-Column-clause-wide
returns-in-Column-clause-wide c =
    let f : FitsSigned w128 c.args.by = search rules in
    let g : FitsSigned w64 c.in-Column.number = search rules in
    rw c.in-Column.is (simp to_z-of_z at c.add_column.ensures.wide)
