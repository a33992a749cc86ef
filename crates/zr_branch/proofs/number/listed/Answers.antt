use Rattle.std.proofs.Common.{rules, pos, get_or, FitsSigned}
use Rattle.std.specs.Int.{w128}
use Rattle.std.proofs.lemmas.Int.{to_z-of_z}
use Rattle.zr_branch.specs.Columns.{listed_from}
use Rattle.zr_branch.proofs.Listed.{listed_more}
use Rattle.zr_branch.proofs.number.listed.Goals as goal

pub loop-c-preserved : goal.loop-c-preserved
loop-c-preserved c =
    let xs = c.args.list.now in
    let i = c.loop-c.c in
    let f : FitsSigned w128 (get_or xs i (pos 0)) = search rules in
    listed_more xs i c.loop-c.terms.items c.add_number.new.terms.items (listed_from 0 xs)
    c.loop-c-test.true (simp to_z-of_z at c.in_ok-add_number.ensures) c.loop-c.invariant
