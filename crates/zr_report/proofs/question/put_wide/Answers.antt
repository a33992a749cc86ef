use Rattle.std.proofs.Common.{rules, FitsSigned}
use Rattle.std.specs.Int.{w128}
use Rattle.std.proofs.lemmas.Int.{to_z-of_z}
use Rattle.zr_form.specs.Numbers.{signed}
use Rattle.zr_report.proofs.Growing.{two_pairs}
use Rattle.zr_report.proofs.question.put_wide.Goals as goal

pub returns : goal.returns
returns c =
    let w = c.args.wide.now in
    let f : FitsSigned w128 w.left.0 = search rules in
    let g : FitsSigned w128 w.left.1 = search rules in
    let h : FitsSigned w128 w.right.0 = search rules in
    let k : FitsSigned w128 w.right.1 = search rules in
    two_pairs c.args.out.now.items (signed w.left.0) (signed w.left.1) (signed w.right.0) (signed w.right.1)
    c.put_pair.new.out.items c.put_pair-2.new.out.items (simp to_z-of_z at c.in_ok-put_pair.ensures)
    (simp to_z-of_z at c.in_ok-put_pair-2.ensures)
