use Rattle.std.proofs.Common.{sym}
use Rattle.zr_form.specs.Lines.{fields_of}
use Rattle.zr_text.proofs.LineLooser.{cost_looser}
use Rattle.zr_text.proofs.bound.cost_line.Goals as goal

pub returns-in-Some : goal.returns-in-Some
returns-in-Some c =
    let e = sym c.in-Some.ensures in
    (e, cost_looser c.args.i (fields_of c.args.line.now) (c.args.i, (c.in-Some.cost.num, c.in-Some.cost.den)) e)
