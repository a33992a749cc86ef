use Rattle.std.proofs.Common.{sym}
use Rattle.zr_form.specs.Lines.{fields_of}
use Rattle.zr_text.proofs.LineLooser.{kind_looser}
use Rattle.zr_text.proofs.heading.kind_line.Goals as goal

pub returns-in-Some : goal.returns-in-Some
returns-in-Some c =
    let e = sym c.in-Some.ensures in
    (e, kind_looser (fields_of c.args.line.now) (c.in-Some.head.0, c.in-Some.head.1) e)
