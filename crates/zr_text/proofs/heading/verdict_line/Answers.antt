use Rattle.std.proofs.Common.{sym}
use Rattle.zr_form.specs.Lines.{fields_of}
use Rattle.zr_text.specs.Code.{verdict_line_of}
use Rattle.zr_text.proofs.LineLooser.{verdict_line_looser}
use Rattle.zr_text.proofs.heading.verdict_line.Goals as goal

pub returns-in-Some : goal.returns-in-Some
returns-in-Some c =
    let e = sym c.in-Some.ensures in
    (e, verdict_line_looser (fields_of c.args.line.now) (verdict_line_of c.in-Some.said) e)
