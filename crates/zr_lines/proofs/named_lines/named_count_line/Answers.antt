use Rattle.std.proofs.Common.{sym}
use Rattle.zr_form.specs.Lines.{fields_of}
use Rattle.zr_lines.proofs.LineLooser.{named_count_looser}
use Rattle.zr_lines.proofs.named_lines.named_count_line.Goals as goal

pub returns-in-Some : goal.returns-in-Some
returns-in-Some c =
    let e = sym c.in-Some.ensures in
    (e, named_count_looser (fields_of c.args.line.now) c.in-Some.count e)
