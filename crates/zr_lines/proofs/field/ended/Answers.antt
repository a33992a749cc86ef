use Rattle.std.proofs.Common.{◌∙◌, ap, Option, Bor}
use Rattle.std.specs.Prelude.{option_copied}
use Rattle.zr_form.specs.Code.{left_of}
use Rattle.zr_form.specs.Lines.{split_once}
use Rattle.zr_form.specs.Reading.{Bytes}
use Rattle.zr_form.proofs.Lines.{first_field}
use Rattle.zr_lines.proofs.field.ended.Goals as goal

pub returns-in-Some : goal.returns-in-Some
returns-in-Some c =
    let line = c.in-Some.field-0.now in
    ((split_once 32 line).0, left_of (split_once 32 line).1, ap (λ (o : Option (Bor Bytes)). left_of (option_copied o)) c.in-Some.is ∙ first_field line)
