use Rattle.std.proofs.Common.{◌≡◌, sym, subst, true, Option}
use Rattle.std.specs.Prelude.{option_map}
use Rattle.zr_game.specs.declared.named.Named.{Named}
use Rattle.zr_game.specs.Named.{named_of}
use Rattle.zr_form.specs.Lines.{fields_of}
use Rattle.zr_lines.specs.Reader.{named_at}
use Rattle.zr_lines.proofs.LineLooser.{named_looser}
use Rattle.zr_lines.proofs.named_lines.named_line.Goals as goal

pub returns-in-Some : goal.returns-in-Some
returns-in-Some c =
    let fs = fields_of c.args.line.now in
    let m = subst (λ (o : Option Named). option_map named_of o ≡ named_at true fs) c.in-Some.is c.in_ok-item.ensures in
    (sym m, named_looser fs (named_of c.in-Some.item) (sym m))
