use Rattle.std.proofs.Common.{◌≡◌, sym, subst, true, Option}
use Rattle.std.specs.Prelude.{option_map}
use Rattle.zr_mix.specs.declared.mixture.Part.{Part}
use Rattle.zr_mix.specs.Mixtures.{part_of}
use Rattle.zr_form.specs.Lines.{fields_of}
use Rattle.zr_text.specs.Reader.{part_at}
use Rattle.zr_text.proofs.LineLooser.{part_looser}
use Rattle.zr_text.proofs.strategy.part_line.Goals as goal

pub returns-in-Some : goal.returns-in-Some
returns-in-Some c =
    let fs = fields_of c.args.line.now in
    let m = subst (λ (o : Option Part). option_map part_of o ≡ part_at true fs) c.in-Some.is c.in_ok-part.ensures in
    (sym m, part_looser fs (part_of c.in-Some.part) (sym m))
