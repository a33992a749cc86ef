use Rattle.std.proofs.Common.{sym}
use Rattle.zr_form.specs.Lines.{fields_of}
use Rattle.zr_text.proofs.LineLooser.{player_looser}
use Rattle.zr_text.proofs.strategy.player_line.Goals as goal

pub returns-in-Some : goal.returns-in-Some
returns-in-Some c =
    let e = sym c.in-Some.ensures in
    (e, player_looser c.args.i (fields_of c.args.line.now) (c.args.i, (c.in-Some.head.0, c.in-Some.head.1)) e)
