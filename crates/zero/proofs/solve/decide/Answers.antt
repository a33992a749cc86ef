use Rattle.std.proofs.Common.{rules, inr, refl, subst, ap}
use Rattle.zr_game.specs.Games.{game_of}
use Rattle.zr_game.specs.Forms.{IsGame}
use Rattle.zr_game.specs.Players.{GameOf}
use Rattle.zr_drive.specs.Ends.{IsEndOf}
use Rattle.zr_drive.specs.Verdicts.{IsVerdictText}
use Rattle.zr_read.specs.Texts.{source_of}
use Rattle.zero.proofs.TruthLemmas.{decided_of}
use Rattle.zero.proofs.solve.decide.Goals as goal

pub returns-in-Ok-clause-ok : goal.returns-in-Ok-clause-ok
returns-in-Ok-clause-ok c =
    let source = source_of c.args.reading.now.source in
    let verdict = subst (λ (g : GameOf). IsVerdictText g c.args.kind c.in-Ok.text.items) c.requires.game c.in-Ok.ensures.verdict in
    let form = subst IsGame c.requires.game c.args.reading.now.game.sound in
    decided_of source c.args.reading.now.source.sound form c.args.kind c.in-Ok.text.items verdict

pub returns-in-Err-Ended-clause-err : goal.returns-in-Err-Ended-clause-err
returns-in-Err-Ended-clause-err c =
    let cause : IsEndOf (game_of c.args.reading.now.game) c.args.kind c.args.budget c.in-Err-Ended.end = search rules in
    inr (c.in-Err-Ended.end, refl, subst (λ (g : GameOf). IsEndOf g c.args.kind c.args.budget c.in-Err-Ended.end) c.requires.game cause)
