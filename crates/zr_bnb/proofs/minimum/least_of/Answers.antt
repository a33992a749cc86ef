use Rattle.zr_game.specs.Players.{player_of}
use Rattle.zr_bnb.proofs.Leasts.{spends_on}
use Rattle.zr_bnb.proofs.minimum.least_of.Goals as goal

pub returns-in-None-clause-answer : goal.returns-in-None-clause-answer
returns-in-None-clause-answer c =
    let found = rw (c.in-Ok-Grown.field-0-is, c.in-None.is) at c.in-Ok-Grown.ensures.found in
    c.empty.ensures.answer c.args.purse.now found.0 found.1 (rw c.deref.ensures.value found.2)

pub returns-in-None-clause-cause : goal.returns-in-None-clause-cause
returns-in-None-clause-cause c = c.empty.ensures.cause c.args.purse.now c.empty.new.purse

pub returns-in-None-clause-spends : goal.returns-in-None-clause-spends
returns-in-None-clause-spends c =
    spends_on (player_of c.args.player.now) c.args.purse.now c.search.new.purse c.empty.new.purse
    c.in-Ok-Grown.ensures.spends c.empty.ensures.purse

pub returns-clause-answer : goal.returns-clause-answer
returns-clause-answer c =
    let found = rw (c.in-Ok-Grown.field-0-is, c.in-Some.is) at c.in-Ok-Grown.ensures.found in
    c.at.ensures.answer c.args.purse.now found.0 found.1 (rw c.deref-in-Some.ensures.value found.2)

pub returns-clause-cause : goal.returns-clause-cause
returns-clause-cause c = c.at.ensures.cause c.args.purse.now c.at.new.purse

pub returns-clause-spends : goal.returns-clause-spends
returns-clause-spends c =
    spends_on (player_of c.args.player.now) c.args.purse.now c.search.new.purse c.at.new.purse
    c.in-Ok-Grown.ensures.spends c.at.ensures.purse
