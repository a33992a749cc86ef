use Rattle.zr_game.specs.Games.{game_of}
use Rattle.zr_decide.proofs.Causing.{all_causes, all_spend, covers_spend}
use Rattle.zr_decide.proofs.decision.decide_by_covers.Goals as goal

pub returns-in-Err-clause-cause : goal.returns-in-Err-clause-cause
returns-in-Err-clause-cause c = c.in-Err.ensures.cause c.args.kind

pub returns-in-Err-clause-spends : goal.returns-in-Err-clause-spends
returns-in-Err-clause-spends c =
    covers_spend (game_of c.args.game.now) c.args.kind c.args.purse.now c.covers_of.new.purse
    c.in-Err.ensures.spends

pub returns-in-Ok-Empty-clause-spends : goal.returns-in-Ok-Empty-clause-spends
returns-in-Ok-Empty-clause-spends c =
    covers_spend (game_of c.args.game.now) c.args.kind c.args.purse.now c.covers_of.new.purse
    c.in-Ok-Empty.ensures.spends

pub returns-in-Ok-All-clause-cause : goal.returns-in-Ok-All-clause-cause
returns-in-Ok-All-clause-cause c =
    all_causes (game_of c.args.game.now) c.args.kind c.args.purse.now c.covers_of.new.purse
    c.decide_over.new.purse c.in-Ok-All.ensures.spends c.decide_over.result
    c.decide_over.ensures.cause

pub returns-in-Ok-All-clause-spends : goal.returns-in-Ok-All-clause-spends
returns-in-Ok-All-clause-spends c =
    all_spend (game_of c.args.game.now) c.args.kind c.args.purse.now c.covers_of.new.purse
    c.decide_over.new.purse c.in-Ok-All.ensures.spends c.decide_over.ensures.spends
