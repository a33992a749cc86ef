use Rattle.std.proofs.Common.{IfSome, Option, inr, subst}
use Rattle.zr_game.specs.Games.{game_of}
use Rattle.zr_cert.specs.Listed.{cert_of}
use Rattle.zr_cert.specs.declared.cert.Cert.{Cert}
use Rattle.zr_decide.specs.Answers.{IsBoxVerdict}
use Rattle.zr_decide.proofs.Bounded.{below_stop, small_spent}
use Rattle.zr_decide.proofs.Causing.{nothing_decided}
use Rattle.zr_decide.proofs.Deciding.{answer_ends, answer_within, verdict_of_boxes}
use Rattle.zr_decide.proofs.decision.decide.Goals as goal

pub returns-in-Err-clause-spends : goal.returns-in-Err-clause-spends
returns-in-Err-clause-spends c =
    nothing_decided (game_of c.args.game.now) c.args.kind c.args.purse.now

pub returns-in-Ok-Some-clause-spends : goal.returns-in-Ok-Some-clause-spends
returns-in-Ok-Some-clause-spends c =
    nothing_decided (game_of c.args.game.now) c.args.kind c.args.purse.now

pub returns-in-Ok-Some-clause-within : goal.returns-in-Ok-Some-clause-within
returns-in-Ok-Some-clause-within c =
    verdict_of_boxes (game_of c.args.game.now) (cert_of c.in-Ok-Some.cert).verdict
    (subst (λ (o : Option Cert). IfSome o (λ cert. IsBoxVerdict (cert_of cert).verdict))
    c.in-Ok-Some.field-0-is c.in-Ok-Some.ensures.boxes)

pub returns-in-Ok-None-clause-boxes : goal.returns-in-Ok-None-clause-boxes
returns-in-Ok-None-clause-boxes c e = inr (c.in-Ok-None.ensures.none e c.in-Ok-None.field-0-is)

pub returns-in-Ok-None-clause-within : goal.returns-in-Ok-None-clause-within
returns-in-Ok-None-clause-within c =
    answer_within (game_of c.args.game.now) c.args.kind c.args.purse.now c.decide_by_covers.new.purse
    c.decide_by_covers.result c.decide_by_covers.ensures.within c.decide_by_covers.ensures.cause

pub returns-in-Ok-None-clause-ended : goal.returns-in-Ok-None-clause-ended
returns-in-Ok-None-clause-ended c =
    answer_ends (game_of c.args.game.now) c.args.kind c.args.purse.now c.decide_by_covers.new.purse
    c.decide_by_covers.result c.decide_by_covers.ensures.cause

pub returns-in-Err-clause-small : goal.returns-in-Err-clause-small
returns-in-Err-clause-small c = λ bounded.
    let game = game_of c.args.game.now in
    small_spent game c.args.game.now.sound bounded c.args.kind c.args.purse.now c.args.purse.now
    (nothing_decided game c.args.kind c.args.purse.now)

pub returns-in-Ok-Some-clause-small : goal.returns-in-Ok-Some-clause-small
returns-in-Ok-Some-clause-small c = λ bounded.
    let game = game_of c.args.game.now in
    small_spent game c.args.game.now.sound bounded c.args.kind c.args.purse.now c.args.purse.now
    (nothing_decided game c.args.kind c.args.purse.now)

pub returns-in-Ok-None-clause-small : goal.returns-in-Ok-None-clause-small
returns-in-Ok-None-clause-small c = λ bounded.
    small_spent (game_of c.args.game.now) c.args.game.now.sound bounded c.args.kind
    c.args.purse.now c.decide_by_covers.new.purse c.decide_by_covers.ensures.spends

pub returns-in-Ok-None-clause-below : goal.returns-in-Ok-None-clause-below
returns-in-Ok-None-clause-below c =
    below_stop (game_of c.args.game.now) c.args.game.now.sound c.args.kind c.args.purse.now
    c.decide_by_covers.new.purse c.decide_by_covers.result c.decide_by_covers.ensures.cause
