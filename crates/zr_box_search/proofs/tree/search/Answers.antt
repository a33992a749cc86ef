use Rattle.zr_game.specs.Games.{game_of}
use Rattle.zr_box_search.proofs.Replies.{not_both}
use Rattle.zr_box_search.proofs.Spending.{spends_nothing}
use Rattle.zr_box_search.proofs.tree.search.Goals as goal

pub returns-then-not-is_box_game-clause-spends : goal.returns-then-not-is_box_game-clause-spends
returns-then-not-is_box_game-clause-spends c =
    spends_nothing (game_of c.args.game.now) c.args.purse.now

pub grow-requires-clause-whole : goal.grow-requires-clause-whole
grow-requires-clause-whole c = c.is_box_game.ensures.yes c.if-not-is_box_game.false

pub returns-in-Err-clause-at_once : goal.returns-in-Err-clause-at_once
returns-in-Err-clause-at_once c h =
    absurd (not_both (game_of c.args.game.now)
    (c.is_box_game.ensures.yes c.if-not-is_box_game.false) h)

pub returns-in-Ok-Some-clause-at_once : goal.returns-in-Ok-Some-clause-at_once
returns-in-Ok-Some-clause-at_once c h =
    absurd (not_both (game_of c.args.game.now)
    (c.is_box_game.ensures.yes c.if-not-is_box_game.false) h)

pub returns-in-Ok-None-clause-at_once : goal.returns-in-Ok-None-clause-at_once
returns-in-Ok-None-clause-at_once c h =
    absurd (not_both (game_of c.args.game.now)
    (c.is_box_game.ensures.yes c.if-not-is_box_game.false) h)
