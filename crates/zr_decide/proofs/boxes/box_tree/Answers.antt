use Rattle.zr_game.specs.Games.{game_of}
use Rattle.zr_decide.proofs.Rights.{none_if_spent, none_if_wide}
use Rattle.zr_decide.proofs.boxes.box_tree.Goals as goal

pub returns-in-Err-Spent-clause-none : goal.returns-in-Err-Spent-clause-none
returns-in-Err-Spent-clause-none c e =
    none_if_spent (game_of c.args.game.now) c.args.limit c.new-purse.result c.search.new.purse
    c.new-purse.ensures c.in-Err-Spent.field-0 c.in-Err-Spent.field-0-is
    c.in-Err-Spent.ensures.cause

pub returns-in-Err-Wide-clause-none : goal.returns-in-Err-Wide-clause-none
returns-in-Err-Wide-clause-none c e =
    none_if_wide (game_of c.args.game.now) c.args.limit c.new-purse.result c.search.new.purse
    c.in-Err-Wide.field-0-0 c.in-Err-Wide.field-0 c.in-Err-Wide.field-0-is
    c.in-Err-Wide.ensures.cause
