use Rattle.zr_game.specs.Games.{game_of}
use Rattle.zr_costs.proofs.Working.{all_work, no_work}
use Rattle.zr_costs.proofs.players.bounds.Goals as goal

pub returns-in-Err-NoMemory-clause-spends : goal.returns-in-Err-NoMemory-clause-spends
returns-in-Err-NoMemory-clause-spends c =
    all_work (game_of c.args.game.now) 0 c.args.purse.now c.args.purse.now
    (no_work (game_of c.args.game.now) c.args.purse.now)

pub returns-in-Err-Wide-clause-spends : goal.returns-in-Err-Wide-clause-spends
returns-in-Err-Wide-clause-spends c =
    all_work (game_of c.args.game.now) 0 c.args.purse.now c.args.purse.now
    (no_work (game_of c.args.game.now) c.args.purse.now)
