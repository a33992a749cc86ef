use Rattle.std.proofs.Common.{arith}
use Rattle.zr_game.specs.Games.{game_of}
use Rattle.zr_system.specs.Regions.{leaves_of}
use Rattle.zr_comp.proofs.Few.{few_columns}
use Rattle.zr_comp.proofs.Trying.{all_causes_later, all_found_later, spends_later, spends_tried}
use Rattle.zr_comp.proofs.searching.search.Goals as goal

pub tried-requires-clause-columns : goal.tried-requires-clause-columns
tried-requires-clause-columns c =
    let e = few_columns (game_of c.args.game.now) (leaves_of c.args.leaves.now) 16777216
    c.requires.cells in
    omega (arith, e)

pub search_cases-requires-clause-limit : goal.search_cases-requires-clause-limit
search_cases-requires-clause-limit c =
    let l = c.in-Ok-None.ensures.purse.limit in
    let r = c.requires.limit in
    omega (arith, l, r)

pub returns-in-Err-clause-cause : goal.returns-in-Err-clause-cause
returns-in-Err-clause-cause c = c.in-Err.ensures.cause c.args.purse.now c.tried.new.purse

pub returns-in-Err-clause-spends : goal.returns-in-Err-clause-spends
returns-in-Err-clause-spends c =
    spends_tried (game_of c.args.game.now) (leaves_of c.args.leaves.now) c.args.kind
    c.args.purse.now c.tried.new.purse c.in-Err.ensures.purse

pub returns-in-Ok-Some-clause-spends : goal.returns-in-Ok-Some-clause-spends
returns-in-Ok-Some-clause-spends c =
    spends_tried (game_of c.args.game.now) (leaves_of c.args.leaves.now) c.args.kind
    c.args.purse.now c.tried.new.purse c.in-Ok-Some.ensures.purse

pub returns-in-Ok-None-clause-found : goal.returns-in-Ok-None-clause-found
returns-in-Ok-None-clause-found c =
    all_found_later (game_of c.args.game.now) (leaves_of c.args.leaves.now) c.args.kind
    c.args.purse.now c.tried.new.purse c.in-Ok-None.ensures.purse c.search_cases.new.purse
    c.search_cases.result c.search_cases.ensures.found

pub returns-in-Ok-None-clause-cause : goal.returns-in-Ok-None-clause-cause
returns-in-Ok-None-clause-cause c =
    all_causes_later (game_of c.args.game.now) (leaves_of c.args.leaves.now) c.args.kind
    c.args.purse.now c.tried.new.purse c.in-Ok-None.ensures.purse c.search_cases.new.purse
    c.search_cases.result c.search_cases.ensures.cause

pub returns-in-Ok-None-clause-spends : goal.returns-in-Ok-None-clause-spends
returns-in-Ok-None-clause-spends c =
    spends_later (game_of c.args.game.now) (leaves_of c.args.leaves.now) c.args.kind
    c.args.purse.now c.tried.new.purse c.in-Ok-None.ensures.purse c.search_cases.new.purse
    c.search_cases.ensures.spends
