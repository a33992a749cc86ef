use Rattle.std.proofs.Common.{◌≡◌, IfOk, subst}
use Rattle.zr_base.specs.Fractions.{IsSame}
use Rattle.zr_game.specs.Players.{PlayerOf, player_of}
use Rattle.zr_game.specs.Forms.{IsPlayer}
use Rattle.zr_game.specs.Games.{game_of}
use Rattle.zr_game.specs.Costs.{cost_of}
use Rattle.zr_game.specs.CostSteps.{cost_steps}
use Rattle.zr_game.proofs.CostPoints.{here, others_exist, own_columns_exist, terms_exist}
use Rattle.zr_game.proofs.Items.{found, one, read_below}
use Rattle.zr_game.proofs.costs.cost.Goals as goal
use Rattle.zr_game.proofs.costs.cost.Goals.{After-index-player}

is_player : (c : After-index-player)
    → IsPlayer (game_of c.args.game.now) c.args.i (player_of c.index-player.result.now)
is_player c = found player_of c.args.game.now.players.items c.args.i c.index-player.result.now
    (read_below player_of c.args.game.now.players.items c.args.i c.requires.number)
    c.index-player.ensures

pub player_cost-requires : goal.player_cost-requires
player_cost-requires c =
    let game = game_of c.args.game.now in
    let points = c.args.points.now in
    let player = player_of c.index-player.result.now in
    let form = c.args.game.now.sound in
    let is = is_player c in
    record {
      here = here game form points c.requires.points c.args.i player is;
      own = own_columns_exist game form points c.requires.points c.args.i player is;
      cross = terms_exist game form points c.requires.points c.args.i player is;
      others = others_exist game form points c.requires.points c.args.i player is;
    }

pub returns-clause-exact : goal.returns-clause-exact
returns-clause-exact c player is =
    let game = game_of c.args.game.now in
    let points = c.args.points.now in
    let r = c.player_cost.result in
    let own = is_player ((goal.at.returns-clause-exact c).After-index-player) in
    let s = one game c.args.i (player_of c.index-player.result.now) player own is in
    subst (λ (p : PlayerOf). IfOk r (λ f. IsSame f (cost_of p c.args.i points))) s
    c.player_cost.ensures.exact

pub returns-clause-steps : goal.returns-clause-steps
returns-clause-steps c player is =
    let game = game_of c.args.game.now in
    let points = c.args.points.now in
    let r = c.player_cost.result in
    let own = is_player ((goal.at.returns-clause-steps c).After-index-player) in
    let s = one game c.args.i (player_of c.index-player.result.now) player own is in
    subst (λ (p : PlayerOf). r ≡ cost_steps p c.args.i points) s c.player_cost.ensures.steps
