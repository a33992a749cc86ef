use Rattle.std.proofs.Common.{◌≡◌, IfOk, subst}
use Rattle.zr_game.specs.Costs.{rest_at}
use Rattle.zr_game.specs.Forms.{IsPlayer}
use Rattle.zr_game.specs.Games.{game_of}
use Rattle.zr_game.specs.Players.{PlayerOf, player_of}
use Rattle.zr_game.proofs.Items.{found, one, read_below}
use Rattle.zr_mix.specs.Steps.{mean_in, rest_steps}
use Rattle.zr_mix.specs.Values.{IsReduced}
use Rattle.zr_mix.proofs.Places.{means_there, reduced_if, rest_at_means}
use Rattle.zr_mix.proofs.others.rest.Goals as goal
use Rattle.zr_mix.proofs.others.rest.Goals.{After-index}

is_player : (c : After-index)
    → IsPlayer (game_of c.args.game.now) c.args.i (player_of c.index.result.now)
is_player c =
    let players = c.args.game.now.players.items in
    found player_of players c.args.i c.index.result.now
    (read_below player_of players c.args.i c.requires.number) c.index.ensures

pub rest_sum-requires : goal.rest_sum-requires
rest_sum-requires c =
    let game = game_of c.args.game.now in
    let player = player_of c.index.result.now in
    let is = is_player ((goal.at.rest_sum-requires c).After-index) in
    rw c.deref.ensures.value (means_there game c.args.game.now.sound c.args.i player is
    c.args.means.now c.requires.means)

pub returns-clause-steps : goal.returns-clause-steps
returns-clause-steps c player is =
    let game = game_of c.args.game.now in
    let means = c.args.means.now in
    let r = c.rest_sum.result in
    let s = one game c.args.i (player_of c.index.result.now) player
    (is_player ((goal.at.returns-clause-steps c).After-index)) is in
    subst (λ (p : PlayerOf). r ≡ rest_steps game p means) s
    (rw c.deref.ensures.value at c.rest_sum.ensures.steps)

pub returns-clause-at : goal.returns-clause-at
returns-clause-at c player is =
    let game = game_of c.args.game.now in
    let own = player_of c.index.result.now in
    let value = mean_in game c.args.means.now in
    let r = c.rest_sum.result in
    let s = one game c.args.i own player (is_player ((goal.at.returns-clause-at c).After-index)) is
    in
    let exact = rw c.deref.ensures.value at c.rest_sum.ensures.exact in
    let at = reduced_if r (rest_at own value) exact c.rest_sum.ensures.lowest in
    subst (λ (p : PlayerOf). IfOk r (λ f. IsReduced f (rest_at p value))) s at

pub returns-clause-exact : goal.returns-clause-exact
returns-clause-exact c player is profile are =
    let game = game_of c.args.game.now in
    let own = player_of c.index.result.now in
    let means = c.args.means.now in
    let value = mean_in game means in
    let r = c.rest_sum.result in
    let s = one game c.args.i own player (is_player ((goal.at.returns-clause-exact c).After-index))
    is in
    let exact = rw c.deref.ensures.value at c.rest_sum.ensures.exact in
    let at = reduced_if r (rest_at own value) exact c.rest_sum.ensures.lowest in
    let here = subst (λ (p : PlayerOf). IfOk r (λ f. IsReduced f (rest_at p value))) s at in
    rest_at_means game c.args.game.now.sound c.args.i player is profile means are r here
