use Rattle.std.proofs.Common.{◌≡◌, subst}
use Rattle.std.specs.Prelude.{IfErr, IfOk}
use Rattle.zr_game.specs.Players.{PlayerOf, player_of}
use Rattle.zr_game.specs.Forms.{IsPlayer}
use Rattle.zr_game.specs.Games.{game_of}
use Rattle.zr_game.proofs.Items.{found, one, read_below}
use Rattle.zr_bnb.specs.Answers.{IsLeastAnswer}
use Rattle.zr_bnb.specs.Causes.{IsBnbCause, SpendsWork}
use Rattle.zr_bnb.proofs.Sizes.{if_few}
use Rattle.zr_bnb.proofs.minimum.least.Goals as goal
use Rattle.zr_bnb.proofs.minimum.least.Goals.{After-index-player}

module _ (c : After-index-player) where
  pub is_player : IsPlayer (game_of c.args.game.now) c.args.i (player_of c.index-player.result.now)
  is_player =
      found player_of c.args.game.now.players.items c.args.i c.index-player.result.now
      (read_below player_of c.args.game.now.players.items c.args.i c.requires.number) c.index-player.ensures

  pub same : (player : PlayerOf) → IsPlayer (game_of c.args.game.now) c.args.i player
      → player_of c.index-player.result.now ≡ player
  same player is =
      one (game_of c.args.game.now) c.args.i (player_of c.index-player.result.now) player is_player is

pub least_of-requires-clause-some : goal.least_of-requires-clause-some
least_of-requires-clause-some c =
    let at = (goal.at.least_of-requires-clause-some c).After-index-player in (
      game_of c.args.game.now,
      c.args.game.now.sound.players c.args.i (player_of c.index-player.result.now) (is_player at),
    )

pub least_of-requires-clause-aim : goal.least_of-requires-clause-aim
least_of-requires-clause-aim c =
    let at = (goal.at.least_of-requires-clause-aim c).After-index-player in
    c.requires.aim (player_of c.index-player.result.now) (is_player at)

pub returns-clause-answer : goal.returns-clause-answer
returns-clause-answer c player is =
    let at = (goal.at.returns-clause-answer c).After-index-player in
    subst (λ (p : PlayerOf). IfOk c.least_of.result
    (IsLeastAnswer p c.args.aim.now c.args.purse.now c.least_of.new.purse)) (same at player is)
    c.least_of.ensures.answer

pub returns-clause-cause : goal.returns-clause-cause
returns-clause-cause c player is =
    let at = (goal.at.returns-clause-cause c).After-index-player in
    subst (λ (p : PlayerOf). IfErr c.least_of.result
    (IsBnbCause c.args.i p c.args.aim.now c.args.purse.now c.least_of.new.purse)) (same at player is)
    c.least_of.ensures.cause

pub returns-clause-spends : goal.returns-clause-spends
returns-clause-spends c player is =
    let at = (goal.at.returns-clause-spends c).After-index-player in
    subst (λ (p : PlayerOf). SpendsWork p c.args.purse.now c.least_of.new.purse) (same at player is)
    c.least_of.ensures.spends

pub returns-clause-few : goal.returns-clause-few
returns-clause-few c =
    if_few (player_of c.index-player.result.now) c.args.aim.now c.args.purse.now
    c.least_of.new.purse c.least_of.result c.least_of.ensures.answer
