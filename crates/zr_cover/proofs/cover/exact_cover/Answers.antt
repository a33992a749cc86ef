use Rattle.std.proofs.Common.{◌≡◌, arith, subst}
use Rattle.std.specs.Prelude.{IfErr, IfOk}
use Rattle.zr_game.specs.Players.{PlayerOf, player_of}
use Rattle.zr_game.specs.Forms.{IsPlayer}
use Rattle.zr_game.specs.Games.{game_of}
use Rattle.zr_game.proofs.Items.{found, one, read_below}
use Rattle.zr_bnb.specs.Causes.{SpendsWork}
use Rattle.zr_sizes.proofs.FewUnits.{few_units}
use Rattle.zr_cover.specs.Causes.{IsCoverCause}
use Rattle.zr_cover.specs.Covers.{IsExactCoverOf}
use Rattle.zr_cover.proofs.cover.exact_cover.Goals as goal
use Rattle.zr_cover.proofs.cover.exact_cover.Goals.{After-index-player}

module _ (c : After-index-player) where
  pub is_player : IsPlayer (game_of c.args.game.now) c.args.i (player_of c.index-player.result.now)
  is_player =
      found player_of c.args.game.now.players.items c.args.i c.index-player.result.now
      (read_below player_of c.args.game.now.players.items c.args.i c.requires.number)
      c.index-player.ensures

  pub same : (player : PlayerOf) → IsPlayer (game_of c.args.game.now) c.args.i player
      → player_of c.index-player.result.now ≡ player
  same player is =
      one (game_of c.args.game.now) c.args.i (player_of c.index-player.result.now) player
      is_player is

pub cover_of-requires-clause-some : goal.cover_of-requires-clause-some
cover_of-requires-clause-some c =
    let at = (goal.at.cover_of-requires-clause-some c).After-index-player in (
      game_of c.args.game.now,
      c.args.game.now.sound.players c.args.i (player_of c.index-player.result.now) (is_player at),
    )

pub returns-clause-cover : goal.returns-clause-cover
returns-clause-cover c player is =
    let at = (goal.at.returns-clause-cover c).After-index-player in
    subst (λ (p : PlayerOf). IfOk c.cover_of.result
    (IsExactCoverOf p c.args.purse.now c.cover_of.new.purse)) (same at player is)
    c.cover_of.ensures.cover

pub returns-clause-cause : goal.returns-clause-cause
returns-clause-cause c player is =
    let at = (goal.at.returns-clause-cause c).After-index-player in
    subst (λ (p : PlayerOf). IfErr c.cover_of.result
    (IsCoverCause c.args.i p c.args.purse.now c.cover_of.new.purse)) (same at player is)
    c.cover_of.ensures.cause

pub returns-clause-spends : goal.returns-clause-spends
returns-clause-spends c player is =
    let at = (goal.at.returns-clause-spends c).After-index-player in
    subst (λ (p : PlayerOf). SpendsWork p c.args.purse.now c.cover_of.new.purse)
    (same at player is) c.cover_of.ensures.spends

pub returns-clause-small : goal.returns-clause-small
returns-clause-small c player is bounded =
    let at = (goal.at.returns-clause-small c).After-index-player in
    let s = subst (λ (p : PlayerOf). SpendsWork p c.args.purse.now c.cover_of.new.purse)
    (same at player is) c.cover_of.ensures.spends in
    let u = s.units_are in
    let n = few_units (game_of c.args.game.now) c.args.i player
    (c.args.game.now.sound.players c.args.i player is) bounded s.work.tree s.work.open_is in
    omega (arith, u, n)
