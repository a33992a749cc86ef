use Rattle.std.proofs.Common.{arith, subst}
use Rattle.zr_game.specs.Games.{game_of}
use Rattle.zr_game.specs.Players.{PlayerOf, player_of}
use Rattle.zr_game.specs.Leaves.{IsWholeVar}
use Rattle.zr_game.proofs.Items.{found, one}
use Rattle.zr_tree.proofs.Lookups.{whole_here}
use Rattle.zr_boxes.proofs.check.has_whole_var.Goals as goal

pub returns : goal.returns
returns c =
    let player = c.index-player.result.now in
    let is = found player_of c.args.game.now.players.items c.args.i player (omega arith)
    c.index-player.ensures in
    let told = whole_here player.vars.items c.args.var c.index.result.now (omega arith)
    c.index.ensures in (
      λ h. (player_of player, is, told.0 h),
      λ p. told.1 (subst (λ (q : PlayerOf). IsWholeVar q c.args.var)
          (one (game_of c.args.game.now) c.args.i p.0 (player_of player) p.1 is) p.2),
    )
