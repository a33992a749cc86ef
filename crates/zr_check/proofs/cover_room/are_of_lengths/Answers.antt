use Rattle.std.proofs.Common.{◌≡◌, ◌↔◌, ◌<◌, All, IsTrue, List, arith, ap, length, map, subst}
use Rattle.std.proofs.lemmas.List.{length-map}
use Rattle.zr_game.specs.declared.named.Named.{Named}
use Rattle.zr_game.specs.Forms.{IsPlayer}
use Rattle.zr_game.specs.Games.{game_of}
use Rattle.zr_game.specs.Named.{named_of}
use Rattle.zr_game.specs.Players.{PlayerOf, player_of, var_of}
use Rattle.zr_game.proofs.Checks.{all_checked, each_mapped, more_checked}
use Rattle.zr_game.proofs.Items.{found, one, read_below}
use Rattle.zr_cert.specs.Certs.{named_list}
use Rattle.zr_check.specs.Covers.{IsItemOfLength}
use Rattle.zr_check.proofs.LengthWalks.{FitList, list_told}
use Rattle.zr_check.proofs.cover_room.are_of_lengths.Goals as goal
use Rattle.zr_check.proofs.cover_room.are_of_lengths.Goals.{After-len}

module _ (c : After-len) where
  below : c.loop-i.i < length (game_of c.args.game.now)
  below = omega (arith, c.loop-i-test.true, c.requires)

  count : (player : PlayerOf) → IsPlayer (game_of c.args.game.now) c.loop-i.i player
      → c.len.result ≡ length player.vars
  count player is =
      let players = c.args.game.now.players.items in
      let this = found player_of players c.loop-i.i c.index.result.now
      (read_below player_of players c.loop-i.i below) c.index.ensures in
      let l = length-map c.index.result.now.vars.items var_of in
      let e = ap (λ (p : PlayerOf). length p.vars)
      (one (game_of c.args.game.now) c.loop-i.i (player_of c.index.result.now) player this is)
      in
      omega (arith, l, e, c.len.ensures, c.index.result.now.vars.ok.0)

pub loop-i-preserved : goal.loop-i-preserved
loop-i-preserved c =
    let at = (goal.at.loop-i-preserved c).After-len in
    let game = game_of c.args.game.now in
    let b = c.are_of_length-all.result in
    let told = subst (λ (xs : List Named). IsTrue b
    ↔ All (IsItemOfLength c.len.result) (map named_of xs)) c.deref.ensures.value
    c.are_of_length-all.ensures in
    more_checked (λ i list. FitList game i list) c.args.named.now c.loop-i.i
    c.index-named-i.result c.loop-i-test.true c.index-named-i.is c.loop-i.all
    c.loop-i.invariant b
    (list_told game c.loop-i.i c.index-named-i.result c.len.result b (below at) (count at) told)

pub returns : goal.returns
returns c =
    let game = game_of c.args.game.now in
    each_mapped named_list (λ i items. (player : PlayerOf) → IsPlayer game i player
    → All (IsItemOfLength (length player.vars)) items) c.args.named.now c.loop-i.all
    (all_checked (λ i list. FitList game i list) c.args.named.now c.loop-i.i c.loop-i.all
    (omega arith) (omega arith) c.loop-i.invariant)
