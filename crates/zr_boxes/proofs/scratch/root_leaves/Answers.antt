use Rattle.std.proofs.Common.{◌<◌, arith, length}
use Rattle.std.proofs.lemmas.List.{length-map}
use Rattle.zr_game.specs.Games.{game_of}
use Rattle.zr_game.specs.Players.{player_of}
use Rattle.zr_game.proofs.Items.{at_number}
use Rattle.zr_boxes.proofs.BoxLists.{sizes_more}
use Rattle.zr_boxes.proofs.scratch.root_leaves.Goals as goal

pub loop-i-preserved : goal.loop-i-preserved
loop-i-preserved c =
    let game = game_of c.args.game.now in
    let n = length-map c.args.game.now.players.items player_of in
    let below : c.loop-i.i < length game = omega
    (arith, n, c.loop-i-test.true, c.len-i-end.ensures, c.args.game.now.players.ok.0) in
    let player = at_number game c.loop-i.i below in
    rw c.in-Ok.ensures.items (sizes_more game c.loop-i.leaves.items c.loop-i.i player.0
    c.in_ok-leaf.leaf c.loop-i.invariant player.1 (c.in_ok-leaf.ensures.lengths player.0 player.1))
