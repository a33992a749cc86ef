use Rattle.std.proofs.Common.{◌↔◌, sym, ap, subst, ◌∙◌, IsTrue, length, ◌&&◌}
use Rattle.std.proofs.lemmas.List.{length-map}
use Rattle.zr_game.specs.Players.{PlayerOf, player_of, var_of}
use Rattle.zr_game.specs.Forms.{IsPlayer}
use Rattle.zr_game.specs.Games.{game_of}
use Rattle.zr_game.specs.Leaves.{IsLeafOf, IsSettled, leaf_of}
use Rattle.zr_game.proofs.Items.{found, one, read_below}
use Rattle.zr_game.proofs.LeafLaws.{settled_by}
use Rattle.zr_game.proofs.leaf.Leaf.settled.Goals as goal
use Rattle.zr_game.proofs.leaf.Leaf.settled.Goals.{After-index-player}

is_player : (c : After-index-player)
    → IsPlayer (game_of c.args.game.now) c.args.i (player_of c.index-player.result.now)
is_player c = found player_of c.args.game.now.players.items c.args.i c.index-player.result.now
    (read_below player_of c.args.game.now.players.items c.args.i c.requires.number)
    c.index-player.ensures

lengths : (c : After-index-player) → IsLeafOf (player_of c.index-player.result.now) c.args.self.now
lengths c = c.requires.lengths (player_of c.index-player.result.now) (is_player c)

pub are_fixed-requires-clause-lows : goal.are_fixed-requires-clause-lows
are_fixed-requires-clause-lows c =
    let l = lengths ((goal.at.are_fixed-requires-clause-lows c).After-index-player) in
    ap length c.deref-2.ensures.value ∙ l.lows ∙
    length-map c.index-player.result.now.vars.items var_of ∙
    sym (ap length c.deref.ensures.value)

pub are_fixed-requires-clause-highs : goal.are_fixed-requires-clause-highs
are_fixed-requires-clause-highs c =
    let l = lengths ((goal.at.are_fixed-requires-clause-highs c).After-index-player) in
    ap length c.deref-3.ensures.value ∙ l.highs ∙
    length-map c.index-player.result.now.vars.items var_of ∙
    sym (ap length c.deref.ensures.value)

pub returns : goal.returns
returns c player is =
    let before = (goal.at.returns c).After-index-player in
    let s = one (game_of c.args.game.now) c.args.i (player_of c.index-player.result.now) player
    (is_player before) is in
    let fixed = rw (c.deref.ensures.value, c.deref-2.ensures.value, c.deref-3.ensures.value) at
    c.are_fixed.ensures in
    let decided = rw (c.deref-4.ensures.value, (lengths before).sides) at c.are_decided.ensures in
    subst (λ (p : PlayerOf). IsTrue (c.are_fixed.result && c.are_decided.result)
    ↔ IsSettled p (leaf_of c.args.self.now)) s
    (settled_by (player_of c.index-player.result.now) (leaf_of c.args.self.now)
    c.are_fixed.result c.are_decided.result fixed decided)
