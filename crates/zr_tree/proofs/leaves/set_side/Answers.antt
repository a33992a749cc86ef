use Rattle.std.proofs.Common.{◌<◌, arith, sym, ◌∙◌, length}
use Rattle.std.proofs.lemmas.List.{length-map}
use Rattle.zr_game.specs.Players.{pair_of, player_of}
use Rattle.zr_game.specs.Leaves.{decided, leaf_of}
use Rattle.zr_tree.proofs.Listing.{is_below}
use Rattle.zr_tree.proofs.PathLaws.{set_side}
use Rattle.zr_tree.proofs.leaves.set_side.Goals as goal

pub returns-then-pair-len-clause-leaf : goal.returns-then-pair-len-clause-leaf
returns-then-pair-len-clause-leaf c =
    let player = player_of c.args.player.now in
    let leaf = c.args.leaf.now in
    let below : c.args.pair < length player.pairs = omega (arith, c.if-pair-len.true, c.len.ensures, c.args.player.now.pairs.ok.0, length-map c.args.player.now.pairs.items pair_of) in
    set_side leaf.low.items leaf.high.items leaf.sides.items c.args.pair c.args.side (omega (arith, below, c.requires.sides)) ∙ sym (is_below c.args.pair (length player.pairs) (decided (leaf_of leaf) c.args.pair c.args.side) (leaf_of leaf) below)
