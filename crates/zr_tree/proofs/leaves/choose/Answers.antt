use Rattle.std.proofs.Common.{ap, ◌∙◌, ◌∷◌, List}
use Rattle.std.proofs.lemmas.Result.{on_ok_weaker}
use Rattle.zr_game.specs.declared.leaf.Leaf.{Leaf}
use Rattle.zr_game.specs.declared.leaf.Side.TheVariants.{RowZero, VarZero}
use Rattle.zr_game.specs.Players.{player_of}
use Rattle.zr_game.specs.Leaves.{LeafOf, leaf_of}
use Rattle.zr_tree.specs.Covers.{side_child}
use Rattle.zr_tree.proofs.Listing.{copied, opened_two}
use Rattle.zr_tree.proofs.leaves.choose.Goals as goal

pub returns : goal.returns
returns c =
    let player = player_of c.args.player.now in
    let s = c.in_ok-second.ensures in
    let same = copied c.in_ok-second.second c.args.leaf s.low s.high s.sides in
    let next = c.in_ok-put_next.ensures in
    on_ok_weaker c.put_next-2.result (λ first. opened_two player (side_child player (leaf_of c.args.leaf) c.args.pair VarZero) (side_child player (leaf_of c.args.leaf) c.args.pair RowZero) c.set_side-2.new.leaf c.set_side.new.leaf c.args.due.now.items c.put_next-2.new.due.items c.set_side-2.ensures.lengths c.set_side.ensures.lengths c.set_side-2.ensures.leaf (c.set_side.ensures.leaf ∙ ap (λ (l : LeafOf). side_child player l c.args.pair RowZero) same) (first ∙ ap (λ (ls : List Leaf). c.set_side-2.new.leaf ∷ ls) next)) c.put_next-2.ensures
