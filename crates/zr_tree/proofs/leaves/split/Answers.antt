use Rattle.std.proofs.Common.{rules, ap, ◌∙◌, ◌∷◌, List, FitsSigned}
use Rattle.std.specs.Int.{w64}
use Rattle.std.proofs.lemmas.Int.{to_z-of_z}
use Rattle.std.proofs.lemmas.Result.{on_ok_weaker}
use Rattle.zr_game.specs.declared.leaf.Leaf.{Leaf}
use Rattle.zr_game.specs.Players.{player_of}
use Rattle.zr_game.specs.Leaves.{LeafOf, leaf_of}
use Rattle.zr_tree.specs.Covers.{high_child, low_child}
use Rattle.zr_tree.proofs.Listing.{copied, opened_two}
use Rattle.zr_tree.proofs.leaves.split.Goals as goal

pub returns : goal.returns
returns c =
    let a : FitsSigned w64 c.args.at = search rules in
    let player = player_of c.args.player.now in
    let s = c.in_ok-second.ensures in
    let same = copied c.in_ok-second.second c.args.leaf s.low s.high s.sides in
    let low = simp to_z-of_z at c.lower_high.ensures.leaf in
    let high = simp to_z-of_z at c.raise_low.ensures.leaf in
    let next = c.in_ok-put_next.ensures in
    on_ok_weaker c.put_next-2.result (λ first. opened_two player (low_child player (leaf_of c.args.leaf) c.args.var c.args.at) (high_child player (leaf_of c.args.leaf) c.args.var c.args.at) c.lower_high.new.leaf c.raise_low.new.leaf c.args.due.now.items c.put_next-2.new.due.items c.lower_high.ensures.lengths c.raise_low.ensures.lengths low (high ∙ ap (λ (l : LeafOf). high_child player l c.args.var c.args.at) same) (first ∙ ap (λ (ls : List Leaf). c.lower_high.new.leaf ∷ ls) next)) c.put_next-2.ensures
