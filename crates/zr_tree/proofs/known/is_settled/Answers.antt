use Rattle.std.proofs.Common.{arith}
use Rattle.std.proofs.lemmas.List.{length-map}
use Rattle.zr_game.specs.Players.{pair_of, player_of}
use Rattle.zr_game.specs.Leaves.{leaf_of}
use Rattle.zr_game.proofs.LeafLaws.{settled_by}
use Rattle.zr_tree.proofs.known.is_settled.Goals as goal

pub returns : goal.returns
returns c =
    let fixed = rw (c.deref.ensures.value, c.deref-2.ensures.value, c.deref-3.ensures.value) at
    c.are_fixed-fixed.ensures in
    let decided = rw (c.deref-4.ensures.value, c.deref-5.ensures.value) at c.are_decided.ensures in
    let pairs = length-map c.args.player.now.pairs.items pair_of in
    settled_by (player_of c.args.player.now) (leaf_of c.args.leaf.now) c.are_fixed-fixed.result
    c.are_decided.result fixed (
      λ h p below. decided.0 h p (omega (arith, below, pairs)),
      λ h. decided.1 (λ p below. h p (omega (arith, below, pairs))),
    )
