use Rattle.std.proofs.Common.{rules, refl, sym, FitsSigned}
use Rattle.std.specs.Int.{w128}
use Rattle.std.proofs.lemmas.Int.{to_z-of_z}
use Rattle.zr_game.specs.Leaves.{leaf_of}
use Rattle.zr_game.specs.Players.{player_of}
use Rattle.zr_boxes.proofs.Refuting.{made_tells}
use Rattle.zr_boxes.proofs.refute.refutes.Goals as goal

pub returns : goal.returns
returns c =
    let f : FitsSigned w128 c.in_ok-right.right = search rules in
    made_tells (player_of c.args.player.now) (leaf_of c.args.leaf.now) c.args.mult.now
    (c.if-not-are_present.ensures.0 refl) c.requires.positive c.in_ok-zero.zero
    c.is_below_zero.result c.in_ok-right.right c.in_ok-zero.ensures (sym c.in_ok-right.ensures)
    (simp to_z-of_z at c.is_below_zero.ensures)
