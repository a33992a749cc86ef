use Rattle.std.proofs.Common.{rules, refl, FitsSigned, ◌∙◌}
use Rattle.std.specs.Int.{w128}
use Rattle.std.proofs.lemmas.Int.{to_z-of_z}
use Rattle.zr_game.specs.Players.{player_of}
use Rattle.zr_game.specs.Leaves.{leaf_of}
use Rattle.zr_tree.proofs.ProofLaws.{refuted_tells}
use Rattle.zr_tree.proofs.end.refutes.Goals as goal

pub returns : goal.returns
returns c =
    let f : FitsSigned w128 c.args.scale = search rules in
    let g : FitsSigned w128 c.in_ok-right.right = search rules in
    let e = c.in_ok-right.ensures in
    let below = simp to_z-of_z at c.is_below_zero.ensures in
    refuted_tells (player_of c.args.player.now) (leaf_of c.args.leaf.now) c.args.scale
    c.args.mult.now (c.if-not-are_present.ensures.0 refl) c.requires.positive c.combine.new.sums
    c.in_ok-right.right e.ok (c.combine.auto.sums ∙ c.requires.columns) c.are_zero-zero.result
    c.is_below_zero.result c.are_zero-zero.ensures below
