use Rattle.std.proofs.Common.{◌<◌, rules, arith, ap, ◌∙◌, length, FitsSigned}
use Rattle.std.specs.Int.{w64}
use Rattle.std.proofs.lemmas.Int.{to_z-of_z}
use Rattle.zr_game.specs.Leaves.{LeafOf, above}
use Rattle.zr_game.specs.Players.{player_of}
use Rattle.zr_tree.proofs.Listing.{is_below}
use Rattle.zr_tree.proofs.PathLaws.{set_high}
use Rattle.zr_boxes.proofs.path.to_second.Goals as goal

pub returns-clause-leaf : goal.returns-clause-leaf
returns-clause-leaf c =
    let a : FitsSigned w64 c.args.at = search rules in
    let leaf = c.args.leaf.now in
    let v = c.args.var in
    let player = player_of c.args.player.now in
    let place : v < length leaf.high.items = omega (arith, c.requires.var, c.requires.leaf.highs) in
    let high = set_high leaf.low.items leaf.high.items leaf.sides.items v c.args.high place in
    let raised = simp to_z-of_z at c.raise_low.ensures.leaf in
    raised ∙ is_below v (length player.vars) _ _ c.requires.var ∙
    ap (λ (l : LeafOf). above l v c.args.at) high
