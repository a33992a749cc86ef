use Rattle.std.proofs.Common.{◌≡◌, ◌<◌, rules, arith, sym, ap, ◌∙◌, ℤ, Option, Some, None, length, get_or, FitsSigned}
use Rattle.std.specs.Int.{w64}
use Rattle.std.proofs.lemmas.Int.{to_z-of_z}
use Rattle.std.proofs.lemmas.List.{length-map}
use Rattle.zr_base.proofs.SumSteps.{get_or_default}
use Rattle.zr_game.specs.Players.{player_of, var_of}
use Rattle.zr_game.specs.Leaves.{below, leaf_of, lesser}
use Rattle.zr_tree.specs.Paths.{with_high}
use Rattle.zr_tree.proofs.Listing.{is_below}
use Rattle.zr_tree.proofs.PathLaws.{below_is, set_high}
use Rattle.zr_tree.proofs.leaves.lower_high.Goals as goal

pub returns-then-var-len-clause-leaf : goal.returns-then-var-len-clause-leaf
returns-then-var-len-clause-leaf c =
    let a : FitsSigned w64 c.args.at = search rules in
    let l : FitsSigned w64 c.lesser_of.result = search rules in
    let player = player_of c.args.player.now in
    let leaf = c.args.leaf.now in
    let v = c.args.var in
    let inside : v < length player.vars = omega (arith, c.if-var-len.true, c.len.ensures, c.args.player.now.vars.ok.0, length-map c.args.player.now.vars.items var_of) in
    let place : v < length leaf.high.items = omega (arith, inside, c.requires.highs) in
    let high : c.index-high.result.now ≡ get_or leaf.high.items v None = c.index-high.ensures ∙ get_or_default leaf.high.items v c.index-high.result.now None place in
    let made = simp to_z-of_z at c.lesser_of.ensures in
    simp to_z-of_z (set_high leaf.low.items leaf.high.items leaf.sides.items v (Some c.lesser_of.result) place ∙ ap (λ (z : ℤ). with_high (leaf_of leaf) v (Some z)) (made ∙ ap (λ (o : Option ℤ). lesser o c.args.at) high) ∙ below_is (leaf_of leaf) v c.args.at ∙ sym (is_below v (length player.vars) (below (leaf_of leaf) v c.args.at) (leaf_of leaf) inside))
