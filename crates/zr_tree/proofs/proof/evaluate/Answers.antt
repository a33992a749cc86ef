use Rattle.std.proofs.Common.{rules, FitsSigned, ◌∙◌, refl}
use Rattle.std.specs.Int.{w128}
use Rattle.std.proofs.lemmas.Int.{to_z-of_z}
use Rattle.std.proofs.lemmas.Result.{err_from_is_err_and}
use Rattle.zr_game.specs.Players.{player_of}
use Rattle.zr_game.specs.Leaves.{leaf_of}
use Rattle.zr_tree.proofs.ProofLaws.{left_tells, proof_tells, right_tells}
use Rattle.zr_tree.proofs.proof.evaluate.Goals as goal

pub returns-in_err-left : goal.returns-in_err-left
returns-in_err-left c =
    let p = err_from_is_err_and c.from_residual-in_err-left.result c.from_residual-in_err-left.ensures.1 in
    let f : FitsSigned w128 c.args.scale = search rules in
    let e = c.in_err-left.ensures in
    rw p.1 (left_tells (player_of c.args.player.now) c.args.coef.now c.args.le (leaf_of c.args.leaf.now) c.args.scale c.args.mult.now (c.if-not-are_present.ensures.0 refl) c.requires.coef _ (simp to_z-of_z at e))

pub returns-in_err-below : goal.returns-in_err-below
returns-in_err-below c =
    let p = err_from_is_err_and c.from_residual-in_err-below.result c.from_residual-in_err-below.ensures.1 in
    let f : FitsSigned w128 c.args.scale = search rules in
    let g : FitsSigned w128 c.args.le = search rules in
    let e = c.in_err-below.ensures in
    rw p.1 (right_tells (player_of c.args.player.now) c.args.coef.now c.args.le (leaf_of c.args.leaf.now) c.args.scale c.args.mult.now (c.if-not-are_present.ensures.0 refl) c.requires.coef _ (simp to_z-of_z at e))

pub returns : goal.returns
returns c =
    let f : FitsSigned w128 c.args.scale = search rules in
    let g : FitsSigned w128 c.args.le = search rules in
    let r : FitsSigned w128 c.in_ok-right.right = search rules in
    let e = c.in_ok-right.ensures in
    let l = c.in_ok-left.ensures in
    let b = c.in_ok-below.ensures in
    proof_tells (player_of c.args.player.now) c.args.coef.now c.args.le (leaf_of c.args.leaf.now) c.args.scale c.args.mult.now (c.if-not-are_present.ensures.0 refl) c.requires.coef c.combine.new.sums c.in_ok-right.right e.ok (c.combine.auto.sums ∙ c.requires.columns) c.requires.positive c.in_ok-left.left c.in_ok-below.below (simp to_z-of_z at l) (simp to_z-of_z at b)
