use Rattle.std.proofs.Common.{rules, ap, ◌∙◌, ℤ, pos, get_or, FitsSigned}
use Rattle.std.specs.Int.{w128}
use Rattle.std.proofs.lemmas.Int.{to_z-of_z}
use Rattle.zr_base.specs.Sums.{sum_step}
use Rattle.zr_base.proofs.SumSteps.{sum_step-zero}
use Rattle.zr_game.specs.Players.{player_of}
use Rattle.zr_game.specs.Leaves.{leaf_of, slots}
use Rattle.zr_tree.proofs.Additions.{nothing_added}
use Rattle.zr_tree.proofs.Combined.{absent_coef, absent_le}
use Rattle.zr_tree.proofs.combination.add_slot.Goals as goal

pub returns-in-None-clause-left : goal.returns-in-None-clause-left
returns-in-None-clause-left c j h =
    let rows = slots (player_of c.args.player.now) (leaf_of c.args.leaf.now) in
    let row = c.in-None.ensures in
    ap (λ (z : ℤ). sum_step (get_or c.args.sums.now j (pos 0)) (c.args.by, z)) (absent_coef rows c.args.slot row.row j) ∙ nothing_added c.args.sums.now c.args.by c.requires.narrow j h

pub returns-in-None-clause-right : goal.returns-in-None-clause-right
returns-in-None-clause-right c =
    let rows = slots (player_of c.args.player.now) (leaf_of c.args.leaf.now) in
    let row = c.in-None.ensures in
    let f : FitsSigned w128 c.args.le = search rules in
    simp to_z-of_z (ap (λ (z : ℤ). sum_step c.args.le (c.args.by, z)) (absent_le rows c.args.slot row.row) ∙ sum_step-zero c.args.le c.args.by c.requires.narrow_le)
