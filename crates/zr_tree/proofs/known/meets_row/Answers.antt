use Rattle.std.proofs.Common.{◌≡◌, rules, refl, sym, ◌∙◌, length, pos, FitsSigned}
use Rattle.std.specs.Int.{w128}
use Rattle.std.proofs.lemmas.Int.{to_z-of_z}
use Rattle.std.proofs.lemmas.Result.{err_from_is_err_and}
use Rattle.zr_base.specs.Steps.{cross_of}
use Rattle.zr_base.specs.Sums.{sum_steps}
use Rattle.zr_base.specs.Points.{num_of}
use Rattle.zr_tree.specs.SlotRows.{left_coef, slot_bound}
use Rattle.zr_tree.specs.CoverSteps.{column_products}
use Rattle.zr_tree.proofs.KnownRows.{holds_steps}
use Rattle.zr_tree.proofs.SignedTerms.{left_sums}
use Rattle.zr_tree.proofs.known.meets_row.Goals as goal
use Rattle.zr_tree.proofs.known.meets_row.Goals.{After-left_at, After-cross}

lefts : (c : After-left_at) → sum_steps (pos 0) (column_products 0 (length c.args.point.now.num) (left_coef c.args.row.now.left) (num_of c.args.point.now)) ≡ c.left_at.result
lefts c =
    sym (left_sums (length c.args.point.now.num) c.args.row.now.left c.args.point.now c.requires) ∙ sym c.left_at.ensures

rights : (c : After-cross) → cross_of (c.args.row.now.le, c.args.point.now.den) (pos 0, pos 0) ≡ c.cross.result
rights c =
    let f : FitsSigned w128 c.args.row.now.le = search rules in
    let g : FitsSigned w128 c.den.result = search rules in
    sym (rw c.den.ensures.value at (simp to_z-of_z at c.cross.ensures))

pub returns-in_err-left : goal.returns-in_err-left
returns-in_err-left c =
    let at = goal.at.returns-in_err-left c in
    let p = err_from_is_err_and c.from_residual.result c.from_residual.ensures.1 in
    rw (p.1, p.2) (sym (holds_steps (length c.args.point.now.num) c.args.point.now (slot_bound c.args.row.now) _ _ (lefts at.After-left_at ∙ c.in_err-left.was) refl))

pub returns-in_err-right : goal.returns-in_err-right
returns-in_err-right c =
    let at = goal.at.returns-in_err-right c in
    let p = err_from_is_err_and c.from_residual-in_err-right.result c.from_residual-in_err-right.ensures.1 in
    rw (p.1, p.2) (sym (holds_steps (length c.args.point.now.num) c.args.point.now (slot_bound c.args.row.now) _ _ (lefts at.After-left_at ∙ c.in_ok-left.was) (rights at.After-cross ∙ c.in_err-right.was)))

pub returns : goal.returns
returns c =
    let at = goal.at.returns c in
    let f : FitsSigned w128 c.in_ok-left.left = search rules in
    let g : FitsSigned w128 c.in_ok-right.right = search rules in
    simp to_z-of_z (sym (holds_steps (length c.args.point.now.num) c.args.point.now (slot_bound c.args.row.now) _ _ (lefts at.After-left_at ∙ c.in_ok-left.was) (rights at.After-cross ∙ c.in_ok-right.was)))
