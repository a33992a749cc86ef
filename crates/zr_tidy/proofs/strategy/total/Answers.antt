use Rattle.std.proofs.Common.{rules, sym, ap, ◌∙◌, ℤ, ◌+ℤ◌, map, take, to_z, FitsSigned}
use Rattle.std.specs.Int.{w128}
use Rattle.std.proofs.lemmas.Int.{to_z-of_z}
use Rattle.std.proofs.lemmas.List.{take-map}
use Rattle.zr_game.specs.Profiles.{total}
use Rattle.zr_game.proofs.Items.{found}
use Rattle.zr_mix.specs.Mixtures.{part_of}
use Rattle.zr_tidy.proofs.Kept.{first_more, of_kept}
use Rattle.zr_tidy.proofs.Tidying.{HasWeight}
use Rattle.zr_tidy.proofs.Totals.{next_narrow, sum_fits, total_push}
use Rattle.zr_tidy.proofs.strategy.total.Goals as goal
use Rattle.zr_tidy.proofs.strategy.total.Goals.{After-part-item}

fits : (c : After-part-item) → FitsSigned w128 c.part-item.result.weight
    → FitsSigned w128 (to_z w128 c.loop-part.sum-bits +ℤ c.part-item.result.weight)
fits c w =
    let xs = c.args.parts.now in
    let i = c.loop-part.part-index in
    let x = c.part-item.result in
    sum_fits (to_z w128 c.loop-part.sum-bits) (total (take i (map part_of xs))) x.weight
    (c.loop-part.invariant ∙ ap total (sym (take-map part_of i xs)))
    (next_narrow (map part_of xs) i (part_of x)
    (found part_of xs i x c.loop-part-test.true c.part-item.is)
    (of_kept HasWeight xs c.requires.weights) c.requires.narrow)

pub overflow_add-sum : goal.overflow_add-sum
overflow_add-sum c =
    let w : FitsSigned w128 c.part-item.result.weight = search rules in
    simp to_z-of_z (fits ((goal.at.overflow_add-sum c).After-part-item) w)

pub loop-part-preserved : goal.loop-part-preserved
loop-part-preserved c =
    let xs = c.args.parts.now in
    let i = c.loop-part.part-index in
    let x = c.part-item.result in
    let w : FitsSigned w128 x.weight = search rules in
    let f = fits ((goal.at.loop-part-preserved c).After-part-item) w in
    simp to_z-of_z
    (ap (λ (s : ℤ). s +ℤ x.weight) c.loop-part.invariant
    ∙ sym (ap total (first_more xs i x c.loop-part-test.true c.part-item.is)
    ∙ total_push (map part_of (take i xs)) (part_of x)))
