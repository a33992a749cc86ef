use Rattle.std.proofs.Common.{◌∙◌, ◌-ℤ◌, ◌*ℤ◌, pos, FitsSigned}
use Rattle.std.specs.Int.{w128}
use Rattle.std.proofs.lemmas.Int.{to_z-of_z}
use Rattle.zr_game.specs.Players.{player_of}
use Rattle.zr_boxes.specs.Gains.{slope_range}
use Rattle.zr_boxes.specs.Paths.{box_of}
use Rattle.zr_boxes.specs.Ranges.{range_of}
use Rattle.zr_box_search.proofs.Bounding.{one_way, products_same}
use Rattle.zr_box_search.proofs.gain.var_gain.Goals as goal

pub returns-clause-value : goal.returns-clause-value
returns-clause-value c =
    let f : FitsSigned w128 c.args.num = c.ranges.num in
    let low = simp to_z-of_z at c.way_ends.ensures.low in
    let high = simp to_z-of_z at c.way_ends.ensures.high in
    let r = range_of (box_of c.args.leaves.now) c.args.i c.args.v in
    let s = slope_range (player_of c.args.player.now) (box_of c.args.leaves.now) c.args.v in
    c.least_of.ensures.value ∙ products_same c.way_ends.result.low c.way_ends.result.high
    c.slope_ends.result.low c.slope_ends.result.high (pos 1 *ℤ r.low -ℤ c.args.num)
    (pos 1 *ℤ r.high -ℤ c.args.num) s.low s.high (low ∙ one_way r.low c.args.num)
    (high ∙ one_way r.high c.args.num) c.slope_ends.ensures.low c.slope_ends.ensures.high
