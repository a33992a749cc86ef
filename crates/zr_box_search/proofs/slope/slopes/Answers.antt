use Rattle.std.proofs.Common.{rules, arith, ◌∷◌, [], length-append, FitsSigned}
use Rattle.std.specs.Int.{w128}
use Rattle.std.proofs.lemmas.Int.{to_z-of_z}
use Rattle.std.proofs.lemmas.List.Elements.{All-push}
use Rattle.zr_base.specs.Steps.{IsNarrow}
use Rattle.zr_game.specs.Players.{player_of}
use Rattle.zr_boxes.specs.Gains.{slope_range}
use Rattle.zr_boxes.specs.Paths.{box_of}
use Rattle.zr_box_search.proofs.Bounding.{narrow_slope, values_more}
use Rattle.zr_box_search.proofs.slope.slopes.Goals as goal

pub loop-v-preserved : goal.loop-v-preserved
loop-v-preserved c =
    let z = c.slope_ends-slope.result.low in
    let f : FitsSigned w128 c.slope_ends-slope.result.low = search rules in
    let e = simp to_z-of_z at c.in-Ok.ensures.items in
    let n = length-append c.loop-v.aim.items (z ∷ []) in
    let l = c.loop-v.invariant.len in
    record {
      len = rw e (omega (arith, n, l));
      values = rw e (values_more c.loop-v.aim.items z
          (λ w. (slope_range (player_of c.args.player.now) (box_of c.args.leaves.now) w).low)
          c.loop-v.v l c.loop-v.invariant.values c.slope_ends-slope.ensures.low);
      narrow = rw e (All-push IsNarrow c.loop-v.aim.items z c.loop-v.invariant.narrow
          (narrow_slope z c.slope_ends-slope.ensures.least));
    }
