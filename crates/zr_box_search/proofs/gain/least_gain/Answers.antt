use Rattle.std.proofs.Common.{◌∙◌, ◌+ℤ◌, ap, ap₂, sym, add-one, ℤ}
use Rattle.zr_base.specs.Points.{num_of}
use Rattle.zr_game.specs.Players.{player_of}
use Rattle.zr_boxes.specs.Gains.{slope_range}
use Rattle.zr_boxes.specs.Paths.{box_of}
use Rattle.zr_boxes.specs.Ranges.{least_product, range_of, shifted}
use Rattle.zr_box_search.proofs.Single.{gain_plain}
use Rattle.zr_box_search.proofs.gain.least_gain.Goals as goal

pub loop-v-preserved : goal.loop-v-preserved
loop-v-preserved c =
    let player = player_of c.args.player.now in
    let box = box_of c.args.leaves.now in
    let v = c.loop-v.v in
    let one = c.requires.point.whole in
    let g = gain_plain player c.args.i box c.args.point.now v
    ∙ ap (λ (d : ℤ). least_product (shifted d (num_of c.args.point.now v)
    (range_of box c.args.i v)) (slope_range player box v)) one in
    record {
      sum = rw (add-one v) (c.with_var-gain.ensures.value
          ∙ ap₂ ◌+ℤ◌ c.loop-v.invariant.sum (sym g));
      size = c.with_var-gain.ensures.size;
    }
