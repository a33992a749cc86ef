use Rattle.std.proofs.Common.{◌<◌, arith, length}
use Rattle.std.proofs.lemmas.Int.{ints}
use Rattle.std.proofs.lemmas.List.{length-map}
use Rattle.zr_game.specs.Players.{player_of, var_of}
use Rattle.zr_boxes.specs.Paths.{box_of}
use Rattle.zr_box_search.proofs.PathLists.{high_is, low_is}
use Rattle.zr_box_search.proofs.split.is_between.Goals as goal

pub returns-then-at-high : goal.returns-then-at-high
returns-then-at-high c e =
    let n = length-map c.args.player.now.vars.items var_of in
    let below : c.args.split.var < length (player_of c.args.player.now).vars =
    omega (arith, n, c.if-v-len.false, c.len.ensures, c.args.player.now.vars.ok.0) in
    let r = c.requires c.args.split.var below in
    let l = low_is (box_of c.args.leaves.now) c.args.split.player c.args.split.var r in
    let h = high_is (box_of c.args.leaves.now) c.args.split.player c.args.split.var r in
    record {
      var = below;
      low = r.low;
      high = r.high;
      low_is = r.low_is;
      high_is = r.high_is;
      from_low = omega (arith, ints, l, c.low_at-low.ensures, c.if-at-low.false);
      below_high = omega (arith, ints, h, c.high_at-high.ensures, c.if-at-high.true);
    }
