use Rattle.std.proofs.Common.{arith, ⊎_elim, ◌<◌, ◌≤◌, ◌≡◌, length, subst}
use Rattle.std.proofs.lemmas.Bool.{cases_lt}
use Rattle.std.proofs.lemmas.Int.{ints}
use Rattle.std.proofs.lemmas.List.{length-map}
use Rattle.zr_game.specs.Players.{player_of, var_of}
use Rattle.zr_boxes.specs.Paths.{box_of}
use Rattle.zr_box_search.specs.OpenBoxes.{HasOneValue}
use Rattle.zr_box_search.proofs.PathLists.{high_is, low_is, one_value}
use Rattle.zr_box_search.proofs.split.own_split.Goals as goal

pub returns-then-low-high-clause-some : goal.returns-then-low-high-clause-some
returns-then-low-high-clause-some c =
    let n = length-map c.args.player.now.vars.items var_of in
    let below : c.loop-v.v < length (player_of c.args.player.now).vars =
    omega (arith, n, c.loop-v-test.true, c.len-v-end.ensures, c.args.player.now.vars.ok.0) in
    let r = c.requires.ranged c.loop-v.v below in
    let l = low_is (box_of c.args.leaves.now) c.args.i c.loop-v.v r in
    let h = high_is (box_of c.args.leaves.now) c.args.i c.loop-v.v r in
    record {
      var = below;
      low = r.low;
      high = r.high;
      low_is = r.low_is;
      high_is = r.high_is;
      from_low = omega (arith, ints, l, c.low_at-low.ensures, c.middle.ensures.from_low);
      below_high = omega (arith, ints, h, c.high_at-high.ensures, c.middle.ensures.below_high);
    }

pub loop-v-preserved : goal.loop-v-preserved
loop-v-preserved c w h =
    let n = length-map c.args.player.now.vars.items var_of in
    let below : c.loop-v.v < length (player_of c.args.player.now).vars =
    omega (arith, n, c.loop-v-test.true, c.len-v-end.ensures, c.args.player.now.vars.ok.0) in
    ⊎_elim (λ (l : w < c.loop-v.v). c.loop-v.invariant w l)
    (λ (g : c.loop-v.v ≤ w). let e : c.loop-v.v ≡ w = omega (arith, h, g) in
    subst (HasOneValue (box_of c.args.leaves.now c.args.i)) e
    (one_value (box_of c.args.leaves.now) c.args.i c.loop-v.v (c.requires.ranged c.loop-v.v below)
    (omega (arith, ints, c.if-low-high.false, c.low_at-low.ensures, c.high_at-high.ensures))))
    (cases_lt w c.loop-v.v)
