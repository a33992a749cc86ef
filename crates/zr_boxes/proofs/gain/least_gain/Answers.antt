use Rattle.std.proofs.Common.{◌<◌, arith, rules, length, sym, to_z, FitsSigned}
use Rattle.std.specs.Int.{w128}
use Rattle.std.proofs.lemmas.Int.{to_z-of_z}
use Rattle.std.proofs.lemmas.List.{length-map}
use Rattle.std.proofs.lemmas.Result.{err_from_is_err_and}
use Rattle.zr_game.specs.Players.{player_of, var_of}
use Rattle.zr_boxes.specs.Paths.{box_of}
use Rattle.zr_boxes.proofs.GainSums.{gain_more, gain_wide}
use Rattle.zr_boxes.proofs.gain.least_gain.Goals as goal
use Rattle.zr_boxes.proofs.gain.least_gain.Goals.{After-with_var}

within : (c : After-with_var) → c.loop-v.v < length (player_of c.args.player.now).vars
within c =
    let vars = c.args.player.now.vars in
    let n = length-map vars.items var_of in
    omega (arith, c.loop-v-test.true, c.len-v-end.ensures, vars.ok.0, n)

pub returns-in_err-gain : goal.returns-in_err-gain
returns-in_err-gain c =
    let p = err_from_is_err_and c.from_residual.result c.from_residual.ensures.1 in
    let player = player_of c.args.player.now in
    rw (p.1, p.2)
    (sym (gain_wide player c.args.i (box_of c.args.leaves.now) c.args.point.now
    (length player.vars) c.loop-v.v (to_z w128 c.loop-v.gain-bits)
    (within ((goal.at.returns-in_err-gain c).After-with_var)) c.loop-v.invariant _
    (sym c.in_err-gain.ensures.steps)))

pub loop-v-preserved : goal.loop-v-preserved
loop-v-preserved c =
    let player = player_of c.args.player.now in
    let f : FitsSigned w128 c.in_ok-gain.gain = search rules in
    simp to_z-of_z (gain_more player c.args.i (box_of c.args.leaves.now) c.args.point.now
    (length player.vars) c.loop-v.v (to_z w128 c.loop-v.gain-bits)
    (within ((goal.at.loop-v-preserved c).After-with_var)) c.loop-v.invariant c.in_ok-gain.gain
    (sym c.in_ok-gain.ensures.steps) c.in_ok-gain.ensures.narrow)
