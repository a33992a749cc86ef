use Rattle.std.proofs.Common.{◌<◌, arith, length, ◌∙◌}
use Rattle.std.proofs.Math.ListN.{length-set}
use Rattle.zr_game.specs.Players.{player_of}
use Rattle.zr_game.proofs.GameForms.{all_counted, more_counted, vars_len}
use Rattle.zr_game.proofs.form.var_counts.Goals as goal

pub loop-i-preserved : goal.loop-i-preserved
loop-i-preserved c =
    let here = c.loop-i-test.true in
    let room : c.loop-i.i < length c.loop-i.counts = omega arith in
    let x = c.index-players-i.result in
    let count = c.len.ensures ∙ vars_len x in
    record {
      len = length-set c.loop-i.counts c.loop-i.i c.len.result ∙ c.loop-i.invariant.len;
      counted = more_counted player_of c.args.players.now c.loop-i.i c.loop-i.counts x c.len.result
          here room c.index-players-i.is count c.loop-i.invariant.counted;
    }

pub returns : goal.returns
returns c = all_counted player_of c.args.players.now c.loop-i.i c.loop-i.counts (omega arith)
    (omega arith) c.loop-i.invariant.counted
