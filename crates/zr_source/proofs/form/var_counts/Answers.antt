use Rattle.std.proofs.Common.{◌<◌, arith, length, ◌∙◌, ap, sym, map}
use Rattle.std.proofs.Math.ListN.{length-set}
use Rattle.zr_game.specs.Counts.{var_count}
use Rattle.zr_source.proofs.FormTests.{base_of, bases_are}
use Rattle.zr_game.proofs.GameForms.{all_counted, more_counted, vars_len}
use Rattle.zr_source.proofs.form.var_counts.Goals as goal

pub loop-i-preserved : goal.loop-i-preserved
loop-i-preserved c =
    let here = c.loop-i-test.true in
    let room : c.loop-i.i < length c.loop-i.counts = omega arith in
    let x = c.index-leaders-i.result in
    let count = c.len.ensures ∙ vars_len x.base in
    record {
      len = length-set c.loop-i.counts c.loop-i.i c.len.result ∙ c.loop-i.invariant.len;
      counted = more_counted base_of c.args.leaders.now c.loop-i.i c.loop-i.counts x c.len.result
          here room c.index-leaders-i.is count c.loop-i.invariant.counted;
    }

pub returns : goal.returns
returns c =
    let all = all_counted base_of c.args.leaders.now c.loop-i.i c.loop-i.counts (omega arith)
    (omega arith) c.loop-i.invariant.counted in
    all ∙ ap (map var_count) (sym (bases_are c.args.leaders.now))
