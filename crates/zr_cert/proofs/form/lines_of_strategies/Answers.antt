use Rattle.std.proofs.Common.{arith, ◌-◌, ◌^◌}
use Rattle.std.proofs.lemmas.List.{length-map}
use Rattle.zr_mix.specs.Mixtures.{part_of}
use Rattle.zr_cert.specs.Certs.{mixture_of}
use Rattle.zr_cert.specs.Lines.{mixture_lines}
use Rattle.zr_cert.proofs.Counting.{all_counted, more_counted, none_counted}
use Rattle.zr_cert.proofs.form.lines_of_strategies.Goals as goal

pub loop-strategy-init : goal.loop-strategy-init
loop-strategy-init c = none_counted mixture_of mixture_lines (2 ^ 64 - 1) c.args.strategies.now

pub loop-strategy-preserved : goal.loop-strategy-preserved
loop-strategy-preserved c =
    more_counted mixture_of mixture_lines (2 ^ 64 - 1) c.args.strategies.now c.loop-strategy.strategy-index c.loop-strategy.lines c.strategy-item.result c.loop-strategy-test.true c.strategy-item.is c.loop-strategy.invariant _ (omega (arith, c.strategy-item.result.parts.ok.0, length-map c.strategy-item.result.parts.items part_of, c.len.ensures, c.saturating_add-lines.ensures))

pub returns : goal.returns
returns c =
    all_counted mixture_of mixture_lines (2 ^ 64 - 1) c.args.strategies.now c.loop-strategy.strategy-index c.loop-strategy.lines (omega arith) c.loop-strategy.invariant
