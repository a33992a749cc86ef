use Rattle.std.proofs.Common.{arith, ◌-◌, ◌^◌}
use Rattle.std.proofs.lemmas.List.{length-map}
use Rattle.zr_game.specs.Named.{named_of}
use Rattle.zr_cert.specs.Certs.{named_list}
use Rattle.zr_cert.specs.Lines.{named_lines}
use Rattle.zr_cert.proofs.Counting.{all_counted, more_counted, none_counted}
use Rattle.zr_cert.proofs.cover.lines_of_named.Goals as goal

pub loop-items-init : goal.loop-items-init
loop-items-init c = none_counted named_list named_lines (2 ^ 64 - 1) c.args.named.now

pub loop-items-preserved : goal.loop-items-preserved
loop-items-preserved c =
    more_counted named_list named_lines (2 ^ 64 - 1) c.args.named.now c.loop-items.items-index c.loop-items.lines c.items-item.result c.loop-items-test.true c.items-item.is c.loop-items.invariant _ (omega (arith, c.items-item.result.ok.0, length-map c.items-item.result.items named_of, c.len.ensures, c.saturating_add-lines.ensures))

pub returns : goal.returns
returns c =
    all_counted named_list named_lines (2 ^ 64 - 1) c.args.named.now c.loop-items.items-index c.loop-items.lines (omega arith) c.loop-items.invariant
