use Rattle.std.proofs.Common.{◌≡◌, ◌++◌, List, map, subst}
use Rattle.zr_game.specs.declared.named.Named.{Named}
use Rattle.zr_game.specs.Named.{named_of}
use Rattle.zr_form.specs.Lines.{concat}
use Rattle.zr_lines.specs.Spelling.{named_lines}
use Rattle.zr_report.proofs.Growing.{named_grow}
use Rattle.zr_text.proofs.Putting.{all_written, more_written, none_written}
use Rattle.zr_report.proofs.report.put_named_lists.Goals as goal

pub loop-items-init : goal.loop-items-init
loop-items-init c = none_written named_grow c.args.out.now.items c.args.named.now

pub loop-items-preserved : goal.loop-items-preserved
loop-items-preserved c =
    let put = subst (λ (xs : List Named). c.put_named.new.out.items ≡ c.loop-items.out.items ++ concat (named_lines (map named_of xs)))
    c.deref.ensures.value c.in_ok-put_named.ensures in
    more_written named_grow c.args.out.now.items c.args.named.now c.loop-items.items-index c.items-item.result
    c.loop-items.out.items c.put_named.new.out.items c.loop-items-test.true c.items-item.is c.loop-items.invariant put

pub returns : goal.returns
returns c =
    all_written named_grow c.args.out.now.items c.args.named.now c.loop-items.items-index c.loop-items.out.items
    c.loop-items-test.false c.loop-items.invariant
