use Rattle.zr_game.proofs.Items.{item}
use Rattle.zr_game.specs.Named.{named_of}
use Rattle.zr_system.specs.Asked.{IsNamedForm}
use Rattle.zr_naming.proofs.Lists.{contains_read}
use Rattle.zr_naming.proofs.items.is_changed.Goals as goal

pub changes-requires-clause-form : goal.changes-requires-clause-form
changes-requires-clause-form c =
    item named_of (IsNamedForm c.args.vars) c.args.items.now c.loop-item.item-index
    c.item-item.result c.requires.forms c.loop-item-test.true c.item-item.is

pub returns-then-changes : goal.returns-then-changes
returns-then-changes c more = (
  named_of c.item-item.result,
  contains_read named_of c.args.items.now c.loop-item.item-index c.item-item.result
      c.loop-item-test.true c.item-item.is,
  c.changes.ensures c.if-changes.true,
)
