use Rattle.std.proofs.Common.{refl}
use Rattle.zr_naming.proofs.offer.offered.Goals as goal

pub returns-then-item_is_narrow : goal.returns-then-item_is_narrow
returns-then-item_is_narrow c = (
  refl,
  record {
    right = c.passes.ensures.yes c.if-passes.true;
    drawn = c.requires.drawn;
    form = c.requires.form;
    text_form = c.requires.text_form;
    narrow = c.item_is_narrow.ensures.narrow c.if-item_is_narrow.true;
  },
)
