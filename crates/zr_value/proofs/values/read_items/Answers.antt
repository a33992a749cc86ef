use Rattle.std.proofs.Common.{map, ap, sym, Ok, ◌∙◌}
use Rattle.serde_json.specs.View.{view}
use Rattle.serde_json.proofs.Views.{view-Array}
use Rattle.zr_value.specs.Values.{items_in}
use Rattle.zr_value.proofs.Items.{listed_back}
use Rattle.zr_value.proofs.values.read_items.Goals as goal

pub returns-in-Array : goal.returns-in-Array
returns-in-Array c =
    ap (λ v. items_in (view v)) (c.in-Array.is)
    ∙ ap items_in (view-Array c.in-Array.list)
    ∙ ap Ok (listed_back (map view c.in-Array.list.items)
    ∙ ap (λ vs. map view vs) (sym (c.as_slice.ensures.value)))
