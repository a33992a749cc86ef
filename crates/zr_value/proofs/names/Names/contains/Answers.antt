use Rattle.std.proofs.Common.{◌∙◌, sym, bytes_eq}
use Rattle.zr_value.proofs.Borrowed.{list_any-texts}
use Rattle.zr_value.proofs.names.Names.contains.Goals as goal

pub returns : goal.returns
returns c = rw (← c.self.view_is) (c.contains.ensures ∙ sym (list_any-texts (bytes_eq c.args.name.now) c.self.inside.set.keys))
