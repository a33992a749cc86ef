use Rattle.std.proofs.Common.{◌∙◌, bytes_eq}
use Rattle.zr_value.proofs.Borrowed.{position-texts}
use Rattle.zr_value.proofs.names.Names.number_of.Goals as goal

pub returns-in_err-v-clause-value : goal.returns-in_err-v-clause-value
returns-in_err-v-clause-value c = rw (← c.self.view_is) (rw (position-texts (bytes_eq c.args.name.now) c.self.inside.set.keys) (c.from_residual.ensures ∙ c.in_err-v.ensures.index))

pub returns-clause-value : goal.returns-clause-value
returns-clause-value c = rw (← c.self.view_is) (rw (position-texts (bytes_eq c.args.name.now) c.self.inside.set.keys) c.in_ok-v.ensures.index)
