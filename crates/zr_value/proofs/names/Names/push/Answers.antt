use Rattle.zr_value.proofs.Borrowed.{texts_push}
use Rattle.zr_value.proofs.names.Names.push.Goals as goal

pub returns : goal.returns
returns c = rw (← c.self.view_is) (texts_push c.self.inside.set.keys c.insert.new.self.keys c.args.name c.in_ok-insert.ensures.keys (rw (← c.self.view_is) at c.requires))
