use Rattle.std.proofs.Common.{[]}
use Rattle.zr_comp.proofs.Stacks.{pending_push}
use Rattle.zr_comp.proofs.path.put_next.Goals as goal

pub returns : goal.returns
returns c = rw c.in_ok-push.ensures.items (pending_push [] c.args.due.now.items c.args.path)
