use Rattle.std.proofs.Common.{[]}
use Rattle.zr_tree.proofs.Listing.{upcoming_push}
use Rattle.zr_tree.proofs.leaves.put_next.Goals as goal

pub returns : goal.returns
returns c = rw c.in_ok-push.ensures.items (upcoming_push [] c.args.due.now.items c.args.leaf)
