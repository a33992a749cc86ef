use Rattle.std.proofs.Common.{[]}
use Rattle.zr_box_search.proofs.PathLists.{due_push}
use Rattle.zr_box_search.proofs.boxes.put_next.Goals as goal

pub returns : goal.returns
returns c = rw c.in_ok-push.ensures.items (due_push [] c.args.due.now.items c.args.paths)
