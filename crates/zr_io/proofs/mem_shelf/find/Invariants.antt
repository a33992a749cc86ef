use Rattle.std.proofs.Common.{◌≡◌, drop}
use Rattle.zr_io.specs.Contents.{look_up, pairs_of}
use Rattle.zr_io.proofs.mem_shelf.find.Given as goal

abbrev pub invariant-loop-key : goal.invariant-loop-key
invariant-loop-key l = look_up (pairs_of l.items.items) l.name ≡ look_up (pairs_of (drop l.key-index l.items.items)) l.name
