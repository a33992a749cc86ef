use Rattle.std.proofs.Common.{◌≡◌, ◌++◌, drop, map}
use Rattle.zr_game.specs.Named.{named_of}
use Rattle.zr_refute.proofs.over.copy_items.Given as goal

abbrev pub invariant-loop-item : goal.invariant-loop-item
invariant-loop-item l = map named_of l.copy.items ++ map named_of (drop l.item-index l.items)
    ≡ map named_of l.items
