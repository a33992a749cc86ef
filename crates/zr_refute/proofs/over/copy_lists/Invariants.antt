use Rattle.std.proofs.Common.{◌≡◌, ◌++◌, drop, map}
use Rattle.zr_game.specs.Named.{named_of}
use Rattle.zr_refute.proofs.over.copy_lists.Given as goal

abbrev pub invariant-loop-items : goal.invariant-loop-items
invariant-loop-items l = map (λ list. map named_of list.items) l.copy.items
    ++ map (λ list. map named_of list.items) (drop l.items-index l.lists)
    ≡ map (λ list. map named_of list.items) l.lists
