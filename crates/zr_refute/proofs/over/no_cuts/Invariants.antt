use Rattle.std.proofs.Common.{◌≡◌, [], map, replicate}
use Rattle.zr_system.specs.Regions.{cut_of}
use Rattle.zr_refute.proofs.over.no_cuts.Given as goal

abbrev pub invariant-loop : goal.invariant-loop
invariant-loop l = map (λ list. map cut_of list.items) l.lists.items ≡ replicate l.counter []
