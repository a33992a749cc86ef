use Rattle.std.proofs.Common.{◌≡◌, ◌++◌, filter, map}
use Rattle.zr_value.specs.Terms.{is_term}
use Rattle.zr_read.specs.Costs.{single_of}
use Rattle.zr_read.proofs.others.singles_without_zeros.Given as goal

abbrev pub invariant-loop-first : goal.invariant-loop-first
invariant-loop-first l =
    l.kept.items ++ map single_of (filter is_term l.first-iterator)
    ≡ map single_of (filter is_term l.fn.all.entries)
