use Rattle.std.proofs.Common.{◌≡◌, ◌++◌, filter, map}
use Rattle.zr_value.specs.Terms.{is_term}
use Rattle.zr_read.specs.Costs.{product_of}
use Rattle.zr_read.proofs.others.products_without_zeros.Given as goal

abbrev pub invariant-loop-first : goal.invariant-loop-first
invariant-loop-first l =
    l.kept.items ++ map product_of (filter is_term l.first-iterator)
    ≡ map product_of (filter is_term l.fn.all.entries)
