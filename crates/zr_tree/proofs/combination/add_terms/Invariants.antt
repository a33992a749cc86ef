use Rattle.std.proofs.Common.{take}
use Rattle.zr_tree.specs.Combining.{AreAdded}
use Rattle.zr_tree.proofs.Additions.{numbers}
use Rattle.zr_tree.proofs.combination.add_terms.Given as goal

abbrev pub invariant-loop-column : goal.invariant-loop-column
invariant-loop-column l = AreAdded l.initial.sums (numbers l.negated (take l.column-index l.terms)) l.by l.sums
