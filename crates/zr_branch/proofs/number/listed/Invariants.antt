use Rattle.std.proofs.Common.{◌≡◌, ◌++◌, drop}
use Rattle.zr_branch.specs.Columns.{listed_from}
use Rattle.zr_branch.proofs.number.listed.Given as goal

abbrev pub invariant-loop-c : goal.invariant-loop-c
invariant-loop-c l = l.terms.items ++ listed_from l.c (drop l.c l.list) ≡ listed_from 0 l.list
