use Rattle.std.proofs.Common.{[]}
use Rattle.serde_json.specs.View.{view}
use Rattle.zr_value.specs.Terms.{add_term}
use Rattle.zr_value.proofs.Walks.{Walked}
use Rattle.zr_value.proofs.terms.read_each_term.Given as goal

abbrev pub invariant-loop-i : goal.invariant-loop-i
invariant-loop-i l = record {
  walked : Walked (add_term l.names) view [] l.items l.i l.all.entries;
}
