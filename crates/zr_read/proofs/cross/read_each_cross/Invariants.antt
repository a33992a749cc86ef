use Rattle.std.proofs.Common.{[]}
use Rattle.serde_json.specs.View.{view}
use Rattle.zr_value.proofs.Walks.{Walked}
use Rattle.zr_read.specs.Costs.{add_cross}
use Rattle.zr_read.proofs.cross.read_each_cross.Given as goal

abbrev pub invariant-loop-i : goal.invariant-loop-i
invariant-loop-i l = record {
  walked : Walked (add_cross l.known.players l.known.variables.items l.p l.aim) view [] l.items l.i l.all.entries;
}
