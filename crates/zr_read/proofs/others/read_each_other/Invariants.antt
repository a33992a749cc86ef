use Rattle.zr_read.specs.Costs.{add_other, no_others}
use Rattle.zr_read.specs.Seen.{others_of}
use Rattle.serde_json.specs.View.{view}
use Rattle.zr_value.proofs.Walks.{Walked}
use Rattle.zr_read.proofs.others.read_each_other.Given as goal

abbrev pub invariant-loop-i : goal.invariant-loop-i
invariant-loop-i l = record {
  walked : Walked (add_other l.known.players l.known.variables.items l.p l.aim) view no_others l.items l.i (others_of l.all);
}
