use Rattle.std.proofs.Common.{[], map}
use Rattle.serde_json.specs.View.{view}
use Rattle.zr_game.specs.Players.{pair_of, var_of}
use Rattle.zr_value.proofs.Walks.{Walked}
use Rattle.zr_read.specs.Rows.{add_pair}
use Rattle.zr_read.proofs.pairs.read_each_pair.Given as goal

abbrev pub invariant-loop-i : goal.invariant-loop-i
invariant-loop-i l = record {
  walked : Walked (add_pair l.names (map var_of l.vars)) view [] l.items l.i (map pair_of l.list.items);
}
