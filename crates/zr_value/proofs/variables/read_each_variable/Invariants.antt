use Rattle.std.proofs.Common.{◌≡◌, [], map}
use Rattle.serde_json.specs.View.{view}
use Rattle.zr_game.specs.Players.{var_of}
use Rattle.zr_source.specs.Names.{var_name}
use Rattle.zr_value.proofs.Walks.{Walked}
use Rattle.zr_value.specs.Variables.{add_variable}
use Rattle.zr_value.proofs.variables.read_each_variable.Given as goal

abbrev pub invariant-loop-i : goal.invariant-loop-i
invariant-loop-i l = record {
  walked : Walked (add_variable l.format) view [] l.items l.i (map var_of l.list.items);
  names : l.names ≡ map var_name (map var_of l.list.items);
}
