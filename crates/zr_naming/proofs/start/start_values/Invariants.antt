use Rattle.std.proofs.Common.{◌≡◌, ◌++◌, drop, map}
use Rattle.std.specs.List.{All}
use Rattle.zr_base.specs.Steps.{IsNarrow}
use Rattle.zr_game.specs.Players.{var_of}
use Rattle.zr_naming.specs.Starts.{start_value}
use Rattle.zr_naming.proofs.start.start_values.Given as goal

abbrev pub invariant-loop-var : goal.invariant-loop-var
invariant-loop-var l = record {
  values : l.num.items ++ map start_value (map var_of (drop l.var-index l.vars))
      ≡ map start_value (map var_of l.vars);
  narrow : All IsNarrow l.num.items;
}
