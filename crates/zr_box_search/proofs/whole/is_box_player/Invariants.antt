use Rattle.std.proofs.Common.{◌≡◌, ℕ, ◌<◌, Some, map, slice_get}
use Rattle.zr_game.specs.Players.{VarOf, var_of}
use Rattle.zr_box_search.specs.Whole.{IsBoxVar}
use Rattle.zr_box_search.proofs.whole.is_box_player.Given as goal

abbrev pub invariant-loop-var : goal.invariant-loop-var
invariant-loop-var l =
    (v : ℕ) (var : VarOf) → v < l.var-index
    → slice_get (map var_of l.player.vars.items) v ≡ Some var → IsBoxVar var
