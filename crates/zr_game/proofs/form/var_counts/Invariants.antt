use Rattle.std.proofs.Common.{◌≡◌, length}
use Rattle.zr_game.specs.Players.{player_of}
use Rattle.zr_game.proofs.GameForms.{Counted}
use Rattle.zr_game.proofs.form.var_counts.Given as goal

abbrev pub invariant-loop-i : goal.invariant-loop-i
invariant-loop-i l = record {
  len : length l.counts ≡ 16;
  counted : Counted player_of l.players l.i l.counts;
}
