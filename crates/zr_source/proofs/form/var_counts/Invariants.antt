use Rattle.std.proofs.Common.{◌≡◌, length}
use Rattle.zr_game.proofs.GameForms.{Counted}
use Rattle.zr_source.proofs.FormTests.{base_of}
use Rattle.zr_source.proofs.form.var_counts.Given as goal

abbrev pub invariant-loop-i : goal.invariant-loop-i
invariant-loop-i l = record {
  len : length l.counts ≡ 16;
  counted : Counted base_of l.leaders l.i l.counts;
}
