use Rattle.zr_game.proofs.Checks.{Checked}
use Rattle.zr_source.proofs.NameTests.{IsNew, leader_text}
use Rattle.zr_source.proofs.names.are_leader_names.Given as goal

abbrev pub invariant-loop-i : goal.invariant-loop-i
invariant-loop-i l = Checked l.i (IsNew leader_text l.leaders) l.leaders l.all
