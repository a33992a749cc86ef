use Rattle.std.proofs.Common.{◌≤◌, length}
use Rattle.zr_game.specs.Games.{game_of}
use Rattle.zr_cert.specs.Certs.{mixtures_of, profile_with}
use Rattle.zr_best.proofs.Working.{AnswersSoFar}
use Rattle.zr_best.proofs.players.answers_at.Given as goal

abbrev pub invariant-loop-i : goal.invariant-loop-i
invariant-loop-i l = record {
  so_far : AnswersSoFar (game_of l.game) (profile_with (mixtures_of l.profile)) l.i l.answers.items l.fn.purse l.purse;
  within : l.i ≤ length (game_of l.game);
}
