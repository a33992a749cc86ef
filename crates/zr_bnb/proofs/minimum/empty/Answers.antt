use Rattle.std.proofs.Common.{◌∙◌, refl, inl}
use Rattle.zr_game.specs.Players.{player_of}
use Rattle.zr_bnb.proofs.Leasts.{empty_answer}
use Rattle.zr_bnb.proofs.minimum.empty.Goals as goal

pub returns-in-Err-clause-cause : goal.returns-in-Err-clause-cause
returns-in-Err-clause-cause c old new = c.in-Err.ensures.cause c.args.aim.now (inl refl) old new

pub returns-in-Ok-clause-answer : goal.returns-in-Ok-clause-answer
returns-in-Ok-clause-answer c old n e g =
    empty_answer (player_of c.args.player.now) c.args.aim.now old c.prove.new.purse n c.in-Ok.tree
    (c.in-Ok.ensures.purse.branches ∙ e) (c.in-Ok.ensures.tree n g.tree)
