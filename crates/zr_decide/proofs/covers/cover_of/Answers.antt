use Rattle.std.proofs.Common.{subst, All, List, map}
use Rattle.zr_game.specs.Games.{game_of}
use Rattle.zr_tree.specs.Nodes.{node_of}
use Rattle.zr_tree.specs.declared.node.Node.{Node}
use Rattle.zr_cover.specs.Causes.{IsCoverCause}
use Rattle.zr_cover.specs.declared.stop.CoverStop.{CoverStop}
use Rattle.zr_decide.specs.Coverings.{HasPointForm}
use Rattle.zr_decide.proofs.Covering.{exact_is}
use Rattle.zr_decide.proofs.covers.cover_of.Goals as goal

pub returns-in-Ok-clause-cover : goal.returns-in-Ok-clause-cover
returns-in-Ok-clause-cover c player is =
    exact_is (game_of c.args.game.now) c.args.game.now.sound c.args.i player is c.args.purse.now
    c.exact_cover.new.purse c.in-Ok.tree (c.in-Ok.ensures.cover player is) c.in-Ok.tree.whole
    (subst (λ (xs : List Node). All HasPointForm (map node_of xs)) c.deref.ensures.value
    c.read_points.ensures)

pub returns-in-Err-Spent-clause-cause : goal.returns-in-Err-Spent-clause-cause
returns-in-Err-Spent-clause-cause c player is =
    subst (λ (s : CoverStop).
    IsCoverCause c.args.i player c.args.purse.now c.exact_cover.new.purse s)
    c.in-Err-Spent.field-0-is (c.in-Err-Spent.ensures.cause player is)
