use Rattle.std.proofs.Common.{◌<◌, arith, sym, subst, List}
use Rattle.zr_game.specs.Games.{game_of}
use Rattle.zr_game.specs.declared.choice.Choice.{Choice}
use Rattle.zr_system.specs.Regions.{leaf_count, leaves_of}
use Rattle.zr_refute.specs.Walks.{Entered, path_of}
use Rattle.zr_refute.proofs.PathMoves.{first_which}
use Rattle.zr_refute.proofs.check.enter_leaves.Goals as goal

pub returns-else-leaf_count-eq0 : goal.returns-else-leaf_count-eq0
returns-else-leaf_count-eq0 c =
    let game = game_of c.args.game.now in
    let leaves = leaves_of c.args.leaves.now in
    let n = c.leaf_count.ensures.count in
    let f = c.if-leaf_count-eq0.false in
    let some : 0 < leaf_count leaves c.args.i = omega (arith, n, f) in
    subst (λ (paths : List (List Choice)). Entered game leaves paths c.args.path.now
    c.enter.new.path) (sym (first_which leaves (path_of c.args.path.now) c.args.i some))
    (c.enter.ensures game leaves c.requires.path (c.requires.player, some))
