use Rattle.std.proofs.Common.{◌<◌, ◌∙◌, arith, length, get_or}
use Rattle.zr_base.proofs.SumSteps.{get_or_default}
use Rattle.zr_game.specs.Forms.{IsPlayer}
use Rattle.zr_game.specs.Games.{game_of}
use Rattle.zr_game.specs.Players.{player_of}
use Rattle.zr_game.proofs.Items.{found, read_below}
use Rattle.zr_boxes.proofs.BoxLists.{is_leaf_of, leaf_count}
use Rattle.zr_boxes.proofs.Starts.{all_started, one_started}
use Rattle.zr_boxes.proofs.path.set_roots.Goals as goal
use Rattle.zr_boxes.proofs.path.set_roots.Goals.{After-index}

is_player : (c : After-index)
    → IsPlayer (game_of c.args.game.now) c.loop-i.i (player_of c.index.result.now)
is_player c =
    let n = leaf_count (game_of c.args.game.now) c.loop-i.leaves
    (c.loop-i.invariant.sizes ∙ c.requires) in
    found player_of c.args.game.now.players.items c.loop-i.i c.index.result.now
    (read_below player_of c.args.game.now.players.items c.loop-i.i
    (omega (arith, n, c.loop-i-test.true, c.loop-i.auto.leaves))) c.index.ensures

pub set_root-requires : goal.set_root-requires
set_root-requires c =
    let at = (goal.at.set_root-requires c).After-index in
    let here : c.loop-i.i < length c.loop-i.leaves =
    omega (arith, c.loop-i-test.true, c.loop-i.auto.leaves) in
    let leaf = get_or c.loop-i.leaves c.loop-i.i c.index-leaves-i.result in
    is_leaf_of (game_of c.args.game.now) c.loop-i.leaves (c.loop-i.invariant.sizes ∙ c.requires)
    c.loop-i.i (player_of c.index.result.now) (is_player at) leaf
    (get_or_default c.loop-i.leaves c.loop-i.i c.index-leaves-i.result leaf here)

pub loop-i-preserved : goal.loop-i-preserved
loop-i-preserved c =
    let at = (goal.at.loop-i-preserved c).After-index in
    let here : c.loop-i.i < length c.loop-i.leaves =
    omega (arith, c.loop-i-test.true, c.loop-i.auto.leaves) in
    let leaf = get_or c.loop-i.leaves c.loop-i.i c.index-leaves-i.result in
    one_started (game_of c.args.game.now) c.args.leaves.now c.loop-i.leaves c.loop-i.i
    c.loop-i.invariant leaf c.set_root.new.leaf (player_of c.index.result.now) here
    (get_or_default c.loop-i.leaves c.loop-i.i c.index-leaves-i.result leaf here)
    (is_player at) c.set_root.ensures.leaf c.set_root.ensures.size

pub returns-clause-root : goal.returns-clause-root
returns-clause-root c =
    all_started (game_of c.args.game.now) c.args.leaves.now c.loop-i.leaves c.loop-i.i
    c.loop-i.invariant (omega (arith, c.loop-i-test.false, c.loop-i.auto.leaves)) c.requires
