use Rattle.std.proofs.Common.{arith, subst, sym}
use Rattle.zr_game.specs.Forms.{IsPlayer}
use Rattle.zr_game.specs.Games.{game_of}
use Rattle.zr_game.specs.Leaves.{LeafOf}
use Rattle.zr_game.specs.Players.{player_of}
use Rattle.zr_game.proofs.Items.{found}
use Rattle.zr_tree.proofs.Combinations.{positive_if}
use Rattle.zr_tree.proofs.PlayerForms.{has_forms, has_places}
use Rattle.zr_boxes.specs.Paths.{box_of}
use Rattle.zr_boxes.specs.Visits.{RowsTell}
use Rattle.zr_boxes.proofs.BoxLists.{box_at, is_leaf_of, leaf_below}
use Rattle.zr_boxes.proofs.Closing.{rows_tell}
use Rattle.zr_boxes.proofs.close.empties.Goals as goal
use Rattle.zr_boxes.proofs.close.empties.Goals.{After-index, After-index-2}

is_player : (c : After-index)
    → IsPlayer (game_of c.args.game.now) c.args.i (player_of c.index.result.now)
is_player c =
    found player_of c.args.game.now.players.items c.args.i c.index.result.now
    (omega (arith, c.if-i-len.false, c.len.ensures, c.args.game.now.players.ok.0)) c.index.ensures

pub refutes-requires-clause-forms : goal.refutes-requires-clause-forms
refutes-requires-clause-forms c =
    let at = goal.at.refutes-requires-clause-forms c in
    has_forms (game_of c.args.game.now) c.args.game.now.sound c.args.i
    (player_of c.index.result.now) (is_player at.After-index)

pub refutes-requires-clause-places : goal.refutes-requires-clause-places
refutes-requires-clause-places c =
    let at = goal.at.refutes-requires-clause-places c in
    has_places (player_of c.index.result.now) c.index-2.result.now
    (is_leaf_of (game_of c.args.game.now) c.args.path.now.leaves.items c.requires.fits c.args.i
    (player_of c.index.result.now) (is_player at.After-index) c.index-2.result.now c.index-2.ensures)

pub refutes-requires-clause-positive : goal.refutes-requires-clause-positive
refutes-requires-clause-positive c = positive_if 0 c.args.mult.now c.requires.mult.0

pub returns : goal.returns
returns c =
    let at = goal.at.returns c in
    let is = is_player at.After-index in
    let game = game_of c.args.game.now in
    let leaves = c.args.path.now.leaves.items in
    let player = player_of c.index.result.now in
    let inside = leaf_below game leaves c.requires.fits c.args.i player is in
    rows_tell game (box_of leaves) c.args.i player is c.args.mult.now c.refutes.result
    (subst (λ (l : LeafOf). RowsTell c.refutes.result player l c.args.mult.now)
    (sym (box_at leaves c.args.i c.index-2.result.now inside c.index-2.ensures)) c.refutes.ensures)
