use Rattle.std.proofs.Common.{arith, sym, subst, IfErr, IfOk}
use Rattle.std.proofs.lemmas.Result.{IfErr-weaker, IfOk-weaker}
use Rattle.zr_game.specs.Games.{game_of}
use Rattle.zr_tree.proofs.SettledLeaves.{KeepsRoot}
use Rattle.zr_boxes.specs.Boxes.{BoxOf}
use Rattle.zr_box_search.specs.Dues.{AreRanged, box_by, moves_of}
use Rattle.zr_box_search.specs.Fates.{IsBoxFate, IsEndCause, SpendsEndUnits}
use Rattle.zr_box_search.specs.OpenBoxes.{HasPoints}
use Rattle.zr_box_search.proofs.Fating.{cause_after, fate_after, paths_keep, pivots_end, pivots_end_units, spends_after}
use Rattle.zr_box_search.proofs.PathLists.{leaves_box}
use Rattle.zr_box_search.proofs.visit.without_deviation.Goals as goal

pub with_points-requires-clause-points : goal.with_points-requires-clause-points
with_points-requires-clause-points c =
    let same = leaves_box (game_of c.args.game.now) (moves_of c.args.paths.now)
    c.args.leaves.now c.requires.leaves in
    subst (HasPoints (game_of c.args.game.now)) (sym same)
    (rw c.in-Ok-None.field-0-is at c.in-Ok-None.ensures.found)

pub with_points-requires-clause-keeps : goal.with_points-requires-clause-keeps
with_points-requires-clause-keeps c k own is =
    let same = leaves_box (game_of c.args.game.now) (moves_of c.args.paths.now)
    c.args.leaves.now c.requires.leaves in
    subst (λ (b : BoxOf). KeepsRoot own (b k)) (sym same)
    (paths_keep (game_of c.args.game.now) (moves_of c.args.paths.now) k own is)

pub with_points-requires-clause-ranged : goal.with_points-requires-clause-ranged
with_points-requires-clause-ranged c =
    let same = leaves_box (game_of c.args.game.now) (moves_of c.args.paths.now)
    c.args.leaves.now c.requires.leaves in
    subst (AreRanged (game_of c.args.game.now)) (sym same) c.requires.due.ranged

pub with_points-requires-clause-limit : goal.with_points-requires-clause-limit
with_points-requires-clause-limit c =
    let l = c.in-Ok-None.ensures.purse.limit in
    let r = c.requires.limit in
    omega (arith, l, r)

pub returns-in-Err-clause-cause : goal.returns-in-Err-clause-cause
returns-in-Err-clause-cause c = c.in-Err.ensures.cause c.args.purse.now c.empty_node.new.purse

pub returns-in-Err-clause-spends : goal.returns-in-Err-clause-spends
returns-in-Err-clause-spends c =
    pivots_end_units (game_of c.args.game.now)
    (box_by (game_of c.args.game.now) (moves_of c.args.paths.now)) c.args.purse.now
    c.empty_node.new.purse c.in-Err.ensures.purse

pub returns-in-Ok-Some-clause-fate : goal.returns-in-Ok-Some-clause-fate
returns-in-Ok-Some-clause-fate c = (
  rw c.in-Ok-Some.field-0-is at c.in-Ok-Some.ensures.found,
  rw c.in-Ok-Some.field-0-is at c.in-Ok-Some.ensures.form,
  pivots_end (game_of c.args.game.now)
      (box_by (game_of c.args.game.now) (moves_of c.args.paths.now)) c.args.purse.now
      c.empty_node.new.purse c.in-Ok-Some.ensures.purse,
)

pub returns-in-Ok-Some-clause-spends : goal.returns-in-Ok-Some-clause-spends
returns-in-Ok-Some-clause-spends c =
    pivots_end_units (game_of c.args.game.now)
    (box_by (game_of c.args.game.now) (moves_of c.args.paths.now)) c.args.purse.now
    c.empty_node.new.purse c.in-Ok-Some.ensures.purse

pub returns-in-Ok-None-clause-fate : goal.returns-in-Ok-None-clause-fate
returns-in-Ok-None-clause-fate c =
    let game = game_of c.args.game.now in
    let box = box_by game (moves_of c.args.paths.now) in
    let same = leaves_box game (moves_of c.args.paths.now) c.args.leaves.now c.requires.leaves in
    IfOk-weaker c.with_points.result
    (IsBoxFate game box c.empty_node.new.purse c.with_points.new.purse)
    (IsBoxFate game box c.args.purse.now c.with_points.new.purse)
    (fate_after game box c.args.purse.now c.empty_node.new.purse c.with_points.new.purse
    c.in-Ok-None.ensures.purse)
    (subst (λ (b : BoxOf). IfOk c.with_points.result
    (IsBoxFate game b c.empty_node.new.purse c.with_points.new.purse)) same
    c.with_points.ensures.fate)

pub returns-in-Ok-None-clause-cause : goal.returns-in-Ok-None-clause-cause
returns-in-Ok-None-clause-cause c =
    let game = game_of c.args.game.now in
    let box = box_by game (moves_of c.args.paths.now) in
    let same = leaves_box game (moves_of c.args.paths.now) c.args.leaves.now c.requires.leaves in
    IfErr-weaker c.with_points.result
    (IsEndCause game box c.empty_node.new.purse c.with_points.new.purse)
    (IsEndCause game box c.args.purse.now c.with_points.new.purse)
    (cause_after game box c.args.purse.now c.empty_node.new.purse c.with_points.new.purse
    c.in-Ok-None.ensures.purse)
    (subst (λ (b : BoxOf). IfErr c.with_points.result
    (IsEndCause game b c.empty_node.new.purse c.with_points.new.purse)) same
    c.with_points.ensures.cause)

pub returns-in-Ok-None-clause-spends : goal.returns-in-Ok-None-clause-spends
returns-in-Ok-None-clause-spends c =
    let game = game_of c.args.game.now in
    let box = box_by game (moves_of c.args.paths.now) in
    let same = leaves_box game (moves_of c.args.paths.now) c.args.leaves.now c.requires.leaves in
    spends_after game box c.args.purse.now c.empty_node.new.purse c.with_points.new.purse
    c.in-Ok-None.ensures.purse
    (subst (λ (b : BoxOf). SpendsEndUnits game b c.empty_node.new.purse c.with_points.new.purse)
    same c.with_points.ensures.spends)
