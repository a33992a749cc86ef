use Rattle.std.proofs.Common.{◌≡◌, arith, rules, refl, sym, length, FitsSigned}
use Rattle.std.specs.Int.{w128}
use Rattle.std.proofs.lemmas.Int.{to_z-of_z}
use Rattle.std.proofs.lemmas.List.{length-map}
use Rattle.std.proofs.lemmas.Result.{err_from_is_err_and}
use Rattle.zr_game.specs.Forms.{IsPlayer}
use Rattle.zr_game.specs.Games.{game_of}
use Rattle.zr_game.specs.Players.{player_of, var_of}
use Rattle.zr_game.proofs.Items.{found}
use Rattle.zr_boxes.specs.Gains.{IsBounded}
use Rattle.zr_boxes.specs.Paths.{box_of}
use Rattle.zr_boxes.proofs.Closing.{better_tells, wide_gain, wide_point}
use Rattle.zr_boxes.proofs.close.has_better.Goals as goal
use Rattle.zr_boxes.proofs.close.has_better.Goals.{After-feasible}

is_player : (c : After-feasible)
    → IsPlayer (game_of c.args.game.now) c.args.i (player_of c.index-player.result.now)
is_player c =
    found player_of c.args.game.now.players.items c.args.i c.index-player.result.now
    (omega (arith, c.if-i-len.false, c.len.ensures, c.args.game.now.players.ok.0))
    c.index-player.ensures

same_length : (c : After-feasible)
    → length c.args.point.now.num ≡ length (player_of c.index-player.result.now).vars
same_length c =
    let n = length-map c.index-player.result.now.vars.items var_of in
    omega
    (arith, n, c.if-len.false, c.len-2.ensures, c.len-3.ensures, c.index-player.result.now.vars.ok.0)

bounded : (c : After-feasible)
    → IsBounded (player_of c.index-player.result.now) c.args.i (box_of c.args.path.now.leaves.items)
bounded c = rw c.deref.ensures.value at (c.if-not-is_bounded.ensures.0 refl)

pub returns-in_err-feasible : goal.returns-in_err-feasible
returns-in_err-feasible c =
    let at = (goal.at.returns-in_err-feasible c).After-feasible in
    let p = err_from_is_err_and c.from_residual.result c.from_residual.ensures.1 in
    let player = player_of c.index-player.result.now in
    let tells = c.in_err-feasible.ensures.tells player (is_player at) (same_length at) in
    rw p.1 (wide_point (game_of c.args.game.now) (box_of c.args.path.now.leaves.items)
    c.args.i player (is_player at) c.args.point.now (same_length at) (bounded at) _ tells)

pub returns-in_err-gain : goal.returns-in_err-gain
returns-in_err-gain c =
    let at = (goal.at.returns-in_err-gain c).After-feasible in
    let p = err_from_is_err_and c.from_residual-in_err-gain.result
    c.from_residual-in_err-gain.ensures.1 in
    rw p.1 (wide_gain (game_of c.args.game.now) (box_of c.args.path.now.leaves.items)
    c.args.i (player_of c.index-player.result.now) (is_player at) c.args.point.now (same_length at)
    (bounded at) _ (sym (rw c.deref-2.ensures.value at c.in_err-gain.ensures)))

pub returns : goal.returns
returns c =
    let at = (goal.at.returns c).After-feasible in
    let f : FitsSigned w128 c.in_ok-gain.gain = search rules in
    let player = player_of c.index-player.result.now in
    let tells = c.in_ok-feasible.ensures.tells player (is_player at) (same_length at) in
    better_tells (game_of c.args.game.now) (box_of c.args.path.now.leaves.items) c.args.i player
    (is_player at) c.args.point.now (same_length at) (bounded at) c.in_ok-feasible.feasible
    c.is_above_zero.result c.in_ok-gain.gain tells
    (sym (rw c.deref-2.ensures.value at c.in_ok-gain.ensures))
    (simp to_z-of_z at c.is_above_zero.ensures)
