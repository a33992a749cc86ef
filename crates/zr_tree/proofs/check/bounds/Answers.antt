use Rattle.std.proofs.Common.{◌≡◌, rules, arith, sym, ap, subst, ◌∙◌, length, map, FitsSigned}
use Rattle.std.specs.Int.{w128}
use Rattle.std.proofs.lemmas.Int.{to_z-of_z}
use Rattle.std.proofs.lemmas.Result.{MatchResult-weaker, on_ok_weaker}
use Rattle.zr_game.specs.Players.{PlayerOf, player_of}
use Rattle.zr_game.specs.Forms.{IsPlayer}
use Rattle.zr_game.specs.Games.{game_of}
use Rattle.zr_game.specs.Leaves.{bound_with, root_leaf}
use Rattle.zr_game.proofs.Items.{found, one, read_below}
use Rattle.zr_tree.specs.Nodes.{node_of}
use Rattle.zr_tree.specs.Scratches.{Places}
use Rattle.zr_tree.specs.Right.{ProvesRow}
use Rattle.zr_tree.specs.Steps.{IsRefusedAt, IsWideForRow, Passes}
use Rattle.zr_tree.proofs.Descent.{holds_at_root}
use Rattle.zr_tree.proofs.Forests.{tree_of}
use Rattle.zr_tree.proofs.Greatest.{at_most_greatest}
use Rattle.zr_tree.proofs.PlayerForms.{has_forms}
use Rattle.zr_tree.proofs.PassLaws.{exact_told, right_if}
use Rattle.zr_tree.proofs.check.bounds.Goals as goal
use Rattle.zr_tree.proofs.check.bounds.Goals.{After-index-player}

is_player : (c : After-index-player) → IsPlayer (game_of c.args.game.now) c.args.i (player_of c.index-player.result.now)
is_player c = found player_of c.args.game.now.players.items c.args.i c.index-player.result.now (read_below player_of c.args.game.now.players.items c.args.i c.requires.number) c.index-player.ensures

same : (c : After-index-player) (player : PlayerOf) → IsPlayer (game_of c.args.game.now) c.args.i player → player_of c.index-player.result.now ≡ player
same c player is = one (game_of c.args.game.now) c.args.i (player_of c.index-player.result.now) player (is_player c) is

pub walk-requires-clause-forms : goal.walk-requires-clause-forms
walk-requires-clause-forms c =
    let at = (goal.at.walk-requires-clause-forms c).After-index-player in
    has_forms (game_of c.args.game.now) c.args.game.now.sound c.args.i (player_of c.index-player.result.now) (is_player at)

pub walk-requires-clause-places : goal.walk-requires-clause-places
walk-requires-clause-places c =
    let at = (goal.at.walk-requires-clause-places c).After-index-player in
    let v = ap (λ (p : Places). p.vars) c.scratch.view_is in
    let p = ap (λ (p : Places). p.pairs) c.scratch.view_is in
    let vars = at_most_greatest (λ player. length player.vars) (game_of c.args.game.now) c.args.i (player_of c.index-player.result.now) (is_player at) in
    let pairs = at_most_greatest (λ player. length player.pairs) (game_of c.args.game.now) c.args.i (player_of c.index-player.result.now) (is_player at) in
    let h = c.scratch.invariant.highs in
    record { lows = omega (arith, v, vars, c.requires.vars); highs = omega (arith, v, vars, h, c.requires.vars); sides = omega (arith, p, pairs, c.requires.pairs) }

pub walk-requires-clause-task : goal.walk-requires-clause-task
walk-requires-clause-task c =
    let at = (goal.at.walk-requires-clause-task c).After-index-player in
    c.requires.coef (player_of c.index-player.result.now) (is_player at)

pub walk-requires-clause-columns : goal.walk-requires-clause-columns
walk-requires-clause-columns c =
    let at = (goal.at.walk-requires-clause-columns c).After-index-player in
    let v = ap (λ (p : Places). p.columns) c.scratch.view_is in
    let n = c.requires.columns (player_of c.index-player.result.now) (is_player at) in
    omega (arith, v, n)

pub returns-clause-ok : goal.returns-clause-ok
returns-clause-ok c =
    let at = (goal.at.returns-clause-ok c).After-index-player in
    let f : FitsSigned w128 c.args.le = search rules in
    on_ok_weaker c.walk.result (λ h player is t e. subst (λ (p : PlayerOf). Passes p (bound_with c.args.coef.now c.args.le) (root_leaf p) t) (same at player is) (h t (e ∙ ap (map node_of) (sym c.deref.ensures.value)))) (simp to_z-of_z at c.walk.ensures.ok)

pub returns-clause-err : goal.returns-clause-err
returns-clause-err c =
    let at = (goal.at.returns-clause-err c).After-index-player in
    let f : FitsSigned w128 c.args.le = search rules in
    MatchResult-weaker c.walk.result (simp to_z-of_z at c.walk.ensures.err) (λ u h. h) (λ fault h player is t e. subst (λ (p : PlayerOf). IsRefusedAt p (bound_with c.args.coef.now c.args.le) 0 (root_leaf p) t fault) (same at player is) (h t (e ∙ ap (map node_of) (sym c.deref.ensures.value))))

pub returns-clause-exact : goal.returns-clause-exact
returns-clause-exact c player is t e =
    let at = (goal.at.returns-clause-exact c).After-index-player in
    let f : FitsSigned w128 c.args.le = search rules in
    let bound = bound_with c.args.coef.now c.args.le in
    let listed = e ∙ ap (map node_of) (sym c.deref.ensures.value) in
    let ok = on_ok_weaker c.walk.result (λ h. subst (λ (p : PlayerOf). Passes p bound (root_leaf p) t) (same at player is) (h t listed)) (simp to_z-of_z at c.walk.ensures.ok) in
    let err = MatchResult-weaker c.walk.result (simp to_z-of_z at c.walk.ensures.err) (λ u h. h) (λ fault h. subst (λ (p : PlayerOf). IsRefusedAt p bound 0 (root_leaf p) t fault) (same at player is) (h t listed)) in
    exact_told (ProvesRow player bound) (IsWideForRow player bound) player t (root_leaf player) c.walk.result ok err

pub returns-clause-sound : goal.returns-clause-sound
returns-clause-sound c =
    let at = (goal.at.returns-clause-sound c).After-index-player in
    let f : FitsSigned w128 c.args.le = search rules in
    let bound = bound_with c.args.coef.now c.args.le in
    let t = tree_of (map node_of c.args.tree.now.nodes.items) c.args.tree.now.whole.whole in
    let listed = t.1 ∙ ap (map node_of) (sym c.deref.ensures.value) in
    on_ok_weaker c.walk.result (λ h player is x feasible. let p : Passes player bound (root_leaf player) t.0 = subst (λ (p : PlayerOf). Passes p bound (root_leaf p) t.0) (same at player is) (h t.0 listed) in let g = c.args.game.now.sound.players c.args.i player is in holds_at_root player x feasible g.rows g.pairs bound t.0 (right_if (ProvesRow player bound) (IsWideForRow player bound) player t.0 (root_leaf player) p).0) (simp to_z-of_z at c.walk.ensures.ok)
