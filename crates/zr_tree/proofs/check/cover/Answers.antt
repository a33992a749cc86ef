use Rattle.std.proofs.Common.{◌≡◌, arith, sym, ap, subst, ◌∙◌, length, map}
use Rattle.std.proofs.lemmas.Result.{MatchResult-weaker, on_ok_weaker}
use Rattle.zr_game.specs.Players.{PlayerOf, player_of}
use Rattle.zr_game.specs.Forms.{IsPlayer}
use Rattle.zr_game.specs.Games.{game_of}
use Rattle.zr_game.specs.Leaves.{root_leaf}
use Rattle.zr_game.proofs.Items.{found, one, read_below}
use Rattle.zr_tree.specs.Nodes.{node_of}
use Rattle.zr_tree.specs.Scratches.{Places}
use Rattle.zr_tree.specs.Covers.{KeepsCover}
use Rattle.zr_tree.specs.CoverSteps.{CoverPasses, IsRefusedCover, IsWideForCover}
use Rattle.zr_tree.proofs.CoverLaws.{cover_holds}
use Rattle.zr_tree.proofs.Greatest.{at_most_greatest}
use Rattle.zr_tree.proofs.PlayerForms.{has_forms}
use Rattle.zr_tree.proofs.PassLaws.{exact_told, right_if}
use Rattle.zr_tree.proofs.check.cover.Goals as goal
use Rattle.zr_tree.proofs.check.cover.Goals.{After-index-player}

is_player : (c : After-index-player) → IsPlayer (game_of c.args.game.now) c.args.i (player_of c.index-player.result.now)
is_player c = found player_of c.args.game.now.players.items c.args.i c.index-player.result.now (read_below player_of c.args.game.now.players.items c.args.i c.requires.number) c.index-player.ensures

same : (c : After-index-player) (player : PlayerOf) → IsPlayer (game_of c.args.game.now) c.args.i player → player_of c.index-player.result.now ≡ player
same c player is = one (game_of c.args.game.now) c.args.i (player_of c.index-player.result.now) player (is_player c) is

pub walk-requires-clause-forms : goal.walk-requires-clause-forms
walk-requires-clause-forms c =
    let at = (goal.at.walk-requires-clause-forms c).After-index-player in
    has_forms (game_of c.args.game.now) c.args.game.now.sound c.args.i (player_of c.index-player.result.now) (is_player at)

pub walk-requires-clause-places : goal.walk-requires-clause-places
walk-requires-clause-places c =
    let at = (goal.at.walk-requires-clause-places c).After-index-player in
    let v = ap (λ (p : Places). p.vars) c.scratch.view_is in
    let p = ap (λ (p : Places). p.pairs) c.scratch.view_is in
    let vars = at_most_greatest (λ player. length player.vars) (game_of c.args.game.now) c.args.i (player_of c.index-player.result.now) (is_player at) in
    let pairs = at_most_greatest (λ player. length player.pairs) (game_of c.args.game.now) c.args.i (player_of c.index-player.result.now) (is_player at) in
    let h = c.scratch.invariant.highs in
    record { lows = omega (arith, v, vars, c.requires.vars); highs = omega (arith, v, vars, h, c.requires.vars); sides = omega (arith, p, pairs, c.requires.pairs) }

pub walk-requires-clause-columns : goal.walk-requires-clause-columns
walk-requires-clause-columns c =
    let at = (goal.at.walk-requires-clause-columns c).After-index-player in
    let v = ap (λ (p : Places). p.columns) c.scratch.view_is in
    let n = c.requires.columns (player_of c.index-player.result.now) (is_player at) in
    omega (arith, v, n)

pub returns-clause-ok : goal.returns-clause-ok
returns-clause-ok c =
    let at = (goal.at.returns-clause-ok c).After-index-player in
    on_ok_weaker c.walk.result (λ h player is t e.
    subst (λ (p : PlayerOf). CoverPasses p (root_leaf p) t) (same at player is)
    (h t (e ∙ ap (map node_of) (sym c.deref.ensures.value)))) c.walk.ensures.ok

pub returns-clause-err : goal.returns-clause-err
returns-clause-err c =
    let at = (goal.at.returns-clause-err c).After-index-player in
    MatchResult-weaker c.walk.result c.walk.ensures.err (λ u h. h)
    (λ fault h player is t e.
    subst (λ (p : PlayerOf). IsRefusedCover p 0 (root_leaf p) t fault) (same at player is)
    (h t (e ∙ ap (map node_of) (sym c.deref.ensures.value))))

pub returns-clause-exact : goal.returns-clause-exact
returns-clause-exact c player is t e =
    let at = (goal.at.returns-clause-exact c).After-index-player in
    let listed = e ∙ ap (map node_of) (sym c.deref.ensures.value) in
    let ok = on_ok_weaker c.walk.result (λ h.
    subst (λ (p : PlayerOf). CoverPasses p (root_leaf p) t) (same at player is) (h t listed))
    c.walk.ensures.ok in
    let err = MatchResult-weaker c.walk.result c.walk.ensures.err (λ u h. h) (λ fault h.
    subst (λ (p : PlayerOf). IsRefusedCover p 0 (root_leaf p) t fault) (same at player is)
    (h t listed)) in
    exact_told (KeepsCover player) (IsWideForCover player) player t (root_leaf player)
    c.walk.result ok err

pub returns-clause-sound : goal.returns-clause-sound
returns-clause-sound c =
    let at = (goal.at.returns-clause-sound c).After-index-player in
    on_ok_weaker c.walk.result (λ h player is t e.
    let g = c.args.game.now.sound.players c.args.i player is in
    let passes : CoverPasses player (root_leaf player) t =
    subst (λ (p : PlayerOf). CoverPasses p (root_leaf p) t) (same at player is)
    (h t (e ∙ ap (map node_of) (sym c.deref.ensures.value))) in
    cover_holds player g.rows g.pairs g.from_zero t
    (right_if (KeepsCover player) (IsWideForCover player) player t (root_leaf player) passes).0)
    c.walk.ensures.ok
