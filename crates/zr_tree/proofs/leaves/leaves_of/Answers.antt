use Rattle.std.proofs.Common.{◌≡◌, sym, ap, subst, ◌∙◌, All, map}
use Rattle.zr_game.specs.Players.{PlayerOf, player_of}
use Rattle.zr_game.specs.Forms.{IsPlayer}
use Rattle.zr_game.specs.Games.{game_of}
use Rattle.zr_game.specs.Leaves.{IsLeafOf, LeafOf, leaf_of, root_leaf}
use Rattle.zr_game.proofs.Items.{found, one, read_below}
use Rattle.zr_tree.specs.Nodes.{node_of}
use Rattle.zr_tree.specs.Covers.{leaves_at}
use Rattle.zr_tree.proofs.leaves.leaves_of.Goals as goal
use Rattle.zr_tree.proofs.leaves.leaves_of.Goals.{After-index-player}

is_player : (c : After-index-player) → IsPlayer (game_of c.args.game.now) c.args.i (player_of c.index-player.result.now)
is_player c = found player_of c.args.game.now.players.items c.args.i c.index-player.result.now (read_below player_of c.args.game.now.players.items c.args.i c.requires) c.index-player.ensures

same : (c : After-index-player) (player : PlayerOf) → IsPlayer (game_of c.args.game.now) c.args.i player → player_of c.index-player.result.now ≡ player
same c player is = one (game_of c.args.game.now) c.args.i (player_of c.index-player.result.now) player (is_player c) is

pub leaves_from-requires-clause-root : goal.leaves_from-requires-clause-root
leaves_from-requires-clause-root c =
    let at = (goal.at.leaves_from-requires-clause-root c).After-index-player in
    let root = c.in_ok-root.ensures in
    root.lengths (player_of c.index-player.result.now) (is_player at)

pub returns-in-Ok-clause-lengths : goal.returns-in-Ok-clause-lengths
returns-in-Ok-clause-lengths c player is =
    let at = (goal.at.returns-in-Ok-clause-lengths c).After-index-player in
    let made = c.in-Ok.ensures in
    subst (λ (p : PlayerOf). All (IsLeafOf p) c.in-Ok.leaves.items) (same at player is) made.lengths

pub returns-in-Ok-clause-leaves : goal.returns-in-Ok-clause-leaves
returns-in-Ok-clause-leaves c player is t e =
    let at = (goal.at.returns-in-Ok-clause-leaves c).After-index-player in
    let made = c.in-Ok.ensures in
    let root = c.in_ok-root.ensures in
    let listed = made.leaves t (e ∙ ap (map node_of) (sym c.deref.ensures.value)) ∙ ap (λ (l : LeafOf). leaves_at (player_of c.index-player.result.now) l t) (root.root (player_of c.index-player.result.now) (is_player at)) in
    subst (λ (p : PlayerOf). map leaf_of c.in-Ok.leaves.items ≡ leaves_at p (root_leaf p) t) (same at player is) listed
