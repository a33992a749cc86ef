use Rattle.std.proofs.Common.{◌≡◌, ℕ, ap, ◌∙◌, subst, ℤ, Option, None, List, get_or, map}
use Rattle.zr_game.specs.declared.player.Var.{Var}
use Rattle.zr_game.specs.declared.leaf.Side.{Side}
use Rattle.zr_game.specs.declared.leaf.Side.TheVariants.{Undecided}
use Rattle.zr_game.specs.Players.{PlayerOf, player_of}
use Rattle.zr_game.specs.Games.{game_of}
use Rattle.zr_game.specs.Leaves.{leaf_of, root_leaf}
use Rattle.zr_game.proofs.Items.{found, one, read_below}
use Rattle.zr_game.proofs.LeafLaws.{all_same, lows_are, same_leaf, ups_are}
use Rattle.zr_game.proofs.leaf.Leaf.root.Goals as goal

pub returns-clause-root : goal.returns-clause-root
returns-clause-root c player is =
    let here = found player_of c.args.game.now.players.items c.args.i c.index-player.result.now
    (read_below player_of c.args.game.now.players.items c.args.i c.requires)
    c.index-player.ensures in
    let s = one (game_of c.args.game.now) c.args.i (player_of c.index-player.result.now) player here
    is in
    let sides = c.in_ok-sides.ensures in
    let low = c.in-Ok.ensures ∙ ap (map (λ (var : Var). var.low)) c.deref.ensures.value in
    let high = c.in-Ok-upper_bounds.ensures ∙
    ap (map (λ (var : Var). var.up)) c.deref-2.ensures.value in
    let leaf = leaf_of (record {
      low = c.in-Ok.low;
      high = c.in-Ok-upper_bounds.high;
      sides = c.in_ok-sides.sides;
    }) in
    let lows = λ (v : ℕ). ap (λ (xs : List (Option ℤ)). get_or xs v None) low ∙
    lows_are c.index-player.result.now.vars.items v in
    let highs = λ (v : ℕ). ap (λ (xs : List (Option ℤ)). get_or xs v None) high ∙
    ups_are c.index-player.result.now.vars.items v in
    let open_sides = λ (p : ℕ). ap (λ (xs : List Side). get_or xs p Undecided) sides ∙
    all_same c.len.result Undecided p in
    subst (λ (p : PlayerOf). leaf ≡ root_leaf p) s
    (same_leaf leaf (root_leaf (player_of c.index-player.result.now)) lows highs open_sides)
