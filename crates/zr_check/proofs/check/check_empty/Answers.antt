use Rattle.std.proofs.Common.{arith, ◌≡◌, ◌≤◌, ◌∙◌, sym, ap₂, subst, inr, length, take, ℤ, pos, negsuc, List, replicate}
use Rattle.std.proofs.lemmas.List.{length-map, length-take-le, take-replicate}
use Rattle.std.proofs.lemmas.Result.{MatchResult-weaker, on_ok_weaker}
use Rattle.zr_game.specs.Forms.{IsPlayer}
use Rattle.zr_game.specs.Games.{game_of}
use Rattle.zr_game.specs.Players.{PlayerOf, player_of}
use Rattle.zr_game.proofs.Items.{at_number}
use Rattle.zr_tree.proofs.Greatest.{at_most_greatest}
use Rattle.zr_game.specs.Leaves.{bound_with}
use Rattle.zr_cert.specs.Certs.{nodes_of}
use Rattle.zr_check.specs.Bounds.{TreePasses, TreeRefused}
use Rattle.zr_check.proofs.check.check_empty.Goals as goal
use Rattle.zr_check.proofs.check.check_empty.Goals.{After-deref}

module _ (c : After-deref) where
  the_player : (player : PlayerOf) × IsPlayer (game_of c.args.game.now) c.args.i player
  the_player =
      let l = length-map c.args.game.now.players.items player_of in
      let n = c.args.game.now.players.ok.0 in
      at_number (game_of c.args.game.now) c.args.i (omega (arith, l, n, c.if-i-len.false, c.len.ensures))

  few : c.var_count-vars.result ≤ c.args.bench.now.left.len
  few =
      let g = at_most_greatest (λ player. length player.vars) (game_of c.args.game.now) c.args.i the_player.0 the_player.1 in
      let k = c.var_count-vars.ensures the_player.0 the_player.1 in
      let n = c.args.bench.now.left.ok.0 in
      omega (arith, g, k, n, c.requires.places.left)

  zeros : c.deref.result.now ≡ replicate c.args.bench.now.left.len (pos 0)
  zeros = c.deref.ensures.value ∙ c.fill.ensures.items (λ y e. e)

  row : (player : PlayerOf) → IsPlayer (game_of c.args.game.now) c.args.i player → take c.var_count-vars.result c.deref.result.now ≡ replicate (length player.vars) (pos 0)
  row player is =
      let k = c.var_count-vars.ensures player is in
      ap₂ take k zeros ∙ take-replicate (length player.vars) c.args.bench.now.left.len (pos 0) (omega (arith, k, few))

  size : length (take c.var_count-vars.result c.deref.result.now) ≡ c.var_count-vars.result
  size =
      let f = few in
      let l = c.deref.ensures.len in
      let n = c.fill.ensures.len in
      length-take-le c.var_count-vars.result c.deref.result.now (omega (arith, f, l, n))

pub slice_bounds-check_tree-end : goal.slice_bounds-check_tree-end
slice_bounds-check_tree-end c = sym (size ((goal.at.slice_bounds-check_tree-end c).After-deref))

pub check_tree-requires-clause-left : goal.check_tree-requires-clause-left
check_tree-requires-clause-left c player is =
    size ((goal.at.check_tree-requires-clause-left c).After-deref) ∙ c.var_count-vars.ensures player is

pub returns-clause-ok : goal.returns-clause-ok
returns-clause-ok c kind =
    let at = (goal.at.returns-clause-ok c).After-deref in
    let who = the_player at in
    on_ok_weaker c.check_tree.result (λ passes. (who.0, who.1, subst (λ (xs : List ℤ). TreePasses who.0 (bound_with xs (negsuc 0)) (nodes_of c.args.tree.now)) (row at who.0 who.1) passes)) (c.check_tree.ensures.ok who.0 who.1)

pub returns-clause-err : goal.returns-clause-err
returns-clause-err c kind =
    let at = (goal.at.returns-clause-err c).After-deref in
    let who = the_player at in
    MatchResult-weaker c.check_tree.result (c.check_tree.ensures.err who.0 who.1) (λ u h. h) (λ fault refused. inr (who.0, who.1, subst (λ (xs : List ℤ). TreeRefused who.0 (bound_with xs (negsuc 0)) (nodes_of c.args.tree.now) 4 fault) (row at who.0 who.1) refused))
