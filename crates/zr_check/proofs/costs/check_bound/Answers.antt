use Rattle.std.proofs.Common.{rules, arith, ◌≡◌, ◌+◌, ◌≤◌, ◌∙◌, sym, ap₂, subst, length, take, drop, IsTrue, false, refl, ℤ, List, FitsSigned}
use Rattle.std.specs.Int.{w128}
use Rattle.std.proofs.lemmas.Int.{to_z-of_z}
use Rattle.std.proofs.lemmas.List.{length-take-le, take_at}
use Rattle.std.proofs.lemmas.Result.{MatchResult-weaker, on_ok_weaker}
use Rattle.zr_game.specs.Forms.{IsPlayer}
use Rattle.zr_game.specs.Games.{game_of}
use Rattle.zr_game.specs.Players.{PlayerOf}
use Rattle.zr_game.proofs.Items.{at_number}
use Rattle.zr_tree.proofs.Greatest.{at_most_greatest}
use Rattle.zr_game.specs.Leaves.{bound_with}
use Rattle.zr_cert.specs.Certs.{bound_of, nodes_of}
use Rattle.zr_check.specs.Bounds.{TreePasses, TreeRefused}
use Rattle.zr_check.proofs.BoundSteps.{bound_passes, bound_refused, other_cost}
use Rattle.zr_check.proofs.costs.check_bound.Goals as goal
use Rattle.zr_check.proofs.costs.check_bound.Goals.{After-deref}

module _ (c : After-deref) where
  written : c.deref.result.now ≡ c.make_claim.new.left
  written =
      let e = c.make_claim.auto.left in
      let n = c.args.bench.now.left.ok.0 in
      let l = c.deref_mut-2.ensures.len in
      c.deref.ensures.value ∙ take_at c.make_claim.new.left (drop (length c.make_claim.new.left) c.args.bench.now.left.items) c.args.bench.now.left.len (omega (arith, e, n, l))

  few : c.var_count-vars.result ≤ length c.deref.result.now
  few =
      let who = at_number (game_of c.args.game.now) c.args.i c.requires.number in
      let g = at_most_greatest (λ player. length player.vars) (game_of c.args.game.now) c.args.i who.0 who.1 in
      let k = c.var_count-vars.ensures who.0 who.1 in
      let l = c.deref.ensures.len in
      let n = c.args.bench.now.left.ok.0 in
      omega (arith, g, k, l, n, c.requires.places.left)

  row : (player : PlayerOf) → IsPlayer (game_of c.args.game.now) c.args.i player → take c.var_count-vars.result c.deref.result.now ≡ take (length player.vars) c.make_claim.new.left
  row player is = ap₂ take (c.var_count-vars.ensures player is) written

pub returns-then-not-is_same-clause-err : goal.returns-then-not-is_same-clause-err
returns-then-not-is_same-clause-err c player is mixtures are =
    other_cost (game_of c.args.game.now) mixtures c.args.means.now are c.args.i player (bound_of c.args.bound.now) c.args.line c.in-Ok.made.0 (take (length player.vars) c.make_claim.new.left) c.in-Ok.made.1 (c.in-Ok.ensures player is) (λ e. no_false (c.if-not-is_same.ensures.1 e))
  where
    no_false : IsTrue false → ⊥
    no_false t = cc

pub slice_bounds-check_tree-end : goal.slice_bounds-check_tree-end
slice_bounds-check_tree-end c =
    sym (length-take-le c.var_count-vars.result c.deref.result.now (few ((goal.at.slice_bounds-check_tree-end c).After-deref)))

pub check_tree-requires-clause-left : goal.check_tree-requires-clause-left
check_tree-requires-clause-left c player is =
    length-take-le c.var_count-vars.result c.deref.result.now (few ((goal.at.check_tree-requires-clause-left c).After-deref)) ∙ c.var_count-vars.ensures player is

pub returns-clause-ok : goal.returns-clause-ok
returns-clause-ok c player is mixtures are =
    let at = (goal.at.returns-clause-ok c).After-deref in
    let f : FitsSigned w128 c.in-Ok.made.1 = search rules in
    let told = simp to_z-of_z at (c.check_tree.ensures.ok player is) in
    on_ok_weaker c.check_tree.result (λ passes. bound_passes (game_of c.args.game.now) mixtures c.args.means.now are c.args.i player (bound_of c.args.bound.now) c.args.line c.in-Ok.made.0 (take (length player.vars) c.make_claim.new.left) c.in-Ok.made.1 (c.in-Ok.ensures player is) (c.if-not-is_same.ensures.0 refl) (subst (λ (xs : List ℤ). TreePasses player (bound_with xs c.in-Ok.made.1) (nodes_of c.args.bound.now.tree)) (row at player is) passes)) told

pub returns-clause-err : goal.returns-clause-err
returns-clause-err c player is mixtures are =
    let at = (goal.at.returns-clause-err c).After-deref in
    let f : FitsSigned w128 c.in-Ok.made.1 = search rules in
    let told = simp to_z-of_z at (c.check_tree.ensures.err player is) in
    MatchResult-weaker c.check_tree.result told (λ u h. h) (λ fault refused. bound_refused (game_of c.args.game.now) mixtures c.args.means.now are c.args.i player (bound_of c.args.bound.now) c.args.line c.in-Ok.made.0 (take (length player.vars) c.make_claim.new.left) c.in-Ok.made.1 (c.in-Ok.ensures player is) (c.if-not-is_same.ensures.0 refl) fault (subst (λ (xs : List ℤ). TreeRefused player (bound_with xs c.in-Ok.made.1) (nodes_of c.args.bound.now.tree) (c.args.line + 1) fault) (row at player is) refused))
