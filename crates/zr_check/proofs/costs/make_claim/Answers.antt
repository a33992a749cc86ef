use Rattle.std.proofs.Common.{arith, ◌≡◌, ◌≤◌, ◌++◌, ◌∙◌, sym, subst, length, take, drop, List, ℤ}
use Rattle.std.proofs.lemmas.List.{length-take-le, take_at}
use Rattle.zr_game.specs.Games.{game_of}
use Rattle.zr_game.proofs.Items.{at_number}
use Rattle.zr_tree.specs.Scratches.{most_vars}
use Rattle.zr_tree.proofs.Greatest.{at_most_greatest}
use Rattle.zr_check.specs.Bounds.{cost_steps}
use Rattle.zr_check.specs.Benches.{GivesCost}
use Rattle.zr_check.proofs.costs.make_claim.Goals as goal
use Rattle.zr_check.proofs.costs.make_claim.Goals.{After-var_count-vars}

few : (c : After-var_count-vars) → c.var_count-vars.result ≤ most_vars (game_of c.args.game.now)
few c =
    let who = at_number (game_of c.args.game.now) c.args.i c.requires.number in
    let g = at_most_greatest (λ player. length player.vars) (game_of c.args.game.now) c.args.i who.0 who.1 in
    let k = c.var_count-vars.ensures who.0 who.1 in
    omega (arith, g, k)

pub slice_bounds-write_claim-end : goal.slice_bounds-write_claim-end
slice_bounds-write_claim-end c =
    let f = few ((goal.at.slice_bounds-write_claim-end c).After-var_count-vars) in
    omega (arith, f, c.requires.slopes)

pub slice_bounds-write_claim-end-2 : goal.slice_bounds-write_claim-end-2
slice_bounds-write_claim-end-2 c =
    let f = few ((goal.at.slice_bounds-write_claim-end-2 c).After-var_count-vars) in
    sym (length-take-le c.var_count-vars.result c.args.slopes.now (omega (arith, f, c.requires.slopes)))

pub slice_bounds-write_claim-end-3 : goal.slice_bounds-write_claim-end-3
slice_bounds-write_claim-end-3 c =
    let f = few ((goal.at.slice_bounds-write_claim-end-3 c).After-var_count-vars) in
    omega (arith, f, c.requires.left)

pub slice_bounds-write_claim-end-4 : goal.slice_bounds-write_claim-end-4
slice_bounds-write_claim-end-4 c =
    let f = few ((goal.at.slice_bounds-write_claim-end-4 c).After-var_count-vars) in
    sym (length-take-le c.var_count-vars.result c.args.left.now (omega (arith, f, c.requires.left)))

pub write_claim-requires-clause-slopes : goal.write_claim-requires-clause-slopes
write_claim-requires-clause-slopes c player is =
    let f = few ((goal.at.write_claim-requires-clause-slopes c).After-var_count-vars) in
    length-take-le c.var_count-vars.result c.args.slopes.now (omega (arith, f, c.requires.slopes)) ∙ c.var_count-vars.ensures player is

pub write_claim-requires-clause-left : goal.write_claim-requires-clause-left
write_claim-requires-clause-left c player is =
    let f = few ((goal.at.write_claim-requires-clause-left c).After-var_count-vars) in
    length-take-le c.var_count-vars.result c.args.left.now (omega (arith, f, c.requires.left)) ∙ c.var_count-vars.ensures player is

pub returns : goal.returns
returns c player is =
    let f = few ((goal.at.returns c).After-var_count-vars) in
    let l = length-take-le c.var_count-vars.result c.args.left.now (omega (arith, f, c.requires.left)) in
    let k = c.var_count-vars.ensures player is in
    let s = c.write_claim.auto.left in
    let t : take (length player.vars) (c.write_claim.new.left ++ drop c.var_count-vars.result c.args.left.now) ≡ c.write_claim.new.left = take_at c.write_claim.new.left (drop c.var_count-vars.result c.args.left.now) (length player.vars) (omega (arith, l, k, s)) in
    subst (λ (xs : List ℤ). GivesCost (cost_steps (game_of c.args.game.now) player c.args.i c.args.means.now) c.write_claim.result xs) (sym t) (c.write_claim.ensures player is)
