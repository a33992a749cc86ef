use Rattle.std.proofs.Common.{arith, ◌≡◌, ◌≤◌, ◌+◌, ◌-◌, ◌∙◌, ℕ, suc, refl, List, length, take, drop}
use Rattle.std.proofs.lemmas.List.{length-drop, length-take-le}
use Rattle.zr_base.specs.Fractions.{Fraction}
use Rattle.zr_game.specs.Forms.{IsPlayer}
use Rattle.zr_game.specs.Games.{game_of}
use Rattle.zr_game.specs.Players.{PlayerOf}
use Rattle.zr_game.proofs.Items.{at_number}
use Rattle.zr_mix.specs.Steps.{place_of}
use Rattle.zr_check.proofs.VarPlaces.{place_next, place_within, var_total_few}
use Rattle.zr_costs.proofs.means.own_means.Goals as goal
use Rattle.zr_costs.proofs.means.own_means.Goals.{After-var_count}

module _ (c : After-var_count) where
  inside : c.place-from.result + c.var_count.result ≤ length c.args.means.now
  inside =
      let who = at_number (game_of c.args.game.now) c.args.i c.requires.number in
      let n = place_next (game_of c.args.game.now) c.args.i who.0 who.1 in
      let w = place_within (game_of c.args.game.now) (suc c.args.i) in
      let k = c.var_count.ensures who.0 who.1 in
      omega (arith, n, w, k, c.place-from.ensures, c.requires.means)

  few : length c.args.means.now ≤ 1024
  few =
      let f = var_total_few (game_of c.args.game.now) c.args.game.now.sound in
      omega (arith, f, c.requires.means)

  span : (player : PlayerOf) → IsPlayer (game_of c.args.game.now) c.args.i player
      → c.place-from.result + c.var_count.result - c.place-from.result ≡ length player.vars
  span player is = let k = c.var_count.ensures player is in omega (arith, k)

pub overflow_add-result : goal.overflow_add-result
overflow_add-result c =
    let at = (goal.at.overflow_add-result c).After-var_count in
    let a = inside at in
    let b = few at in
    omega (arith, a, b)

pub offset_bounds-means-from : goal.offset_bounds-means-from
offset_bounds-means-from c =
    let at = (goal.at.offset_bounds-means-from c).After-var_count in
    let a = inside at in
    let b = few at in
    omega (arith, a, b)

pub slice_bounds-result-end : goal.slice_bounds-result-end
slice_bounds-result-end c = inside ((goal.at.slice_bounds-result-end c).After-var_count)

cut : (means : List Fraction) (from at n k : ℕ) → from ≡ at → n ≡ k
    → take n (drop from means) ≡ take k (drop at means)
cut means from at n k e f = rw (e, f) refl

pub returns-clause-list : goal.returns-clause-list
returns-clause-list c player is =
    let at = (goal.at.returns-clause-list c).After-var_count in
    cut c.args.means.now c.place-from.result (place_of (game_of c.args.game.now) c.args.i 0)
    (c.place-from.result + c.var_count.result - c.place-from.result)
    (length player.vars) c.place-from.ensures (span at player is)

pub returns-clause-len : goal.returns-clause-len
returns-clause-len c player is =
    let at = (goal.at.returns-clause-len c).After-var_count in
    let d = length-drop c.place-from.result c.args.means.now in
    let i = inside at in
    length-take-le (c.place-from.result + c.var_count.result - c.place-from.result)
    (drop c.place-from.result c.args.means.now) (omega (arith, d, i)) ∙ span at player is
