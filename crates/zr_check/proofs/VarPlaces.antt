-- How many variables the players of a game have.
use Rattle.std.proofs.Common.{◌≡◌, ℕ, zero, suc, ◌+◌, ◌*◌, ◌≤◌, arith, ap, [], ◌∷◌, length}
use Rattle.std.proofs.lemmas.List.{take_all}
use Rattle.zr_game.specs.Forms.{IsGame, IsPlayer}
use Rattle.zr_game.specs.Players.{GameOf, PlayerOf}
use Rattle.zr_mix.specs.Steps.{place_of, var_total}

pub place_within : (game : GameOf) (k : ℕ) → place_of game k 0 ≤ var_total game
place_within [] zero = omega arith
place_within [] (suc k) = omega arith
place_within (p ∷ ps) zero = omega arith
place_within (p ∷ ps) (suc k) = let r = place_within ps k in omega (arith, r)

few_vars : (game : GameOf) → ((i : ℕ) (player : PlayerOf) → IsPlayer game i player → length player.vars ≤ 64) → var_total game ≤ 64 * length game
few_vars [] each = omega arith
few_vars (p ∷ ps) each =
    let here : length p.vars ≤ 64 = each 0 p cc in
    let rest = few_vars ps (λ i player is. each (suc i) player is) in
    omega (arith, here, rest)

pub var_total_few : (game : GameOf) → IsGame game → var_total game ≤ 1024
var_total_few game form =
    let few = few_vars game (λ i player is. (form.players i player is).var_count) in
    let count = form.player_count in
    omega (arith, few, count)

-- the next player's variables begin where this player's end
pub place_next : (game : GameOf) (i : ℕ) (player : PlayerOf) → IsPlayer game i player → place_of game (suc i) 0 ≡ place_of game i 0 + length player.vars
place_next [] i player is = absurd cc
place_next (p ∷ ps) zero player is =
    let e : p ≡ player = cc in
    let l = ap (λ (q : PlayerOf). length q.vars) e in
    omega (arith, l)
place_next (p ∷ ps) (suc i) player is = let r = place_next ps i player is in omega (arith, r)

pub place_all : (game : GameOf) (k : ℕ) → length game ≤ k → place_of game k 0 ≡ var_total game
place_all game k end = let e = ap var_total (take_all k game end) in omega (arith, e)
