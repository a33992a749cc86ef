-- The greatest size among a game's players.
use Rattle.std.proofs.Common.{◌≡◌, ℕ, zero, suc, ◌+◌, ◌<◌, ◌≤◌, arith, sym, ap, ◌∙◌, List, [], ◌∷◌, length, get_or, drop, drop-cons, add-one, max}
use Rattle.std.proofs.lemmas.List.{drop_all}
use Rattle.zr_game.specs.declared.player.Player.{Player}
use Rattle.zr_game.specs.Forms.{IsPlayer}
use Rattle.zr_game.specs.Players.{GameOf, PlayerOf, player_of, players_of}
use Rattle.zr_tree.specs.Scratches.{greatest}

module _ (size : PlayerOf → ℕ) where
  -- each player's size is at most that
  pub at_most_greatest : (game : GameOf) (i : ℕ) (player : PlayerOf) → IsPlayer game i player → size player ≤ greatest size game
  at_most_greatest [] i player e = absurd cc
  at_most_greatest (first ∷ game) zero player e =
      let f : first ≡ player = cc in
      let g = ap size f in
      omega (arith, g)
  at_most_greatest (first ∷ game) (suc i) player e = let r = at_most_greatest game i player e in omega (arith, r)

  module _ (players : List Player) (whole : ℕ) where
    pub greatest_more : (i most here : ℕ) (player : Player) → i < length players → player ≡ get_or players i player → here ≡ size (player_of player) → whole ≡ max most (greatest size (players_of (drop i players))) → whole ≡ max (max here most) (greatest size (players_of (drop (i + 1) players)))
    greatest_more i most here player below is e before =
        let cut = drop-cons players i player below in
        let split : greatest size (players_of (drop i players)) ≡ max (size (player_of player)) (greatest size (players_of (drop (suc i) players))) = ap (λ (ps : List Player). greatest size (players_of ps)) cut ∙ ap (λ (p : Player). max (size (player_of p)) (greatest size (players_of (drop (suc i) players)))) (sym is) in
        let next : greatest size (players_of (drop (i + 1) players)) ≡ greatest size (players_of (drop (suc i) players)) = ap (λ (n : ℕ). greatest size (players_of (drop n players))) (add-one i) in
        omega (arith, split, next, e, before)

    pub greatest_all : (i most : ℕ) → length players ≤ i → whole ≡ max most (greatest size (players_of (drop i players))) → most ≡ whole
    greatest_all i most end before =
        let none : greatest size (players_of (drop i players)) ≡ 0 = ap (λ (ps : List Player). greatest size (players_of ps)) (drop_all i players end) in
        omega (arith, none, before)
