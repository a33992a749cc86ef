-- The most work that there may be on a game whose whole variables all have both bounds.
use Rattle.std.specs.Prelude.{ℕ, ◌+◌, ◌*◌, ◌^◌, ◌<◌, [], ◌∷◌, length}
use Rattle.zr_game.specs.Forms.{IsPlayer}
use Rattle.zr_game.specs.Players.{GameOf, PlayerOf}
use Rattle.zr_sizes.specs.Sizes.{AreBounded, leaf_choices}

-- each whole variable of each player has both bounds
abbrev pub AreAllBounded : GameOf → Type 0
AreAllBounded game = (i : ℕ) (player : PlayerOf) → IsPlayer game i player → AreBounded player

-- so many slots has each leaf of the player: one per row, and two per variable and per pair
abbrev pub leaf_slots : PlayerOf → ℕ
leaf_slots player = length player.rows + 2 * length player.vars + 2 * length player.pairs

-- each leaf that there may be, and each of its slots
abbrev pub case_places : PlayerOf → ℕ
case_places player = leaf_choices player * (1 + leaf_slots player)

-- the players' leaf choices together
abbrev pub all_choices : GameOf → ℕ
all_choices [] = 0
all_choices (player ∷ players) = leaf_choices player + all_choices players

-- the leaves of all players that there may be, and their slots
abbrev pub all_places : GameOf → ℕ
all_places [] = 0
all_places (player ∷ players) = case_places player + all_places players

-- twice the leaf choices, for covers and for bounds, and 2 to the power of one more than the places,
-- for the cases
abbrev pub most_work : GameOf → ℕ
most_work game = 2 * all_choices game + 2 ^ (1 + all_places game)

-- where all whole variables have both bounds, the number is less than the most work
abbrev pub IsBelowWork : ℕ → GameOf → Type 0
IsBelowWork n game = AreAllBounded game → n < most_work game
