-- The games for which box trees are searched: whole variables between bounds, and no pairs.
use Rattle.std.specs.Prelude.{◌≡◌, ℕ, ◌<◌, true, false, IsSome, None, Some, [], length, slice_get, ◌⊎◌}
use Rattle.zr_game.specs.Players.{GameOf, PlayerOf, VarOf}
use Rattle.zr_game.specs.Forms.{IsPlayer}

-- the variable is whole and has both bounds
pub record IsBoxVar (var : VarOf) : Type 0 where
  pub whole : var.whole ≡ true
  pub low : IsSome var.low
  pub up : IsSome var.up

-- it isn't whole, or a bound isn't there
abbrev pub IsOpenVar : VarOf → Type 0
IsOpenVar var = (var.whole ≡ false) ⊎ ((var.low ≡ None) ⊎ (var.up ≡ None))

-- no pairs, and variables of the first kind alone
pub record IsBoxPlayer (player : PlayerOf) : Type 0 where
  pub pairs : player.pairs ≡ []
  pub vars : (v : ℕ) (var : VarOf) → slice_get player.vars v ≡ Some var → IsBoxVar var

abbrev pub IsBoxGame : GameOf → Type 0
IsBoxGame game = (i : ℕ) (player : PlayerOf) → IsPlayer game i player → IsBoxPlayer player

-- a pair, or a variable of the second kind
abbrev pub IsOpenPlayer : PlayerOf → Type 0
IsOpenPlayer player =
    (0 < length player.pairs)
    ⊎ ((v : ℕ) × (var : VarOf) × (slice_get player.vars v ≡ Some var) × IsOpenVar var)

abbrev pub HasOpenPlayer : GameOf → Type 0
HasOpenPlayer game =
    (i : ℕ) × (player : PlayerOf) × IsPlayer game i player × IsOpenPlayer player
