-- The ways to settle a player's whole variables and pairs.
use Rattle.std.specs.Prelude.{◌≡◌, ℕ, ◌*◌, ◌^◌, ℤ, pos, negsuc, ◌+ℤ◌, ◌-ℤ◌, true, Option, Some, None, IsSome, List, [], ◌∷◌, length, slice_get, if◌then◌else◌}
use Rattle.zr_game.specs.Players.{PlayerOf, VarOf}

-- the number, or 0 where it is below 0
abbrev pub natural_of : ℤ → ℕ
natural_of (pos n) = n
natural_of (negsuc n) = 0

-- how many whole numbers there are from one bound to the other, where both are there
abbrev pub value_count : Option ℤ → Option ℤ → ℕ
value_count (Some low) (Some up) = natural_of (up -ℤ low +ℤ pos 1)
value_count (Some low) None = 0
value_count None up = 0

-- the product of these counts over the whole variables
abbrev pub value_choices : List VarOf → ℕ
value_choices [] = 1
value_choices (var ∷ vars) =
    (if var.whole then value_count var.low var.up else 1) * value_choices vars

-- the ways to give each whole variable a value and each pair a side
abbrev pub leaf_choices : PlayerOf → ℕ
leaf_choices player = 2 ^ length player.pairs * value_choices player.vars

-- each whole variable has both bounds
abbrev pub AreBounded : PlayerOf → Type 0
AreBounded player =
    (v : ℕ) (var : VarOf) → slice_get player.vars v ≡ Some var → var.whole ≡ true
    → IsSome var.low × IsSome var.up
