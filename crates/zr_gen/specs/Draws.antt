-- The draws of a number, and what is made of them in several games.
use Rattle.std.specs.Prelude.{ℕ, zero, suc, ◌+◌, ◌-◌, ◌*◌, ◌/◌, ◌%◌, ◌^◌, ◌==◌, nat_lt, pos, if◌then◌else◌, List, [], ◌∷◌, ◌++◌, codes, decimal}
use Rattle.zr_game.specs.Players.{Name}
use Rattle.zr_game.specs.declared.player.CrossTerm.{CrossTerm}

-- where k steps lead from a number
unfoldable pub state : ℕ → ℕ → ℕ
state number zero = number
state number (suc k) = (state number k * 6364136223846793005 + 1442695040888963407) % (2 ^ 64)

-- the state without its lowest 33 binary digits
abbrev pub head : ℕ → ℕ → ℕ
head number k = state number k / (2 ^ 33)

-- the k-th draw below m, counted from 1
abbrev pub draw : ℕ → ℕ → ℕ → ℕ
draw number k m = head number k % m

-- the players are `p0`, `p1` and so on
abbrev pub player_name : ℕ → Name
player_name i = codes "p" ++ decimal i

-- the place of player j among the others than i
abbrev pub rank : ℕ → ℕ → ℕ
rank i j = if nat_lt j i then j else j - 1

-- the cross term of variable v of a player with variable v of player j, unless its number is 0
abbrev pub term_with : ℕ → ℕ → ℕ → List CrossTerm
term_with v j number =
    if number == 0 then []
    else record { own = v; player = j; var = v; coef = pos number } ∷ []
