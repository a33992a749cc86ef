-- That a game keeps the rules is a fact with one proof at most.
use Rattle.std.specs.Prelude.{ℕ, ◌+◌, ℤ, [], ◌∷◌}
use Rattle.std.specs.Coded.{Unit-prop, codes}
use Rattle.zr_base.specs.Terms.{Terms, AscendWith}
use Rattle.zr_base.specs.Rows.{RowOf}
use Rattle.zr_game.specs.declared.player.CrossTerm.{CrossTerm}
use Rattle.zr_game.specs.declared.player.Other.{Other}
use Rattle.zr_game.specs.Players.{GameOf, PlayerOf, PairOf, VarOf}
use Rattle.zr_game.specs.Forms.{AreTerms, IsCoefficient, IsCrossForm, IsGame, IsOtherForm, IsOthersVar, IsPairForm, IsPlayerForm, IsRowForm, IsVarForm}

coefficient_prop : (z : ℤ) → IsProp (IsCoefficient z)
coefficient_prop z = hlevel codes

pub AscendWith-prop : (P : ℤ → Type 0) → ((z : ℤ) → IsProp (P z)) → (low columns : ℕ) (ts : Terms)
    → IsProp (AscendWith P low columns ts)
AscendWith-prop P each low columns [] = Unit-prop
AscendWith-prop P each low columns (t ∷ ts) =
    let rest = AscendWith-prop P each (t.0 + 1) columns ts in hlevel (codes, each, rest)

terms_prop : (columns : ℕ) (ts : Terms) → IsProp (AreTerms columns ts)
terms_prop columns ts = AscendWith-prop IsCoefficient coefficient_prop 0 columns ts

row_prop : (columns : ℕ) (row : RowOf) → IsProp (IsRowForm columns row)
row_prop columns row = hlevel (codes, terms_prop)

pair_prop : (columns : ℕ) (pair : PairOf) → IsProp (IsPairForm columns pair)
pair_prop columns pair = hlevel (codes, terms_prop)

var_prop : (var : VarOf) → IsProp (IsVarForm var)
var_prop var = hlevel codes

place_prop : (game : GameOf) (i : ℕ) (at : ℕ × ℕ) → IsProp (IsOthersVar game i at)
place_prop game i at = hlevel codes

other_prop : (game : GameOf) (i : ℕ) (t : Other) → IsProp (IsOtherForm game i t)
other_prop game i t = hlevel (codes, place_prop)

cross_prop : (game : GameOf) (i columns : ℕ) (t : CrossTerm) → IsProp (IsCrossForm game i columns t)
cross_prop game i columns t = hlevel codes

player_prop : (game : GameOf) (i : ℕ) (player : PlayerOf) → IsProp (IsPlayerForm game i player)
player_prop game i player = hlevel (
  codes,
  terms_prop,
  var_prop,
  row_prop,
  pair_prop,
  cross_prop,
  other_prop,
)

pub IsGame-prop : (game : GameOf) → IsProp (IsGame game)
IsGame-prop game = hlevel (codes, player_prop)
