-- The cost of a player at one point per player.
use Rattle.std.specs.Prelude.{ℕ, ℤ, pos, List, [], slice_index_or}
use Rattle.std.specs.Option.{option_map_or}
use Rattle.zr_base.specs.Fractions.{Fraction, whole, plus, times, sum_over}
use Rattle.zr_base.specs.Points.{PointOf, value_of}
use Rattle.zr_game.specs.declared.player.CrossTerm.{CrossTerm}
use Rattle.zr_game.specs.declared.player.Other.{Other}
use Rattle.zr_game.specs.Players.{PlayerOf}

-- the point of player k
abbrev pub point_of : List PointOf → ℕ → PointOf
point_of points k = slice_index_or points k (record { num = []; den = pos 1 })

-- the value of variable v of player k
abbrev pub value_at_place : List PointOf → ℕ × ℕ → Fraction
value_at_place points at = value_of (point_of points at.0) at.1

-- a number times an own variable, where these have these values
abbrev pub own_at : (ℕ → Fraction) → ℕ × ℤ → Fraction
own_at own t = times (whole t.1) (own t.0)

-- a number times an own variable times another player's
abbrev pub cross_at : (ℕ → Fraction) → (ℕ × ℕ → Fraction) → CrossTerm → Fraction
cross_at own value t = times (whole t.coef) (times (own t.own) (value (t.player, t.var)))

-- a number times a variable, or times the variables of two players
abbrev pub other_at : (ℕ × ℕ → Fraction) → Other → Fraction
other_at value t =
    let one = times (whole t.coef) (value t.first) in
    option_map_or (λ at. times one (value at)) t.second one

-- what a player's terms in the others' variables alone sum up to
abbrev pub rest_at : PlayerOf → (ℕ × ℕ → Fraction) → Fraction
rest_at player value = sum_over player.others (other_at value)

-- the sum of the own terms, of the cross terms, and of the terms in the others' variables alone
abbrev pub cost_of : PlayerOf → ℕ → List PointOf → Fraction
cost_of player i points =
    let own = value_of (point_of points i) in
    let value = value_at_place points in
    let terms = sum_over player.cost (own_at own) in
    let cross = sum_over player.cross (cross_at own value) in
    plus (plus terms cross) (rest_at player value)
