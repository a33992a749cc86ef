-- The steps by which means, slopes, values and claims are made, each of which may be too wide.
use Rattle.std.specs.Prelude.{◌≡◌, ℕ, ◌+◌, ◌==◌, ℤ, pos, neg_ℤ, int_div, unsigned_abs, Option, Some, None, List, [], ◌∷◌, ◌++◌, length, slice_index_or, take, Result, Ok, Err}
use Rattle.std.specs.List.{filter, zip}
use Rattle.zr_base.specs.declared.step.Wide.{Wide}
use Rattle.zr_base.specs.Steps.{cross_of, ◌>>=◌}
use Rattle.zr_base.specs.Fractions.{Fraction, whole}
use Rattle.zr_base.specs.Lowest.{gcd_of, reduce, mul_of}
use Rattle.zr_base.specs.Terms.{coef_at}
use Rattle.zr_base.specs.Points.{num_of}
use Rattle.zr_game.specs.Players.{GameOf, PlayerOf}
use Rattle.zr_game.specs.CostSteps.{sum_made}
use Rattle.zr_game.specs.Profiles.{Part, Strategy}
use Rattle.zr_game.specs.declared.player.CrossTerm.{CrossTerm}
use Rattle.zr_game.specs.declared.player.Other.{Other}

-- a part's share of the mean of variable v: `weight / total` times the value
abbrev pub share : ℤ → ℕ → Part → Result Fraction Wide
share total v part = mul_of (reduce part.weight total) (reduce (num_of part.point v) part.point.den)

-- the sum of the shares, in the order of the parts
abbrev pub mean_steps : ℤ → Strategy → ℕ → Result Fraction Wide
mean_steps total parts v = sum_made (share total v) (whole (pos 0)) parts

-- the number of a player's variable when the variables of all players are numbered one after
-- another
abbrev pub var_total : GameOf → ℕ
var_total [] = 0
var_total (player ∷ players) = length player.vars + var_total players

abbrev pub place_of : GameOf → ℕ → ℕ → ℕ
place_of game k v = var_total (take k game) + v

-- the mean of a player's variable, in the list of all players' means
abbrev pub mean_in : GameOf → List Fraction → ℕ × ℕ → Fraction
mean_in game means at = slice_index_or means (place_of game at.0 at.1) (whole (pos 0))

-- a cross term's number times the other variable's mean
abbrev pub slope_term : GameOf → List Fraction → CrossTerm → Result Fraction Wide
slope_term game means t = mul_of (whole t.coef) (mean_in game means (t.player, t.var))

-- the own number of v, and then its cross terms in their order
abbrev pub slope_steps : GameOf → PlayerOf → List Fraction → ℕ → Result Fraction Wide
slope_steps game player means v =
    sum_made (slope_term game means) (whole (coef_at player.cost v))
    (filter (λ t. t.own == v) player.cross)

-- a times the mean of the variable at the place, if there is one
abbrev pub times_mean : GameOf → List Fraction → Fraction → Option (ℕ × ℕ) → Result Fraction Wide
times_mean game means a None = Ok a
times_mean game means a (Some at) = mul_of a (mean_in game means at)

-- a number times the first mean, and that times the second, if there is one
abbrev pub rest_term : GameOf → List Fraction → Other → Result Fraction Wide
rest_term game means t = do
  first ← mul_of (whole t.coef) (mean_in game means t.first)
  times_mean game means first t.second

-- the sum of the terms in the others' variables alone, from 0 on
abbrev pub rest_steps : GameOf → PlayerOf → List Fraction → Result Fraction Wide
rest_steps game player means = sum_made (rest_term game means) (whole (pos 0)) player.others

-- the sum of slope times mean
abbrev pub value_steps : List Fraction → List Fraction → Result Fraction Wide
value_steps slope mean = sum_made (λ p. mul_of p.0 p.1) (whole (pos 0)) (zip slope mean)

-- a common multiple is carried through the denominators
abbrev pub multiple_steps : ℤ → List Fraction → Result ℤ Wide
multiple_steps m [] = Ok m
multiple_steps m (f ∷ fs) =
    cross_of (m, int_div f.den (pos (gcd_of (unsigned_abs m) (unsigned_abs f.den)))) (pos 0, pos 0)
    >>= λ r. multiple_steps r fs

-- the negated number over the common multiple m
abbrev pub negated_over : ℤ → Fraction → Result ℤ Wide
negated_over m f = cross_of (neg_ℤ f.num, int_div m f.den) (pos 0, pos 0)

abbrev pub all_negated : ℤ → List Fraction → Result (List ℤ) Wide
all_negated m [] = Ok []
all_negated m (f ∷ fs) = negated_over m f >>= λ a. all_negated m fs >>= λ rest. Ok (a ∷ rest)

-- the claim `-m * slope * x <= -m * value`: its left side and its right side
abbrev pub claim_steps : List Fraction → Fraction → Result (List ℤ × ℤ) Wide
claim_steps slope value = do
  m ← multiple_steps (pos 1) (slope ++ value ∷ [])
  left ← all_negated m slope
  right ← negated_over m value
  Ok (left, right)

-- the claim was written, or the step was too wide
abbrev pub GivesClaim : Result (List ℤ × ℤ) Wide → Result ℤ Wide → List ℤ → Type 0
GivesClaim (Ok claim) result left = (result ≡ Ok claim.1) × (left ≡ claim.0)
GivesClaim (Err w) result left = result ≡ Err w
