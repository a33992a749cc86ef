-- Sizes of numbers, by which sums stay within 128 bits.
use Rattle.std.specs.Prelude.{◌≡◌, ℕ, ◌<◌, ◌≤◌, ℤ, pos, unsigned_abs, length}
use Rattle.std.specs.List.{All}
use Rattle.zr_base.specs.Points.{PointOf, num_of}
use Rattle.zr_base.specs.Terms.{coef_at}
use Rattle.zr_game.specs.declared.player.CrossTerm.{CrossTerm}
use Rattle.zr_game.specs.Players.{PlayerOf}
use Rattle.zr_boxes.specs.Boxes.{BoxOf}
use Rattle.zr_boxes.specs.Ranges.{range_of}

-- no further from 0 than n
abbrev pub IsUpTo : ℕ → ℤ → Type 0
IsUpTo n z = unsigned_abs z ≤ n

-- the greatest number of a game
abbrev pub number_size : ℕ
number_size = 1000000000

-- the greatest product of two such numbers
abbrev pub product_size : ℕ
product_size = 1000000000000000000

-- the greatest slope: a number and 65,536 products
abbrev pub slope_size : ℕ
slope_size = 65536000000001000000000

-- the greatest part of a variable in a gain: a slope times the difference of two numbers
abbrev pub part_size : ℕ
part_size = 131072000000002000000000000000000

-- both ends of the variable's range are numbers of a game
pub record HasNearRange (box : BoxOf) (i v : ℕ) : Type 0 where
  pub low : IsUpTo number_size (range_of box i v).low
  pub high : IsUpTo number_size (range_of box i v).high

-- so are the number of a cross term and the ends of its other variable
pub record IsNearTerm (box : BoxOf) (t : CrossTerm) : Type 0 where
  pub coef : IsUpTo number_size t.coef
  pub other : HasNearRange box t.player t.var

-- so it is in all that a player's slope and its gain are made of
pub record IsNearPlayer (player : PlayerOf) (i : ℕ) (box : BoxOf) : Type 0 where
  pub few : length player.cross ≤ 65536
  pub var_count : length player.vars ≤ 64
  pub cost : (v : ℕ) → IsUpTo number_size (coef_at player.cost v)
  pub cross : All (IsNearTerm box) player.cross
  pub own : (v : ℕ) → v < length player.vars → HasNearRange box i v

-- a whole point with a number for each variable, none above the greatest number of a game
pub record IsNearPoint (player : PlayerOf) (x : PointOf) : Type 0 where
  pub whole : x.den ≡ pos 1
  pub len : length x.num ≡ length player.vars
  pub size : (v : ℕ) → v < length player.vars → IsUpTo number_size (num_of x v)
