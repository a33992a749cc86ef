-- What every game keeps: its numbers are within the limits, and each of them that names something
-- names what exists.
use Rattle.std.specs.Prelude.{◌≡◌, ◌≢◌, ℕ, ◌<◌, ◌≤◌, ℤ, pos, neg_ℤ, ◌≤ℤ◌, List, length, slice_get, Option, Some, None}
use Rattle.std.specs.Option.{ForSome}
use Rattle.std.specs.List.{All, AllPairs}
use Rattle.std.specs.Ordering.{nat_cmp, ordering_then}
use Rattle.std.specs.declared.cmp.Ordering.{Ordering}
use Rattle.std.specs.declared.cmp.Ordering.TheVariants.{Less, Greater}
use Rattle.zr_base.specs.Terms.{Terms, AscendWith}
use Rattle.zr_base.specs.Rows.{RowOf}
use Rattle.zr_game.specs.declared.player.CrossTerm.{CrossTerm}
use Rattle.zr_game.specs.declared.player.Other.{Other}
use Rattle.zr_game.specs.Players.{GameOf, PlayerOf, PairOf, VarOf}

-- player is the game's player i
abbrev pub IsPlayer : GameOf → ℕ → PlayerOf → Type 0
IsPlayer game i player = slice_get game i ≡ Some player

-- the greatest size of a number in a game
abbrev pub number_limit : ℤ
number_limit = pos 1000000000

abbrev pub IsNumber : ℤ → Type 0
IsNumber z = (neg_ℤ number_limit ≤ℤ z) × (z ≤ℤ number_limit)

-- a number of a term, which isn't zero
abbrev pub IsCoefficient : ℤ → Type 0
IsCoefficient z = IsNumber z × (z ≢ pos 0)

-- terms over so many variables, in their order, each at most once
abbrev pub AreTerms : ℕ → Terms → Type 0
AreTerms columns ts = AscendWith IsCoefficient 0 columns ts

-- the first bound isn't above the second
abbrev pub IsOrdered : Option ℤ → Option ℤ → Type 0
IsOrdered low up = ForSome low (λ l. ForSome up (λ u. l ≤ℤ u))

-- bounds are within the limit, and the upper one isn't below the lower one
pub record IsVarForm (var : VarOf) : Type 0 where
  pub low : ForSome var.low IsNumber
  pub up : ForSome var.up IsNumber
  pub ordered : IsOrdered var.low var.up

pub record IsRowForm (columns : ℕ) (row : RowOf) : Type 0 where
  pub coef : AreTerms columns row.coef
  pub le : IsNumber row.le

pub record IsPairForm (columns : ℕ) (pair : PairOf) : Type 0 where
  pub var : pair.var < columns
  pub coef : AreTerms columns pair.coef
  pub add : IsNumber pair.add

-- where there is a variable v, its lower bound is 0
abbrev pub IsFromZero : List VarOf → ℕ → Type 0
IsFromZero vars v = (var : VarOf) → slice_get vars v ≡ Some var → var.low ≡ Some (pos 0)

-- where the game has a player k, this player has a variable v
abbrev pub HasVar : GameOf → ℕ → ℕ → Type 0
HasVar game k v = (player : PlayerOf) → IsPlayer game k player → v < length player.vars

-- a cross term of player i: an own variable, and one of another player
pub record IsCrossForm (game : GameOf) (i columns : ℕ) (t : CrossTerm) : Type 0 where
  pub own : t.own < columns
  pub player : t.player < length game
  pub other : t.player ≢ i
  pub var : HasVar game t.player t.var
  pub coef : IsCoefficient t.coef

-- the order of cross terms: by own variable, then player, then the player's variable
abbrev pub cross_order : CrossTerm → CrossTerm → Ordering
cross_order s t = ordering_then (ordering_then (nat_cmp s.own t.own) (nat_cmp s.player t.player))
    (nat_cmp s.var t.var)

-- a variable of another player than i
pub record IsOthersVar (game : GameOf) (i : ℕ) (at : ℕ × ℕ) : Type 0 where
  pub player : at.0 < length game
  pub other : at.0 ≢ i
  pub var : HasVar game at.0 at.1

-- a term of player i in the others' variables alone: in one variable, or in those of two players,
-- the lower player first
pub record IsOtherForm (game : GameOf) (i : ℕ) (t : Other) : Type 0 where
  pub first : IsOthersVar game i t.first
  pub second : ForSome t.second (λ at. (t.first.0 < at.0) × IsOthersVar game i at)
  pub coef : IsCoefficient t.coef

-- the order of variables of all players
abbrev pub place_order : ℕ × ℕ → ℕ × ℕ → Ordering
place_order a b = ordering_then (nat_cmp a.0 b.0) (nat_cmp a.1 b.1)

-- terms in one variable come before those in two; each by the first variable, and then by the
-- second
abbrev pub seconds_order : ℕ × ℕ → ℕ × ℕ → Option (ℕ × ℕ) → Option (ℕ × ℕ) → Ordering
seconds_order a b None None = place_order a b
seconds_order a b None (Some y) = Less
seconds_order a b (Some x) None = Greater
seconds_order a b (Some x) (Some y) = ordering_then (place_order a b) (place_order x y)

-- the order of terms in the others' variables
abbrev pub other_order : Other → Other → Ordering
other_order s t = seconds_order s.first t.first s.second t.second

pub record IsPlayerForm (game : GameOf) (i : ℕ) (player : PlayerOf) : Type 0 where
  pub some_var : 1 ≤ length player.vars
  pub var_count : length player.vars ≤ 64
  pub row_count : length player.rows ≤ 256
  pub pair_count : length player.pairs ≤ 32
  pub cross_count : length player.cross ≤ 65536
  pub other_count : length player.others ≤ 65536
  pub vars : All IsVarForm player.vars
  pub rows : All (IsRowForm (length player.vars)) player.rows
  pub pairs : All (IsPairForm (length player.vars)) player.pairs
  pub from_zero : All (λ pair. IsFromZero player.vars pair.var) player.pairs
  pub cost : AreTerms (length player.vars) player.cost
  pub cross : All (IsCrossForm game i (length player.vars)) player.cross
  pub cross_ascends : AllPairs (λ s t. cross_order s t ≡ Less) player.cross
  pub others : All (IsOtherForm game i) player.others
  pub others_ascend : AllPairs (λ s t. other_order s t ≡ Less) player.others

pub record IsGame (game : GameOf) : Type 0 where
  pub some_player : 1 ≤ length game
  pub player_count : length game ≤ 16
  pub players : (i : ℕ) (player : PlayerOf) → IsPlayer game i player → IsPlayerForm game i player
