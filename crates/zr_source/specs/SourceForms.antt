-- What every source keeps: its numbers are within the limits, each of them that names something
-- names what exists, and names keep their rule and differ.
use Rattle.std.specs.Prelude.{◌≡◌, ℕ, ◌+◌, ◌<◌, ◌≤◌, ℤ, pos, false, None, List, [], ◌∷◌, length, map, slice_get, Some}
use Rattle.std.specs.List.{All, AllPairs}
use Rattle.std.specs.Ordering.{nat_cmp, ordering_then}
use Rattle.std.specs.declared.cmp.Ordering.{Ordering}
use Rattle.std.specs.declared.cmp.Ordering.TheVariants.{Less}
use Rattle.zr_game.specs.Players.{PlayerOf, VarOf}
use Rattle.zr_game.specs.Forms.{AreTerms, IsCoefficient, IsGame, IsRowForm}
use Rattle.zr_source.specs.Sources.{FollowerOf, IsLeader, IsOwn, LeaderOf, SourceOf, bases}
use Rattle.zr_source.specs.Names.{AreNames, leader_name, var_name}

-- a cross term: an own variable, and one of the leader's that isn't the follower's own
pub record IsFollowerCross (follower : FollowerOf) (columns : ℕ) (t : ℕ × ℕ × ℤ) : Type 0 where
  pub own : IsOwn follower t.0
  pub var : t.1 < columns
  pub other : IsOwn follower t.1 → ⊥
  pub coef : IsCoefficient t.2

-- the order of a follower's cross terms: by own variable, then by the other
abbrev pub follower_cross_order : ℕ × ℕ × ℤ → ℕ × ℕ × ℤ → Ordering
follower_cross_order s t = ordering_then (nat_cmp s.0 t.0) (nat_cmp s.1 t.1)

-- over a leader with so many variables
pub record IsFollowerForm (columns : ℕ) (follower : FollowerOf) : Type 0 where
  pub vars_exist : follower.first + follower.count ≤ columns
  pub row_count : length follower.rows ≤ 32
  pub cross_count : length follower.cross ≤ 65536
  pub rows : All (IsRowForm columns) follower.rows
  pub cost : AreTerms columns follower.cost
  pub cross : All (IsFollowerCross follower columns) follower.cross
  pub cross_ascends : AllPairs (λ s t. follower_cross_order s t ≡ Less) follower.cross

-- where the followers' variables begin
abbrev pub first_of : ℕ → List FollowerOf → ℕ
first_of columns [] = columns
first_of columns (follower ∷ followers) = follower.first

-- the followers' variables stand one after another, and are the last
abbrev pub StandInOrder : ℕ → List FollowerOf → Type 0
StandInOrder columns [] = Unit {0}
StandInOrder columns (follower ∷ followers) =
    (follower.first + follower.count ≡ first_of columns followers) × StandInOrder columns followers

-- the follower's variables are continuous, with low 0 and without an upper bound
abbrev pub AreFree : PlayerOf → FollowerOf → Type 0
AreFree base follower =
    (v : ℕ) (var : VarOf) → IsOwn follower v → slice_get base.vars v ≡ Some var
    → (var.whole ≡ false) × (var.low ≡ Some (pos 0)) × (var.up ≡ None)

-- at most 16 followers, whose variables are the last: the leader has at least one of its own
pub record IsLeaderForm (leader : LeaderOf) : Type 0 where
  pub follower_count : length leader.followers ≤ 16
  pub own_var : 1 ≤ first_of (length leader.base.vars) leader.followers
  pub followers : All (IsFollowerForm (length leader.base.vars)) leader.followers
  pub order : StandInOrder (length leader.base.vars) leader.followers
  pub free : All (AreFree leader.base) leader.followers
  pub names : AreNames (map var_name leader.base.vars)

pub record IsSource (source : SourceOf) : Type 0 where
  pub bases : IsGame (bases source)
  pub leaders : (i : ℕ) (leader : LeaderOf) → IsLeader source i leader → IsLeaderForm leader
  pub names : AreNames (map leader_name source)
