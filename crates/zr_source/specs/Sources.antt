-- Leaders and their followers: the content of the code's types, without their containers.
use Rattle.std.specs.Prelude.{◌≡◌, ℕ, ◌<◌, ◌≤◌, ◌+◌, ℤ, List, map, slice_get, Some}
use Rattle.zr_base.specs.Terms.{Terms}
use Rattle.zr_base.specs.Rows.{RowOf, row_of}
use Rattle.zr_game.specs.Players.{GameOf, PlayerOf, player_of}
use Rattle.zr_source.specs.declared.source.Follower.{Follower}
use Rattle.zr_source.specs.declared.source.Leader.{Leader}

-- a linear program over the leader's variables first, .., first + count - 1. A cross term is an own
-- variable, another variable of the leader, and a number
pub record FollowerOf : Type 0 where
  pub first : ℕ
  pub count : ℕ
  pub rows : List RowOf
  pub cost : Terms
  pub cross : List (ℕ × ℕ × ℤ)

-- a player, whose variables are its own and then those of its followers
pub record LeaderOf : Type 0 where
  pub base : PlayerOf
  pub followers : List FollowerOf

-- a game as read is the list of its leaders
abbrev pub SourceOf : Type 0
SourceOf = List LeaderOf

abbrev pub follower_of : Follower → FollowerOf
follower_of f = record {
  first = f.first;
  count = f.count;
  rows = map row_of f.rows.items;
  cost = f.cost.items;
  cross = f.cross.items;
}

abbrev pub leader_of : Leader → LeaderOf
leader_of l = record { base = player_of l.base; followers = map follower_of l.followers.items }

abbrev pub leaders_of : List Leader → SourceOf
leaders_of ls = map leader_of ls

-- leader is the source's leader i
abbrev pub IsLeader : SourceOf → ℕ → LeaderOf → Type 0
IsLeader source i leader = slice_get source i ≡ Some leader

-- the leaders as players, without what their followers want
abbrev pub bases : SourceOf → GameOf
bases source = map (λ leader. leader.base) source

-- variable v is one of the follower's own
abbrev pub IsOwn : FollowerOf → ℕ → Type 0
IsOwn follower v = (follower.first ≤ v) × (v < follower.first + follower.count)
