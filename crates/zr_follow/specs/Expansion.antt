-- Leaders as players: each follower's optimality replaced by multipliers of its rows and by pairs.
use Rattle.std.specs.Prelude.{◌≡◌, ℕ, zero, suc, ◌+◌, ◌==◌, ◌<◌, ◌≤◌, pos, neg_ℤ, false, Some, None, if◌then◌else◌, List, [], ◌∷◌, ◌++◌, map, length, replicate}
use Rattle.std.specs.List.{All, filter}
use Rattle.std.specs.Ordering.{int_eq}
use Rattle.zr_base.specs.Terms.{Terms, coef_at}
use Rattle.zr_base.specs.Rows.{RowOf}
use Rattle.zr_game.specs.Players.{GameOf, PairOf, PlayerOf, VarOf}
use Rattle.zr_game.specs.Forms.{IsPlayer}
use Rattle.zr_source.specs.Sources.{FollowerOf, IsLeader, LeaderOf, SourceOf}

-- the follower's cross terms of own variable j, by their other variable
abbrev pub cross_terms : FollowerOf → ℕ → Terms
cross_terms follower j = map (λ t. (t.1, t.2)) (filter (λ t. t.0 == j) follower.cross)

-- the number of variable j in each row that has one, at the row's multiplier. The first multiplier
-- is column `from`
abbrev pub row_terms : ℕ → ℕ → List RowOf → Terms
row_terms from j [] = []
row_terms from j (row ∷ rows) =
    if int_eq (coef_at row.coef j) (pos 0) then row_terms (suc from) j rows
    else (from, coef_at row.coef j) ∷ row_terms (suc from) j rows

-- variable j, and the follower's slope there plus its rows' numbers times their multipliers
abbrev pub var_pair : ℕ → FollowerOf → ℕ → PairOf
var_pair from follower j = record {
  var = j;
  coef = cross_terms follower j ++ row_terms from j follower.rows;
  add = coef_at follower.cost j;
}

-- the multiplier at column `from`, and what its row leaves
abbrev pub row_pair : ℕ → RowOf → PairOf
row_pair from row = record {
  var = from;
  coef = map (λ t. (t.0, neg_ℤ t.1)) row.coef;
  add = row.le;
}

-- a pair for each of n variables from j on
abbrev pub var_pairs : ℕ → FollowerOf → ℕ → ℕ → List PairOf
var_pairs from follower j zero = []
var_pairs from follower j (suc n) = var_pair from follower j ∷ var_pairs from follower (suc j) n

-- a pair for each row
abbrev pub row_pairs : ℕ → List RowOf → List PairOf
row_pairs from [] = []
row_pairs from (row ∷ rows) = row_pair from row ∷ row_pairs (suc from) rows

abbrev pub follower_pairs : ℕ → FollowerOf → List PairOf
follower_pairs from follower =
    var_pairs from follower follower.first follower.count ++ row_pairs from follower.rows

-- follower by follower, with a multiplier for each row
abbrev pub all_pairs : ℕ → List FollowerOf → List PairOf
all_pairs from [] = []
all_pairs from (follower ∷ followers) =
    follower_pairs from follower ++ all_pairs (from + length follower.rows) followers

-- one multiplier per row
abbrev pub multipliers : List FollowerOf → ℕ
multipliers [] = 0
multipliers (follower ∷ followers) = length follower.rows + multipliers followers

-- a multiplier without a name
abbrev pub unnamed : VarOf
unnamed = record { name = []; whole = false; low = Some (pos 0); up = None }

-- the leader as a player: its multipliers stand after its variables, and its followers' pairs after
-- its own
abbrev pub expanded : LeaderOf → PlayerOf
expanded leader = record {
  name = leader.base.name;
  vars = leader.base.vars ++ replicate (multipliers leader.followers) unnamed;
  rows = leader.base.rows;
  pairs = leader.base.pairs ++ all_pairs (length leader.base.vars) leader.followers;
  cost = leader.base.cost;
  cross = leader.base.cross;
  others = leader.base.others;
}

-- each leader as a player
abbrev pub expansion : SourceOf → GameOf
expansion source = map expanded source

-- a pair for each variable and each row
abbrev pub added_pairs : List FollowerOf → ℕ
added_pairs [] = 0
added_pairs (follower ∷ followers) = follower.count + length follower.rows + added_pairs followers

-- how many variables and pairs the expanded leader has
abbrev pub var_count : LeaderOf → ℕ
var_count leader = length leader.base.vars + multipliers leader.followers

abbrev pub pair_count : LeaderOf → ℕ
pair_count leader = length leader.base.pairs + added_pairs leader.followers

-- the expanded leader has at most 64 variables and 32 pairs
abbrev pub IsWithinCounts : LeaderOf → Type 0
IsWithinCounts leader = (var_count leader ≤ 64) × (pair_count leader ≤ 32)

-- i is the first leader that isn't
abbrev pub IsFirstPast : SourceOf → ℕ → Type 0
IsFirstPast source i =
    ((leader : LeaderOf) × IsLeader source i leader × (IsWithinCounts leader → ⊥))
    × ((k : ℕ) (leader : LeaderOf) → k < i → IsLeader source k leader → IsWithinCounts leader)
