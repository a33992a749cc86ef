-- What stands in a game's value: two passes over its players, the first for names and variables,
-- the second for rows, pairs and costs.
use Rattle.std.specs.Prelude.{ℕ, List, [], ◌∷◌, ◌++◌, map, length, Ok, codes}
use Rattle.serde_json.specs.Data.{Data}
use Rattle.zr_base.specs.Rows.{RowOf}
use Rattle.zr_game.specs.Players.{Name, PairOf, PlayerOf}
use Rattle.zr_source.specs.Sources.{LeaderOf, SourceOf}
use Rattle.zr_source.specs.Names.{var_name}
use Rattle.zr_value.specs.Faults.{Read, under, ◌>>=◌}
use Rattle.zr_value.specs.Values.{object_in, needed, optional, listed, each}
use Rattle.zr_value.specs.Names.{new_name_in, names_at}
use Rattle.zr_value.specs.declared.format.GameFormat.{GameFormat}
use Rattle.zr_value.specs.declared.format.Aim.{Aim}
use Rattle.zr_value.specs.Formats.{aim_of_in, format_in}
use Rattle.zr_value.specs.Variables.{variables_in}
use Rattle.zr_read.specs.Rows.{rows_in, pairs_in}
use Rattle.zr_read.specs.Costs.{CostsOf, costs_in}
use Rattle.zr_read.specs.Followers.{MembersOf, alone, follower_headings_in, followers_in}

-- ---- the first pass

-- a player's name, aim, variables and followers, and its value
pub record HeadingOf : Type 0 where
  pub name : Name
  pub aim : Aim
  pub members : MembersOf
  pub value : Data

abbrev pub heading_name : HeadingOf → Name
heading_name h = h.name

abbrev pub variable_names : HeadingOf → List Name
variable_names h = map var_name h.members.vars

-- the heading of a player after those of these names
abbrev pub heading_in : GameFormat → List Name → Data → Read HeadingOf
heading_in f before d = do
  o ← object_in d
  name ← needed (codes "name") (new_name_in before) d
  aim ← aim_of_in f d
  own ← needed (codes "vars") (variables_in f) d
  members ← optional (codes "followers") (alone own) (follower_headings_in own) d
  Ok (record { name = name; aim = aim; members = members; value = d })

-- one player more; none may have the name `taken`
abbrev pub add_heading : GameFormat → Name → List HeadingOf → Data → Read (List HeadingOf)
add_heading f taken before d = do
  h ← heading_in f (taken ∷ map heading_name before) d
  Ok (before ++ h ∷ [])

-- ---- the second pass

abbrev pub player_of_parts : HeadingOf → List RowOf → List PairOf → CostsOf → PlayerOf
player_of_parts h rows pairs costs = record {
  name = h.name;
  vars = h.members.vars;
  rows = rows;
  pairs = pairs;
  cost = costs.cost;
  cross = costs.cross;
  others = costs.others;
}

-- player i, with at most `most` cross terms
abbrev pub player_in : GameFormat → ℕ → List Name → List (List Name) → ℕ → HeadingOf → Read PlayerOf
player_in f most players variables i h = do
  rows ← optional (codes "rows") [] (rows_in f 256 (names_at variables i)) h.value
  pairs ← optional (codes "pairs") [] (pairs_in (names_at variables i) h.members.vars) h.value
  costs ← costs_in most players variables i h.aim h.value
  Ok (player_of_parts h rows pairs costs)

abbrev pub leader_in : GameFormat → ℕ → List Name → List (List Name) → ℕ → HeadingOf → Read LeaderOf
leader_in f most players variables i h = do
  base ← player_in f most players variables i h
  followers ← under (codes "followers")
      (followers_in f (names_at variables i) h.members.followers)
  Ok (record { base = base; followers = followers })

abbrev pub add_leader : GameFormat → ℕ → List Name → List (List Name) → List LeaderOf → HeadingOf
    → Read (List LeaderOf)
add_leader f most players variables before h = do
  leader ← leader_in f most players variables (length before) h
  Ok (before ++ leader ∷ [])

-- ---- the game

-- both passes over the players' values
abbrev pub leaders_in : GameFormat → ℕ → Name → List Data → Read SourceOf
leaders_in f cross taken ds = do
  headings ← each (add_heading f taken) 0 [] ds
  each (add_leader f cross (map heading_name headings) (map variable_names headings)) 0 [] headings

-- 1 to `most` players, each with at most `cross` cross terms, none with the name `taken`
abbrev pub players_in : GameFormat → ℕ → ℕ → Name → Data → Read SourceOf
players_in f most cross taken d = do
  ds ← listed 1 most d
  leaders_in f cross taken ds

-- the member `players`
abbrev pub players_of_in : GameFormat → ℕ → ℕ → Name → Data → Read SourceOf
players_of_in f most cross taken d = needed (codes "players") (players_in f most cross taken) d

-- a game's value
abbrev pub source_in : Data → Read SourceOf
source_in d = do
  o ← object_in d
  f ← needed (codes "format") format_in d
  players_of_in f 16 65536 [] d
