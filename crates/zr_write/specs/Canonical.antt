-- The JSON value of a source: all members in the order of their names, and lists in the order of
-- the source.
use Rattle.std.specs.Prelude.{ℕ, ◌+◌, Bool, true, false, ℤ, List, [], ◌∷◌, map, take, drop, length, Option, Some, None, codes, slice_index_or}
use Rattle.serde_json.specs.Data.{Data, null, boolean, number, string, array, object, Members, no_members, member}
use Rattle.serde_json.specs.Find.{of_integer}
use Rattle.serde_json.specs.View.{items_of}
use Rattle.zr_base.specs.Terms.{Terms}
use Rattle.zr_base.specs.Rows.{RowOf}
use Rattle.zr_game.specs.declared.player.CrossTerm.{CrossTerm}
use Rattle.zr_game.specs.declared.player.Other.{Other}
use Rattle.zr_game.specs.Players.{Name, PairOf, VarOf}
use Rattle.zr_source.specs.Sources.{FollowerOf, LeaderOf, SourceOf}
use Rattle.zr_source.specs.SourceForms.{first_of}
use Rattle.zr_source.specs.Names.{leader_name, var_name}

-- ---- numbers, lists and names

abbrev pub whole_data : ℤ → Data
whole_data z = number (of_integer z)

-- the list of what stands for each
abbrev pub list_data : {A : Type 0} → (A → Data) → List A → Data
list_data data_of xs = array (items_of (map data_of xs))

-- the list of these parts
abbrev pub parts_data : List Data → Data
parts_data ds = array (items_of ds)

-- the name of a number
abbrev pub name_at : List Name → ℕ → Name
name_at names v = slice_index_or names v []

-- a number given by its name
abbrev pub name_data : List Name → ℕ → Data
name_data names v = string (name_at names v)

-- the names of a leader's variables, those of its followers included
abbrev pub variable_names : LeaderOf → List Name
variable_names leader = map var_name leader.base.vars

-- the names of leader j's variables
abbrev pub names_of : SourceOf → ℕ → List Name
names_of source j = slice_index_or (map variable_names source) j []

-- the name of leader j
abbrev pub player_data : SourceOf → ℕ → Data
player_data source j = name_data (map leader_name source) j

-- ---- variables, rows and pairs

-- a lower bound, or `null` where there is none
abbrev pub low_data : Option ℤ → Data
low_data None = null
low_data (Some z) = whole_data z

-- `low` is there in format 2
abbrev pub low_member : Bool → Option ℤ → Members → Members
low_member false low rest = rest
low_member true low rest = member (codes "low") (low_data low) rest

-- `up` is there where there is a bound
abbrev pub up_member : Option ℤ → Members
up_member None = no_members
up_member (Some z) = member (codes "up") (whole_data z) no_members

abbrev pub variable_data : Bool → VarOf → Data
variable_data lows var = object (member (codes "int") (boolean var.whole)
    (low_member lows var.low (member (codes "name") (string var.name) (up_member var.up))))

abbrev pub term_data : List Name → ℕ × ℤ → Data
term_data names t = parts_data (name_data names t.0 ∷ whole_data t.1 ∷ [])

abbrev pub terms_data : List Name → Terms → Data
terms_data names ts = list_data (term_data names) ts

abbrev pub row_data : List Name → RowOf → Data
row_data names row = object (member (codes "le") (whole_data row.le)
    (member (codes "terms") (terms_data names row.coef) no_members))

abbrev pub pair_data : List Name → PairOf → Data
pair_data names pair = object (member (codes "add") (whole_data pair.add)
    (member (codes "terms") (terms_data names pair.coef)
    (member (codes "var") (name_data names pair.var) no_members)))

-- ---- costs

-- a cross term of leader i
abbrev pub cross_data : SourceOf → ℕ → CrossTerm → Data
cross_data source i t = parts_data (name_data (names_of source i) t.own ∷ player_data source t.player
    ∷ name_data (names_of source t.player) t.var ∷ whole_data t.coef ∷ [])

-- a term in one of the others' variables, or in two
abbrev pub other_parts : SourceOf → ℕ × ℕ → Option (ℕ × ℕ) → ℤ → List Data
other_parts source a None z = player_data source a.0 ∷ name_data (names_of source a.0) a.1
    ∷ whole_data z ∷ []
other_parts source a (Some b) z = player_data source a.0 ∷ name_data (names_of source a.0) a.1
    ∷ player_data source b.0 ∷ name_data (names_of source b.0) b.1 ∷ whole_data z ∷ []

abbrev pub other_data : SourceOf → Other → Data
other_data source t = parts_data (other_parts source t.first t.second t.coef)

-- `others` is there where it isn't empty
abbrev pub others_member : SourceOf → List Other → Members → Members
others_member source [] rest = rest
others_member source (t ∷ ts) rest =
    member (codes "others") (list_data (other_data source) (t ∷ ts)) rest

-- ---- followers

-- a cross term of a follower
abbrev pub follower_cross_data : List Name → ℕ × ℕ × ℤ → Data
follower_cross_data names t =
    parts_data (name_data names t.0 ∷ name_data names t.1 ∷ whole_data t.2 ∷ [])

-- a follower of a leader whose variables have these names
abbrev pub follower_data : List Name → FollowerOf → Data
follower_data names follower = object
    (member (codes "cost") (terms_data names follower.cost)
    (member (codes "cross") (list_data (follower_cross_data names) follower.cross)
    (member (codes "rows") (list_data (row_data names) follower.rows)
    (member (codes "vars")
    (list_data (λ name. string name) (take follower.count (drop follower.first names)))
    no_members))))

-- ---- leaders and sources

-- the variables before those of the followers
abbrev pub own_vars : LeaderOf → List VarOf
own_vars leader =
    take (first_of (length leader.base.vars) leader.followers) leader.base.vars

-- leader i of the source
abbrev pub leader_data : Bool → SourceOf → ℕ → LeaderOf → Data
leader_data lows source i leader = object
    (member (codes "cost") (terms_data (variable_names leader) leader.base.cost)
    (member (codes "cross") (list_data (cross_data source i) leader.base.cross)
    (member (codes "followers") (list_data (follower_data (variable_names leader)) leader.followers)
    (member (codes "name") (string leader.base.name)
    (others_member source leader.base.others
    (member (codes "pairs") (list_data (pair_data (variable_names leader)) leader.base.pairs)
    (member (codes "rows") (list_data (row_data (variable_names leader)) leader.base.rows)
    (member (codes "vars") (list_data (variable_data lows) (own_vars leader)) no_members))))))))

-- the leaders from number i on
abbrev pub leaders_data : Bool → SourceOf → ℕ → List LeaderOf → List Data
leaders_data lows source i [] = []
leaders_data lows source i (leader ∷ leaders) =
    leader_data lows source i leader ∷ leaders_data lows source (i + 1) leaders

abbrev pub format_text : Bool → List ℕ
format_text false = codes "zero-game/1"
format_text true = codes "zero-game/2"

-- a source in format 2 with the lower bounds, or in format 1 without them
abbrev pub source_data : Bool → SourceOf → Data
source_data lows source = object (member (codes "format") (string (format_text lows))
    (member (codes "players") (parts_data (leaders_data lows source 0 source)) no_members))
