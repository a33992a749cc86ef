-- The value of a leader by its parts.
use Rattle.std.specs.Prelude.{◌≡◌, ℕ, Bool, codes}
use Rattle.serde_json.specs.Data.{Data, Members, no_members, member, object, string}
use Rattle.serde_json.specs.View.{view}
use Rattle.zr_source.specs.Sources.{LeaderOf, SourceOf}
use Rattle.zr_write.specs.declared.leaders.Parts.{Parts}
use Rattle.zr_write.specs.Canonical.{cross_data, follower_data, list_data, own_vars, pair_data, row_data, terms_data, variable_data, variable_names}

-- the parts are those of leader i of the source
pub record ArePartsOf (lows : Bool) (source : SourceOf) (i : ℕ) (leader : LeaderOf) (parts : Parts) : Type 0 where
  pub cost : view parts.cost ≡ terms_data (variable_names leader) leader.base.cost
  pub cross : view parts.cross ≡ list_data (cross_data source i) leader.base.cross
  pub followers : view parts.followers
      ≡ list_data (follower_data (variable_names leader)) leader.followers
  pub name : view parts.name ≡ string leader.base.name
  pub pairs : view parts.pairs ≡ list_data (pair_data (variable_names leader)) leader.base.pairs
  pub rows : view parts.rows ≡ list_data (row_data (variable_names leader)) leader.base.rows
  pub vars : view parts.vars ≡ list_data (variable_data lows) (own_vars leader)

-- the members after `others`
abbrev pub rest_of_leader : Parts → Members
rest_of_leader parts = member (codes "pairs") (view parts.pairs)
    (member (codes "rows") (view parts.rows) (member (codes "vars") (view parts.vars) no_members))

-- the whole, with these members after the name
abbrev pub whole_leader : Parts → Members → Data
whole_leader parts rest = object (member (codes "cost") (view parts.cost)
    (member (codes "cross") (view parts.cross) (member (codes "followers") (view parts.followers)
    (member (codes "name") (view parts.name) rest))))
