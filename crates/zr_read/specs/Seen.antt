-- What the code's values of a game's parts are read as.
use Rattle.std.specs.Prelude.{◌≡◌, List, map, string_bytes}
use Rattle.serde_json.specs.View.{view}
use Rattle.zr_base.specs.Rows.{row_of}
use Rattle.zr_game.specs.Players.{PlayerOf, pair_of, var_of}
use Rattle.zr_source.specs.Sources.{FollowerOf, LeaderOf}
use Rattle.zr_source.specs.Names.{var_name}
use Rattle.zr_read.specs.declared.others.OtherTerms.{OtherTerms}
use Rattle.zr_read.specs.declared.costs.Costs.{Costs}
use Rattle.zr_value.specs.declared.variables.Vars.{Vars}
use Rattle.zr_read.specs.declared.headings.FollowerHeading.{FollowerHeading}
use Rattle.zr_read.specs.declared.headings.Members.{Members}
use Rattle.zr_read.specs.declared.headings.Heading.{Heading}
use Rattle.zr_read.specs.declared.players.Body.{Body}
use Rattle.zr_read.specs.Costs.{CostsOf, OthersOf}
use Rattle.zr_read.specs.Followers.{FollowerHeadingOf, MembersOf}
use Rattle.zr_read.specs.Passes.{HeadingOf, player_of_parts}

abbrev pub others_of : OtherTerms → OthersOf
others_of others = record { singles = others.singles.entries; products = others.products.entries }

abbrev pub costs_of : Costs → CostsOf
costs_of costs = record {
  cost = costs.cost.items;
  cross = costs.cross.items;
  others = costs.others.items;
}

-- the names are those of the variables
abbrev pub IsNamedBy : Vars → Type 0
IsNamedBy vars = vars.names ≡ map var_name (map var_of vars.list.items)

abbrev pub follower_heading_of : FollowerHeading → FollowerHeadingOf
follower_heading_of h = record { first = h.first; count = h.count; value = view h.value.now }

abbrev pub members_of : Members → MembersOf
members_of m = record {
  vars = map var_of m.vars.list.items;
  followers = map follower_heading_of m.followers.items;
}

abbrev pub heading_of : Heading → HeadingOf
heading_of h = record {
  name = string_bytes h.name;
  aim = h.aim;
  members = record {
    vars = map var_of h.vars.items;
    followers = map follower_heading_of h.followers.items;
  };
  value = view h.value.now;
}

-- a player of these parts
abbrev pub body_of : HeadingOf → Body → PlayerOf
body_of h body = player_of_parts h (map row_of body.rows.items) (map pair_of body.pairs.items)
    (costs_of body.costs)

abbrev pub leader_from : PlayerOf → List FollowerOf → LeaderOf
leader_from base followers = record { base = base; followers = followers }
