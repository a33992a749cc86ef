-- The value of a source is read as the source.
use Rattle.std.proofs.Common.{◌≡◌, ℕ, zero, suc, ◌+◌, ◌<◌, ◌≤◌, ℤ, pos, List, [], ◌∷◌, ◌++◌, length, map, take, get_or, refl, sym, ap, subst, ◌∙◌, Ok, Option, Some, None, Bool, true, false, arith, codes, decimal, append-nil}
use Rattle.std.specs.Prelude.{nat_le, slice_get, not, Vec, Result, Err, IfOk}
use Rattle.std.specs.declared.alloc.Global.{Global}
use Rattle.std.specs.List.{All, list_all}
use Rattle.std.proofs.lemmas.Bool.Decides.{nat_tests, Decides-int_eq}
use Rattle.std.proofs.lemmas.List.{get_or-map, get_or-take, get_or_past, length-map, length-take, map-append}
use Rattle.std.proofs.lemmas.Option.{get_or_from_slice_get, slice_get_within, slice_get-get_or, slice_get-map}
use mathlib.Core.List.{append_assoc}
use Rattle.serde_json.specs.Data.{Data, string}
use Rattle.serde_json.specs.Find.{get}
use Rattle.serde_json.proofs.OnLiterals.{serde_json_on_literals}
use Rattle.zr_game.specs.declared.player.CrossTerm.{CrossTerm}
use Rattle.zr_game.specs.declared.player.Other.{Other}
use Rattle.zr_game.specs.Players.{Name, PlayerOf, VarOf}
use Rattle.zr_game.specs.Forms.{AreTerms, IsCrossForm, IsOthersVar, IsPairForm, IsRowForm}
use Rattle.zr_source.specs.Sources.{FollowerOf, LeaderOf, SourceOf, bases}
use Rattle.zr_source.specs.SourceForms.{IsFollowerForm, IsLeaderForm, IsSource, first_of}
use Rattle.zr_source.specs.Names.{AreNames, leader_name, var_name}
use Rattle.zr_value.specs.Faults.{Read, ◌>>=◌, under}
use Rattle.zr_value.specs.Values.{needed, optional, listed, each}
use Rattle.zr_value.specs.Names.{new_name_in, names_at}
use Rattle.zr_value.specs.Terms.{terms_in}
use Rattle.zr_value.proofs.Behind.{both_true, le_from_test}
use Rattle.zr_value.specs.declared.format.GameFormat.{GameFormat}
use Rattle.zr_value.specs.declared.format.Aim.TheVariants.{Min}
use Rattle.zr_value.specs.Formats.{aim_in, aim_of_in, format_in}
use Rattle.zr_value.specs.Variables.{variables_in}
use Rattle.zr_read.specs.Rows.{pairs_in, rows_in}
use Rattle.zr_read.specs.Costs.{CostsOf, costs_in, cross_in, others_in}
use Rattle.zr_read.specs.Followers.{MembersOf, alone, follower_headings_in, followers_in}
use Rattle.zr_read.specs.Passes.{HeadingOf, add_heading, add_leader, heading_in, heading_name, leader_in, leaders_in, player_in, player_of_parts, players_in, players_of_in, source_in}
use Rattle.zr_read.specs.Passes as passes
use Rattle.zr_read.proofs.Naming.{IsNewName, length-push, no_names}
use Rattle.zr_read.proofs.CostForms.{AreCross, AreOthers, IsKey, IsOtherPlace}
use Rattle.zr_write.specs.Canonical.{cross_data, follower_data, format_text, leader_data, leaders_data, list_data, names_of, other_data, own_vars, pair_data, parts_data, row_data, source_data, terms_data, variable_data, variable_names}
use Rattle.zr_read.specs.Texts.{StandsFor}
use Rattle.zr_write.specs.Written.{IsWritten, has_zero_lows, is_zero, needs_lows}
use Rattle.zr_write.proofs.VariablesBack.{IsVar, count_back, format_of, needed_back, new_in_row, new_name_back, optional_back, missing_back, since_missing, then_back, variables_back}
use Rattle.zr_write.proofs.RowsBack.{IsPair, pairs_back, rows_back, terms_back}
use Rattle.zr_write.proofs.CostsBack.{cross_back, others_back}
use Rattle.zr_write.proofs.FollowersBack.{follower_heading, follower_headings_back, followers_back, names_taken}

abbrev players_of : SourceOf → List Name
players_of source = map leader_name source

abbrev variables_of : SourceOf → List (List Name)
variables_of source = map variable_names source

abbrev cross_read : SourceOf → ℕ → Data → Read (List CrossTerm)
cross_read source i = cross_in 65536 (players_of source) (variables_of source) i Min

abbrev others_read : SourceOf → ℕ → Data → Read (List Other)
others_read source i = others_in (players_of source) (variables_of source) i Min

-- ---- the values of leaders

abbrev data_at : Bool → SourceOf → ℕ → LeaderOf → Data
data_at lows source i leader = leader_data lows source i leader

-- the heading of leader i
abbrev heading : Bool → SourceOf → ℕ → LeaderOf → HeadingOf
heading lows source i leader = record {
  name = leader.base.name;
  aim = Min;
  members = record {
    vars = leader.base.vars;
    followers = map (follower_heading (variable_names leader)) leader.followers;
  };
  value = leader_data lows source i leader;
}

abbrev headings : Bool → SourceOf → ℕ → List LeaderOf → List HeadingOf
headings lows source i [] = []
headings lows source i (l ∷ ls) = heading lows source i l ∷ headings lows source (i + 1) ls

-- what the members of a leader's value are
abbrev with_others : Bool → SourceOf → ℕ → LeaderOf → List Other → LeaderOf
with_others lows source i leader others = record {
  base = record {
    name = leader.base.name;
    vars = leader.base.vars;
    rows = leader.base.rows;
    pairs = leader.base.pairs;
    cost = leader.base.cost;
    cross = leader.base.cross;
    others = others;
  };
  followers = leader.followers;
}

module _ (lows : Bool) (source : SourceOf) (i : ℕ) (leader : LeaderOf) where
  name_with : (others : List Other)
      → get (codes "name") (data_at lows source i (with_others lows source i leader others))
      ≡ Some (string leader.base.name)
  unfolding serde_json_on_literals
  name_with [] = refl
  name_with (t ∷ ts) = refl

  aim_with : (others : List Other)
      → get (codes "aim") (data_at lows source i (with_others lows source i leader others)) ≡ None
  unfolding serde_json_on_literals
  aim_with [] = refl
  aim_with (t ∷ ts) = refl

  vars_with : (others : List Other)
      → get (codes "vars") (data_at lows source i (with_others lows source i leader others))
      ≡ Some (list_data (variable_data lows) (own_vars leader))
  unfolding serde_json_on_literals
  vars_with [] = refl
  vars_with (t ∷ ts) = refl

  followers_with : (others : List Other)
      → get (codes "followers") (data_at lows source i (with_others lows source i leader others))
      ≡ Some (list_data (follower_data (variable_names leader)) leader.followers)
  unfolding serde_json_on_literals
  followers_with [] = refl
  followers_with (t ∷ ts) = refl

  rows_with : (others : List Other)
      → get (codes "rows") (data_at lows source i (with_others lows source i leader others))
      ≡ Some (list_data (row_data (variable_names leader)) leader.base.rows)
  unfolding serde_json_on_literals
  rows_with [] = refl
  rows_with (t ∷ ts) = refl

  pairs_with : (others : List Other)
      → get (codes "pairs") (data_at lows source i (with_others lows source i leader others))
      ≡ Some (list_data (pair_data (variable_names leader)) leader.base.pairs)
  unfolding serde_json_on_literals
  pairs_with [] = refl
  pairs_with (t ∷ ts) = refl

  cost_with : (others : List Other)
      → get (codes "cost") (data_at lows source i (with_others lows source i leader others))
      ≡ Some (terms_data (variable_names leader) leader.base.cost)
  unfolding serde_json_on_literals
  cost_with [] = refl
  cost_with (t ∷ ts) = refl

  cross_with : (others : List Other)
      → get (codes "cross") (data_at lows source i (with_others lows source i leader others))
      ≡ Some (list_data (cross_data source i) leader.base.cross)
  unfolding serde_json_on_literals
  cross_with [] = refl
  cross_with (t ∷ ts) = refl

  no_others_there :
      get (codes "others") (data_at lows source i (with_others lows source i leader [])) ≡ None
  unfolding serde_json_on_literals
  no_others_there = refl

  others_there : (t : Other) (ts : List Other)
      → get (codes "others") (data_at lows source i (with_others lows source i leader (t ∷ ts)))
      ≡ Some (list_data (other_data source) (t ∷ ts))
  unfolding serde_json_on_literals
  others_there t ts = refl

  -- `others` may be missing
  others_member_back : (read : Data → Read (List Other)) (others : List Other)
      → read (list_data (other_data source) others) ≡ Ok others
      → optional (codes "others") [] read
      (data_at lows source i (with_others lows source i leader others)) ≡ Ok others
  others_member_back read [] h =
      missing_back (codes "others") [] read
      (data_at lows source i (with_others lows source i leader [])) no_others_there
  others_member_back read (t ∷ ts) h =
      optional_back (codes "others") [] read
      (data_at lows source i (with_others lows source i leader (t ∷ ts)))
      (list_data (other_data source) (t ∷ ts)) (t ∷ ts) (others_there t ts) h

-- ---- one leader

-- a leader whose value can be read
pub record IsReadable (lows : Bool) (players : List Name) (variables : List (List Name)) (i : ℕ)
    (leader : LeaderOf) : Type 0 where
  pub form : IsLeaderForm leader
  pub names : names_at variables i ≡ variable_names leader
  pub narrow : length leader.base.vars ≤ 64
  pub vars : All (IsVar lows) leader.base.vars
  pub row_count : length leader.base.rows ≤ 256
  pub rows : All (IsRowForm (length (variable_names leader))) leader.base.rows
  pub pair_count : length leader.base.pairs ≤ 32
  pub pairs : All (IsPair (variable_names leader) form.names leader.base.vars
      (length-map leader.base.vars var_name)) leader.base.pairs
  pub cost : AreTerms (length (variable_names leader)) leader.base.cost
  pub cross : AreCross players variables i Min leader.base.cross
  pub others : AreOthers players variables i Min leader.base.others

abbrev CanBeRead : Bool → SourceOf → ℕ → LeaderOf → Type 0
CanBeRead lows source i leader =
    IsReadable lows (players_of source) (variables_of source) i leader

first_within : (columns : ℕ) (fs : List FollowerOf) → All (IsFollowerForm columns) fs
    → first_of columns fs ≤ columns
first_within columns [] forms = omega arith
first_within columns (f ∷ fs) forms =
    let exist = (forms 0 f (omega arith)).vars_exist in omega (arith, exist)

taken_forms : (P : VarOf → Type 0) (n : ℕ) (vs : List VarOf) → All P vs → All P (take n vs)
taken_forms P n vs all k d below =
    let l = length-take n vs in
    subst P (sym (get_or-take n vs k d (omega (arith, l, below))))
    (all k d (omega (arith, l, below)))

not_empty : (s : Name) → (before : List Name) → IsNewName before s → IsNewName ([] ∷ before) s
not_empty [] before new = absurd (cc (new.0))
not_empty (b ∷ s) before new = (new.0, new.1)

module _ (lows : Bool) (source : SourceOf) (named : AreNames (map leader_name source))
    (all_named : (j : ℕ) → AreNames (names_of source j)) (i : ℕ) (leader : LeaderOf)
    (is : CanBeRead lows source i leader) where
  abbrev d : Data
  d = leader_data lows source i leader

  own_back : variables_in (format_of lows) (list_data (variable_data lows) (own_vars leader))
      ≡ Ok (own_vars leader)
  own_back =
      let vs = leader.base.vars in
      let n = first_of (length vs) leader.followers in
      let l = length-take n vs in
      let within = first_within (length vs) leader.followers is.form.followers in
      let own = is.form.own_var in
      let narrow = is.narrow in
      variables_back lows (own_vars leader) (omega (arith, l, within, own))
      (omega (arith, l, within, narrow)) (taken_forms (IsVar lows) n vs is.vars)
      (names_taken n vs is.form.names)

  heading_back : (before : List Name) → IsNewName before leader.base.name
      → heading_in (format_of lows) before d ≡ Ok (heading lows source i leader)
  heading_back before new =
      let f = format_of lows in
      let own = own_vars leader in
      let all : MembersOf = record {
        vars = leader.base.vars;
        followers = map (follower_heading (variable_names leader)) leader.followers;
      } in
      let goal : Read HeadingOf = Ok (heading lows source i leader) in
      then_back (needed (codes "name") (new_name_in before) d) leader.base.name
      (λ name. aim_of_in f d >>= λ aim. needed (codes "vars") (variables_in f) d >>= λ own.
      optional (codes "followers") (alone own) (follower_headings_in own) d >>= λ members.
      Ok (record { name = name; aim = aim; members = members; value = d })) goal
      (needed_back (codes "name") (new_name_in before) d (string leader.base.name) leader.base.name
      (name_with lows source i leader leader.base.others)
      (new_name_back before leader.base.name new))
      (then_back (aim_of_in f d) Min
      (λ aim. needed (codes "vars") (variables_in f) d >>= λ own.
      optional (codes "followers") (alone own) (follower_headings_in own) d >>= λ members.
      Ok (record { name = leader.base.name; aim = aim; members = members; value = d })) goal
      (since_missing f (codes "aim") Min aim_in d
      (aim_with lows source i leader leader.base.others))
      (then_back (needed (codes "vars") (variables_in f) d) own
      (λ own. optional (codes "followers") (alone own) (follower_headings_in own) d >>= λ members.
      Ok (record { name = leader.base.name; aim = Min; members = members; value = d })) goal
      (needed_back (codes "vars") (variables_in f) d (list_data (variable_data lows) own) own
      (vars_with lows source i leader leader.base.others) own_back)
      (then_back (optional (codes "followers") (alone own) (follower_headings_in own) d) all
      (λ members. Ok (record { name = leader.base.name; aim = Min; members = members; value = d }))
      goal
      (optional_back (codes "followers") (alone own) (follower_headings_in own) d
      (list_data (follower_data (variable_names leader)) leader.followers) all
      (followers_with lows source i leader leader.base.others)
      (follower_headings_back leader.base is.form.names leader.followers is.form.follower_count
      is.narrow is.form.followers is.form.free is.form.order)) refl)))

  costs_back : costs_in 65536 (players_of source) (variables_of source) i Min d
      ≡ Ok (record {
        cost = leader.base.cost;
        cross = leader.base.cross;
        others = leader.base.others;
      })
  costs_back =
      let p = leader.base in
      let own = names_at (variables_of source) i in
      let goal : Read CostsOf = Ok (record { cost = p.cost; cross = p.cross; others = p.others }) in
      then_back (optional (codes "cost") [] (terms_in own) d) p.cost
      (λ cost. optional (codes "cross") [] (cross_read source i) d >>= λ cross.
      optional (codes "others") [] (others_read source i) d >>= λ others.
      Ok (record { cost = cost; cross = cross; others = others })) goal
      (optional_back (codes "cost") [] (terms_in own) d (terms_data (variable_names leader) p.cost)
      p.cost (cost_with lows source i leader p.others)
      (subst (λ own. terms_in own (terms_data (variable_names leader) p.cost) ≡ Ok p.cost)
      (sym is.names) (terms_back (variable_names leader) is.form.names p.cost is.cost)))
      (then_back (optional (codes "cross") [] (cross_read source i) d) p.cross
      (λ cross. optional (codes "others") [] (others_read source i) d >>= λ others.
      Ok (record { cost = p.cost; cross = cross; others = others })) goal
      (optional_back (codes "cross") [] (cross_read source i) d
      (list_data (cross_data source i) p.cross) p.cross (cross_with lows source i leader p.others)
      (cross_back source i named all_named p.cross is.cross))
      (then_back (optional (codes "others") [] (others_read source i) d) p.others
      (λ others. Ok (record { cost = p.cost; cross = p.cross; others = others })) goal
      (others_member_back lows source i leader (others_read source i) p.others
      (others_back source i named all_named p.others is.others)) refl))

  abbrev head : HeadingOf
  head = heading lows source i leader

  player_back : player_in (format_of lows) 65536 (players_of source) (variables_of source) i head
      ≡ Ok leader.base
  player_back =
      let p = leader.base in
      let f = format_of lows in
      let own = names_at (variables_of source) i in
      let goal : Read PlayerOf = Ok p in
      let costs : CostsOf = record { cost = p.cost; cross = p.cross; others = p.others } in
      then_back (optional (codes "rows") [] (rows_in f 256 own) d) p.rows
      (λ rows. optional (codes "pairs") [] (pairs_in own p.vars) d >>= λ pairs.
      costs_in 65536 (players_of source) (variables_of source) i Min d >>= λ costs.
      Ok (player_of_parts head rows pairs costs)) goal
      (optional_back (codes "rows") [] (rows_in f 256 own) d
      (list_data (row_data (variable_names leader)) p.rows) p.rows
      (rows_with lows source i leader p.others)
      (subst (λ own. rows_in f 256 own (list_data (row_data (variable_names leader)) p.rows)
      ≡ Ok p.rows) (sym is.names)
      (rows_back (variable_names leader) is.form.names f 256 p.rows is.row_count is.rows)))
      (then_back (optional (codes "pairs") [] (pairs_in own p.vars) d) p.pairs
      (λ pairs. costs_in 65536 (players_of source) (variables_of source) i Min d >>= λ costs.
      Ok (player_of_parts head p.rows pairs costs)) goal
      (optional_back (codes "pairs") [] (pairs_in own p.vars) d
      (list_data (pair_data (variable_names leader)) p.pairs) p.pairs
      (pairs_with lows source i leader p.others)
      (subst (λ own. pairs_in own p.vars (list_data (pair_data (variable_names leader)) p.pairs)
      ≡ Ok p.pairs) (sym is.names)
      (pairs_back (variable_names leader) is.form.names p.vars (length-map p.vars var_name) p.pairs
      is.pair_count is.pairs)))
      (then_back (costs_in 65536 (players_of source) (variables_of source) i Min d) costs
      (λ costs. Ok (player_of_parts head p.rows p.pairs costs)) goal costs_back refl))

  leader_back : leader_in (format_of lows) 65536 (players_of source) (variables_of source) i head
      ≡ Ok leader
  leader_back =
      let f = format_of lows in
      let own = names_at (variables_of source) i in
      let hs = map (follower_heading (variable_names leader)) leader.followers in
      let columns = length-map leader.base.vars var_name in
      let each_one : followers_in f own hs ≡ Ok leader.followers
      = subst (λ own. followers_in f own hs ≡ Ok leader.followers) (sym is.names)
      (followers_back (variable_names leader) is.form.names f leader.followers
      (subst (λ n. All (IsFollowerForm n) leader.followers) (sym columns) is.form.followers)) in
      let fs : under (codes "followers") (followers_in f own hs) ≡ Ok leader.followers
      = rw each_one refl in
      then_back (player_in f 65536 (players_of source) (variables_of source) i head) leader.base
      (λ base. under (codes "followers") (followers_in f own hs) >>= λ followers.
      Ok (record { base = base; followers = followers })) (Ok leader) player_back
      (then_back (under (codes "followers") (followers_in f own hs)) leader.followers
      (λ followers. Ok (record { base = leader.base; followers = followers })) (Ok leader) fs refl)

-- ---- all leaders

-- each leader from number i on can be read
abbrev AllReadable : Bool → SourceOf → ℕ → List LeaderOf → Type 0
AllReadable lows source i [] = Unit {0}
AllReadable lows source i (l ∷ ls) =
    CanBeRead lows source i l × AllReadable lows source (i + 1) ls

names_of_headings : (lows : Bool) (source : SourceOf) (i : ℕ) (ls : List LeaderOf)
    → map heading_name (headings lows source i ls) ≡ map leader_name ls
names_of_headings lows source i [] = refl
names_of_headings lows source i (l ∷ ls) =
    ap (λ r. leader_name l ∷ r) (names_of_headings lows source (i + 1) ls)

variables_of_headings : (lows : Bool) (source : SourceOf) (i : ℕ) (ls : List LeaderOf)
    → map passes.variable_names (headings lows source i ls) ≡ map variable_names ls
variables_of_headings lows source i [] = refl
variables_of_headings lows source i (l ∷ ls) =
    ap (λ r. variable_names l ∷ r) (variables_of_headings lows source (i + 1) ls)

count_leaders : (lows : Bool) (source : SourceOf) (i : ℕ) (ls : List LeaderOf)
    → length (leaders_data lows source i ls) ≡ length ls
count_leaders lows source i [] = refl
count_leaders lows source i (l ∷ ls) =
    let rest = count_leaders lows source (i + 1) ls in omega (arith, rest)

module _ (lows : Bool) (source : SourceOf) (named : AreNames (map leader_name source))
    (all_named : (j : ℕ) → AreNames (names_of source j)) where
  abbrev format : GameFormat
  format = format_of lows

  -- the first pass
  headings_back : (k i : ℕ) (hs : List HeadingOf) (before : List Name) (ls : List LeaderOf)
      → map heading_name hs ≡ before → AreNames (before ++ map leader_name ls)
      → AllReadable lows source i ls
      → each (add_heading format []) k hs (leaders_data lows source i ls)
      ≡ Ok (hs ++ headings lows source i ls)
  headings_back k i hs before [] same names are = ap Ok (sym (append-nil hs))
  headings_back k i hs before (l ∷ ls) same names are =
      let d = leader_data lows source i l in
      let h = heading lows source i l in
      let more = hs ++ h ∷ [] in
      let new = new_in_row before l.base.name (map leader_name ls) names in
      let first : IsNewName ([] ∷ map heading_name hs) l.base.name
      = not_empty l.base.name (map heading_name hs)
      (subst (λ ns. IsNewName ns l.base.name) (sym same) new) in
      let add : add_heading format [] hs d ≡ Ok more
      = then_back (heading_in format ([] ∷ map heading_name hs) d) h (λ h. Ok (hs ++ h ∷ []))
      (Ok more)
      (heading_back lows source named all_named i l are.0 ([] ∷ map heading_name hs) first) refl in
      let one : under (decimal k) (add_heading format [] hs d) ≡ Ok more = rw add refl in
      then_back (under (decimal k) (add_heading format [] hs d)) more
      (λ m. each (add_heading format []) (k + 1) m (leaders_data lows source (i + 1) ls))
      (Ok (hs ++ h ∷ headings lows source (i + 1) ls)) one
      (headings_back (k + 1) (i + 1) more (before ++ l.base.name ∷ []) ls
      (map-append heading_name hs (h ∷ []) ∙ ap (λ ns. ns ++ l.base.name ∷ []) same)
      (subst AreNames (sym (append_assoc before (l.base.name ∷ []) (map leader_name ls))) names)
      are.1
      ∙ ap Ok (append_assoc hs (h ∷ []) (headings lows source (i + 1) ls)))

  abbrev add : List LeaderOf → HeadingOf → Read (List LeaderOf)
  add = add_leader format 65536 (map leader_name source) (map variable_names source)

  -- the second pass
  leaders_back : (k i : ℕ) (before ls : List LeaderOf) → length before ≡ i
      → AllReadable lows source i ls
      → each add k before (headings lows source i ls) ≡ Ok (before ++ ls)
  leaders_back k i before [] at are = ap Ok (sym (append-nil before))
  leaders_back k i before (l ∷ ls) at are =
      let h = heading lows source i l in
      let more = before ++ l ∷ [] in
      let own : leader_in format 65536 (map leader_name source) (map variable_names source)
      (length before) h ≡ Ok l
      = subst (λ n. leader_in format 65536 (map leader_name source) (map variable_names source) n h
      ≡ Ok l) (sym at) (leader_back lows source named all_named i l are.0) in
      let added : add before h ≡ Ok more
      = then_back (leader_in format 65536 (map leader_name source) (map variable_names source)
      (length before) h) l (λ l. Ok (before ++ l ∷ [])) (Ok more) own refl in
      let one : under (decimal k) (add before h) ≡ Ok more = rw added refl in
      then_back (under (decimal k) (add before h)) more
      (λ m. each add (k + 1) m (headings lows source (i + 1) ls))
      (Ok (before ++ l ∷ ls)) one
      (leaders_back (k + 1) (i + 1) more ls (length-push before l ∙ ap (λ n. n + 1) at) are.1
      ∙ ap Ok (append_assoc before (l ∷ []) ls))

  both_back : AllReadable lows source 0 source
      → leaders_in format 65536 [] (leaders_data lows source 0 source) ≡ Ok source
  both_back are =
      let hs = headings lows source 0 source in
      let ns = names_of_headings lows source 0 source in
      let vs = variables_of_headings lows source 0 source in
      then_back (each (add_heading format []) 0 [] (leaders_data lows source 0 source)) hs
      (λ hs. each (add_leader format 65536 (map heading_name hs)
      (map passes.variable_names hs)) 0 [] hs)
      (Ok source) (headings_back 0 0 [] [] source refl named are)
      (ap (λ ns. each (add_leader format 65536 ns (map passes.variable_names hs)) 0 [] hs) ns
      ∙ ap (λ vs. each (add_leader format 65536 (map leader_name source) vs) 0 [] hs) vs
      ∙ leaders_back 0 0 [] source refl are)

-- ---- what a source by the rules gives

lt_from_test : (m n : ℕ) → nat_le m n ≡ false → n < m
lt_from_test m n h = grind (arith, nat_tests)

-- a leader without anything
abbrev nobody : LeaderOf
nobody = record {
  base = record {
    name = [];
    vars = [];
    rows = [];
    pairs = [];
    cost = [];
    cross = [];
    others = [];
  };
  followers = [];
}

names_at_leader : (source : SourceOf) (k : ℕ) (l : LeaderOf) → slice_get source k ≡ Some l
    → names_of source k ≡ variable_names l
names_at_leader source k l at =
    get_or-map variable_names source k l [] (slice_get_within source k l at)
    ∙ ap variable_names (get_or_from_slice_get source k l l at)

all_true : {A : Type 0} (p : A → Bool) (xs : List A) → list_all p xs ≡ true
    → (k : ℕ) (x : A) → slice_get xs k ≡ Some x → p x ≡ true
all_true p [] h k x at = absurd (cc)
all_true p (y ∷ ys) h zero x at =
    let same : y ≡ x = cc in
    subst (λ x. p x ≡ true) same (both_true (p y) (list_all p ys) h).0
all_true p (y ∷ ys) h (suc k) x at = all_true p ys (both_true (p y) (list_all p ys) h).1 k x at

zero_from_test : (o : Option ℤ) → is_zero o ≡ true → o ≡ Some (pos 0)
zero_from_test None h = absurd (cc)
zero_from_test (Some z) h = let e : z ≡ pos 0 = (Decides-int_eq z (pos 0)).0 h in rw e refl

true_from_not : (b : Bool) → not b ≡ false → b ≡ true
true_from_not true h = refl
true_from_not false h = absurd (cc)

module _ (lows : Bool) (source : SourceOf) (is : IsSource source)
    (zero_lows : lows ≡ false → needs_lows source ≡ false) where
  base_at : (k : ℕ) (l : LeaderOf) → slice_get source k ≡ Some l
      → slice_get (bases source) k ≡ Some l.base
  base_at k l at = rw (slice_get-map (λ (l : LeaderOf). l.base) source k) (rw at refl)

  columns_of : (k : ℕ) (l : LeaderOf) → slice_get source k ≡ Some l
      → length l.base.vars ≡ length (names_at (variables_of source) k)
  columns_of k l at =
      sym (ap length (names_at_leader source k l at) ∙ length-map l.base.vars var_name)

  all_named : (j : ℕ) → AreNames (names_of source j)
  all_named j = by (nat_le (length source) j) refl
    where
      by : (past : Bool) → nat_le (length source) j ≡ past → AreNames (names_of source j)
      by true e =
          let n = length-map source variable_names in
          let end = le_from_test (length source) j e in
          subst AreNames (sym (get_or_past (variables_of source) j [] (omega (arith, n, end))))
          no_names
      by false e =
          let l = get_or source j nobody in
          let at = slice_get-get_or source j nobody (lt_from_test (length source) j e) in
          subst AreNames (sym (names_at_leader source j l at)) (is.leaders j l at).names

  -- a variable of another leader, by the names
  place_of : (i : ℕ) (place : ℕ × ℕ) → IsOthersVar (bases source) i place
      → IsOtherPlace (players_of source) (variables_of source) i place
  place_of i place f =
      let n = length-map source (λ (l : LeaderOf). l.base) in
      let m = length-map source leader_name in
      let in_game = f.player in
      let l = get_or source place.0 nobody in
      let at = slice_get-get_or source place.0 nobody (omega (arith, n, in_game)) in
      record {
        player = omega (arith, n, m, in_game);
        other = f.other;
        var = subst (λ n. place.1 < n) (columns_of place.0 l at)
            (f.var l.base (base_at place.0 l at));
      }

  key_of : (i columns : ℕ) (t : CrossTerm) → columns ≡ length (names_at (variables_of source) i)
      → IsCrossForm (bases source) i columns t
      → IsKey (players_of source) (variables_of source) i (t.own, t.player, t.var)
  key_of i columns t e f =
      let place = place_of i (t.player, t.var)
      (record { player = f.player; other = f.other; var = f.var }) in
      record {
        own = subst (λ n. t.own < n) e f.own;
        player = place.player;
        other = place.other;
        var = place.var;
      }

  var_of : (k : ℕ) (l : LeaderOf) → slice_get source k ≡ Some l → (v : ℕ) (var : VarOf)
      → slice_get l.base.vars v ≡ Some var → lows ≡ false → var.low ≡ Some (pos 0)
  var_of k l at v var there first =
      let all = true_from_not (list_all has_zero_lows source) (zero_lows first) in
      let leader = all_true has_zero_lows source all k l at in
      zero_from_test var.low
      (all_true (λ (var : VarOf). is_zero var.low) l.base.vars leader v var there)

  readable : (k : ℕ) (l : LeaderOf) → slice_get source k ≡ Some l
      → CanBeRead lows source k l
  readable k l at =
      let p = l.base in
      let f = is.bases.players k p (base_at k l at) in
      let own : length p.vars ≡ length (variable_names l) = sym (length-map p.vars var_name) in
      let e = columns_of k l at in
      record {
        form = is.leaders k l at;
        names = names_at_leader source k l at;
        narrow = f.var_count;
        vars = λ v d below. record {
          form = f.vars v d below;
          low = var_of k l at v (get_or p.vars v d) (slice_get-get_or p.vars v d below);
        };
        row_count = f.row_count;
        rows = subst (λ n. All (IsRowForm n) p.rows) own f.rows;
        pair_count = f.pair_count;
        pairs = λ j d below. (
          subst (λ n. IsPairForm n (get_or p.pairs j d)) own (f.pairs j d below),
          f.from_zero j d below,
        );
        cost = subst (λ n. AreTerms n p.cost) own f.cost;
        cross = record {
          few = f.cross_count;
          ascend = f.cross_ascends;
          terms = λ j d below. let c = f.cross j d below in
              (key_of k (length p.vars) (get_or p.cross j d) e c, c.coef);
        };
        others = record {
          few = f.other_count;
          ascend = f.others_ascend;
          terms = λ j d below. let o = f.others j d below in record {
            first = place_of k (get_or p.others j d).first o.first;
            second = λ at there. let s = o.second at there in (s.0, place_of k at s.1);
            coef = o.coef;
          };
        };
      }

  all_readable : (i : ℕ) (ls : List LeaderOf)
      → ((k : ℕ) (l : LeaderOf) → slice_get ls k ≡ Some l
      → CanBeRead lows source (i + k) l) → AllReadable lows source i ls
  all_readable i [] each_one = tt
  all_readable i (l ∷ ls) each_one =
      let here : i + 0 ≡ i = omega arith in (
        subst (λ k. CanBeRead lows source k l) here (each_one 0 l refl),
        all_readable (i + 1) ls (λ k m at. let e : i + suc k ≡ (i + 1) + k = omega arith in
            subst (λ n. CanBeRead lows source n m) e (each_one (suc k) m at)),
      )

  format_there : (lows : Bool) → get (codes "format") (source_data lows source)
      ≡ Some (string (format_text lows))
  unfolding serde_json_on_literals
  format_there false = refl
  format_there true = refl

  format_back : (lows : Bool) → format_in (string (format_text lows)) ≡ Ok (format_of lows)
  unfolding serde_json_on_literals
  format_back false = refl
  format_back true = refl

  players_there : get (codes "players") (source_data lows source)
      ≡ Some (parts_data (leaders_data lows source 0 source))
  unfolding serde_json_on_literals
  players_there = refl

  players_back : players_in (format_of lows) 16 65536 []
      (parts_data (leaders_data lows source 0 source)) ≡ Ok source
  players_back =
      let ds = leaders_data lows source 0 source in
      let n = length-map source (λ (l : LeaderOf). l.base) in
      let m = count_leaders lows source 0 source in
      let some = is.bases.some_player in
      let few = is.bases.player_count in
      then_back (listed 1 16 (parts_data ds)) ds (λ ds. leaders_in (format_of lows) 65536 [] ds)
      (Ok source)
      (count_back 1 16 ds (omega (arith, n, m, some)) (omega (arith, n, m, few)))
      (both_back lows source is.names all_named
      (all_readable 0 source (λ k l at. let e : k ≡ 0 + k = omega arith in
      subst (λ n. CanBeRead lows source n l) e (readable k l at))))

  -- the source's value is read as the source
  pub source_back : source_in (source_data lows source) ≡ Ok source
  source_back =
      let d = source_data lows source in
      then_back (needed (codes "format") format_in d) (format_of lows)
      (λ f. players_of_in f 16 65536 [] d) (Ok source)
      (needed_back (codes "format") format_in d (string (format_text lows)) (format_of lows)
      (format_there lows) (format_back lows))
      (needed_back (codes "players") (players_in (format_of lows) 16 65536 []) d
      (parts_data (leaders_data lows source 0 source)) source players_there players_back)

-- the text of a source stands for the source
pub written_stands : (lows : Bool) (source : SourceOf) (bytes : List ℕ) → IsSource source
    → (lows ≡ false → needs_lows source ≡ false) → IsWritten lows source bytes
    → StandsFor bytes source
written_stands lows source bytes is zero_lows written = record {
  value = source_data lows source;
  text = (written.utf8, written.reads);
  content = source_back lows source is zero_lows;
}

-- so does a written text
pub result_stands : {E : Type 0} (lows : Bool) (source : SourceOf) → IsSource source
    → (lows ≡ false → needs_lows source ≡ false) → (result : Result (Vec ℕ Global) E)
    → IfOk result (λ bytes. IsWritten lows source bytes.items)
    → IfOk result (λ bytes. StandsFor bytes.items source)
result_stands lows source is zero_lows (Ok bytes) written =
    written_stands lows source bytes.items is zero_lows written
result_stands lows source is zero_lows (Err e) written = tt
