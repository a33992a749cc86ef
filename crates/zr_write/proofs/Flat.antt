-- The value of a source nests little, and has no float.
use Rattle.std.proofs.Common.{◌≡◌, ℕ, ◌+◌, ◌<◌, ◌≤◌, ℤ, pos, negsuc, Bool, true, false, List, [], ◌∷◌, map, take, drop, Option, Some, None, refl, arith}
use Rattle.serde_json.specs.Data.{Data, string, array, object, Members, no_members, member, depth, items_depth, members_depth}
use Rattle.serde_json.specs.View.{items_of}
use Rattle.serde_json.specs.Written.{has_float, items_have_float, members_have_float}
use Rattle.zr_base.specs.Rows.{RowOf}
use Rattle.zr_game.specs.declared.player.CrossTerm.{CrossTerm}
use Rattle.zr_game.specs.declared.player.Other.{Other}
use Rattle.zr_game.specs.Players.{Name, PairOf, VarOf}
use Rattle.zr_base.specs.Terms.{Terms}
use Rattle.zr_source.specs.Sources.{FollowerOf, LeaderOf, SourceOf}
use Rattle.zr_write.specs.Canonical.{names_of, player_data, whole_data, list_data, name_data, low_data, low_member, up_member, variable_data, variable_names, term_data, terms_data, row_data, pair_data, cross_data, other_parts, other_data, others_member, follower_cross_data, follower_data, own_vars, leader_data, leaders_data, source_data}

pub record IsFlat (n : ℕ) (d : Data) : Type 0 where
  pub float : has_float d ≡ false
  pub nests : depth d ≤ n

pub flat_up : (n m : ℕ) (d : Data) → n ≤ m → IsFlat n d → IsFlat m d
flat_up n m d le h = let k = h.nests in record { float = h.float; nests = omega arith }

flat_whole : (n : ℕ) (z : ℤ) → IsFlat n (whole_data z)
flat_whole n (pos k) = record { float = refl; nests = omega arith }
flat_whole n (negsuc k) = record { float = refl; nests = omega arith }

flat_string : (n : ℕ) (s : List ℕ) → IsFlat n (string s)
flat_string n s = record { float = refl; nests = omega arith }

abbrev AreFlat : ℕ → List Data → Type 0
AreFlat n [] = Unit {0}
AreFlat n (d ∷ ds) = IsFlat n d × AreFlat n ds

abbrev MembersFlat : ℕ → Members → Type 0
MembersFlat n no_members = Unit {0}
MembersFlat n (member k d ms) = IsFlat n d × MembersFlat n ms

items_float : (n : ℕ) (ds : List Data) → AreFlat n ds → items_have_float (items_of ds) ≡ false
items_float n [] h = refl
items_float n (d ∷ ds) h = rw (h.0.float) (items_float n ds h.1)

items_nest : (n : ℕ) (ds : List Data) → AreFlat n ds → items_depth (items_of ds) ≤ n
items_nest n [] h = omega arith
items_nest n (d ∷ ds) h = let a = h.0.nests in let b = items_nest n ds h.1 in omega arith

members_float : (n : ℕ) (ms : Members) → MembersFlat n ms → members_have_float ms ≡ false
members_float n no_members h = refl
members_float n (member k d ms) h = rw (h.0.float) (members_float n ms h.1)

members_nest : (n : ℕ) (ms : Members) → MembersFlat n ms → members_depth ms ≤ n
members_nest n no_members h = omega arith
members_nest n (member k d ms) h = let a = h.0.nests in let b = members_nest n ms h.1 in omega arith

flat_array : (n m : ℕ) (ds : List Data) → n < m → AreFlat n ds → IsFlat m (array (items_of ds))
flat_array n m ds lt h = let a = items_nest n ds h in record { float = items_float n ds h; nests = omega arith }

flat_object : (n m : ℕ) (ms : Members) → n < m → MembersFlat n ms → IsFlat m (object ms)
flat_object n m ms lt h = let a = members_nest n ms h in record { float = members_float n ms h; nests = omega arith }

each_flat : {A : Type 0} (n : ℕ) (f : A → Data) (xs : List A) → ((x : A) → IsFlat n (f x)) → AreFlat n (map f xs)
each_flat n f [] h = tt
each_flat n f (x ∷ xs) h = (h x, each_flat n f xs h)

flat_list : {A : Type 0} (n m : ℕ) (f : A → Data) (xs : List A) → n < m → ((x : A) → IsFlat n (f x)) → IsFlat m (list_data f xs)
flat_list n m f xs lt h = flat_array n m (map f xs) lt (each_flat n f xs h)

flat_term : (names : List Name) (t : ℕ × ℤ) → IsFlat 1 (term_data names t)
flat_term names t = flat_array 0 1 (name_data names t.0 ∷ whole_data t.1 ∷ []) (omega arith) (flat_string 0 _, (flat_whole 0 t.1, tt))

flat_terms : (m : ℕ) (names : List Name) (ts : Terms) → 1 < m → IsFlat m (terms_data names ts)
flat_terms m names ts lt = flat_list 1 m (term_data names) ts lt (flat_term names)

flat_row : (names : List Name) (row : RowOf) → IsFlat 3 (row_data names row)
flat_row names row = flat_object 2 3 _ (omega arith) (flat_whole 2 row.le, (flat_terms 2 names row.coef (omega arith), tt))

flat_pair : (names : List Name) (pair : PairOf) → IsFlat 3 (pair_data names pair)
flat_pair names pair = flat_object 2 3 _ (omega arith) (flat_whole 2 pair.add, (flat_terms 2 names pair.coef (omega arith), (flat_string 2 _, tt)))

flat_ups : (up : Option ℤ) → MembersFlat 0 (up_member up)
flat_ups None = tt
flat_ups (Some z) = (flat_whole 0 z, tt)

flat_low : (low : Option ℤ) → IsFlat 0 (low_data low)
flat_low None = record { float = refl; nests = omega arith }
flat_low (Some z) = flat_whole 0 z

flat_lows : (lows : Bool) (low : Option ℤ) (rest : Members) → MembersFlat 0 rest → MembersFlat 0 (low_member lows low rest)
flat_lows false low rest h = h
flat_lows true low rest h = (flat_low low, h)

flat_variable : (lows : Bool) (var : VarOf) → IsFlat 1 (variable_data lows var)
flat_variable lows var = flat_object 0 1 _ (omega arith)
    (record { float = refl; nests = omega arith }, flat_lows lows var.low _ (flat_string 0 var.name, flat_ups var.up))

flat_cross : (source : SourceOf) (i : ℕ) (t : CrossTerm) → IsFlat 1 (cross_data source i t)
flat_cross source i t = flat_array 0 1 (name_data (names_of source i) t.own ∷ player_data source t.player ∷ name_data (names_of source t.player) t.var ∷ whole_data t.coef ∷ []) (omega arith) (flat_string 0 _, (flat_string 0 _, (flat_string 0 _, (flat_whole 0 t.coef, tt))))

flat_parts : (source : SourceOf) (a : ℕ × ℕ) (b : Option (ℕ × ℕ)) (z : ℤ) → AreFlat 0 (other_parts source a b z)
flat_parts source a None z = (flat_string 0 _, (flat_string 0 _, (flat_whole 0 z, tt)))
flat_parts source a (Some b) z = (flat_string 0 _, (flat_string 0 _, (flat_string 0 _, (flat_string 0 _, (flat_whole 0 z, tt)))))

flat_other : (source : SourceOf) (t : Other) → IsFlat 1 (other_data source t)
flat_other source t = flat_array 0 1 (other_parts source t.first t.second t.coef) (omega arith) (flat_parts source t.first t.second t.coef)

flat_others : (source : SourceOf) (ts : List Other) (rest : Members) → MembersFlat 6 rest → MembersFlat 6 (others_member source ts rest)
flat_others source [] rest h = h
flat_others source (t ∷ ts) rest h = (flat_list 1 6 (other_data source) (t ∷ ts) (omega arith) (flat_other source), h)

flat_follower_cross : (names : List Name) (t : ℕ × ℕ × ℤ) → IsFlat 1 (follower_cross_data names t)
flat_follower_cross names t = flat_array 0 1 (name_data names t.0 ∷ name_data names t.1 ∷ whole_data t.2 ∷ []) (omega arith) (flat_string 0 _, (flat_string 0 _, (flat_whole 0 t.2, tt)))

flat_follower : (names : List Name) (follower : FollowerOf) → IsFlat 5 (follower_data names follower)
flat_follower names follower = flat_object 4 5 _ (omega arith) (
  flat_terms 4 names follower.cost (omega arith),
  (
    flat_list 1 4 (follower_cross_data names) follower.cross (omega arith) (flat_follower_cross names),
    (
      flat_list 3 4 (row_data names) follower.rows (omega arith) (flat_row names),
      (
        flat_list {A = Name} 0 4 (λ name. string name) (take follower.count (drop follower.first names)) (omega arith) (flat_string 0),
        tt,
      ),
    ),
  ),
)

flat_leader : (lows : Bool) (source : SourceOf) (i : ℕ) (leader : LeaderOf) → IsFlat 7 (leader_data lows source i leader)
flat_leader lows source i leader =
    let names = variable_names leader in
    flat_object 6 7 _ (omega arith) (
      flat_terms 6 names leader.base.cost (omega arith),
      (
        flat_list 1 6 (cross_data source i) leader.base.cross (omega arith) (flat_cross source i),
        (
          flat_list 5 6 (follower_data names) leader.followers (omega arith) (flat_follower names),
          (
            flat_string 6 leader.base.name,
            flat_others source leader.base.others _ (
              flat_list 3 6 (pair_data names) leader.base.pairs (omega arith) (flat_pair names),
              (
                flat_list 3 6 (row_data names) leader.base.rows (omega arith) (flat_row names),
                (flat_list 1 6 (variable_data lows) (own_vars leader) (omega arith) (flat_variable lows), tt),
              ),
            ),
          ),
        ),
      ),
    )

flat_leaders : (lows : Bool) (source : SourceOf) (i : ℕ) (leaders : List LeaderOf) → AreFlat 7 (leaders_data lows source i leaders)
flat_leaders lows source i [] = tt
flat_leaders lows source i (leader ∷ leaders) = (flat_leader lows source i leader, flat_leaders lows source (i + 1) leaders)

pub flat_source : (lows : Bool) (source : SourceOf) → IsFlat 127 (source_data lows source)
flat_source lows source = flat_object 8 127 _ (omega arith)
    (flat_string 8 _, (flat_array 7 8 (leaders_data lows source 0 source) (omega arith) (flat_leaders lows source 0 source), tt))
