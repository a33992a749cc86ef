-- The source that is read keeps the rules.
use Rattle.std.proofs.Common.{◌≡◌, ℕ, zero, suc, ◌+◌, ◌<◌, ◌≤◌, ℤ, List, [], ◌∷◌, ◌++◌, length, map, get_or, refl, sym, ap, subst, ◌∙◌, Ok, Some, Bool, true, false, codes, arith, decimal}
use Rattle.std.specs.Prelude.{◌||◌, bytes_eq, slice_get}
use Rattle.std.specs.List.{All}
use Rattle.std.proofs.lemmas.List.{map-append, get_or-map, length-map}
use Rattle.std.proofs.lemmas.List.Elements.{All-nil, All-cons, All-push}
use Rattle.std.proofs.lemmas.Option.{get_or_from_slice_get, slice_get_within}
use mathlib.Core.List.{append_assoc}
use Rattle.serde_json.specs.Data.{Data}
use Rattle.zr_game.specs.declared.player.CrossTerm.{CrossTerm}
use Rattle.zr_game.specs.declared.player.Other.{Other}
use Rattle.zr_game.specs.Players.{Name, VarOf, PlayerOf}
use Rattle.zr_game.specs.Forms.{AreTerms, IsCoefficient, IsRowForm, IsPairForm, IsFromZero, IsCrossForm, IsOtherForm, IsOthersVar, IsPlayerForm, IsVarForm}
use Rattle.zr_source.specs.Sources.{FollowerOf, LeaderOf, SourceOf, bases}
use Rattle.zr_source.specs.SourceForms.{AreFree, IsFollowerCross, IsFollowerForm, StandInOrder, first_of, IsLeaderForm, IsSource}
use Rattle.zr_source.specs.Names.{AreNames, leader_name, var_name}
use Rattle.zr_value.specs.Faults.{under}
use Rattle.zr_value.specs.Values.{object_in, needed, optional, listed, each}
use Rattle.zr_value.specs.Names.{is_among, new_name_in, names_at}
use Rattle.zr_value.specs.Terms.{terms_in}
use Rattle.zr_value.proofs.Behind.{bind_ok, under_ok, needed_ok, optional_keeps, each_keeps, each_counts, listed_ok}
use Rattle.zr_value.proofs.TermLaws.{terms_are_right}
use Rattle.zr_value.specs.declared.format.GameFormat.{GameFormat}
use Rattle.zr_value.specs.Formats.{aim_of_in, format_in, aimed}
use Rattle.zr_value.specs.Variables.{variables_in}
use Rattle.zr_read.specs.Rows.{rows_in, pairs_in}
use Rattle.zr_read.specs.Costs.{CostsOf, Place, costs_in, cross_in, others_in}
use Rattle.zr_read.specs.Followers.{FollowerHeadingOf, alone, follower_headings_in, followers_in}
use Rattle.zr_read.specs.Passes.{HeadingOf, heading_name, variable_names, heading_in, add_heading, player_of_parts, player_in, leader_in, add_leader, leaders_in, players_in, players_of_in, source_in}
use Rattle.zr_read.proofs.Naming.{IsNewName, new_name_ok, no_names, names_push, length-push}
use Rattle.zr_read.proofs.OwnVars.{variables_ok}
use Rattle.zr_read.proofs.RowForms.{IsPair, rows_ok, pairs_ok}
use Rattle.zr_read.proofs.CostForms.{IsKey, IsOtherPlace, IsOtherTerm, AreCross, AreOthers, no_cross, no_other_terms, cross_ok, others_ok, ok_same}
use Rattle.zr_read.proofs.FollowerForms.{AreMembers, AreFew, StandFrom, AreFollowers, IsFollower, IsCrossKey, IsFree, free_at, alone_ok, members_ok, aimed_ok, followers_ok}

-- ---- the first pass

-- a player with variables of its own
pub record IsHeading (h : HeadingOf) : Type 0 where
  pub own : ℕ
  pub some : 1 ≤ own
  pub members : AreMembers own h.members
  pub few : AreFew h.members

pub record AreHeadings (hs : List HeadingOf) : Type 0 where
  pub names : AreNames (map heading_name hs)
  pub each_one : All IsHeading hs

second_false : (a b : Bool) → (a || b) ≡ false → b ≡ false
second_false true b h = absurd (cc)
second_false false b h = h

untaken : (taken : Name) (before : List Name) (s : Name) → IsNewName (taken ∷ before) s
    → IsNewName before s
untaken taken before s new =
    (new.0, second_false (bytes_eq s taken) (is_among before s) new.1)

module _ (f : GameFormat) (taken : Name) where
  headings_keep : (s : List HeadingOf) (d : Data) (t : List HeadingOf) → AreHeadings s
      → add_heading f taken s d ≡ Ok t → AreHeadings t
  headings_keep s d t are e =
      let b = bind_ok (heading_in f (taken ∷ map heading_name s) d) (λ h. Ok (s ++ h ∷ [])) t e in
      let o = bind_ok (object_in d) _ b.0 b.1 in
      let n = bind_ok (needed (codes "name") (new_name_in (taken ∷ map heading_name s)) d) _ b.0
      o.2 in
      let a = bind_ok (aim_of_in f d) _ b.0 n.2 in
      let v = bind_ok (needed (codes "vars") (variables_in f) d) _ b.0 a.2 in
      let m = bind_ok (optional (codes "followers") (alone v.0) (follower_headings_in v.0) d) _ b.0
      v.2 in
      let name_at = needed_ok (codes "name") (new_name_in (taken ∷ map heading_name s)) d n.0 n.1 in
      let vars_at = needed_ok (codes "vars") (variables_in f) d v.0 v.1 in
      let vars = variables_ok f vars_at.0 v.0 vars_at.1 in
      let made : HeadingOf = record { name = n.0; aim = a.0; members = m.0; value = d } in
      let is = ok_same made b.0 m.2 in
      let same = ok_same (s ++ b.0 ∷ []) t b.2 in
      let members = optional_keeps (λ m. AreMembers (length v.0) m × AreFew m) (codes "followers")
      (alone v.0) (follower_headings_in v.0) d m.0
      (alone_ok v.0 vars.2, (vars.1, omega arith))
      (λ e m h. members_ok v.0 e m vars.2 h) m.1 in
      let new = untaken taken (map heading_name s) n.0
      (new_name_ok (taken ∷ map heading_name s) name_at.0 n.0 name_at.1) in
      subst AreHeadings same (record {
        names = rw (map-append heading_name s (b.0 ∷ []))
            (names_push (map heading_name s) b.0.name are.names
            (subst (IsNewName (map heading_name s)) (ap heading_name is) new));
        each_one = All-push IsHeading s b.0 are.each_one (subst IsHeading is (record {
          own = length v.0;
          some = vars.0;
          members = members.0;
          few = members.1;
        }));
      })

  headings_count : (s : List HeadingOf) (d : Data) (t : List HeadingOf)
      → add_heading f taken s d ≡ Ok t → length t ≡ length s + 1
  headings_count s d t e =
      let b = bind_ok (heading_in f (taken ∷ map heading_name s) d) (λ h. Ok (s ++ h ∷ [])) t e in
      let same = ok_same (s ++ b.0 ∷ []) t b.2 in
      subst (λ t. length t ≡ length s + 1) same (length-push s b.0)

-- ---- the second pass

module _ (players : List Name) (variables : List (List Name)) where
  -- what stands of leader i, besides its name and variables
  pub record IsBody (i : ℕ) (h : HeadingOf) (l : LeaderOf) : Type 0 where
    pub name : h.name ≡ l.base.name
    pub vars : h.members.vars ≡ l.base.vars
    pub row_count : length l.base.rows ≤ 256
    pub rows : All (IsRowForm (length (names_at variables i))) l.base.rows
    pub pair_count : length l.base.pairs ≤ 32
    pub pairs : All (IsPair (names_at variables i) h.members.vars) l.base.pairs
    pub cost : AreTerms (length (names_at variables i)) l.base.cost
    pub cross : AreCross players variables i h.aim l.base.cross
    pub others : AreOthers players variables i h.aim l.base.others
    pub followers : AreFollowers (names_at variables i) h.members.followers l.followers

  -- each leader is that of its heading, from number i on
  abbrev pub AreLeaders : ℕ → List HeadingOf → List LeaderOf → Type 0
  AreLeaders i [] [] = Unit {0}
  AreLeaders i [] (l ∷ ls) = ⊥
  AreLeaders i (h ∷ hs) [] = ⊥
  AreLeaders i (h ∷ hs) (l ∷ ls) = IsBody i h l × AreLeaders (i + 1) hs ls

  module _ (f : GameFormat) (most : ℕ) (few : most ≤ 65536) where
    leader_ok : (i : ℕ) (h : HeadingOf) (l : LeaderOf)
        → leader_in f most players variables i h ≡ Ok l → IsBody i h l
    leader_ok i h l e =
        let own = names_at variables i in
        let b = bind_ok (player_in f most players variables i h) _ l e in
        let fs = bind_ok (under (codes "followers") (followers_in f own h.members.followers)) _ l
        b.2 in
        let r = bind_ok (optional (codes "rows") [] (rows_in f 256 own) h.value) _ b.0 b.1 in
        let p = bind_ok (optional (codes "pairs") [] (pairs_in own h.members.vars) h.value) _ b.0
        r.2 in
        let cs = bind_ok (costs_in most players variables i h.aim h.value) _ b.0 p.2 in
        let c = bind_ok (optional (codes "cost") [] (terms_in own) h.value) _ cs.0 cs.1 in
        let x = bind_ok (optional (codes "cross") []
        (cross_in most players variables i h.aim) h.value) _ cs.0 c.2 in
        let o = bind_ok (optional (codes "others") []
        (others_in players variables i h.aim) h.value) _ cs.0 x.2 in
        let costs : CostsOf = record { cost = aimed h.aim c.0; cross = x.0; others = o.0 } in
        let costs_are = ok_same costs cs.0 o.2 in
        let base_is = ok_same (player_of_parts h r.0 p.0 cs.0) b.0 cs.2 in
        let made : LeaderOf = record {
          base = player_of_parts h r.0 p.0 costs;
          followers = fs.0;
        } in
        let inner : LeaderOf = record { base = b.0; followers = fs.0 } in
        let first : made ≡ inner = ap (λ base. let l : LeaderOf = record { base = base; followers = fs.0 } in l)
        (ap (λ cs. player_of_parts h r.0 p.0 cs) costs_are ∙ base_is) in
        let rows = optional_keeps (λ rs. (length rs ≤ 256) × All (IsRowForm (length own)) rs)
        (codes "rows") [] (rows_in f 256 own) h.value r.0
        (omega arith, All-nil (IsRowForm (length own))) (rows_ok f own 256) r.1 in
        let pairs = optional_keeps (λ ps. (length ps ≤ 32) × All (IsPair own h.members.vars) ps)
        (codes "pairs") [] (pairs_in own h.members.vars) h.value p.0
        (omega arith, All-nil (IsPair own h.members.vars))
        (pairs_ok own h.members.vars) p.1 in
        subst (IsBody i h) (first ∙ ok_same inner l fs.2) (record {
          name = refl;
          vars = refl;
          row_count = rows.0;
          rows = rows.1;
          pair_count = pairs.0;
          pairs = pairs.1;
          cost = aimed_ok (length own) h.aim c.0 (optional_keeps (λ ts. AreTerms (length own) ts)
              (codes "cost") [] (terms_in own) h.value c.0 tt (terms_are_right own) c.1);
          cross = optional_keeps (AreCross players variables i h.aim) (codes "cross") []
              (cross_in most players variables i h.aim) h.value x.0
              (no_cross players variables i h.aim)
              (λ d ts e. cross_ok players variables i h.aim most d ts few e) x.1;
          others = optional_keeps (AreOthers players variables i h.aim) (codes "others") []
              (others_in players variables i h.aim) h.value o.0
              (no_other_terms players variables i h.aim)
              (others_ok players variables i h.aim) o.1;
          followers = followers_ok f own h.members.followers fs.0
              (under_ok (codes "followers") (followers_in f own h.members.followers) fs.0 fs.1);
        })

    append_nil_right : (xs : List LeaderOf) → xs ++ [] ≡ xs
    append_nil_right [] = refl
    append_nil_right (x ∷ xs) = ap (λ r. x ∷ r) (append_nil_right xs)

    leaders_after : (k : ℕ) (s : List LeaderOf) (hs : List HeadingOf) (t : List LeaderOf)
        → each (add_leader f most players variables) k s hs ≡ Ok t
        → (ls : List LeaderOf) × (s ++ ls ≡ t) × AreLeaders (length s) hs ls
    leaders_after k s [] t e = ([], append_nil_right s ∙ ok_same s t e, tt)
    leaders_after k s (h ∷ hs) t e =
        let b = bind_ok (under (decimal k) (add_leader f most players variables s h))
        (λ more. each (add_leader f most players variables) (k + 1) more hs) t e in
        let one = bind_ok (leader_in f most players variables (length s) h)
        (λ l. Ok (s ++ l ∷ [])) b.0
        (under_ok (decimal k) (add_leader f most players variables s h) b.0 b.1) in
        let same = ok_same (s ++ one.0 ∷ []) b.0 one.2 in
        let rest = leaders_after (k + 1) b.0 hs t b.2 in
        let n : length b.0 ≡ length s + 1 =
        subst (λ t. length t ≡ length s + 1) same (length-push s one.0) in (
          one.0 ∷ rest.0,
          sym (append_assoc s (one.0 ∷ []) rest.0) ∙ ap (λ xs. xs ++ rest.0) same ∙ rest.1,
          (
            leader_ok (length s) h one.0 one.1,
            subst (λ n. AreLeaders n hs rest.0) n rest.2,
          ),
        )

    pub leaders_are : (hs : List HeadingOf) (ls : List LeaderOf)
        → each (add_leader f most players variables) 0 [] hs ≡ Ok ls → AreLeaders 0 hs ls
    leaders_are hs ls e =
        let all = leaders_after 0 [] hs ls e in subst (AreLeaders 0 hs) all.1 all.2

-- ---- followers by their headings

stand_le : (from : ℕ) (hs : List FollowerHeadingOf) (to : ℕ) → StandFrom from hs to → from ≤ to
stand_le from [] to s = omega (arith, s)
stand_le from (h ∷ hs) to s = let rest = stand_le (from + h.count) hs to s.1 in omega (arith, rest)

follower_count : (names : List Name) (hs : List FollowerHeadingOf) (fs : List FollowerOf)
    → AreFollowers names hs fs → length fs ≡ length hs
follower_count names [] [] are = refl
follower_count names [] (f ∷ fs) are = absurd are
follower_count names (h ∷ hs) [] are = absurd are
follower_count names (h ∷ hs) (f ∷ fs) are =
    let rest = follower_count names hs fs are.1 in omega (arith, rest)

module _ (names : List Name) (columns own : ℕ) (base : PlayerOf) (same : length names ≡ columns)
    (free : (v : ℕ) (var : VarOf) → own ≤ v → slice_get base.vars v ≡ Some var → IsFree var) where
  -- what all followers keep together
  pub record AreRight (from : ℕ) (fs : List FollowerOf) : Type 0 where
    pub forms : All (IsFollowerForm columns) fs
    pub order : StandInOrder columns fs
    pub free_vars : All (AreFree base) fs
    pub first : first_of columns fs ≡ from

  follower_form : (from : ℕ) (h : FollowerHeadingOf) (f : FollowerOf) → IsFollower names h f
      → h.first ≡ from → from + h.count ≤ columns → IsFollowerForm columns f
  follower_form from h f is first end = record {
    vars_exist = omega (arith, is.first, is.count, first, end);
    row_count = is.row_count;
    cross_count = is.cross_count;
    rows = subst (λ n. All (IsRowForm n) f.rows) same is.rows;
    cost = subst (λ n. AreTerms n f.cost) same is.cost;
    cross = λ k d below. cross_form (get_or f.cross k d) (is.cross k d below);
    cross_ascends = is.cross_ascends;
  }
    where
      cross_form : (t : ℕ × ℕ × ℤ) → IsCrossKey names h (t.0, t.1) × IsCoefficient t.2
          → IsFollowerCross f columns t
      cross_form t k = record {
        own = (omega (arith, k.0.own.0, is.first), omega (arith, k.0.own.1, is.first, is.count));
        var = subst (λ n. t.1 < n) same k.0.var;
        other = λ o. k.0.other
            (omega (arith, o.0, is.first), omega (arith, o.1, is.first, is.count));
        coef = k.1;
      }

  are_right : (from : ℕ) (hs : List FollowerHeadingOf) (fs : List FollowerOf) → own ≤ from
      → AreFollowers names hs fs → StandFrom from hs columns → AreRight from fs
  are_right from [] [] le are stand = record {
    forms = All-nil (IsFollowerForm columns);
    order = tt;
    free_vars = All-nil (AreFree base);
    first = sym stand;
  }
  are_right from [] (f ∷ fs) le are stand = absurd are
  are_right from (h ∷ hs) [] le are stand = absurd are
  are_right from (h ∷ hs) (f ∷ fs) le are stand =
      let rest = are_right (from + h.count) hs fs (omega (arith, le)) are.1 stand.1 in
      let end = stand_le (from + h.count) hs columns stand.1 in
      let is = are.0 in
      record {
        forms = All-cons (IsFollowerForm columns) f fs (follower_form from h f is stand.0 end)
            rest.forms;
        order = (omega (arith, is.first, is.count, stand.0, rest.first), rest.order);
        free_vars = All-cons (AreFree base) f fs
            (λ v var owns at. free v var (omega (arith, owns.0, is.first, stand.0, le)) at)
            rest.free_vars;
        first = is.first ∙ stand.0;
      }

-- ---- both passes

pub all_at : {A : Type 0} (P : A → Type 0) (xs : List A) (k : ℕ) (x : A) → All P xs
    → slice_get xs k ≡ Some x → P x
all_at P xs k x all is =
    subst P (get_or_from_slice_get xs k x x is) (all k x (slice_get_within xs k x is))

-- as many columns as the player has variables
columns_at : (hs : List HeadingOf) (k : ℕ) (h : HeadingOf) → slice_get hs k ≡ Some h
    → length (names_at (map variable_names hs) k) ≡ length h.members.vars
columns_at hs k h is =
    ap length (get_or-map variable_names hs k h [] (slice_get_within hs k h is)
    ∙ ap variable_names (get_or_from_slice_get hs k h h is))
    ∙ length-map h.members.vars var_name

module _ (players : List Name) (variables : List (List Name)) where
  leader_at : (i k : ℕ) (hs : List HeadingOf) (ls : List LeaderOf) (l : LeaderOf)
      → AreLeaders players variables i hs ls → slice_get ls k ≡ Some l
      → (h : HeadingOf) × (slice_get hs k ≡ Some h) × IsBody players variables (i + k) h l
  leader_at i k [] [] l are at = absurd (cc)
  leader_at i k [] (m ∷ ls) l are at = absurd are
  leader_at i k (h ∷ hs) [] l are at = absurd are
  leader_at i zero (h ∷ hs) (m ∷ ls) l are at =
      let same : m ≡ l = cc in
      let e : i ≡ i + 0 = omega arith in (
        h,
        refl,
        subst (IsBody players variables (i + 0) h) same
            (subst (λ i. IsBody players variables i h m) e are.0),
      )
  leader_at i (suc k) (h ∷ hs) (m ∷ ls) l are at =
      let rest = leader_at (i + 1) k hs ls l are.1 at in
      let e : (i + 1) + k ≡ i + suc k = omega arith in
      (rest.0, rest.1, subst (λ i. IsBody players variables i rest.0 l) e rest.2)

  leader_count : (i : ℕ) (hs : List HeadingOf) (ls : List LeaderOf)
      → AreLeaders players variables i hs ls → length ls ≡ length hs
  leader_count i [] [] are = refl
  leader_count i [] (l ∷ ls) are = absurd are
  leader_count i (h ∷ hs) [] are = absurd are
  leader_count i (h ∷ hs) (l ∷ ls) are =
      let rest = leader_count (i + 1) hs ls are.1 in omega (arith, rest)

  leader_names : (i : ℕ) (hs : List HeadingOf) (ls : List LeaderOf)
      → AreLeaders players variables i hs ls → map heading_name hs ≡ map leader_name ls
  leader_names i [] [] are = refl
  leader_names i [] (l ∷ ls) are = absurd are
  leader_names i (h ∷ hs) [] are = absurd are
  leader_names i (h ∷ hs) (l ∷ ls) are =
      let rest = leader_names (i + 1) hs ls are.1 in
      ap (λ name. name ∷ map heading_name hs) are.0.name
      ∙ ap (λ names. l.base.name ∷ names) rest

base_at : (ls : List LeaderOf) (k : ℕ) (p : PlayerOf) → slice_get (bases ls) k ≡ Some p
    → (l : LeaderOf) × (slice_get ls k ≡ Some l) × (l.base ≡ p)
base_at [] k p at = absurd (cc)
base_at (l ∷ ls) zero p at = (l, refl, cc)
base_at (l ∷ ls) (suc k) p at = base_at ls k p at

module _ (hs : List HeadingOf) (ls : List LeaderOf)
    (are : AreLeaders (map heading_name hs) (map variable_names hs) 0 hs ls)
    (headings : AreHeadings hs) where
  -- the players' names, and their variables' names
  abbrev ns : List Name
  ns = map heading_name hs

  abbrev vs : List (List Name)
  vs = map variable_names hs

  -- leader k with its heading
  found_at : (k : ℕ) (l : LeaderOf) → slice_get ls k ≡ Some l
      → (h : HeadingOf) × (slice_get hs k ≡ Some h) × IsBody ns vs k h l
  found_at k l at =
      let of = leader_at ns vs 0 k hs ls l are at in
      let e : 0 + k ≡ k = omega arith in
      (of.0, of.1, subst (λ k. IsBody ns vs k of.0 l) e of.2)

  columns_of : (k : ℕ) (h : HeadingOf) (l : LeaderOf) → slice_get hs k ≡ Some h
      → IsBody ns vs k h l → length (names_at vs k) ≡ length l.base.vars
  columns_of k h l at body = columns_at hs k h at ∙ ap length body.vars

  -- a variable that names a player's name is the player's
  has_var : (k v : ℕ) → v < length (names_at vs k) → (p : PlayerOf) → slice_get (bases ls) k ≡ Some p
      → v < length p.vars
  has_var k v below p at =
      let of = base_at ls k p at in
      let h = found_at k of.0 of.1 in
      subst (λ n. v < n) (columns_of k h.0 of.0 h.1 h.2 ∙ ap (λ p. length p.vars) of.2) below

  player_below : (k : ℕ) → k < length ns → k < length (bases ls)
  player_below k below =
      let n = leader_count ns vs 0 hs ls are in
      let a = length-map hs heading_name in
      let b : length (bases ls) ≡ length ls = length-map ls (λ l. l.base) in
      omega (arith, n, a, b, below)

  others_var : (i : ℕ) (at : Place) → IsOtherPlace ns vs i at → IsOthersVar (bases ls) i at
  others_var i at is = record {
    player = player_below at.0 is.player;
    other = is.other;
    var = λ p here. has_var at.0 at.1 is.var p here;
  }

  player_form : (i : ℕ) (h : HeadingOf) (l : LeaderOf) → slice_get hs i ≡ Some h
      → IsHeading h → IsBody ns vs i h l → IsPlayerForm (bases ls) i l.base
  player_form i h l at heading body =
      let e = columns_of i h l at body in
      let all = heading.few.0 in
      let own = stand_le heading.own h.members.followers (length h.members.vars)
      heading.members.stand in
      let n = ap length body.vars in
      record {
        some_var = omega (arith, heading.some, own, n);
        var_count = omega (arith, all, n);
        row_count = body.row_count;
        pair_count = body.pair_count;
        cross_count = body.cross.few;
        other_count = body.others.few;
        vars = subst (All IsVarForm) body.vars heading.members.vars.forms;
        rows = subst (λ n. All (IsRowForm n) l.base.rows) e body.rows;
        pairs = λ k d below. subst (λ n. IsPairForm n (get_or l.base.pairs k d)) e
            (body.pairs k d below).0;
        from_zero = λ k d below. subst (λ vars. IsFromZero vars (get_or l.base.pairs k d).var)
            body.vars (body.pairs k d below).1;
        cost = subst (λ n. AreTerms n l.base.cost) e body.cost;
        cross = λ k d below. cross_form e (get_or l.base.cross k d)
            (body.cross.terms k d below);
        cross_ascends = body.cross.ascend;
        others = λ k d below. other_form (get_or l.base.others k d)
            (body.others.terms k d below);
        others_ascend = body.others.ascend;
      }
    where
      cross_form : length (names_at vs i) ≡ length l.base.vars → (t : CrossTerm)
          → IsKey ns vs i (t.own, t.player, t.var) × IsCoefficient t.coef
          → IsCrossForm (bases ls) i (length l.base.vars) t
      cross_form e t is = record {
        own = subst (λ n. t.own < n) e is.0.own;
        player = player_below t.player is.0.player;
        other = is.0.other;
        var = λ p here. has_var t.player t.var is.0.var p here;
        coef = is.1;
      }

      other_form : (t : Other) → IsOtherTerm ns vs i h.aim t → IsOtherForm (bases ls) i t
      other_form t is = record {
        first = others_var i t.first is.first;
        second = λ at here. let two = is.second at here in (two.0, others_var i at two.1);
        coef = is.coef;
      }

  leader_form : (i : ℕ) (h : HeadingOf) (l : LeaderOf) → slice_get hs i ≡ Some h
      → IsHeading h → IsBody ns vs i h l → IsLeaderForm l
  leader_form i h l at heading body =
      let e = columns_of i h l at body in
      let n = follower_count (names_at vs i) h.members.followers l.followers body.followers in
      let free = subst (λ vars. (v : ℕ) (var : VarOf) → heading.own ≤ v
      → slice_get vars v ≡ Some var → IsFree var) body.vars
      (λ v var le at. free_at heading.own h.members.vars v var heading.members.free le at) in
      let stand = subst (λ vars. StandFrom heading.own h.members.followers (length vars)) body.vars
      heading.members.stand in
      let right = are_right (names_at vs i) (length l.base.vars) heading.own l.base e free
      heading.own h.members.followers l.followers (omega arith) body.followers stand in
      record {
        follower_count = omega (arith, heading.few.1, n);
        own_var = omega (arith, right.first, heading.some);
        followers = right.forms;
        order = right.order;
        free = right.free_vars;
        names = subst (λ vars. AreNames (map var_name vars)) body.vars heading.members.vars.names;
      }

  sound : 1 ≤ length hs → length hs ≤ 16 → IsSource ls
  sound some few = record {
    bases = record {
      some_player = omega (arith, some, leader_count ns vs 0 hs ls are, size);
      player_count = omega (arith, few, leader_count ns vs 0 hs ls are, size);
      players = λ i p at.
          let of = base_at ls i p at in
          let h = found_at i of.0 of.1 in
          subst (IsPlayerForm (bases ls) i) of.2
          (player_form i h.0 of.0 h.1 (all_at IsHeading hs i h.0 headings.each_one h.1) h.2);
    };
    leaders = λ i l at.
        let h = found_at i l at in
        leader_form i h.0 l h.1 (all_at IsHeading hs i h.0 headings.each_one h.1) h.2;
    names = subst AreNames (leader_names ns vs 0 hs ls are) headings.names;
  }
    where
      size : length (bases ls) ≡ length ls
      size = length-map ls (λ l. l.base)

-- ---- the laws

-- the leaders that are read make a source
pub leaders_are_right : (f : GameFormat) (most cross : ℕ) (taken : Name) (d : Data)
    (ds : List Data) (ls : SourceOf) → most ≤ 16 → cross ≤ 65536 → listed 1 most d ≡ Ok ds
    → leaders_in f cross taken ds ≡ Ok ls → IsSource ls
leaders_are_right f most cross taken d ds ls m c l e =
    let hs = bind_ok (each (add_heading f taken) 0 [] ds) _ ls e in
    let few = listed_ok 1 most d ds l in
    let n = each_counts (add_heading f taken) (headings_count f taken) 0 [] ds hs.0 hs.1 in
    let headings = each_keeps AreHeadings (add_heading f taken) (headings_keep f taken) 0 [] ds hs.0
    (record { names = no_names; each_one = All-nil IsHeading }) hs.1 in
    let are = leaders_are (map heading_name hs.0) (map variable_names hs.0) f cross c hs.0 ls
    hs.2 in
    sound hs.0 ls are headings (omega (arith, few.0, n)) (omega (arith, few.1, n, m))

-- the source of a value keeps the rules
pub source_is_right : (d : Data) (ls : SourceOf) → source_in d ≡ Ok ls → IsSource ls
source_is_right d ls e =
    let o = bind_ok (object_in d) _ ls e in
    let f = bind_ok (needed (codes "format") format_in d) (λ f. players_of_in f 16 65536 [] d) ls
    o.2 in
    let at = needed_ok (codes "players") (players_in f.0 16 65536 []) d ls f.2 in
    let ds = bind_ok (listed 1 16 at.0) (leaders_in f.0 65536 []) ls at.1 in
    leaders_are_right f.0 16 65536 [] at.0 ds.0 ls (omega arith) (omega arith) ds.1 ds.2
