-- The values of followers are read as these.
use Rattle.std.proofs.Common.{◌≡◌, ℕ, zero, suc, ◌+◌, ◌-◌, ◌<◌, ◌≤◌, ℤ, pos, List, [], ◌∷◌, ◌++◌, length, filter, map, take, drop, refl, sym, ap, subst, ◌∙◌, Ok, Option, Some, None, Bool, true, false, arith, codes, decimal, append-nil, length-append}
use Rattle.std.specs.Prelude.{IsTrue, ◌&&◌, nat_le, nat_lt, slice_get, if◌then◌else◌}
use Rattle.std.specs.List.{All}
use Rattle.std.specs.declared.cmp.Ordering.TheVariants.{Less}
use Rattle.std.specs.BTreeMap.{insert_entry}
use Rattle.std.proofs.lemmas.Bool.Decides.{nat_tests}
use Rattle.std.proofs.lemmas.List.{get_or_append_left, length-take, map-append, take-append-drop}
use Rattle.std.proofs.lemmas.List.Elements.{All-nil, All-cons}
use mathlib.Core.List.{append_assoc}
use Rattle.serde_json.specs.Data.{Data, string}
use Rattle.serde_json.specs.Find.{get}
use Rattle.serde_json.proofs.OnLiterals.{serde_json_on_literals}
use Rattle.zr_game.specs.Players.{Name, VarOf, PlayerOf}
use Rattle.zr_game.specs.Forms.{IsCoefficient, place_order}
use Rattle.zr_source.specs.Sources.{FollowerOf, IsOwn}
use Rattle.zr_source.specs.SourceForms.{AreFree, IsFollowerForm, StandInOrder, first_of, follower_cross_order}
use Rattle.zr_source.specs.Names.{AreNames, is_name, var_name}
use Rattle.zr_value.specs.declared.fault.GameFault.TheVariants.{Count, OwnCross, Twice, UnknownName}
use Rattle.zr_value.specs.Faults.{Read, ◌>>=◌, fault, under}
use Rattle.zr_value.specs.Values.{needed, optional, part, items_in, listed, each}
use Rattle.zr_value.specs.Names.{new_name_in, known_in}
use Rattle.zr_value.specs.Terms.{taken, is_term, terms_in}
use Rattle.zr_value.specs.declared.format.GameFormat.{GameFormat}
use Rattle.zr_value.specs.declared.format.Aim.TheVariants.{Min}
use Rattle.zr_value.specs.Formats.{aim_in, aim_of_in, aimed, cost_number_in}
use Rattle.zr_read.specs.Rows.{rows_in}
use Rattle.zr_read.specs.Costs.{Place}
use Rattle.zr_read.specs.Followers.{FollowerHeadingOf, MembersOf, free_variable, add_free, free_in, add_follower_heading, alone, follower_headings_in, is_own, own_variable_in, given_variable_in, add_follower_cross, follower_cross_of, follower_cross_in, follower_in, add_follower, followers_in}
use Rattle.zr_read.proofs.CostForms.{place_order_total}
use Rattle.zr_read.proofs.FollowerForms.{IsFree}
use Rattle.zr_write.specs.Canonical.{whole_data, list_data, name_data, row_data, terms_data, follower_cross_data, follower_data}
use Rattle.zr_write.proofs.VariablesBack.{then_back, needed_back, optional_back, part_back, since_missing, leb_is, known_back, new_name_back, items_back, listed_data_back, each_back, all_back, map-itself, IsNewVar, variables_fit}
use Rattle.zr_write.proofs.RowsBack.{IsAfter, insert_last, free_last, after_none, entries_back, none_dropped, terms_back, rows_back}
use Rattle.zr_write.proofs.CostsBack.{cost_number_back, entries_ordered, made_again}

-- ---- parts of lists

take_none : {A : Type 0} (n : ℕ) → take {A = A} n [] ≡ []
take_none zero = refl
take_none (suc n) = refl

take_all : {A : Type 0} (xs : List A) → take (length xs) xs ≡ xs
take_all [] = refl
take_all (x ∷ xs) =
    let e : length (x ∷ xs) ≡ suc (length xs) = omega arith in
    ap (λ n. take n (x ∷ xs)) e ∙ ap (λ r. x ∷ r) (take_all xs)

take_further : {A : Type 0} (m n : ℕ) (xs : List A)
    → take m xs ++ take n (drop m xs) ≡ take (m + n) xs
take_further zero n xs = let e : n ≡ 0 + n = omega arith in ap (λ k. take k xs) e
take_further (suc m) n [] = take_none n ∙ sym (take_none (suc m + n))
take_further (suc m) n (x ∷ xs) =
    let e : suc (m + n) ≡ suc m + n = omega arith in
    ap (λ r. x ∷ r) (take_further m n xs) ∙ ap (λ k. take k (x ∷ xs)) e

names_before : (xs ys : List Name) → AreNames (xs ++ ys) → AreNames xs
names_before xs ys are =
    let n : length (xs ++ ys) ≡ length xs + length ys = length-append xs ys in
    record {
      rule = λ k d below. subst (λ s. IsTrue (is_name s)) (get_or_append_left xs ys d k below)
          (are.rule k d (omega (arith, n, below)));
      differ = λ i j d less below same. are.differ i j d less (omega (arith, n, below))
          (get_or_append_left xs ys d i (omega (arith, less, below)) ∙ same
          ∙ sym (get_or_append_left xs ys d j below));
    }

pub names_taken : (n : ℕ) (vs : List VarOf) → AreNames (map var_name vs)
    → AreNames (map var_name (take n vs))
names_taken n vs are =
    names_before (map var_name (take n vs)) (map var_name (drop n vs))
    (subst AreNames (ap (map var_name) (sym (take-append-drop n vs))
    ∙ map-append var_name (take n vs) (drop n vs)) are)

-- ---- the first pass: a follower's variables

abbrev name_of : VarOf → Data
name_of v = string v.name

first_names : (n : ℕ) (vs : List VarOf)
    → map (λ name. string name) (take n (map var_name vs)) ≡ map name_of (take n vs)
first_names zero vs = refl
first_names (suc n) [] = refl
first_names (suc n) (v ∷ vs) = ap (λ r. name_of v ∷ r) (first_names n vs)

names_between : (m n : ℕ) (vs : List VarOf)
    → map (λ name. string name) (take n (drop m (map var_name vs)))
    ≡ map name_of (take n (drop m vs))
names_between zero n vs = first_names n vs
names_between (suc m) n [] = first_names n []
names_between (suc m) n (v ∷ vs) = names_between m n vs

none_free : (n : ℕ) → All IsFree (take n [])
none_free zero = All-nil IsFree
none_free (suc n) = All-nil IsFree

free_between : (m n : ℕ) (vs : List VarOf)
    → ((v : ℕ) (var : VarOf) → m ≤ v → v < m + n → slice_get vs v ≡ Some var → IsFree var)
    → All IsFree (take n (drop m vs))
free_between zero zero vs free = All-nil IsFree
free_between zero (suc n) [] free = All-nil IsFree
free_between zero (suc n) (x ∷ vs) free =
    All-cons IsFree x (take n vs) (free 0 x (omega arith) (omega arith) refl)
    (free_between zero n vs (λ v var le lt at.
    free (suc v) var (omega arith) (omega (arith, lt)) at))
free_between (suc m) n [] free = none_free n
free_between (suc m) n (x ∷ vs) free =
    free_between m n vs
    (λ v var le lt at. free (suc v) var (omega (arith, le)) (omega (arith, lt)) at)

abbrev var_with : Name → Bool → Option ℤ → Option ℤ → VarOf
var_with name whole low up = record { name = name; whole = whole; low = low; up = up }

free_is : (v : VarOf) → IsFree v → free_variable v.name ≡ v
free_is v free =
    ap (λ whole. var_with v.name whole (Some (pos 0)) None)
    (sym free.0)
    ∙ ap (λ low. var_with v.name v.whole low None)
    (sym free.1)
    ∙ ap (λ up. var_with v.name v.whole v.low up)
    (sym free.2)

add_free_back : (before : List VarOf) (v : VarOf) → IsNewVar IsFree before v
    → add_free before (name_of v) ≡ Ok (before ++ v ∷ [])
add_free_back before v new =
    then_back (new_name_in (map var_name before) (name_of v)) v.name
    (λ name. Ok (before ++ free_variable name ∷ [])) (Ok (before ++ v ∷ []))
    (new_name_back (map var_name before) v.name new.0)
    (ap (λ u. Ok (before ++ u ∷ [])) (free_is v new.1))

each_free_back : (before us : List VarOf) → All IsFree us → AreNames (map var_name (before ++ us))
    → each add_free 0 before (map name_of us) ≡ Ok (before ++ us)
each_free_back before us free names =
    each_back (λ v. v) (IsNewVar IsFree) add_free name_of add_free_back 0 before us
    (variables_fit IsFree before us free names) ∙ ap (λ vs. Ok (before ++ vs)) (map-itself us)

-- the heading of a follower of a leader whose variables have these names
abbrev pub follower_heading : List Name → FollowerOf → FollowerHeadingOf
follower_heading names f =
    record { first = f.first; count = f.count; value = follower_data names f }

abbrev members : List VarOf → List FollowerHeadingOf → MembersOf
members vars hs = record { vars = vars; followers = hs }

abbrev with_one : List VarOf → List FollowerHeadingOf → ℕ → ℕ → Data → MembersOf
with_one vars hs n m d =
    members vars (hs ++ (record { first = n; count = m; value = d }) ∷ [])

module _ (base : PlayerOf) (are : AreNames (map var_name base.vars)) where
  abbrev names : List Name
  names = map var_name base.vars

  abbrev columns : ℕ
  columns = length base.vars

  vars_there : (f : FollowerOf) → get (codes "vars") (follower_data names f)
      ≡ Some (list_data (λ name. string name) (take f.count (drop f.first names)))
  unfolding serde_json_on_literals
  vars_there f = refl

  free_back : (f : FollowerOf) → f.first + f.count ≤ columns → AreFree base f
      → free_in (take f.first base.vars)
      (list_data (λ name. string name) (take f.count (drop f.first names)))
      ≡ Ok (take (f.first + f.count) base.vars)
  free_back f exist free =
      let vs = base.vars in
      let before = take f.first vs in
      let us = take f.count (drop f.first vs) in
      let ds = map (λ name. string name) (take f.count (drop f.first names)) in
      let joined = take_further f.first f.count vs in
      then_back (items_in (list_data (λ name. string name) (take f.count (drop f.first names)))) ds
      (λ ds. each add_free 0 before ds) (Ok (take (f.first + f.count) vs)) (items_back ds)
      (ap (λ ds. each add_free 0 before ds) (names_between f.first f.count vs)
      ∙ each_free_back before us
      (free_between f.first f.count vs (λ v var le lt at. free v var (le, lt) at))
      (subst (λ ws. AreNames (map var_name ws)) (sym joined)
      (names_taken (f.first + f.count) vs are))
      ∙ ap Ok joined)

  heading_back : (hs : List FollowerHeadingOf) (f : FollowerOf) (fs : List FollowerOf)
      → f.first + f.count ≤ columns → AreFree base f → f.first + f.count ≡ first_of columns fs
      → add_follower_heading (members (take f.first base.vars) hs) (follower_data names f)
      ≡ Ok (members (take (first_of columns fs) base.vars) (hs ++ follower_heading names f ∷ []))
  heading_back hs f fs exist free stand =
      let vs = base.vars in
      let d = follower_data names f in
      let before = take f.first vs in
      let all = take (f.first + f.count) vs in
      let l = length-take f.first vs in
      let m = length-take (f.first + f.count) vs in
      let first : length before ≡ f.first = omega (arith, l, exist) in
      let both : length all ≡ f.first + f.count = omega (arith, m, exist) in
      let count : length all - length before ≡ f.count = omega (arith, first, both) in
      then_back (needed (codes "vars") (free_in before) d) all
      (λ vars. Ok (with_one vars hs (length before) (length vars - length before) d))
      (Ok (members (take (first_of columns fs) vs) (hs ++ follower_heading names f ∷ [])))
      (needed_back (codes "vars") (free_in before) d
      (list_data (λ name. string name) (take f.count (drop f.first names))) all (vars_there f)
      (free_back f exist free))
      (ap (λ n. Ok (with_one all hs n (length all - length before) d)) first
      ∙ ap (λ n. Ok (with_one all hs f.first n d)) count
      ∙ ap (λ n. Ok (with_one (take n vs) hs f.first f.count d)) stand)

  headings_back : (k : ℕ) (hs : List FollowerHeadingOf) (fs : List FollowerOf)
      → All (IsFollowerForm columns) fs → All (AreFree base) fs → StandInOrder columns fs
      → each add_follower_heading k (members (take (first_of columns fs) base.vars) hs)
      (map (follower_data names) fs)
      ≡ Ok (members base.vars (hs ++ map (follower_heading names) fs))
  headings_back k hs [] forms free stand =
      ap (λ vs. Ok (members vs hs)) (take_all base.vars)
      ∙ ap (λ hs. Ok (members base.vars hs)) (sym (append-nil hs))
  headings_back k hs (f ∷ fs) forms free stand =
      let before = members (take f.first base.vars) hs in
      let d = follower_data names f in
      let more = hs ++ follower_heading names f ∷ [] in
      let next = members (take (first_of columns fs) base.vars) more in
      let form = forms 0 f (omega arith) in
      let one : under (decimal k) (add_follower_heading before d) ≡ Ok next
      = rw (heading_back hs f fs form.vars_exist (free 0 f (omega arith)) stand.0) refl in
      then_back (under (decimal k) (add_follower_heading before d)) next
      (λ m. each add_follower_heading (k + 1) m (map (follower_data names) fs))
      (Ok (members base.vars (hs ++ follower_heading names f ∷ map (follower_heading names) fs)))
      one
      (headings_back (k + 1) more fs (λ k d below. forms (suc k) d (omega (arith, below)))
      (λ k d below. free (suc k) d (omega (arith, below))) stand.1
      ∙ ap (λ hs. Ok (members base.vars hs))
      (append_assoc hs (follower_heading names f ∷ []) (map (follower_heading names) fs)))

  -- the first pass over the followers
  pub follower_headings_back : (fs : List FollowerOf) → length fs ≤ 16 → columns ≤ 64
      → All (IsFollowerForm columns) fs → All (AreFree base) fs → StandInOrder columns fs
      → follower_headings_in (take (first_of columns fs) base.vars)
      (list_data (follower_data names) fs)
      ≡ Ok (members base.vars (map (follower_heading names) fs))
  follower_headings_back fs few narrow forms free stand =
      let own = take (first_of columns fs) base.vars in
      let all = members base.vars (map (follower_heading names) fs) in
      then_back (listed 0 16 (list_data (follower_data names) fs)) (map (follower_data names) fs)
      (λ ds. each add_follower_heading 0 (alone own) ds >>= λ all.
      if nat_le (length all.vars) 64 then Ok all else fault Count) (Ok all)
      (listed_data_back 0 16 (follower_data names) fs (omega arith) few)
      (then_back (each add_follower_heading 0 (alone own) (map (follower_data names) fs)) all
      (λ all. if nat_le (length all.vars) 64 then Ok all else fault Count) (Ok all)
      (headings_back 0 [] fs forms free stand) (rw (leb_is columns 64 narrow) refl))

-- ---- the second pass: what a follower wants

owned : (first count v : ℕ) → first ≤ v → v < first + count
    → (nat_le first v && nat_lt v (first + count)) ≡ true
owned first count v le lt = rw (leb_is first v le) (lt_is v (first + count) lt)
  where
    lt_is : (m n : ℕ) → m < n → nat_lt m n ≡ true
    lt_is m n h = grind (arith, nat_tests)

not_owned : (first count v : ℕ) → ((first ≤ v) × (v < first + count) → ⊥)
    → (nat_le first v && nat_lt v (first + count)) ≡ false
not_owned first count v other = by (nat_le first v) (nat_lt v (first + count)) refl refl
  where
    le_from : (m n : ℕ) → nat_le m n ≡ true → m ≤ n
    le_from m n h = grind (arith, nat_tests)

    lt_from : (m n : ℕ) → nat_lt m n ≡ true → m < n
    lt_from m n h = grind (arith, nat_tests)

    by : (a b : Bool) → nat_le first v ≡ a → nat_lt v (first + count) ≡ b → (a && b) ≡ false
    by true true e f = absurd (other (le_from first v e, lt_from v (first + count) f))
    by true false e f = refl
    by false b e f = refl

abbrev entry_of : ℕ × ℕ × ℤ → Place × ℤ
entry_of t = ((t.0, t.1), t.2)

module _ (names : List Name) (are : AreNames names) where
  module _ (f : FollowerOf) where
    abbrev heading : FollowerHeadingOf
    heading = follower_heading names f

    -- an own variable, and one of the leader's that isn't own
    abbrev IsKey : Place → Type 0
    IsKey k = IsOwn f k.0 × (k.1 < length names) × (IsOwn f k.1 → ⊥)

    add_cross_back : f.first + f.count ≤ length names → (before : List (Place × ℤ))
        (t : ℕ × ℕ × ℤ) → IsKey (t.0, t.1) → IsCoefficient t.2
        → IsAfter place_order (t.0, t.1) before
        → add_follower_cross names heading Min before (follower_cross_data names t)
        ≡ Ok (before ++ entry_of t ∷ [])
    add_cross_back exist before t key coef after =
        let d = follower_cross_data names t in
        let goal : Read (List (Place × ℤ)) = Ok (before ++ entry_of t ∷ []) in
        let own : own_variable_in names heading (name_data names t.0) ≡ Ok t.0
        = then_back (known_in names (name_data names t.0)) t.0
        (λ v. if is_own heading v then Ok v else fault UnknownName) (Ok t.0)
        (known_back names t.0 are (omega (arith, key.0.1, exist)))
        (rw (owned f.first f.count t.0 key.0.0 key.0.1) refl) in
        let var : given_variable_in names heading t.0 before (name_data names t.1) ≡ Ok t.1
        = then_back (known_in names (name_data names t.1)) t.1
        (λ v. if is_own heading v then fault OwnCross
        else (if taken place_order before (t.0, v) then fault Twice else Ok v)) (Ok t.1)
        (known_back names t.1 are key.1)
        (rw (not_owned f.first f.count t.1 key.2)
        (rw (free_last place_order before (t.0, t.1) after) refl)) in
        then_back (part 0 (own_variable_in names heading) d) t.0
        (λ o. part 1 (given_variable_in names heading o before) d >>= λ v.
        part 2 (cost_number_in Min) d >>= λ z. Ok (insert_entry place_order before (o, v) z)) goal
        (part_back 0 (own_variable_in names heading) d (name_data names t.0) t.0 refl own)
        (then_back (part 1 (given_variable_in names heading t.0 before) d) t.1
        (λ v. part 2 (cost_number_in Min) d >>= λ z.
        Ok (insert_entry place_order before (t.0, v) z)) goal
        (part_back 1 (given_variable_in names heading t.0 before) d (name_data names t.1) t.1 refl
        var)
        (then_back (part 2 (cost_number_in Min) d) t.2
        (λ z. Ok (insert_entry place_order before (t.0, t.1) z)) goal
        (part_back 2 (cost_number_in Min) d (whole_data t.2) t.2 refl (cost_number_back t.2 coef))
        (ap Ok (insert_last place_order before (t.0, t.1) t.2 after))))

    cross_back : IsFollowerForm (length names) f
        → follower_cross_in names heading Min (list_data (follower_cross_data names) f.cross)
        ≡ Ok f.cross
    cross_back form =
        let ts = f.cross in
        let o = entries_ordered place_order (λ s t. follower_cross_order s t ≡ Less) entry_of
        (λ s t less. less) IsKey IsCoefficient ts form.cross_ascends
        (λ k d below. let is = form.cross k d below in ((is.own, is.var, is.other), is.coef)) in
        then_back (listed 0 65536 (list_data (follower_cross_data names) ts))
        (map (follower_cross_data names) ts)
        (λ ds. each (add_follower_cross names heading Min) 0 [] ds >>= λ all.
        Ok (map follower_cross_of (filter is_term all))) (Ok ts)
        (listed_data_back 0 65536 (follower_cross_data names) ts (omega arith) form.cross_count)
        (then_back (each (add_follower_cross names heading Min) 0 []
        (map (follower_cross_data names) ts)) (map entry_of ts)
        (λ all. Ok (map follower_cross_of (filter is_term all))) (Ok ts)
        (entries_back place_order place_order_total IsKey IsCoefficient entry_of
        (add_follower_cross names heading Min) (follower_cross_data names)
        (add_cross_back form.vars_exist) 0 [] ts o (after_none place_order (map entry_of ts)))
        (ap (λ es. Ok (map follower_cross_of es))
        (none_dropped place_order IsKey (map entry_of ts) o)
        ∙ ap Ok (made_again entry_of follower_cross_of (λ t. refl) ts)))

    aim_missing : get (codes "aim") (follower_data names f) ≡ None
    unfolding serde_json_on_literals
    aim_missing = refl

    rows_there : get (codes "rows") (follower_data names f)
        ≡ Some (list_data (row_data names) f.rows)
    unfolding serde_json_on_literals
    rows_there = refl

    cost_there : get (codes "cost") (follower_data names f) ≡ Some (terms_data names f.cost)
    unfolding serde_json_on_literals
    cost_there = refl

    cross_there : get (codes "cross") (follower_data names f)
        ≡ Some (list_data (follower_cross_data names) f.cross)
    unfolding serde_json_on_literals
    cross_there = refl

    follower_back : (format : GameFormat) → IsFollowerForm (length names) f
        → follower_in format names heading ≡ Ok f
    follower_back format form =
        let d = follower_data names f in
        then_back (aim_of_in format d) Min
        (λ aim. optional (codes "rows") [] (rows_in format 32 names) d >>= λ rows.
        optional (codes "cost") [] (terms_in names) d >>= λ cost.
        optional (codes "cross") [] (follower_cross_in names heading aim) d >>= λ cross.
        Ok (record {
          first = f.first;
          count = f.count;
          rows = rows;
          cost = aimed aim cost;
          cross = cross;
        })) (Ok f) (since_missing format (codes "aim") Min aim_in d aim_missing)
        (then_back (optional (codes "rows") [] (rows_in format 32 names) d) f.rows
        (λ rows. optional (codes "cost") [] (terms_in names) d >>= λ cost.
        optional (codes "cross") [] (follower_cross_in names heading Min) d >>= λ cross.
        Ok (record {
          first = f.first;
          count = f.count;
          rows = rows;
          cost = cost;
          cross = cross;
        })) (Ok f)
        (optional_back (codes "rows") [] (rows_in format 32 names) d
        (list_data (row_data names) f.rows) f.rows rows_there
        (rows_back names are format 32 f.rows form.row_count form.rows))
        (then_back (optional (codes "cost") [] (terms_in names) d) f.cost
        (λ cost. optional (codes "cross") [] (follower_cross_in names heading Min) d >>= λ cross.
        Ok (record {
          first = f.first;
          count = f.count;
          rows = f.rows;
          cost = cost;
          cross = cross;
        })) (Ok f)
        (optional_back (codes "cost") [] (terms_in names) d (terms_data names f.cost) f.cost
        cost_there (terms_back names are f.cost form.cost))
        (then_back (optional (codes "cross") [] (follower_cross_in names heading Min) d) f.cross
        (λ cross. Ok (record {
          first = f.first;
          count = f.count;
          rows = f.rows;
          cost = f.cost;
          cross = cross;
        })) (Ok f)
        (optional_back (codes "cross") [] (follower_cross_in names heading Min) d
        (list_data (follower_cross_data names) f.cross) f.cross cross_there (cross_back form))
        refl)))

  -- the second pass over the followers
  pub followers_back : (format : GameFormat) (fs : List FollowerOf)
      → All (IsFollowerForm (length names)) fs
      → followers_in format names (map (follower_heading names) fs) ≡ Ok fs
  followers_back format fs forms =
      all_back (IsFollowerForm (length names)) (add_follower format names) (follower_heading names)
      (λ before f form. then_back (follower_in format names (follower_heading names f)) f
      (λ f. Ok (before ++ f ∷ [])) (Ok (before ++ f ∷ [])) (follower_back f format form) refl)
      fs forms
