-- The followers that are read keep the rules.
use Rattle.std.proofs.Common.{◌≡◌, ℕ, zero, suc, ◌+◌, ◌-◌, ◌<◌, ◌≤◌, ℤ, pos, List, [], ◌∷◌, ◌++◌, length, filter, map, refl, sym, ap, subst, ◌∙◌, Ok, Some, None, Bool, true, false, cond, codes, arith, decimal}
use Rattle.std.specs.Prelude.{◌&&◌, nat_le, nat_lt, slice_get}
use Rattle.std.specs.List.{All, AllPairs}
use Rattle.std.specs.declared.cmp.Ordering.TheVariants.{Less}
use Rattle.std.proofs.lemmas.Bool.Decides.{nat_tests}
use Rattle.std.proofs.lemmas.Int.{ints}
use Rattle.std.proofs.lemmas.List.{length-map}
use Rattle.std.proofs.lemmas.List.Elements.{All-nil}
use Rattle.std.specs.BTreeMap.{insert_entry}
use mathlib.Core.List.{append_assoc}
use Rattle.serde_json.specs.Data.{Data}
use Rattle.zr_base.specs.Terms.{Terms}
use Rattle.zr_game.specs.Players.{Name, VarOf}
use Rattle.zr_game.specs.Forms.{AreTerms, IsNumber, IsCoefficient, IsRowForm, IsVarForm, place_order}
use Rattle.zr_source.specs.Sources.{FollowerOf}
use Rattle.zr_source.specs.SourceForms.{follower_cross_order}
use Rattle.zr_source.specs.Names.{var_name}
use Rattle.zr_value.specs.declared.fault.GameFault.{GameFault}
use Rattle.zr_value.specs.declared.fault.GameFault.TheVariants.{UnknownName, OwnCross, Twice, Count}
use Rattle.zr_value.specs.Faults.{Read, fault, under}
use Rattle.zr_value.specs.Values.{object_in, items_in, needed, optional, part, listed, tuple, each}
use Rattle.zr_value.specs.Names.{new_name_in, known_in}
use Rattle.zr_value.specs.Terms.{taken, is_term, terms_in}
use Rattle.zr_value.proofs.Behind.{bind_ok, guard_ok, only_ok, part_ok, under_ok, needed_ok, optional_keeps, each_keeps, each_grows, listed_ok, both_true, le_from_test}
use Rattle.zr_value.proofs.Keys.{Ordered, ordered_insert, ordered_filter, length-insert, length-kept}
use Rattle.zr_value.proofs.TermLaws.{known_below, terms_are_right, opposite_ascends}
use Rattle.zr_value.specs.declared.format.GameFormat.{GameFormat}
use Rattle.zr_value.specs.declared.format.Aim.{Aim}
use Rattle.zr_value.specs.declared.format.Aim.TheVariants.{Min, Max}
use Rattle.zr_value.specs.Formats.{aim_of_in, aimed, cost_number_in}
use Rattle.zr_read.specs.Rows.{rows_in}
use Rattle.zr_read.specs.Costs.{Place}
use Rattle.zr_read.specs.Followers.{FollowerHeadingOf, MembersOf, free_variable, add_free, free_in, add_follower_heading, alone, follower_headings_in, is_own, own_variable_in, given_variable_in, add_follower_cross, follower_cross_of, follower_cross_in, follower_in, add_follower, followers_in}
use Rattle.zr_read.proofs.Naming.{new_name_ok, length-push}
use Rattle.zr_read.proofs.OwnVars.{AreVariables, variables_push}
use Rattle.zr_read.proofs.RowForms.{rows_ok}
use Rattle.zr_read.proofs.CostForms.{place_order_total, made_ascend, made_all, sum_ones, cost_number_ok, ok_same}

-- ---- the first pass

-- continuous, from 0 on, without an upper bound
abbrev pub IsFree : VarOf → Type 0
IsFree var = (var.whole ≡ false) × (var.low ≡ Some (pos 0)) × (var.up ≡ None)

-- all variables from number n on are
abbrev pub AreFreeFrom : ℕ → List VarOf → Type 0
AreFreeFrom n [] = Unit {0}
AreFreeFrom zero (v ∷ vs) = IsFree v × AreFreeFrom zero vs
AreFreeFrom (suc n) (v ∷ vs) = AreFreeFrom n vs

free_push : (n : ℕ) (vs : List VarOf) (v : VarOf) → AreFreeFrom n vs → IsFree v
    → AreFreeFrom n (vs ++ v ∷ [])
free_push zero [] v a is = (is, tt)
free_push (suc n) [] v a is = tt
free_push zero (u ∷ vs) v a is = (a.0, free_push zero vs v a.1 is)
free_push (suc n) (u ∷ vs) v a is = free_push n vs v a is

pub free_at : (n : ℕ) (vs : List VarOf) (v : ℕ) (var : VarOf) → AreFreeFrom n vs → n ≤ v
    → slice_get vs v ≡ Some var → IsFree var
free_at n [] v var a le at = absurd (cc)
free_at zero (u ∷ vs) zero var a le at = let same : u ≡ var = cc in subst IsFree same a.0
free_at zero (u ∷ vs) (suc v) var a le at = free_at zero vs v var a.1 (omega arith) at
free_at (suc n) (u ∷ vs) zero var a le at = absurd (omega (arith, le))
free_at (suc n) (u ∷ vs) (suc v) var a le at = free_at n vs v var a (omega (arith, le)) at

free_past : (vs : List VarOf) → AreFreeFrom (length vs) vs
free_past [] = tt
free_past (v ∷ vs) =
    let e : length (v ∷ vs) ≡ suc (length vs) = omega arith in
    subst (λ n. AreFreeFrom n (v ∷ vs)) (sym e) (free_past vs)

-- followers whose variables stand one after another from `from` to `to`
abbrev pub StandFrom : ℕ → List FollowerHeadingOf → ℕ → Type 0
StandFrom from [] to = from ≡ to
StandFrom from (h ∷ hs) to = (h.first ≡ from) × StandFrom (from + h.count) hs to

stand_push : (from : ℕ) (hs : List FollowerHeadingOf) (mid to : ℕ) (h : FollowerHeadingOf)
    → StandFrom from hs mid → h.first ≡ mid → mid + h.count ≡ to
    → StandFrom from (hs ++ h ∷ []) to
stand_push from [] mid to h s first end = (first ∙ sym s, omega (arith, s, end))
stand_push from (k ∷ hs) mid to h s first end =
    (s.0, stand_push (from + k.count) hs mid to h s.1 first end)

-- variables after n own ones
pub record AreMembers (n : ℕ) (m : MembersOf) : Type 0 where
  pub vars : AreVariables m.vars
  pub free : AreFreeFrom n m.vars
  pub stand : StandFrom n m.followers (length m.vars)

free_form : (s : Name) → IsVarForm (free_variable s)
free_form s = record {
  low = λ z e. let zero : pos 0 ≡ z = cc in subst IsNumber zero
      (omega (arith, ints), omega (arith, ints));
  up = λ z e. absurd (cc);
  ordered = λ l e u k. absurd (cc);
}

abbrev AreLonger : ℕ → ℕ → List VarOf → Type 0
AreLonger n least vs = AreVariables vs × AreFreeFrom n vs × (least ≤ length vs)

free_keep : (n least : ℕ) (s : List VarOf) (d : Data) (t : List VarOf) → AreLonger n least s
    → add_free s d ≡ Ok t → AreLonger n least t
free_keep n least s d t are h =
    let b = bind_ok (new_name_in (map var_name s) d) (λ name. Ok (s ++ free_variable name ∷ [])) t
    h in
    let e = ok_same (s ++ free_variable b.0 ∷ []) t b.2 in
    let one = length-push s (free_variable b.0) in
    subst (AreLonger n least) e (
      variables_push s (free_variable b.0) are.0 (new_name_ok (map var_name s) d b.0 b.1)
          (free_form b.0),
      free_push n s (free_variable b.0) are.1 (refl, refl, refl),
      omega (arith, one, are.2),
    )

free_ok : (n : ℕ) (s : List VarOf) (d : Data) (t : List VarOf) → AreVariables s
    → AreFreeFrom n s → free_in s d ≡ Ok t → AreLonger n (length s) t
free_ok n s d t vars free h =
    let ds = bind_ok (items_in d) (λ ds. each add_free 0 s ds) t h in
    each_keeps (AreLonger n (length s)) add_free (free_keep n (length s)) 0 s ds.0 t
    (vars, free, omega arith) ds.2

members_keep : (n : ℕ) (s : MembersOf) (d : Data) (t : MembersOf) → AreMembers n s
    → add_follower_heading s d ≡ Ok t → AreMembers n t
members_keep n s d t are h =
    let o = bind_ok (object_in d) _ t h in
    let v = bind_ok (needed (codes "vars") (free_in s.vars) d) _ t o.2 in
    let at = needed_ok (codes "vars") (free_in s.vars) d v.0 v.1 in
    let ok = free_ok n s.vars at.0 v.0 are.vars are.free at.1 in
    let heading : FollowerHeadingOf = record {
      first = length s.vars;
      count = length v.0 - length s.vars;
      value = d;
    } in
    let e = ok_same (record { vars = v.0; followers = s.followers ++ heading ∷ [] }) t v.2 in
    subst (AreMembers n) e (record {
      vars = ok.0;
      free = ok.1;
      stand = stand_push n s.followers (length s.vars) (length v.0) heading are.stand refl
          (omega (arith, ok.2));
    })

members_grow : (s : MembersOf) (d : Data) (t : MembersOf) → add_follower_heading s d ≡ Ok t
    → length t.followers ≤ length s.followers + 1
members_grow s d t h =
    let o = bind_ok (object_in d) _ t h in
    let v = bind_ok (needed (codes "vars") (free_in s.vars) d) _ t o.2 in
    let heading : FollowerHeadingOf = record {
      first = length s.vars;
      count = length v.0 - length s.vars;
      value = d;
    } in
    let e = ok_same (record { vars = v.0; followers = s.followers ++ heading ∷ [] }) t v.2 in
    let one = length-push s.followers heading in
    subst (λ (t : MembersOf). length t.followers ≤ length s.followers + 1) e (omega (arith, one))

abbrev pub AreFew : MembersOf → Type 0
AreFew m = (length m.vars ≤ 64) × (length m.followers ≤ 16)

pub alone_ok : (own : List VarOf) → AreVariables own → AreMembers (length own) (alone own)
alone_ok own vars = record { vars = vars; free = free_past own; stand = refl }

-- the followers' variables that are read are right, and few
pub members_ok : (own : List VarOf) (d : Data) (m : MembersOf) → AreVariables own
    → follower_headings_in own d ≡ Ok m → AreMembers (length own) m × AreFew m
members_ok own d m vars h =
    let ds = bind_ok (listed 0 16 d) _ m h in
    let all = bind_ok (each add_follower_heading 0 (alone own) ds.0) _ m ds.2 in
    let few = only_ok Count (nat_le (length all.0.vars) 64) all.0 m all.2 in
    let n = each_grows (λ (m : MembersOf). length m.followers) (λ _. 1) add_follower_heading
    members_grow 0 (alone own) ds.0 all.0 all.1 in
    let ones = sum_ones ds.0 in
    let most = listed_ok 0 16 d ds.0 ds.1 in
    let within = le_from_test (length all.0.vars) 64 few.0 in
    subst (λ m. AreMembers (length own) m × AreFew m) few.1 (
      each_keeps (AreMembers (length own)) add_follower_heading (members_keep (length own)) 0
          (alone own) ds.0 all.0 (alone_ok own vars) all.1,
      (within, omega (arith, n, ones, most.1)),
    )

-- ---- the second pass

pub aimed_ok : (n : ℕ) (aim : Aim) (ts : Terms) → AreTerms n ts → AreTerms n (aimed aim ts)
aimed_ok n Min ts a = a
aimed_ok n Max ts a = opposite_ascends 0 n ts a

module _ (names : List Name) (h : FollowerHeadingOf) where
  abbrev pub Owns : ℕ → Type 0
  Owns v = (h.first ≤ v) × (v < h.first + h.count)

  owns_from_test : (v : ℕ) → is_own h v ≡ true → Owns v
  owns_from_test v e =
      let two = both_true (nat_le h.first v) (nat_lt v (h.first + h.count)) e in
      (le_from_test h.first v two.0, lt v (h.first + h.count) two.1)
    where
      lt : (m n : ℕ) → nat_lt m n ≡ true → m < n
      lt m n h = grind (arith, nat_tests)

  not_from_test : (v : ℕ) → is_own h v ≡ false → Owns v → ⊥
  not_from_test v e owns =
      both_false (nat_le h.first v) (nat_lt v (h.first + h.count)) e
      (le_test h.first v owns.0) (lt_test v (h.first + h.count) owns.1)
    where
      both_false : (a b : Bool) → (a && b) ≡ false → a ≡ true → b ≡ true → ⊥
      both_false true true e x y = absurd (cc)
      both_false true false e x y = absurd (cc)
      both_false false b e x y = absurd (cc)

      le_test : (m n : ℕ) → m ≤ n → nat_le m n ≡ true
      le_test m n h = grind (arith, nat_tests)

      lt_test : (m n : ℕ) → m < n → nat_lt m n ≡ true
      lt_test m n h = grind (arith, nat_tests)

  -- an own variable, and one of the leader's that isn't
  pub record IsCrossKey (k : Place) : Type 0 where
    pub own : Owns k.0
    pub var : k.1 < length names
    pub other : Owns k.1 → ⊥

  abbrev AreKept : List (Place × ℤ) → Type 0
  AreKept es = Ordered place_order IsCrossKey IsNumber es

  given_ok : (own : ℕ) (before : List (Place × ℤ)) (d : Data) (v : ℕ)
      → given_variable_in names h own before d ≡ Ok v
      → (v < length names) × (Owns v → ⊥)
  given_ok own before d v e =
      let k = bind_ok (known_in names d) _ v e in
      let free = guard_first OwnCross (is_own h k.0) (cond (taken place_order before (own, k.0))
      (fault Twice) (Ok k.0)) v k.2 in
      let same = guard_ok Twice (taken place_order before (own, k.0)) k.0 v free.1 in
      subst (λ v. (v < length names) × (Owns v → ⊥)) same.1
      (known_below names d k.0 k.1, not_from_test k.0 free.0)
    where
      guard_first : (what : GameFault) (b : Bool) (r : Read ℕ) (y : ℕ)
          → (let r : Read ℕ = cond b (fault what) r in r ≡ Ok y) → (b ≡ false) × (r ≡ Ok y)
      guard_first what true r y h = absurd (cc)
      guard_first what false r y h = (refl, h)

  module _ (aim : Aim) where
    cross_kept : (s : List (Place × ℤ)) (d : Data) (t : List (Place × ℤ)) → AreKept s
        → add_follower_cross names h aim s d ≡ Ok t → AreKept t
    cross_kept s d t o e =
        let three = bind_ok (tuple 3 d) _ t e in
        let own = bind_ok (part 0 (own_variable_in names h) d) _ t three.2 in
        let v = bind_ok (part 1 (given_variable_in names h own.0 s) d) _ t own.2 in
        let z = bind_ok (part 2 (cost_number_in aim) d) _ t v.2 in
        let own_at = part_ok 0 (own_variable_in names h) d own.0 own.1 in
        let v_at = part_ok 1 (given_variable_in names h own.0 s) d v.0 v.1 in
        let z_at = part_ok 2 (cost_number_in aim) d z.0 z.1 in
        let k = bind_ok (known_in names own_at.0) _ own.0 own_at.1 in
        let is = only_ok UnknownName (is_own h k.0) k.0 own.0 k.2 in
        let given = given_ok own.0 s v_at.0 v.0 v_at.1 in
        let same = ok_same (insert_entry place_order s (own.0, v.0) z.0) t z.2 in
        subst AreKept same (ordered_insert place_order place_order_total IsCrossKey IsNumber s
        (own.0, v.0) z.0 (record {
          own = subst Owns is.1 (owns_from_test k.0 is.0);
          var = given.0;
          other = given.1;
        }) (cost_number_ok aim z_at.0 z.0 z_at.1) o)

    cross_grows : (s : List (Place × ℤ)) (d : Data) (t : List (Place × ℤ))
        → add_follower_cross names h aim s d ≡ Ok t → length t ≤ length s + 1
    cross_grows s d t e =
        let three = bind_ok (tuple 3 d) _ t e in
        let own = bind_ok (part 0 (own_variable_in names h) d) _ t three.2 in
        let v = bind_ok (part 1 (given_variable_in names h own.0 s) d) _ t own.2 in
        let z = bind_ok (part 2 (cost_number_in aim) d) _ t v.2 in
        let same = ok_same (insert_entry place_order s (own.0, v.0) z.0) t z.2 in
        subst (λ t. length t ≤ length s + 1) same
        (length-insert place_order s (own.0, v.0) z.0)

    -- cross terms of the follower
    pub record AreCross (ts : List (ℕ × ℕ × ℤ)) : Type 0 where
      pub few : length ts ≤ 65536
      pub ascend : AllPairs (λ s t. follower_cross_order s t ≡ Less) ts
      pub terms : All (λ t. IsCrossKey (t.0, t.1) × IsCoefficient t.2) ts

    no_cross : AreCross []
    no_cross = record {
      few = omega arith;
      ascend = λ i j d less below. absurd (omega arith);
      terms = All-nil (λ t. IsCrossKey (t.0, t.1) × IsCoefficient t.2);
    }

    cross_right : (d : Data) (ts : List (ℕ × ℕ × ℤ)) → follower_cross_in names h aim d ≡ Ok ts
        → AreCross ts
    cross_right d ts e =
        let ds = bind_ok (listed 0 65536 d) _ ts e in
        let all = bind_ok (each (add_follower_cross names h aim) 0 [] ds.0) _ ts ds.2 in
        let es = filter is_term all.0 in
        let same = ok_same (map follower_cross_of es) ts all.2 in
        let few = listed_ok 0 65536 d ds.0 ds.1 in
        let n = each_grows length (λ _. 1) (add_follower_cross names h aim) cross_grows 0 [] ds.0
        all.0 all.1 in
        let ones = sum_ones ds.0 in
        let fewer = length-kept all.0 in
        let as_many = length-map es follower_cross_of in
        let kept = ordered_filter place_order IsCrossKey all.0
        (each_keeps AreKept (add_follower_cross names h aim) cross_kept 0 [] ds.0 all.0 tt
        all.1) in
        subst AreCross same (record {
          few = omega (arith, few.1, n, ones, fewer, as_many);
          ascend = made_ascend place_order (λ s t. follower_cross_order s t ≡ Less)
              follower_cross_of (λ a b less. less) IsCrossKey IsCoefficient es kept;
          terms = made_all place_order follower_cross_of
              (λ t. IsCrossKey (t.0, t.1) × IsCoefficient t.2) IsCrossKey IsCoefficient
              (λ e key coef. (key, coef)) es kept;
        })

    pub cross_of_member : (d : Data) (ts : List (ℕ × ℕ × ℤ))
        → optional (codes "cross") [] (follower_cross_in names h aim) d ≡ Ok ts → AreCross ts
    cross_of_member d ts e = optional_keeps AreCross (codes "cross") []
        (follower_cross_in names h aim) d ts no_cross cross_right e

  -- the follower of the heading
  pub record IsFollower (f : FollowerOf) : Type 0 where
    pub first : f.first ≡ h.first
    pub count : f.count ≡ h.count
    pub row_count : length f.rows ≤ 32
    pub rows : All (IsRowForm (length names)) f.rows
    pub cost : AreTerms (length names) f.cost
    pub cross_count : length f.cross ≤ 65536
    pub cross_ascends : AllPairs (λ s t. follower_cross_order s t ≡ Less) f.cross
    pub cross : All (λ t. IsCrossKey (t.0, t.1) × IsCoefficient t.2) f.cross

  pub follower_ok : (format : GameFormat) (f : FollowerOf) → follower_in format names h ≡ Ok f
      → IsFollower f
  follower_ok format f e =
      let a = bind_ok (aim_of_in format h.value) _ f e in
      let r = bind_ok (optional (codes "rows") [] (rows_in format 32 names) h.value) _ f a.2 in
      let c = bind_ok (optional (codes "cost") [] (terms_in names) h.value) _ f r.2 in
      let x = bind_ok (optional (codes "cross") [] (follower_cross_in names h a.0) h.value) _ f
      c.2 in
      let made : FollowerOf = record {
        first = h.first;
        count = h.count;
        rows = r.0;
        cost = aimed a.0 c.0;
        cross = x.0;
      } in
      let same = ok_same made f x.2 in
      let rows = optional_keeps (λ rs. (length rs ≤ 32) × All (IsRowForm (length names)) rs)
      (codes "rows") [] (rows_in format 32 names) h.value r.0
      (omega arith, All-nil (IsRowForm (length names))) (rows_ok format names 32) r.1 in
      let cost = optional_keeps (λ ts. AreTerms (length names) ts) (codes "cost") []
      (terms_in names) h.value c.0 tt (terms_are_right names) c.1 in
      let cross = cross_of_member a.0 h.value x.0 x.1 in
      subst IsFollower same (record {
        first = refl;
        count = refl;
        row_count = rows.0;
        rows = rows.1;
        cost = aimed_ok (length names) a.0 c.0 cost;
        cross_count = cross.few;
        cross_ascends = cross.ascend;
        cross = cross.terms;
      })

-- each follower is that of its heading
abbrev pub AreFollowers : List Name → List FollowerHeadingOf → List FollowerOf → Type 0
AreFollowers names [] [] = Unit {0}
AreFollowers names [] (f ∷ fs) = ⊥
AreFollowers names (h ∷ hs) [] = ⊥
AreFollowers names (h ∷ hs) (f ∷ fs) = IsFollower names h f × AreFollowers names hs fs

append_nil_right : (xs : List FollowerOf) → xs ++ [] ≡ xs
append_nil_right [] = refl
append_nil_right (x ∷ xs) = ap (λ r. x ∷ r) (append_nil_right xs)

-- the followers after those that are there already
followers_after : (format : GameFormat) (names : List Name) (k : ℕ) (s : List FollowerOf)
    (hs : List FollowerHeadingOf) (t : List FollowerOf)
    → each (add_follower format names) k s hs ≡ Ok t
    → (fs : List FollowerOf) × (s ++ fs ≡ t) × AreFollowers names hs fs
followers_after format names k s [] t e =
    let same = ok_same s t e in ([], append_nil_right s ∙ same, tt)
followers_after format names k s (h ∷ hs) t e =
    let b = bind_ok (under (decimal k) (add_follower format names s h))
    (λ more. each (add_follower format names) (k + 1) more hs) t e in
    let one = bind_ok (follower_in format names h) (λ f. Ok (s ++ f ∷ [])) b.0
    (under_ok (decimal k) (add_follower format names s h) b.0 b.1) in
    let same = ok_same (s ++ one.0 ∷ []) b.0 one.2 in
    let rest = followers_after format names (k + 1) b.0 hs t b.2 in (
      one.0 ∷ rest.0,
      sym (append_assoc s (one.0 ∷ []) rest.0) ∙ ap (λ xs. xs ++ rest.0) same ∙ rest.1,
      (follower_ok names h format one.0 one.1, rest.2),
    )

pub followers_ok : (format : GameFormat) (names : List Name) (hs : List FollowerHeadingOf)
    (fs : List FollowerOf) → followers_in format names hs ≡ Ok fs → AreFollowers names hs fs
followers_ok format names hs fs e =
    let all = followers_after format names 0 [] hs fs e in
    subst (AreFollowers names hs) all.1 all.2
