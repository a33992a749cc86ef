-- An expansion keeps the rules of games.
use Rattle.std.proofs.Common.{◌≡◌, ℕ, zero, suc, ◌+◌, ◌<◌, ◌≤◌, ◌==◌, arith, refl, sym, ap, subst, ◌∙◌, ℤ, pos, neg_ℤ, Bool, true, false, if◌then◌else◌, cond, List, [], ◌∷◌, ◌++◌, map, length, get_or, All, AllPairs, ⊎_elim, Some, None, slice_get}
use Rattle.std.specs.List.{filter}
use Rattle.std.specs.Ordering.{int_eq}
use Rattle.std.specs.declared.cmp.Ordering.TheVariants.{Less}
use Rattle.std.proofs.lemmas.Int.{ints}
use Rattle.std.proofs.lemmas.Bool.Decides.{Decides-int_eq, nat_tests}
use Rattle.std.proofs.lemmas.List.{length-append, length-map}
use Rattle.std.proofs.lemmas.List.Elements.{All-append}
use Rattle.std.proofs.lemmas.List.Kept.{AllPairs-filter}
use Rattle.std.proofs.lemmas.Option.{get_or_from_slice_get, slice_get_within}
use Rattle.zr_base.proofs.Worth.{Each}
use Rattle.zr_base.specs.Rows.{RowOf}
use Rattle.zr_base.specs.Terms.{AscendWith, Terms, coef_at}
use Rattle.zr_base.proofs.Members.{each_of_all}
use Rattle.zr_game.specs.Forms.{AreTerms, IsCoefficient, IsCrossForm, IsFromZero, IsGame, IsNumber, IsOtherForm, IsOthersVar, IsPairForm, IsPlayer, IsPlayerForm, IsRowForm, IsVarForm, cross_order, other_order}
use Rattle.zr_game.specs.Players.{GameOf, PairOf, PlayerOf, VarOf}
use Rattle.zr_game.specs.declared.player.CrossTerm.{CrossTerm}
use Rattle.zr_game.specs.declared.player.Other.{Other}
use Rattle.zr_game.proofs.Items.{one}
use Rattle.zr_follow.proofs.BaseProfiles.{base_is}
use Rattle.zr_follow.proofs.CountLaws.{length-all_pairs}
use Rattle.zr_follow.proofs.Expanded.{get_within, slice_get_back, slice_get_front}
use Rattle.zr_follow.specs.Expansion.{IsWithinCounts, all_pairs, cross_terms, follower_pairs, multipliers, row_pairs, row_terms, var_pairs}
use Rattle.zr_follow.proofs.Relations.{IsExpanded, IsExpansion, IsMultiplier}
use Rattle.zr_source.specs.SourceForms.{AreFree, IsFollowerCross, IsFollowerForm, IsSource, follower_cross_order}
use Rattle.zr_source.specs.Sources.{FollowerOf, IsLeader, IsOwn, LeaderOf, SourceOf, bases}

raised : (P : ℤ → Type 0) (low columns more : ℕ) (ts : Terms) → columns ≤ more → AscendWith P low columns ts → AscendWith P low more ts
raised P low columns more [] h a = tt
raised P low columns more (t ∷ ts) h a = (a.0, omega (arith, a.1, h), a.2, raised P (t.0 + 1) columns more ts h a.3)

lower : (P : ℤ → Type 0) (low less columns : ℕ) (ts : Terms) → less ≤ low → AscendWith P low columns ts → AscendWith P less columns ts
lower P low less columns [] h a = tt
lower P low less columns (t ∷ ts) h a = (omega (arith, a.0, h), a.1, a.2, a.3)

-- terms below a column, and terms from there on
joined : (P : ℤ → Type 0) (low columns more : ℕ) (xs ys : Terms) → low ≤ columns → columns ≤ more → AscendWith P low columns xs → AscendWith P columns more ys → AscendWith P low more (xs ++ ys)
joined P low columns more [] ys l h a b = lower P columns low more ys l b
joined P low columns more (t ∷ xs) ys l h a b =
    (a.0, omega (arith, a.1, h), a.2, joined P (t.0 + 1) columns more xs ys (omega (arith, a.1)) h a.3 b)

coef_number : (low columns : ℕ) (ts : Terms) (j : ℕ) → AscendWith IsCoefficient low columns ts → IsNumber (coef_at ts j)
coef_number low columns [] j a = (omega (arith, ints), omega (arith, ints))
coef_number low columns (t ∷ ts) j a = chosen (t.0 == j) (coef_number (t.0 + 1) columns ts j a.3)
  where
    chosen : (b : Bool) → IsNumber (coef_at ts j) → IsNumber (if b then t.1 else coef_at ts j)
    chosen true r = a.2.0
    chosen false r = r

negated_form : (low columns : ℕ) (ts : Terms) → AscendWith IsCoefficient low columns ts → AscendWith IsCoefficient low columns (map (λ t. (t.0, neg_ℤ t.1)) ts)
negated_form low columns [] a = tt
negated_form low columns (t ∷ ts) a =
    (a.0, a.1, turned t.1 a.2, negated_form (t.0 + 1) columns ts a.3)
  where
    turned : (z : ℤ) → IsCoefficient z → IsCoefficient (neg_ℤ z)
    turned z c =
        let p = c.0.0 in
        let q = c.0.1 in
        ((omega (arith, ints, p, q), omega (arith, ints, p, q)), λ e. c.1 (omega (arith, ints, e)))

row_terms_form : (from j columns more : ℕ) (rows : List RowOf) → from + length rows ≤ more → All (IsRowForm columns) rows → AscendWith IsCoefficient from more (row_terms from j rows)
row_terms_form from j columns more [] h forms = tt
row_terms_form from j columns more (row ∷ rows) h forms =
    let rest = row_terms_form (suc from) j columns more rows (omega (arith, h)) (λ k d p. forms (suc k) d (omega arith)) in
    chosen (int_eq (coef_at row.coef j) (pos 0)) refl rest
  where
    chosen : (b : Bool) → int_eq (coef_at row.coef j) (pos 0) ≡ b → AscendWith IsCoefficient (suc from) more (row_terms (suc from) j rows) → AscendWith IsCoefficient from more (if b then row_terms (suc from) j rows else (from, coef_at row.coef j) ∷ row_terms (suc from) j rows)
    chosen true e rest = lower IsCoefficient (suc from) from more (row_terms (suc from) j rows) (omega arith) rest
    chosen false e rest =
        let next : suc from ≡ from + 1 = omega arith in
        (omega arith, omega (arith, h), (coef_number 0 columns row.coef j (forms 0 row (omega arith)).coef, λ z. let t = (Decides-int_eq (coef_at row.coef j) (pos 0)).1 z in absurd cc), subst (λ (n : ℕ). AscendWith IsCoefficient n more (row_terms (suc from) j rows)) next rest)

-- a follower's cross terms of one variable ascend by the other
module _ (f : FollowerOf) (columns : ℕ) (form : IsFollowerForm columns f) (j : ℕ) where
  abbrev IsOf : ℕ × ℕ × ℤ → Type 0
  IsOf t = (t.0 ≡ j) × IsFollowerCross f columns t

  of_variable : (ts : List (ℕ × ℕ × ℤ)) → Each (IsFollowerCross f columns) ts → Each IsOf (filter (λ t. t.0 == j) ts)
  of_variable [] all = tt
  of_variable (t ∷ ts) all = keep (t.0 == j) refl (of_variable ts all.1)
    where
      keep : (b : Bool) → (t.0 == j) ≡ b → Each IsOf (filter (λ t. t.0 == j) ts) → Each IsOf (cond b (t ∷ filter (λ t. t.0 == j) ts) (filter (λ t. t.0 == j) ts))
      keep true e rest = ((grind (arith, nat_tests), all.0), rest)
      keep false e rest = rest

  after : (s t : ℕ × ℕ × ℤ) → s.0 ≡ j → t.0 ≡ j → follower_cross_order s t ≡ Less → s.1 < t.1
  after s t p q e = grind (arith, nat_tests)

  ascending : (low : ℕ) (ts : List (ℕ × ℕ × ℤ)) → Each IsOf ts → AllPairs (λ s t. follower_cross_order s t ≡ Less) ts → Each (λ (t : ℕ × ℕ × ℤ). low ≤ t.1) ts → AscendWith IsCoefficient low columns (map (λ t. (t.1, t.2)) ts)
  ascending low [] all order least = tt
  ascending low (t ∷ ts) all order least =
      (least.0, all.0.1.var, all.0.1.coef, ascending (t.1 + 1) ts all.1 (λ a b d p q. order (suc a) (suc b) d (omega arith) (omega arith)) (later ts all.1 (λ k d h. order 0 (suc k) d (omega arith) (omega arith))))
    where
      later : (us : List (ℕ × ℕ × ℤ)) → Each IsOf us → ((k : ℕ) (d : ℕ × ℕ × ℤ) → k < length us → follower_cross_order t (get_or us k d) ≡ Less) → Each (λ (u : ℕ × ℕ × ℤ). t.1 + 1 ≤ u.1) us
      later [] all h = tt
      later (u ∷ us) of h =
          let a = after t u all.0.0 of.0.0 (h 0 u (omega arith)) in
          (omega (arith, a), later us of.1 (λ k d p. h (suc k) d (omega arith)))

  any_low : (ts : List (ℕ × ℕ × ℤ)) → Each (λ (t : ℕ × ℕ × ℤ). 0 ≤ t.1) ts
  any_low [] = tt
  any_low (t ∷ ts) = (omega arith, any_low ts)

  cross_terms_form : AreTerms columns (cross_terms f j)
  cross_terms_form =
      let ts = filter (λ t. t.0 == j) f.cross in
      ascending 0 ts (of_variable f.cross (each_of_all (IsFollowerCross f columns) f.cross form.cross)) (AllPairs-filter (λ s t. follower_cross_order s t ≡ Less) (λ t. t.0 == j) f.cross form.cross_ascends) (any_low ts)

module _ (columns more : ℕ) (wider : columns ≤ more) where
  row_raised : (row : RowOf) → IsRowForm columns row → IsRowForm more row
  row_raised row form = record { coef = raised IsCoefficient 0 columns more row.coef wider form.coef; le = form.le }

  pair_raised : (pair : PairOf) → IsPairForm columns pair → IsPairForm more pair
  pair_raised pair form = let v = form.var in record {
    var = omega (arith, v, wider);
    coef = raised IsCoefficient 0 columns more pair.coef wider form.coef;
    add = form.add;
  }

  var_pairs_form : (from : ℕ) (f : FollowerOf) → IsFollowerForm columns f → columns ≤ from → from + length f.rows ≤ more → (j n : ℕ) → j + n ≤ columns → All (IsPairForm more) (var_pairs from f j n)
  var_pairs_form from f form past room j zero h k d p = absurd (omega arith)
  var_pairs_form from f form past room j (suc n) h zero d p = record {
    var = omega (arith, h, wider);
    coef = joined IsCoefficient 0 columns more (cross_terms f j) (row_terms from j f.rows) (omega arith) wider (cross_terms_form f columns form j) (lower IsCoefficient from columns more (row_terms from j f.rows) past (row_terms_form from j columns more f.rows room form.rows));
    add = coef_number 0 columns f.cost j form.cost;
  }
  var_pairs_form from f form past room j (suc n) h (suc k) d p =
      var_pairs_form from f form past room (suc j) n (omega (arith, h)) k d (omega arith)

  row_pairs_form : (from : ℕ) (rows : List RowOf) → from + length rows ≤ more → All (IsRowForm columns) rows → All (IsPairForm more) (row_pairs from rows)
  row_pairs_form from [] room forms k d p = absurd (omega arith)
  row_pairs_form from (row ∷ rows) room forms zero d p =
      let form = forms 0 row (omega arith) in record {
        var = omega (arith, room);
        coef = negated_form 0 more row.coef (raised IsCoefficient 0 columns more row.coef wider form.coef);
        add = form.le;
      }
  row_pairs_form from (row ∷ rows) room forms (suc k) d p =
      row_pairs_form (suc from) rows (omega (arith, room)) (λ n e q. forms (suc n) e (omega arith)) k d (omega arith)

  all_pairs_form : (from : ℕ) (fs : List FollowerOf) → columns ≤ from → from + multipliers fs ≤ more → All (IsFollowerForm columns) fs → All (IsPairForm more) (all_pairs from fs)
  all_pairs_form from [] past room forms k d p = absurd (omega arith)
  all_pairs_form from (f ∷ fs) past room forms k d p =
      let form = forms 0 f (omega arith) in
      All-append (IsPairForm more) (follower_pairs from f) (all_pairs (from + length f.rows) fs) (All-append (IsPairForm more) (var_pairs from f f.first f.count) (row_pairs from f.rows) (var_pairs_form from f form past (omega (arith, room)) f.first f.count form.vars_exist) (row_pairs_form from f.rows (omega (arith, room)) form.rows)) (all_pairs_form (from + length f.rows) fs (omega (arith, past)) (omega (arith, room)) (λ n e q. forms (suc n) e (omega arith))) k d p

-- pairs of followers name variables with low 0: their own, and multipliers
module _ (vars : List VarOf) (columns : ℕ) (past_zero : (v : ℕ) → columns ≤ v → IsFromZero vars v)
  where
    abbrev IsZeroAt : PairOf → Type 0
    IsZeroAt pair = IsFromZero vars pair.var

    abbrev AreOwnZero : FollowerOf → Type 0
    AreOwnZero f = (v : ℕ) → IsOwn f v → IsFromZero vars v

    var_pairs_zero : (from : ℕ) (f : FollowerOf) (j n : ℕ)
        → ((v : ℕ) → j ≤ v → v < j + n → IsFromZero vars v) → All IsZeroAt (var_pairs from f j n)
    var_pairs_zero from f j zero own k d p = absurd (omega arith)
    var_pairs_zero from f j (suc n) own zero d p = own j (omega arith) (omega arith)
    var_pairs_zero from f j (suc n) own (suc k) d p =
        var_pairs_zero from f (suc j) n (λ v a b. own v (omega (arith, a)) (omega (arith, b))) k d
        (omega arith)

    row_pairs_zero : (from : ℕ) (rows : List RowOf) → columns ≤ from
        → All IsZeroAt (row_pairs from rows)
    row_pairs_zero from [] past k d p = absurd (omega arith)
    row_pairs_zero from (row ∷ rows) past zero d p = past_zero from past
    row_pairs_zero from (row ∷ rows) past (suc k) d p =
        row_pairs_zero (suc from) rows (omega (arith, past)) k d (omega arith)

    all_pairs_zero : (from : ℕ) (fs : List FollowerOf) → columns ≤ from → All AreOwnZero fs
        → All IsZeroAt (all_pairs from fs)
    all_pairs_zero from [] past own k d p = absurd (omega arith)
    all_pairs_zero from (f ∷ fs) past own k d p =
        let mine = own 0 f (omega arith) in
        let vars_zero = var_pairs_zero from f f.first f.count (λ v a b. mine v (a, b)) in
        let front = All-append IsZeroAt (var_pairs from f f.first f.count) (row_pairs from f.rows)
        vars_zero (row_pairs_zero from f.rows past) in
        let back = all_pairs_zero (from + length f.rows) fs (omega (arith, past))
        (λ n e q. own (suc n) e (omega arith)) in
        All-append IsZeroAt (follower_pairs from f) (all_pairs (from + length f.rows) fs) front back k d p

module _ (source : SourceOf) (form : IsSource source) (game : GameOf) (expansion : IsExpansion source game) (within : (i : ℕ) (leader : LeaderOf) → IsLeader source i leader → IsWithinCounts leader) where
  lens : length game ≡ length (bases source)
  lens = expansion.len ∙ sym (length-map source (λ (l : LeaderOf). l.base))

  leader_at : (i : ℕ) (player : PlayerOf) → IsPlayer game i player → (leader : LeaderOf) × IsLeader source i leader
  leader_at i player is =
      let w = slice_get_within game i player is in
      let e = expansion.len in
      get_within source i (omega (arith, w, e))

  wide_at : (i : ℕ) (leader : LeaderOf) (player : PlayerOf) → IsLeader source i leader → IsPlayer game i player → length player.vars ≡ length leader.base.vars + multipliers leader.followers
  wide_at i leader player is at_i =
      let e = expansion.players i leader player is at_i in
      ap length e.vars.1 ∙ length-append leader.base.vars e.vars.0 ∙ ap (λ (n : ℕ). length leader.base.vars + n) e.vars.2

  cross_form : (i columns more : ℕ) → columns ≤ more → (t : CrossTerm) → IsCrossForm (bases source) i columns t → IsCrossForm game i more t
  cross_form i columns more wider t c = let a = c.own in let b = c.player in let l = lens in record {
    own = omega (arith, a, wider);
    player = omega (arith, b, l);
    other = c.other;
    var = λ player at_k. let o = leader_at t.player player at_k in let v = c.var o.0.base (base_is source t.player o.0 o.1) in let w = wide_at t.player o.0 player o.1 at_k in omega (arith, v, w);
    coef = c.coef;
  }

  place_form : (i : ℕ) (at : ℕ × ℕ) → IsOthersVar (bases source) i at → IsOthersVar game i at
  place_form i at c = let b = c.player in let l = lens in record {
    player = omega (arith, b, l);
    other = c.other;
    var = λ player at_k. let o = leader_at at.0 player at_k in let v = c.var o.0.base (base_is source at.0 o.0 o.1) in let w = wide_at at.0 o.0 player o.1 at_k in omega (arith, v, w);
  }

  other_form : (i : ℕ) (t : Other) → IsOtherForm (bases source) i t → IsOtherForm game i t
  other_form i t c = record {
    first = place_form i t.first c.first;
    second = λ at e. let s = c.second at e in (s.0, place_form i at s.1);
    coef = c.coef;
  }

  zero_number : (z : ℤ) → Some (pos 0) ≡ Some z → IsNumber z
  zero_number z e =
      let is : pos 0 ≡ z = cc in (omega (arith, ints, is), omega (arith, ints, is))

  -- all pairs of an expanded leader name variables with low 0
  module _ (i : ℕ) (leader : LeaderOf) (player : PlayerOf) (is : IsLeader source i leader) (at_i : IsPlayer game i player) where
    abbrev expanded : IsExpanded leader player
    expanded = expansion.players i leader player is at_i

    abbrev columns : ℕ
    columns = length leader.base.vars

    abbrev more : List VarOf
    more = expanded.vars.0

    zero_past : (v : ℕ) → columns ≤ v → IsFromZero player.vars v
    zero_past v past var e =
        let at = subst (λ (vs : List VarOf). slice_get vs v ≡ Some var) expanded.vars.1 e in
        ⊎_elim (λ (h : slice_get leader.base.vars v ≡ Some var). let w = slice_get_within leader.base.vars v var h in absurd (omega (arith, w, past))) (λ (h : (j : ℕ) × (v ≡ columns + j) × (slice_get more j ≡ Some var)). let w = slice_get_within more h.0 var h.2 in let m = subst IsMultiplier (get_or_from_slice_get more h.0 var var h.2) (expanded.vars.3 h.0 var w) in m.1) (slice_get_back leader.base.vars more v var at)

    zero_base : (v : ℕ) → v < columns → IsFromZero leader.base.vars v → IsFromZero player.vars v
    zero_base v below base var e =
        let w = get_within leader.base.vars v below in
        let at = subst (λ (vs : List VarOf). slice_get vs v ≡ Some w.0) (sym expanded.vars.1) (slice_get_front leader.base.vars more v w.0 w.1) in
        let same = one player.vars v w.0 var at e in
        subst (λ (u : VarOf). u.low ≡ Some (pos 0)) same (base w.0 w.1)

    own_zero : (f : FollowerOf) → IsFollowerForm columns f → AreFree leader.base f → (v : ℕ) → IsOwn f v → IsFromZero player.vars v
    own_zero f f_form free v o =
        let p = o.1 in
        let q = f_form.vars_exist in
        zero_base v (omega (arith, p, q)) (λ var e. (free v var o e).1)

    zero_pairs : All (λ pair. IsFromZero player.vars pair.var) (leader.base.pairs ++ all_pairs columns leader.followers)
    zero_pairs =
        let IsZero = λ (pair : PairOf). IsFromZero player.vars pair.var in
        let base = form.bases.players i leader.base (base_is source i leader is) in
        let lf = form.leaders i leader is in
        let front : All IsZero leader.base.pairs = λ k d h. zero_base (get_or leader.base.pairs k d).var (base.pairs k d h).var (base.from_zero k d h) in
        let back = all_pairs_zero player.vars columns zero_past columns leader.followers (omega arith) (λ k d h. own_zero (get_or leader.followers k d) (lf.followers k d h) (lf.free k d h)) in
        All-append IsZero leader.base.pairs (all_pairs columns leader.followers) front back

  player_form : (i : ℕ) (leader : LeaderOf) (player : PlayerOf) → IsLeader source i leader → IsPlayer game i player → IsPlayerForm game i player
  player_form i leader player is at_i =
      let base = form.bases.players i leader.base (base_is source i leader is) in
      let e = expansion.players i leader player is at_i in
      let columns = length leader.base.vars in
      let more = length player.vars in
      let w = wide_at i leader player is at_i in
      let wider : columns ≤ more = omega (arith, w) in
      let c = within i leader is in
      let c0 = c.0 in
      let c1 = c.1 in
      let s = base.some_var in
      let pairs_len = ap (λ (l : List PairOf). length l) e.pairs ∙ length-append leader.base.pairs (all_pairs columns leader.followers) ∙ ap (λ (n : ℕ). length leader.base.pairs + n) (length-all_pairs columns leader.followers) in
      record {
        some_var = omega (arith, w, s);
        var_count = omega (arith, w, c0);
        row_count = subst (λ (l : List RowOf). length l ≤ 256) (sym e.rows) base.row_count;
        pair_count = omega (arith, pairs_len, c1);
        other_count = subst (λ (l : List Other). length l ≤ 65536) (sym e.others) base.other_count;
        cross_count = subst (λ (l : List CrossTerm). length l ≤ 65536) (sym e.cross) base.cross_count;
        vars = subst (All IsVarForm) (sym e.vars.1) (All-append IsVarForm leader.base.vars e.vars.0 base.vars (λ k d h. multiplier (get_or e.vars.0 k d) (e.vars.3 k d h)));
        rows = subst (All (IsRowForm more)) (sym e.rows) (λ k d h. row_raised columns more wider (get_or leader.base.rows k d) (base.rows k d h));
        pairs = subst (All (IsPairForm more)) (sym e.pairs) (All-append (IsPairForm more) leader.base.pairs (all_pairs columns leader.followers) (λ k d h. pair_raised columns more wider (get_or leader.base.pairs k d) (base.pairs k d h)) (all_pairs_form columns more wider columns leader.followers (omega arith) (omega (arith, w)) (form.leaders i leader is).followers));
        from_zero = subst (All (λ pair. IsFromZero player.vars pair.var)) (sym e.pairs) (zero_pairs i leader player is at_i);
        cost = subst (AreTerms more) (sym e.cost) (raised IsCoefficient 0 columns more leader.base.cost wider base.cost);
        cross = subst (All (IsCrossForm game i more)) (sym e.cross) (λ k d h. cross_form i columns more wider (get_or leader.base.cross k d) (base.cross k d h));
        cross_ascends = subst (AllPairs (λ s t. cross_order s t ≡ Less)) (sym e.cross) base.cross_ascends;
        others = subst (All (IsOtherForm game i)) (sym e.others) (λ k d h. other_form i (get_or leader.base.others k d) (base.others k d h));
        others_ascend = subst (AllPairs (λ s t. other_order s t ≡ Less)) (sym e.others) base.others_ascend;
      }
    where
      multiplier : (var : VarOf) → IsMultiplier var → IsVarForm var
      multiplier var m = record {
        low = λ low e. let is : Some (pos 0) ≡ Some low = sym m.1 ∙ e in zero_number low is;
        up = λ up e. let is : None ≡ Some up = sym m.2 ∙ e in absurd cc;
        ordered = λ low e up h. let is : None ≡ Some up = sym m.2 ∙ h in absurd cc;
      }

  pub expansion_form : IsGame game
  expansion_form =
      let l = lens in
      let a = form.bases.some_player in
      let b = form.bases.player_count in
      record {
        some_player = omega (arith, l, a);
        player_count = omega (arith, l, b);
        players = λ i player at_i. let o = leader_at i player at_i in player_form i o.0 player o.1 at_i;
      }
