-- The rules of a game, told by tests.
use Rattle.std.proofs.Common.{◌≡◌, ◌↔◌, ◌==◌, ℕ, zero, suc, ◌+◌, ◌<◌, ◌≤◌, arith, refl, sym, ap, ap₂, subst, ◌∙◌, Bool, false, ◌&&◌, IsTrue, ltb, vec_len, List, [], ◌∷◌, ◌++◌, length, map, take, set, get_or, All, AllPairs}
use Rattle.std.specs.declared.cmp.Ordering.TheVariants.{Less}
use Rattle.std.proofs.lemmas.Bool.Decides.{nat_tests}
use Rattle.std.proofs.lemmas.List.{length-map, map-append, take_all, take_more, take_more_set}
use Rattle.zr_base.proofs.Telling.{both_true, true_both}
use Rattle.zr_game.specs.declared.player.Player.{Player}
use Rattle.zr_game.specs.Players.{GameOf, PlayerOf, player_of, var_of}
use Rattle.zr_game.specs.Counts.{AreCounts, var_count}
use Rattle.zr_game.specs.Forms.{AreTerms, HasVar, IsCrossForm, IsFromZero, IsOtherForm, IsPairForm, IsPlayer, IsPlayerForm, IsRowForm, IsVarForm, cross_order, other_order}
use Rattle.zr_game.proofs.Items.{at_number, one}

pub vars_len : (player : Player) → vec_len player.vars ≡ length (player_of player).vars
vars_len player = player.vars.ok.0 ∙ sym (length-map player.vars.items var_of)

-- a variable below the count of player k
pub has_told : (game : GameOf) (counts : List ℕ) (k v : ℕ) → map var_count game ≡ counts
    → k < length counts → IsTrue (ltb v (get_or counts k 0)) ↔ ((k < length game) × HasVar game k v)
has_told game counts k v e below =
    let there : k < length game = subst (λ (n : ℕ). k < n) (sym (ap length e) ∙
    length-map game var_count) below in
    let p = at_number game k there in
    let count : get_or counts k 0 ≡ length p.0.vars = ap (λ (ns : List ℕ). get_or ns k 0) (sym e) ∙
    count_at game k p.0 p.1 in (
      λ h. (
        there,
        λ player is. subst (λ (q : PlayerOf). v < length q.vars)
            (one game k p.0 player p.1 is) (test h count),
      ),
      λ h. back (h.1 p.0 p.1) count,
    )
  where
    count_at : (game : GameOf) (k : ℕ) (player : PlayerOf) → IsPlayer game k player
        → get_or (map var_count game) k 0 ≡ length player.vars
    count_at [] k player is = absurd cc
    count_at (q ∷ game) zero player is = let s : q ≡ player = cc in ap var_count s
    count_at (q ∷ game) (suc k) player is = count_at game k player is

    test : {m n : ℕ} → IsTrue (ltb v n) → n ≡ m → v < m
    test h e = grind (arith, nat_tests)

    back : {m n : ℕ} → v < m → n ≡ m → IsTrue (ltb v n)
    back h e = grind (arith, nat_tests)

pub has_none : (game : GameOf) (counts : List ℕ) (k v : ℕ) → map var_count game ≡ counts
    → length counts ≤ k → IsTrue (ltb k (length counts)) ↔ ((k < length game) × HasVar game k v)
has_none game counts k v e above =
    let len = sym (ap length e) ∙ length-map game var_count in
    (λ h. absurd (past (length counts) h above), λ h. let q = h.0 in absurd (omega (arith, len, q)))
  where
    past : (n : ℕ) → IsTrue (ltb k n) → n ≤ k → ⊥
    past n h above = grind (arith, nat_tests)

-- ---- the counts of variables, one more at a time

module _ {A : Type 0} (g : A → PlayerOf) (xs : List A) where
  abbrev pub Counted : ℕ → List ℕ → Type 0
  Counted i out = take i out ≡ map (λ x. var_count (g x)) (take i xs)

  pub more_counted : (i : ℕ) (out : List ℕ) (x : A) (n : ℕ) → i < length xs → i < length out
      → x ≡ get_or xs i x → n ≡ var_count (g x) → Counted i out → Counted (i + 1) (set out i n)
  more_counted i out x n here room is e before =
      let last : map (λ y. var_count (g y)) (take (i + 1) xs) ≡ map (λ y. var_count (g y))
      (take i xs) ++ var_count (g (get_or xs i x)) ∷ [] = ap (map (λ y. var_count (g y)))
      (take_more xs i x here) ∙ map-append (λ y. var_count (g y)) (take i xs)
      (get_or xs i x ∷ []) in
      take_more_set out i n room ∙ ap₂ (λ (ns : List ℕ) (m : ℕ). ns ++ m ∷ []) before (e ∙
      ap (λ (y : A). var_count (g y)) is) ∙ sym last

  pub all_counted : (i : ℕ) (out : List ℕ) → length xs ≤ i → i ≤ length xs → Counted i out
      → take (length xs) out ≡ map var_count (map g xs)
  all_counted i out above below counted =
      let end : i ≡ length xs = omega arith in
      ap (λ (m : ℕ). take m out) (sym end) ∙ counted ∙
      ap (map (λ x. var_count (g x))) (take_all i xs above) ∙ fused xs
    where
      fused : (ys : List A) → map (λ x. var_count (g x)) ys ≡ map var_count (map g ys)
      fused [] = refl
      fused (y ∷ ys) = ap (λ (ns : List ℕ). var_count (g y) ∷ ns) (fused ys)

-- the first test and those of a list, joined one after the other
abbrev joined : Bool → List Bool → Bool
joined a [] = a
joined a (b ∷ bs) = joined (a && b) bs

abbrev AreTrue : List Bool → Type 0
AreTrue [] = Unit {0}
AreTrue (b ∷ bs) = IsTrue b × AreTrue bs

all_joined : (a : Bool) (bs : List Bool) → IsTrue (joined a bs) ↔ (IsTrue a × AreTrue bs)
all_joined a [] = (λ h. (h, tt), λ h. h.0)
all_joined a (b ∷ bs) =
    let rest = all_joined (a && b) bs in (
      λ h. let p = rest.0 h in let q = both_true a b p.0 in (q.0, (q.1, p.1)),
      λ h. rest.1 (true_both a b h.0 h.1.0, h.1.1),
    )

-- what each test of a player tells
pub record Tests (game : GameOf) (i : ℕ) (player : PlayerOf) (columns : ℕ)
    (counts vars rows pairs cost cross ascend from_zero others others_ascend : Bool) : Type 0 where
  pub columns_are : columns ≡ length player.vars
  pub counts_told : IsTrue counts ↔ AreCounts player
  pub vars_told : IsTrue vars ↔ All IsVarForm player.vars
  pub rows_told : IsTrue rows ↔ All (IsRowForm columns) player.rows
  pub pairs_told : IsTrue pairs ↔ All (IsPairForm columns) player.pairs
  pub cost_told : IsTrue cost ↔ AreTerms columns player.cost
  pub cross_told : IsTrue cross ↔ All (IsCrossForm game i columns) player.cross
  pub ascend_told : IsTrue ascend ↔ AllPairs (λ s t. cross_order s t ≡ Less) player.cross
  pub zero_told : IsTrue from_zero ↔ All (λ pair. IsFromZero player.vars pair.var) player.pairs
  pub others_told : IsTrue others ↔ All (IsOtherForm game i) player.others
  pub order_told : IsTrue others_ascend ↔ AllPairs (λ s t. other_order s t ≡ Less) player.others

module _ (game : GameOf) (i : ℕ) (player : PlayerOf) (columns : ℕ)
    (counts vars rows pairs cost cross ascend from_zero others others_ascend : Bool)
    (tests : Tests game i player columns counts vars rows pairs cost cross ascend from_zero others
    others_ascend) where
  rest : List Bool
  rest =
      vars ∷ rows ∷ pairs ∷ cost ∷ cross ∷ ascend ∷ from_zero ∷ others ∷ others_ascend ∷ []

  to_form : IsTrue (joined counts rest) → IsPlayerForm game i player
  unfolding rest
  to_form h =
      let p = (all_joined counts rest).0 h in
      let n = tests.counts_told.0 p.0 in
      let q = p.1 in
      let same = tests.columns_are in
      record {
        some_var = n.some_var;
        var_count = n.vars;
        row_count = n.rows;
        pair_count = n.pairs;
        cross_count = n.cross;
        other_count = n.others;
        vars = tests.vars_told.0 q.0;
        rows = subst (λ m. All (IsRowForm m) player.rows) same (tests.rows_told.0 q.1.0);
        pairs = subst (λ m. All (IsPairForm m) player.pairs) same (tests.pairs_told.0 q.1.1.0);
        cost = subst (λ m. AreTerms m player.cost) same (tests.cost_told.0 q.1.1.1.0);
        cross = subst (λ m. All (IsCrossForm game i m) player.cross) same
            (tests.cross_told.0 q.1.1.1.1.0);
        cross_ascends = tests.ascend_told.0 q.1.1.1.1.1.0;
        from_zero = tests.zero_told.0 q.1.1.1.1.1.1.0;
        others = tests.others_told.0 q.1.1.1.1.1.1.1.0;
        others_ascend = tests.order_told.0 q.1.1.1.1.1.1.1.1.0;
      }

  of_form : IsPlayerForm game i player → IsTrue (joined counts rest)
  unfolding rest
  of_form h =
      let n : AreCounts player = record {
        some_var = h.some_var;
        vars = h.var_count;
        rows = h.row_count;
        pairs = h.pair_count;
        cross = h.cross_count;
        others = h.other_count;
      } in
      let same = sym tests.columns_are in
      let are_rows = subst (λ m. All (IsRowForm m) player.rows) same h.rows in
      let are_pairs = subst (λ m. All (IsPairForm m) player.pairs) same h.pairs in
      let are_costs = subst (λ m. AreTerms m player.cost) same h.cost in
      let are_cross = subst (λ m. All (IsCrossForm game i m) player.cross) same h.cross in
      (all_joined counts rest).1 (
        tests.counts_told.1 n,
        (
          tests.vars_told.1 h.vars,
          (
            tests.rows_told.1 are_rows,
            (
              tests.pairs_told.1 are_pairs,
              (
                tests.cost_told.1 are_costs,
                (
                  tests.cross_told.1 are_cross,
                  (
                    tests.ascend_told.1 h.cross_ascends,
                    (
                      tests.zero_told.1 h.from_zero,
                      (
                        tests.others_told.1 h.others,
                        (tests.order_told.1 h.others_ascend, tt),
                      ),
                    ),
                  ),
                ),
              ),
            ),
          ),
        ),
      )

  abbrev all_tests : Bool
  all_tests =
      let own = (((((counts && vars) && rows) && pairs) && cost) && cross) && ascend in
      ((own && from_zero) && others) && others_ascend

  pub form_told : IsTrue all_tests ↔ IsPlayerForm game i player
  unfolding rest
  form_told = (to_form, of_form)

pub not_empty : (n : ℕ) (b : Bool) → b ≡ (n == 0) → b ≡ false → 1 ≤ n
not_empty zero b e f = absurd cc
not_empty (suc n) b e f = omega arith
