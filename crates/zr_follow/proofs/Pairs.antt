-- What the pairs of followers say at a point.
use Rattle.std.proofs.Common.{◌≡◌, ℕ, zero, suc, ◌+◌, ◌<◌, arith, refl, sym, ap, ap₂, subst, ◌∙◌, ℤ, pos, neg_ℤ, ◌+ℤ◌, ◌*ℤ◌, ◌≤ℤ◌, Bool, true, false, if◌then◌else◌, ◌⊎◌, List, [], ◌∷◌, ◌++◌, map, length, get_or, All}
use Rattle.std.specs.Ordering.{int_eq}
use Rattle.std.proofs.lemmas.Int.{ints}
use Rattle.std.proofs.lemmas.Bool.Decides.{Decides-int_eq}
use Rattle.std.proofs.lemmas.List.{get_or-append-add, get_or_append_left, length-append}
use Rattle.std.proofs.lemmas.List.Elements.{All-append}
use Rattle.std.proofs.Math.IntN.{*ℤ_comm}
use Rattle.zr_base.proofs.Ring.{neg-mul_left, neg-add}
use Rattle.zr_base.proofs.Dense.{sum_to_same}
use Rattle.zr_base.proofs.RowLaws.{products_value}
use Rattle.zr_base.specs.Points.{PointOf, num_of}
use Rattle.zr_base.specs.Rows.{RowOf}
use Rattle.zr_base.specs.Sums.{sum_to}
use Rattle.zr_base.specs.Terms.{Terms, coef_at, value_at}
use Rattle.zr_game.specs.Feasible.{PairHolds, slack}
use Rattle.zr_game.specs.Players.{PairOf}
use Rattle.zr_follow.proofs.Answered.{AllAnswered, Answered, IsOwnLow, slack_row, slack_var}
use Rattle.zr_follow.proofs.Programs.{row_at}
use Rattle.zr_follow.specs.Expansion.{all_pairs, cross_terms, follower_pairs, multipliers, row_pair, row_pairs, row_terms, var_pair, var_pairs}
use Rattle.zr_source.specs.Sources.{FollowerOf}

pub All_front : {A : Type 0} (P : A → Type 0) (xs ys : List A) → All P (xs ++ ys) → All P xs
All_front P xs ys all k d h =
    subst P (get_or_append_left xs ys d k h) (all k d (rw (length-append xs ys) (omega (arith, h))))

pub All_back : {A : Type 0} (P : A → Type 0) (xs ys : List A) → All P (xs ++ ys) → All P ys
All_back P xs ys all k d h =
    subst P (get_or-append-add xs ys k d) (all (length xs + k) d (rw (length-append xs ys) (omega (arith, h))))

pub length-var_pairs : (from : ℕ) (f : FollowerOf) (j n : ℕ) → length (var_pairs from f j n) ≡ n
length-var_pairs from f j zero = refl
length-var_pairs from f j (suc n) = ap suc (length-var_pairs from f (suc j) n)

pub length-row_pairs : (from : ℕ) (rows : List RowOf) → length (row_pairs from rows) ≡ length rows
length-row_pairs from [] = refl
length-row_pairs from (row ∷ rows) = ap suc (length-row_pairs (suc from) rows)

var_pair_at : (from : ℕ) (f : FollowerOf) (j n k : ℕ) (d : PairOf) → k < n → get_or (var_pairs from f j n) k d ≡ var_pair from f (j + k)
var_pair_at from f j zero k d h = absurd (omega arith)
var_pair_at from f j (suc n) zero d h = ap (var_pair from f) (omega arith)
var_pair_at from f j (suc n) (suc k) d h = var_pair_at from f (suc j) n k d (omega arith) ∙ ap (var_pair from f) (omega arith)

row_pair_at : (from : ℕ) (rows : List RowOf) (r : ℕ) (d : PairOf) → r < length rows → get_or (row_pairs from rows) r d ≡ row_pair (from + r) (row_at rows r)
row_pair_at from [] r d h = absurd (omega arith)
row_pair_at from (row ∷ rows) zero d h = ap (λ n. row_pair n row) (omega arith)
row_pair_at from (row ∷ rows) (suc r) d h =
    row_pair_at (suc from) rows r d (omega arith) ∙ ap (λ n. row_pair n (row_at rows r)) (omega arith)

pub value_at-append : (a b : Terms) (p : ℕ → ℤ) → value_at (a ++ b) p ≡ value_at a p +ℤ value_at b p
value_at-append [] b p = omega (arith, ints)
value_at-append (t ∷ a) b p = let r = value_at-append a b p in omega (arith, ints, r)

pub value_at-negated : (ts : Terms) (p : ℕ → ℤ) → value_at (map (λ t. (t.0, neg_ℤ t.1)) ts) p ≡ neg_ℤ (value_at ts p)
value_at-negated [] p = refl
value_at-negated (t ∷ ts) p =
    ap₂ ◌+ℤ◌ (neg-mul_left t.1 (p t.0)) (value_at-negated ts p) ∙ sym (neg-add (t.1 *ℤ p t.0) (value_at ts p))

pub sum_first : (n : ℕ) (f : ℕ → ℤ) → sum_to (suc n) f ≡ f 0 +ℤ sum_to n (λ k. f (suc k))
sum_first zero f = omega (arith, ints)
sum_first (suc n) f = let r = sum_first n f in omega (arith, ints, r)

-- the rows' numbers of variable j times their multipliers
row_terms_value : (from j : ℕ) (rows : List RowOf) (q : ℕ → ℤ) → value_at (row_terms from j rows) q ≡ sum_to (length rows) (λ r. q (from + r) *ℤ coef_at (row_at rows r).coef j)
row_terms_value from j [] q = refl
row_terms_value from j (row ∷ rows) q =
    let rest = row_terms_value (suc from) j rows q in
    let first = sum_first (length rows) (λ r. q (from + r) *ℤ coef_at (row_at (row ∷ rows) r).coef j) in
    chosen (coef_at row.coef j) (int_eq (coef_at row.coef j) (pos 0)) (Decides-int_eq (coef_at row.coef j) (pos 0)).0 (row_terms (suc from) j rows) rest ∙ sym first
  where
    same : sum_to (length rows) (λ r. q (suc from + r) *ℤ coef_at (row_at rows r).coef j) ≡ sum_to (length rows) (λ r. q (from + suc r) *ℤ coef_at (row_at rows r).coef j)
    same =
        sum_to_same (length rows) (λ r. q (suc from + r) *ℤ coef_at (row_at rows r).coef j) (λ r. q (from + suc r) *ℤ coef_at (row_at rows r).coef j) (λ r h. ap (λ n. q n *ℤ coef_at (row_at rows r).coef j) (omega arith))

    chosen : (c : ℤ) (b : Bool) → (b ≡ true → c ≡ pos 0) → (ts : Terms) → value_at ts q ≡ sum_to (length rows) (λ r. q (suc from + r) *ℤ coef_at (row_at rows r).coef j) → value_at (if b then ts else (from, c) ∷ ts) q ≡ q (from + 0) *ℤ c +ℤ sum_to (length rows) (λ r. q (from + suc r) *ℤ coef_at (row_at rows r).coef j)
    chosen c true is ts rest =
        let z : q (from + 0) *ℤ c ≡ pos 0 = ap (λ a. q (from + 0) *ℤ a) (is refl) ∙ omega (arith, ints) in
        let s = same in
        omega (arith, ints, rest, z, s)
    chosen c false is ts rest =
        let z : c *ℤ q from ≡ q (from + 0) *ℤ c = *ℤ_comm c (q from) ∙ ap (λ n. q n *ℤ c) (omega arith) in
        let s = same in
        omega (arith, ints, rest, z, s)

module _ (z : PointOf) where
  slack_is : (pair : PairOf) → slack pair z ≡ value_at pair.coef (num_of z) +ℤ pair.add *ℤ z.den
  slack_is pair = ap (λ a. a +ℤ pair.add *ℤ z.den) (products_value pair.coef z.num)

  -- the multipliers' values, from a column on
  abbrev pub at_columns : ℕ → ℕ → ℤ
  at_columns from r = num_of z (from + r)

  module _ (from : ℕ) (f : FollowerOf) where
    var_slack : (j : ℕ) → slack (var_pair from f (f.first + j)) z ≡ slack_var f (num_of z) z.den (at_columns from) j
    var_slack j =
        let cross = cross_terms f (f.first + j) in
        let rows = row_terms from (f.first + j) f.rows in
        let a = slack_is (var_pair from f (f.first + j)) in
        let b = value_at-append cross rows (num_of z) in
        let c = row_terms_value from (f.first + j) f.rows (num_of z) in
        omega (arith, ints, a, b, c)

    row_slack : (r : ℕ) → slack (row_pair (from + r) (row_at f.rows r)) z ≡ slack_row f (num_of z) z.den r
    row_slack r =
        let row = row_at f.rows r in
        let a = slack_is (row_pair (from + r) row) in
        let b = value_at-negated row.coef (num_of z) in
        omega (arith, ints, a, b)

    -- the pairs hold and the multipliers are at least 0 exactly where they are multipliers of the answer
    pub answered_of_pairs : All (PairHolds z) (follower_pairs from f) → ((r : ℕ) → r < length f.rows → (pos 0) ≤ℤ at_columns from r) → Answered f (num_of z) z.den (at_columns from)
    answered_of_pairs holds low = record {
      low = low;
      vars = λ j h. var j (var_slack j) (subst (PairHolds z) (var_pair_at from f f.first f.count j some h) (vars j some (rw (length-var_pairs from f f.first f.count) h)));
      rows = λ r h. row r (row_slack r) (subst (PairHolds z) (row_pair_at from f.rows r some h) (rows r some (rw (length-row_pairs from f.rows) h)));
    }
      where
        vars : All (PairHolds z) (var_pairs from f f.first f.count)
        vars = All_front (PairHolds z) (var_pairs from f f.first f.count) (row_pairs from f.rows) holds

        rows : All (PairHolds z) (row_pairs from f.rows)
        rows = All_back (PairHolds z) (var_pairs from f f.first f.count) (row_pairs from f.rows) holds

        some : PairOf
        some = record { var = 0; coef = []; add = pos 0 }

        var : (j : ℕ) {s : ℤ} → slack (var_pair from f (f.first + j)) z ≡ s → PairHolds z (var_pair from f (f.first + j)) → ((pos 0) ≤ℤ s) × ((num_of z (f.first + j) ≡ pos 0) ⊎ (s ≡ pos 0))
        var j {s = s} e h =
            subst (λ a. ((pos 0) ≤ℤ a) × ((num_of z (f.first + j) ≡ pos 0) ⊎ (a ≡ pos 0))) e (h.1, h.2)

        row : (r : ℕ) {s : ℤ} → slack (row_pair (from + r) (row_at f.rows r)) z ≡ s → PairHolds z (row_pair (from + r) (row_at f.rows r)) → ((pos 0) ≤ℤ s) × ((at_columns from r ≡ pos 0) ⊎ (s ≡ pos 0))
        row r {s = s} e h = subst (λ a. ((pos 0) ≤ℤ a) × ((at_columns from r ≡ pos 0) ⊎ (a ≡ pos 0))) e (h.1, h.2)

    pub pairs_of_answered : IsOwnLow z f → Answered f (num_of z) z.den (at_columns from) → All (PairHolds z) (follower_pairs from f)
    pairs_of_answered own_low a = All-append (PairHolds z) (var_pairs from f f.first f.count) (row_pairs from f.rows) vars rows
      where
        vars : All (PairHolds z) (var_pairs from f f.first f.count)
        vars j d h =
            let k : j < f.count = rw (length-var_pairs from f f.first f.count) at h in
            let s = subst (λ s. ((pos 0) ≤ℤ s) × ((num_of z (f.first + j) ≡ pos 0) ⊎ (s ≡ pos 0))) (sym (var_slack j)) (a.vars j k) in
            let low = own_low (f.first + j) (omega arith, omega (arith, k)) in
            subst (PairHolds z) (sym (var_pair_at from f f.first f.count j d k)) (low, s.0, s.1)

        rows : All (PairHolds z) (row_pairs from f.rows)
        rows r d h =
            let k : r < length f.rows = rw (length-row_pairs from f.rows) at h in
            let s = subst (λ s. ((pos 0) ≤ℤ s) × ((at_columns from r ≡ pos 0) ⊎ (s ≡ pos 0))) (sym (row_slack r)) (a.rows r k) in
            subst (PairHolds z) (sym (row_pair_at from f.rows r d k)) (a.low r k, s.0, s.1)

  moved_columns : (from n : ℕ) → at_columns (from + n) ≡ (λ k. at_columns from (n + k))
  moved_columns from n = λ i k. num_of z (same k i)
    where
      same : (k : ℕ) → from + n + k ≡ from + (n + k)
      same k = omega arith

  pub all_of_pairs : (from : ℕ) (fs : List FollowerOf) → All (PairHolds z) (all_pairs from fs) → ((k : ℕ) → k < multipliers fs → (pos 0) ≤ℤ at_columns from k) → AllAnswered fs (num_of z) z.den (at_columns from)
  all_of_pairs from [] holds low = tt
  all_of_pairs from (f ∷ fs) holds low =
      let front = All_front (PairHolds z) (follower_pairs from f) (all_pairs (from + length f.rows) fs) holds in
      let back = All_back (PairHolds z) (follower_pairs from f) (all_pairs (from + length f.rows) fs) holds in
      (answered_of_pairs from f front (λ r h. low r (omega arith)), subst (AllAnswered fs (num_of z) z.den) (moved_columns from (length f.rows)) (all_of_pairs (from + length f.rows) fs back (λ k h. subst (λ (l : ℕ → ℤ). (pos 0) ≤ℤ l k) (sym (moved_columns from (length f.rows))) (low (length f.rows + k) (omega arith)))))

  pub pairs_of_all : (from : ℕ) (fs : List FollowerOf) → All (IsOwnLow z) fs → AllAnswered fs (num_of z) z.den (at_columns from) → All (PairHolds z) (all_pairs from fs)
  pairs_of_all from [] low a = λ k d h. absurd (omega arith)
  pairs_of_all from (f ∷ fs) low a =
      All-append (PairHolds z) (follower_pairs from f) (all_pairs (from + length f.rows) fs) (pairs_of_answered from f (low 0 f (omega arith)) a.0) (pairs_of_all (from + length f.rows) fs (λ n e q. low (suc n) e (omega arith)) (subst (AllAnswered fs (num_of z) z.den) (sym (moved_columns from (length f.rows))) a.1))
