-- The parts that shares and weights of leaves draw, and their means.
use Rattle.std.proofs.Common.{◌≡◌, ℕ, zero, suc, ◌<◌, ◌≤◌, arith, refl, sym, ap, subst, ◌∙◌, ℤ, pos, ◌+ℤ◌, ◌*ℤ◌, ◌≤ℤ◌, ◌<ℤ◌, int_lt, Bool, true, false, [], ◌∷◌, ◌++◌, length, ⊎_elim, if◌then◌else◌}
use Rattle.std.proofs.Math.IntN.{*ℤ_comm}
use Rattle.std.proofs.lemmas.Bool.{cases_lt}
use Rattle.std.proofs.lemmas.Int.{ints}
use Rattle.std.proofs.lemmas.List.{get_or_past}
use Rattle.zr_base.specs.Fractions.{Fraction, over, ratio, times, whole}
use Rattle.zr_base.specs.Points.{PointOf, num_of, value_of}
use Rattle.zr_base.specs.Sums.{sum_to}
use Rattle.zr_base.proofs.Dense.{sum_to_same, sum_to_zero}
use Rattle.zr_base.proofs.Members.{each_join, each_weaker}
use Rattle.zr_base.proofs.Worth.{Each, Worth, worth-over, worth-plus, worth-zero}
use Rattle.zr_game.specs.Means.{mean}
use Rattle.zr_game.specs.Players.{GameOf}
use Rattle.zr_game.specs.Profiles.{IsStrategyOver, Part, Strategy, total, weighted}
use Rattle.zr_system.specs.declared.unknown.Unknown.{Unknown}
use Rattle.zr_system.specs.declared.unknown.Unknown.TheVariants.{Share, Weight}
use Rattle.zr_system.specs.Asked.{firsts}
use Rattle.zr_system.specs.Covers.{LiesIn}
use Rattle.zr_system.specs.Drawn.{drawn_part, drawn_point, drawn_strategy, drawn_to}
use Rattle.zr_system.specs.Regions.{LeavesOf, is_present, leaf_count, slot_count, slot_number, slot_right, var_count}
use Rattle.zr_system.proofs.Joined.{all_of_each}
use Rattle.zr_convex.proofs.Dots.{dot}
use Rattle.zr_convex.proofs.Firsts.{dot_firsts, firsts_at, firsts_length}
use Rattle.zr_convex.proofs.Insides.{absent_number, absent_right, lies_of_in, union_of}
use Rattle.zr_convex.proofs.Items.{IsIn}

-- the parts' weights times the quantity sum up to a
abbrev HasSum : Strategy → (PointOf → Fraction) → ℤ → Type 0
HasSum [] f a = a ≡ pos 0
HasSum (part ∷ parts) f a =
    (b c : ℤ) × Worth (pos 1) (times (whole part.weight) (f part.point)) b × HasSum parts f c
    × (a ≡ b +ℤ c)

sum_join : (xs ys : Strategy) (f : PointOf → Fraction) (a b : ℤ) → HasSum xs f a → HasSum ys f b
    → HasSum (xs ++ ys) f (a +ℤ b)
sum_join [] ys f a b h k = let e : a +ℤ b ≡ b = omega (arith, ints, h) in
    subst (λ (z : ℤ). HasSum ys f z) (sym e) k
sum_join (x ∷ xs) ys f a b h k = (
  h.0,
  h.1 +ℤ b,
  h.2,
  sum_join xs ys f h.1 b h.3 k,
  (let e = h.4 in omega (arith, ints, e)),
)

worth_of_sum : (xs : Strategy) (f : PointOf → Fraction) (a : ℤ) → HasSum xs f a
    → Worth (pos 1) (weighted xs f) a
worth_of_sum [] f a h = subst (λ (z : ℤ). Worth (pos 1) (weighted [] f) z) (sym h)
    (worth-zero (pos 1))
worth_of_sum (x ∷ xs) f a h =
    subst (λ (z : ℤ). Worth (pos 1) (weighted (x ∷ xs) f) z) (sym h.4)
    (worth-plus (pos 1) (times (whole x.weight) (f x.point)) (weighted xs f) h.0 h.1 h.2
    (worth_of_sum xs f h.1 h.3))

worth_part : (w s : ℤ) → (pos 0) <ℤ w → Worth (pos 1) (times (whole w) (ratio s w)) s
worth_part w s h =
    let a : (w *ℤ s) *ℤ pos 1 ≡ w *ℤ s = omega (arith, ints) in
    let b : pos 1 *ℤ w ≡ w = omega (arith, ints) in
    record {
      below = omega (arith, ints, h);
      equal = a ∙ *ℤ_comm w s ∙ ap (λ z. s *ℤ z) (sym b);
    }

above : (z : ℤ) → int_lt (pos 0) z ≡ true → (pos 0) <ℤ z
above z e = omega (arith, ints, e)

not_above : (z : ℤ) → int_lt (pos 0) z ≡ false → (pos 0) ≤ℤ z → z ≡ pos 0
not_above z e h = omega (arith, ints, e, h)

total_join : (xs ys : Strategy) → total (xs ++ ys) ≡ total xs +ℤ total ys
total_join [] ys = omega (arith, ints)
total_join (x ∷ xs) ys = let r = total_join xs ys in omega (arith, ints, r)

has_part : (parts : Strategy) → (pos 0) <ℤ total parts → 0 < length parts
has_part [] h = absurd (omega (arith, ints, h))
has_part (part ∷ parts) h = omega arith

-- leaf k's share in variable v, which is 0 where there is no such variable
abbrev pub share_at : GameOf → (Unknown → ℤ) → ℕ → ℕ → ℕ → ℤ
share_at game x i k v = num_of (drawn_point game x i k) v

pub share_is : (game : GameOf) (x : Unknown → ℤ) (i k v : ℕ) → v < var_count game i
    → share_at game x i k v ≡ x (Share i k v)
share_is game x i k v h = firsts_at (var_count game i) (λ v. x (Share i k v)) v (pos 0) h

-- weights from zero on, shares that meet the slots' rows, and none where there is no weight
pub record AreShares (game : GameOf) (leaves : LeavesOf) (x : Unknown → ℤ) (i : ℕ) : Type 0 where
  pub weight : (k : ℕ) → k < leaf_count leaves i → (pos 0) ≤ℤ x (Weight i k)
  pub slot : (k : ℕ) → k < leaf_count leaves i → (s : ℕ) → s < slot_count game leaves i k
      → is_present game leaves i k s ≡ true
      → (dot (var_count game i) (slot_number game leaves i k s) (λ v. x (Share i k v))) ≤ℤ
      (slot_right game leaves i k s *ℤ x (Weight i k))
  pub none : (k : ℕ) → k < leaf_count leaves i → x (Weight i k) ≡ pos 0 → (v : ℕ)
      → v < var_count game i → x (Share i k v) ≡ pos 0

module _ (game : GameOf) (leaves : LeavesOf) (x : Unknown → ℤ) (i : ℕ)
    (are : AreShares game leaves x i) where
  abbrev parts : ℕ → Strategy
  parts n = drawn_to game x i n

  abbrev one_part : ℕ → Strategy
  one_part n = if int_lt (pos 0) (x (Weight i n)) then drawn_part game x i n ∷ [] else []

  -- a leaf's share over its weight lies in the leaf
  lies : (k : ℕ) → k < leaf_count leaves i → (pos 0) <ℤ x (Weight i k)
      → LiesIn game leaves i k (drawn_point game x i k)
  lies k inside used =
      lies_of_in game leaves i k (drawn_point game x i k) used
      (firsts_length (var_count game i) (λ v. x (Share i k v))) inleaf
    where
      inleaf : IsIn (union_of game leaves i) k (drawn_point game x i k)
      inleaf s below = tested (is_present game leaves i k s) refl
        where
          tested : (b : Bool) → is_present game leaves i k s ≡ b
              → (dot (var_count game i) (slot_number game leaves i k s)
              (num_of (drawn_point game x i k))) ≤ℤ
              (slot_right game leaves i k s *ℤ x (Weight i k))
          tested true e =
              let r = are.slot k inside s below e in
              let d = dot_firsts (var_count game i) (slot_number game leaves i k s)
              (λ v. x (Share i k v)) in
              omega (arith, ints, r, d)
          tested false e =
              let z = sum_to_same (var_count game i)
              (λ v. slot_number game leaves i k s v *ℤ num_of (drawn_point game x i k) v)
              (λ v. pos 0) (λ v h. ap (λ a. a *ℤ num_of (drawn_point game x i k) v)
              (absent_number game leaves i k s v e) ∙ omega (arith, ints))
              ∙ sum_to_zero (var_count game i) in
              let r : slot_right game leaves i k s *ℤ x (Weight i k) ≡ pos 0 =
              ap (λ a. a *ℤ x (Weight i k)) (absent_right game leaves i k s e)
              ∙ omega (arith, ints) in
              omega (arith, ints, z, r)

  -- a leaf without weight has no shares
  no_share : (k : ℕ) → k < leaf_count leaves i → x (Weight i k) ≡ pos 0 → (v : ℕ)
      → share_at game x i k v ≡ pos 0
  no_share k inside none v =
      ⊎_elim (λ (h : v < var_count game i). share_is game x i k v h ∙ are.none k inside none v h)
      (λ (h : var_count game i ≤ v). past h) (cases_lt v (var_count game i))
    where
      past : var_count game i ≤ v → share_at game x i k v ≡ pos 0
      past h =
          let l = firsts_length (var_count game i) (λ v. x (Share i k v)) in
          get_or_past (firsts (var_count game i) (λ v. x (Share i k v))) v (pos 0)
          (omega (arith, l, h))

  -- where the points of leaves are such
  module _ (X : PointOf → Type 0)
      (good : (k : ℕ) → k < leaf_count leaves i → (p : PointOf) → LiesIn game leaves i k p → X p)
    where
      abbrev IsGood : Part → Type 0
      IsGood part = ((pos 1) ≤ℤ part.weight) × X part.point

      -- what the first leaves draw
      record DrawnTo (n : ℕ) : Type 0 where
        pub parts : Each IsGood (drawn_to game x i n)
        pub total : total (drawn_to game x i n) ≡ sum_to n (λ k. x (Weight i k))
        pub sums : (v : ℕ) → HasSum (drawn_to game x i n) (λ p. value_of p v)
            (sum_to n (λ k. share_at game x i k v))

      drawn_more : (n : ℕ) → n < leaf_count leaves i → DrawnTo n → DrawnTo (suc n)
      drawn_more n inside d = tested (int_lt (pos 0) (x (Weight i n))) refl
        where
          made : (one : Strategy) → one_part n ≡ one → Each IsGood one → total one ≡ x (Weight i n)
              → ((v : ℕ) → HasSum one (λ p. value_of p v) (share_at game x i n v)) → DrawnTo (suc n)
          made one is g t s = record {
            parts = each_join IsGood (parts n) (one_part n) d.parts (rw is g);
            total = total_join (parts n) (one_part n) ∙ (let e = ap total is in
                let f = d.total in omega (arith, ints, e, f, t));
            sums = λ v. sum_join (parts n) (one_part n) (λ p. value_of p v)
                (sum_to n (λ k. share_at game x i k v)) (share_at game x i n v) (d.sums v)
                (rw is (s v));
          }

          tested : (b : Bool) → int_lt (pos 0) (x (Weight i n)) ≡ b → DrawnTo (suc n)
          tested true e =
              let used : (pos 0) <ℤ x (Weight i n) = above (x (Weight i n)) e in
              made (drawn_part game x i n ∷ []) (rw e refl) (
                (
                  omega (arith, ints, used),
                  good n inside (drawn_point game x i n)
                      (lies n inside used),
                ),
                tt,
              ) (omega (arith, ints))
              (λ v. (
                share_at game x i n v,
                pos 0,
                worth_part (x (Weight i n)) (share_at game x i n v) used,
                refl,
                omega (arith, ints),
              ))
          tested false e =
              let none : x (Weight i n) ≡ pos 0 = not_above (x (Weight i n)) e (are.weight n inside) in
              made [] (rw e refl) tt (sym none) (λ v. no_share n inside none v)

      drawn : (n : ℕ) → n ≤ leaf_count leaves i → DrawnTo n
      drawn zero h = record { parts = tt; total = refl; sums = λ v. refl }
      drawn (suc n) h = drawn_more n (omega (arith, h)) (drawn n (omega (arith, h)))

      -- where the weights sum up to a number above zero
      module _ (d : ℤ) (positive : (pos 0) <ℤ d)
          (all_weights : sum_to (leaf_count leaves i) (λ k. x (Weight i k)) ≡ d) where
        drawn_total : total (drawn_strategy game leaves x i) ≡ d
        drawn_total = (drawn (leaf_count leaves i) (omega arith)).total ∙ all_weights

        pub strategy_over : IsStrategyOver X (drawn_strategy game leaves x i)
        strategy_over =
            let all = drawn (leaf_count leaves i) (omega arith) in
            let parts = drawn_strategy game leaves x i in
            record {
              some = has_part parts (rw drawn_total positive);
              weights = all_of_each (λ part. (pos 1) ≤ℤ part.weight) parts
                  (each_weaker IsGood (λ part. (pos 1) ≤ℤ part.weight) parts (λ part g. g.0)
                  all.parts);
              points = all_of_each (λ part. X part.point) parts
                  (each_weaker IsGood (λ part. X part.point) parts (λ part g. g.1) all.parts);
            }

        -- the mean is the sum of the shares
        pub mean_is : (v : ℕ) → Worth d (mean (drawn_strategy game leaves x i) v)
            (sum_to (leaf_count leaves i) (λ k. share_at game x i k v))
        mean_is v =
            let all = drawn (leaf_count leaves i) (omega arith) in
            let w = worth_of_sum (drawn_strategy game leaves x i) (λ p. value_of p v)
            (sum_to (leaf_count leaves i) (λ k. share_at game x i k v)) (all.sums v) in
            let e : pos 1 *ℤ d ≡ d = omega (arith, ints) in
            rw drawn_total (subst (λ (n : ℤ). Worth n (over (weighted
            (drawn_strategy game leaves x i) (λ p. value_of p v)) d)
            (sum_to (leaf_count leaves i) (λ k. share_at game x i k v))) e
            (worth-over (pos 1) d (weighted (drawn_strategy game leaves x i) (λ p. value_of p v))
            (sum_to (leaf_count leaves i) (λ k. share_at game x i k v)) positive w))
