-- The means of an equilibrium, the least costs and their multipliers solve the system.
use Rattle.std.proofs.Common.{◌≡◌, ◌≢◌, ℕ, zero, suc, ◌<◌, arith, refl, sym, ap, subst, ◌∙◌, ℤ, pos, negsuc, neg_ℤ, ◌+ℤ◌, ◌-ℤ◌, ◌*ℤ◌, ◌≤ℤ◌, ◌<ℤ◌, unsigned_abs, true, false, All, List, [], ◌∷◌, ◌++◌, map, length, get_or, ◌⊎◌, ⊎_elim, inl, inr, if◌then◌else◌, ◌==◌}
use Rattle.std.specs.List.{zip}
use Rattle.std.proofs.lemmas.Int.{ints, by_lt_z}
use Rattle.std.proofs.lemmas.Bool.Decides.{nat_tests}
use Rattle.std.proofs.Math.IntN.{*ℤ_comm}
use Rattle.zr_base.specs.Points.{PointOf, num_of}
use Rattle.zr_base.specs.Sums.{sum_to}
use Rattle.zr_base.proofs.Dense.{sum_to-add, sum_to-mul, sum_to_same}
use Rattle.zr_base.proofs.Divisors.{mul_positive}
use Rattle.zr_base.proofs.Members.{each_join}
use Rattle.zr_base.proofs.Ring.{spread}
use Rattle.zr_base.proofs.Worth.{Each}
use Rattle.zr_game.specs.Forms.{IsGame}
use Rattle.zr_game.specs.Named.{IsNamed, NamedOf, NamedPoint, NamedRay}
use Rattle.zr_game.specs.Players.{GameOf}
use Rattle.zr_game.specs.Rays.{change_of, moved}
use Rattle.zr_game.specs.declared.choice.Choice.TheVariants as AChoice
use Rattle.zr_game.specs.declared.kind.Kind.{Kind}
use Rattle.zr_game.specs.declared.kind.Kind.TheVariants.{Pure}
use Rattle.zr_game.proofs.RayLaws.{leads}
use Rattle.zr_system.specs.declared.line.Line.{Line}
use Rattle.zr_system.specs.declared.line.Line.TheVariants as ALine
use Rattle.zr_system.specs.declared.unknown.Unknown.{Unknown}
use Rattle.zr_system.specs.declared.unknown.Unknown.TheVariants.{One, Worth, Share, Weight, Dual}
use Rattle.zr_system.specs.Forms.{amount}
use Rattle.zr_system.specs.Lines.{base_lines, dual_lines, gain_form, leaf_lines, named_form, nothing, off_lines, other_lines, player_lines, pull_form, pull_lines, reach_lines, slope_form, slot_form, slot_lines}
use Rattle.zr_system.specs.Regions.{LeavesOf, cross_number, is_exact, is_present, leaf_count, named_at, own_number, player_at, slot_count, slot_number, slot_right, var_count}
use Rattle.zr_system.specs.Unknowns.{list_to}
use Rattle.zr_convex.proofs.CrossSums.{player_is}
use Rattle.zr_convex.proofs.Dots.{by_columns, dot, dot_add, dot_mul, sum_to_le, sum_to_nil}
use Rattle.zr_convex.proofs.Duals.{AreDuals}
use Rattle.zr_convex.proofs.Insides.{union_of}
use Rattle.zr_convex.proofs.Items.{Fits, Item, Level, lot_else, lot_here, share_level, share_nil, share_of, shares, slot_holds, sum_at, sum_over, weight_nonneg, weight_of, weights}
use Rattle.zr_system.proofs.Meeting.{Feasible, LineHolds, Meets, MeetsChoices}
use Rattle.zr_convex.proofs.Orders.{cancelled, nonneg_mul, positive_sign, scaled, zero_factor}
use Rattle.zr_system.proofs.Joined.{each_if, each_to, each_unless}

-- a number of a point that lies m times the direction from the base
moved_number : (m : ℤ) (xs ys : List ℤ) (v : ℕ) → length xs ≡ length ys
    → get_or (map (λ p. p.0 +ℤ m *ℤ p.1) (zip xs ys)) v (pos 0) ≡ get_or xs v (pos 0) +ℤ m *ℤ
    get_or ys v (pos 0)
moved_number m [] [] v e = omega (arith, ints)
moved_number m [] (y ∷ ys) v e = absurd (omega arith)
moved_number m (x ∷ xs) [] v e = absurd (omega arith)
moved_number m (x ∷ xs) (y ∷ ys) zero e = refl
moved_number m (x ∷ xs) (y ∷ ys) (suc v) e = moved_number m xs ys v (omega arith)

-- a line that never falls below zero doesn't go down
rising : (a b : ℤ) → ((t : ℕ) → (pos 0) ≤ℤ (a +ℤ pos t *ℤ b)) → (pos 0) ≤ℤ b
rising a b h = by_lt_z {P = (pos 0) ≤ℤ b} b (pos 0)
    (λ below. absurd (falls below (h (suc (unsigned_abs a))))) (λ fine. fine)
  where
    falls : b <ℤ (pos 0) → (pos 0) ≤ℤ (a +ℤ pos (suc (unsigned_abs a)) *ℤ b) → ⊥
    falls below k =
        let m = scaled (pos (suc (unsigned_abs a))) b (negsuc 0) (omega (arith, ints))
        (omega (arith, ints, below)) in
        omega (arith, ints, k, m)

-- the slopes over n, and the costs of the means over the square of n
abbrev pub slopes_of : GameOf → (ℕ → List Item) → ℤ → ℕ → ℕ → ℤ
slopes_of game items n i v =
    own_number game i v *ℤ n +ℤ sum_to (length game)
    (λ k. sum_to (var_count game k) (λ u. cross_number game i v k u *ℤ sum_at (items k) u))

abbrev pub least_of : GameOf → (ℕ → List Item) → ℤ → ℕ → ℤ
least_of game items n i = dot (var_count game i) (slopes_of game items n i) (sum_at (items i))

-- an equilibrium in whole numbers over n, with multipliers over q, and m the product of both
module _ (game : GameOf) (leaves : LeavesOf) (kind : Kind) (items : ℕ → List Item) (scale : ℕ → ℤ)
    (n q m : ℤ) (y : ℕ → ℕ → ℕ → ℤ) where
  abbrev slopes : ℕ → ℕ → ℤ
  slopes i v = slopes_of game items n i v

  abbrev least : ℕ → ℤ
  least i = least_of game items n i

  abbrev pub solution : Unknown → ℤ
  solution One = n *ℤ m
  solution (Worth i) = least i *ℤ q
  solution (Share i k v) = m *ℤ share_of (items i) k v
  solution (Weight i k) = m *ℤ weight_of (items i) k
  solution (Dual i k j) = y i k j

  abbrev H : Line → Type 0
  H = LineHolds game leaves solution

  -- what is known of it
  pub record Facts : Type 0 where
    pub form : IsGame game
    pub n_positive : (pos 0) <ℤ n
    pub q_positive : (pos 0) <ℤ q
    pub product : m ≡ n *ℤ q
    pub fits : (i : ℕ) → i < length game → Each
        (Fits (Feasible game i) (union_of game leaves i) (scale i)) (items i)
    pub over : (i : ℕ) → i < length game → sum_over (items i) ≡ n
    pub bound : (i : ℕ) → i < length game → (x : PointOf) → Feasible game i x
        → (least i *ℤ x.den) ≤ℤ (n *ℤ dot (var_count game i) (slopes i) (num_of x))
    pub level : (i : ℕ) → i < length game → Each
        (Level (Feasible game i) (union_of game leaves i) (slopes i) (least i) n) (items i)
    pub named : (i : ℕ) → i < length game → All (IsNamed (player_at game i)) (named_at leaves i)
    pub duals : (i k : ℕ) → i < length game → k < (leaf_count leaves i)
        → is_exact leaves i k ≡ true → AreDuals (var_count game i) (slot_count game leaves i k)
        (slot_number game leaves i k) (slot_right game leaves i k) (λ v. n *ℤ slopes i v) (least i)
        q (y i k)
    pub single : kind ≡ Pure → (i : ℕ) → i < length game → (t : Item) × (items i ≡ t ∷ [])

  module _ (facts : Facts) where
    m_positive : (pos 0) <ℤ m
    m_positive = rw facts.product (mul_positive n q facts.n_positive facts.q_positive)

    m_nonneg : (pos 0) ≤ℤ m
    m_nonneg = let p = m_positive in omega (arith, ints, p)

    pub unit_positive : (pos 0) <ℤ solution One
    unit_positive = mul_positive n m facts.n_positive m_positive

    module _ (i : ℕ) (player : i < length game) where
      slope_amount : (v : ℕ) → amount (slope_form game leaves i v) solution ≡ m *ℤ slopes i v
      slope_amount v = ap (λ x. own_number game i v *ℤ (n *ℤ m) +ℤ x) others ∙ simp spread
        where
          others : sum_to (length game) (λ k. sum_to (var_count game k)
              (λ u. cross_number game i v k u *ℤ sum_to (leaf_count leaves k)
              (λ l. m *ℤ share_of (items k) l u))) ≡ m *ℤ sum_to (length game)
              (λ k. sum_to (var_count game k) (λ u. cross_number game i v k u *ℤ sum_at (items k)
              u))
          others =
              sum_to_same (length game) (λ k. sum_to (var_count game k)
              (λ u. cross_number game i v k u *ℤ sum_to (leaf_count leaves k)
              (λ l. m *ℤ share_of (items k) l u)))
              (λ k. m *ℤ sum_to (var_count game k)
              (λ u. cross_number game i v k u *ℤ sum_at (items k) u))
              (λ k h. sum_to_same (var_count game k)
              (λ u. cross_number game i v k u *ℤ sum_to (leaf_count leaves k)
              (λ l. m *ℤ share_of (items k) l u))
              (λ u. m *ℤ (cross_number game i v k u *ℤ sum_at (items k) u))
              (λ u p. ap (λ x. cross_number game i v k u *ℤ x)
              (sum_to-mul (leaf_count leaves k) m (λ l. share_of (items k) l u)
              ∙ ap (λ x. m *ℤ x) (shares (Feasible game k) (union_of game leaves k) (scale k)
              (items k) u (facts.fits k h))) ∙ simp spread)
              ∙ sum_to-mul (var_count game k) m (λ u. cross_number game i v k u *ℤ sum_at
              (items k) u)) ∙ sum_to-mul (length game) m
              (λ k. sum_to (var_count game k) (λ u. cross_number game i v k u *ℤ sum_at
              (items k) u))

      -- a multiple of the slopes
      slopes_at : (p : ℕ → ℤ) → sum_to (var_count game i)
          (λ v. p v *ℤ amount (slope_form game leaves i v) solution) ≡ m *ℤ dot (var_count game i)
          (slopes i) p
      slopes_at p =
          sum_to_same (var_count game i) (λ v. p v *ℤ amount (slope_form game leaves i v) solution)
          (λ v. m *ℤ (slopes i v *ℤ p v)) (λ v h. ap (λ x. p v *ℤ x) (slope_amount v)
          ∙ turned (p v) m (slopes i v)) ∙ sum_to-mul (var_count game i) m
          (λ v. slopes i v *ℤ p v)
        where
          turned : (a b c : ℤ) → a *ℤ (b *ℤ c) ≡ b *ℤ (c *ℤ a)
          turned a b c = simp spread

      by_q : (z : ℤ) → m *ℤ z ≡ q *ℤ (n *ℤ z)
      by_q z = ap (λ x. x *ℤ z) facts.product ∙ simp spread

      all_weights : sum_to (leaf_count leaves i) (λ k. m *ℤ weight_of (items i) k) ≡ n *ℤ m
      all_weights =
          sum_to-mul (leaf_count leaves i) m (λ k. weight_of (items i) k)
          ∙ ap (λ x. m *ℤ x) (weights (Feasible game i) (union_of game leaves i) (scale i)
          (items i) (facts.fits i player) ∙ facts.over i player) ∙ *ℤ_comm m n

      weights_hold : Each H (ALine.Weights i false ∷ (ALine.Weights i true ∷ []))
      weights_hold = let e = all_weights in (omega (arith, ints, e), (omega (arith, ints, e), tt))

      module _ (k : ℕ) (inside : k < (leaf_count leaves i)) where
        nonneg : (pos 0) ≤ℤ weight_of (items i) k
        nonneg = weight_nonneg (Feasible game i) (union_of game leaves i) (scale i) k (items i)
            (facts.fits i player)

        slot_inside : (j : ℕ) → j < (slot_count game leaves i k)
            → dot (var_count game i) (slot_number game leaves i k j) (share_of (items i) k) ≤ℤ
            ((slot_right game leaves i k j) *ℤ weight_of (items i) k)
        slot_inside j h = slot_holds (Feasible game i) (union_of game leaves i) (scale i) k j h
            (items i) (facts.fits i player)

        -- what is left at a slot
        abbrev gap : ℕ → ℤ
        gap j = (slot_right game leaves i k j) *ℤ weight_of (items i) k -ℤ dot (var_count game i)
            (slot_number game leaves i k j) (share_of (items i) k)

        gap_nonneg : (j : ℕ) → j < (slot_count game leaves i k) → (pos 0) ≤ℤ gap j
        gap_nonneg j h = let r = slot_inside j h in omega (arith, ints, r)

        slot_amount : (j : ℕ) → amount (slot_form game leaves i k j) solution ≡ m *ℤ
            (dot (var_count game i) (slot_number game leaves i k j) (share_of (items i) k) -ℤ
            (slot_right game leaves i k j) *ℤ weight_of (items i) k)
        slot_amount j =
            let e = dot_mul (var_count game i) (slot_number game leaves i k j) m
            (share_of (items i) k) in
            rw e (simp spread (omega (arith, ints)))

        slot_row_holds : (j : ℕ) → j < (slot_count game leaves i k)
            → amount (slot_form game leaves i k j) solution ≤ℤ (pos 0)
        slot_row_holds j h =
            let e = slot_amount j in
            let r = slot_inside j h in
            let s = scaled m (dot (var_count game i) (slot_number game leaves i k j)
            (share_of (items i) k) -ℤ (slot_right game leaves i k j) *ℤ weight_of (items i) k)
            (pos 0) m_nonneg (omega (arith, ints, r)) in
            omega (arith, ints, e, s)

        slots_hold : Each H (slot_lines game leaves i k)
        slots_hold =
            each_to H (slot_count game leaves i k)
            (λ s. if is_present game leaves i k s then ALine.Slot i k s false ∷ [] else [])
            (λ s h. each_if H (is_present game leaves i k s) (ALine.Slot i k s false ∷ [])
            (λ e. (slot_row_holds s h, tt)))

        weight_holds : H (ALine.Weight i k false)
        weight_holds = let w = nonneg_mul m (weight_of (items i) k) m_nonneg nonneg in
            omega (arith, ints, w)

        module _ (exact : is_exact leaves i k ≡ true) where
          duals_of : AreDuals (var_count game i) (slot_count game leaves i k)
              (slot_number game leaves i k) (slot_right game leaves i k) (λ v. n *ℤ slopes i v)
              (least i) q (y i k)
          duals_of = facts.duals i k player inside exact

          both_amount : (v : ℕ) → v < var_count game i
              → amount (slope_form game leaves i v) solution +ℤ amount
              (pull_form game leaves i k v) solution ≡ pos 0
          both_amount v h =
              let e = slope_amount v ∙ by_q (slopes i v) in
              let d = duals_of.pull v h in
              omega (arith, ints, e, d)

          gain_amount : amount (gain_form game leaves i k) solution ≤ℤ (pos 0)
          gain_amount = let d = duals_of.gain in let c = *ℤ_comm (least i) q in
              omega (arith, ints, d, c)

          duals_hold : Each H (dual_lines game leaves i k)
          duals_hold =
              let each_pull = λ (v : ℕ). ALine.Pull i k v false ∷ (ALine.Pull i k v true ∷ []) in
              let each_dual = λ (s : ℕ). if is_present game leaves i k s then ALine.Dual i k s
              false ∷ [] else [] in
              each_join H (list_to (slot_count game leaves i k) each_dual)
              (pull_lines game i k ++ (ALine.Gain i k false ∷ []))
              (each_to H (slot_count game leaves i k) each_dual
              (λ s h. each_if H (is_present game leaves i k s) (ALine.Dual i k s false ∷ [])
              (λ e. (let d = duals_of.nonneg s h in omega (arith, ints, d), tt))))
              (each_join H (pull_lines game i k) (ALine.Gain i k false ∷ [])
              (each_to H (var_count game i) each_pull
              (λ v h. let e = both_amount v h in
              (omega (arith, ints, e), (omega (arith, ints, e), tt)))) (gain_amount, tt))

          -- the multiples of the rows at the shares
          pulled : sum_to (slot_count game leaves i k)
              (λ j. y i k j *ℤ dot (var_count game i) (slot_number game leaves i k j)
              (share_of (items i) k)) ≡ neg_ℤ q *ℤ (least i *ℤ weight_of (items i) k)
          pulled =
              by_columns (var_count game i) (slot_count game leaves i k)
              (λ j. (slot_number game leaves i k j)) (y i k) (share_of (items i) k)
              ∙ sum_to_same (var_count game i) (λ v. dot (slot_count game leaves i k)
              (λ j. (slot_number game leaves i k j) v) (y i k) *ℤ share_of (items i) k v)
              (λ v. (neg_ℤ q *ℤ n) *ℤ (slopes i v *ℤ share_of (items i) k v))
              (λ v h. let d = duals_of.pull v h in
              let e : dot (slot_count game leaves i k) (λ j. (slot_number game leaves i k j) v)
              (y i k) ≡ neg_ℤ (q *ℤ (n *ℤ slopes i v)) = omega (arith, ints, d) in
              ap (λ x. x *ℤ share_of (items i) k v) e
              ∙ signed q n (slopes i v) (share_of (items i) k v))
              ∙ sum_to-mul (var_count game i) (neg_ℤ q *ℤ n)
              (λ v. slopes i v *ℤ share_of (items i) k v)
              ∙ grouped (neg_ℤ q) n (dot (var_count game i) (slopes i) (share_of (items i) k))
              ∙ ap (λ x. neg_ℤ q *ℤ x) (share_level (Feasible game i) (union_of game leaves i)
              (slopes i) (least i) n (items i) k (facts.level i player))
            where
              signed : (a b c d : ℤ) → neg_ℤ (a *ℤ (b *ℤ c)) *ℤ d ≡ (neg_ℤ a *ℤ b) *ℤ (c *ℤ d)
              signed a b c d = simp spread

              grouped : (a b c : ℤ) → (a *ℤ b) *ℤ c ≡ a *ℤ (b *ℤ c)
              grouped a b c = simp spread

          gains : sum_to (slot_count game leaves i k)
              (λ j. y i k j *ℤ ((slot_right game leaves i k j) *ℤ weight_of (items i) k)) ≡
              weight_of (items i) k *ℤ dot (slot_count game leaves i k)
              (λ j. (slot_right game leaves i k j)) (y i k)
          gains =
              sum_to_same (slot_count game leaves i k)
              (λ j. y i k j *ℤ ((slot_right game leaves i k j) *ℤ weight_of (items i) k))
              (λ j. weight_of (items i) k *ℤ ((slot_right game leaves i k j) *ℤ y i k j))
              (λ j h. simp spread) ∙ sum_to-mul (slot_count game leaves i k)
              (weight_of (items i) k) (λ j. (slot_right game leaves i k j) *ℤ y i k j)

          module _ (used : (pos 0) <ℤ weight_of (items i) k) where
            -- a leaf with weight reaches the least cost
            reached : (pos 0) ≤ℤ (q *ℤ least i +ℤ dot (slot_count game leaves i k)
                (λ j. (slot_right game leaves i k j)) (y i k))
            reached =
                let p = pulled in
                let g = gains in
                let l = sum_to_le (slot_count game leaves i k)
                (λ j. y i k j *ℤ dot (var_count game i) (slot_number game leaves i k j)
                (share_of (items i) k)) (λ j. y i k j *ℤ
                ((slot_right game leaves i k j) *ℤ weight_of (items i) k))
                (λ j h. scaled (y i k j) (dot (var_count game i)
                (slot_number game leaves i k j) (share_of (items i) k))
                ((slot_right game leaves i k j) *ℤ weight_of (items i) k) (duals_of.nonneg j h)
                (slot_inside j h)) in
                cancelled (weight_of (items i) k) (pos 0)
                (q *ℤ least i +ℤ dot (slot_count game leaves i k)
                (λ j. (slot_right game leaves i k j)) (y i k)) used
                (weighed (weight_of (items i) k) q (least i)
                (dot (slot_count game leaves i k) (λ j. (slot_right game leaves i k j))
                (y i k)) _ _ p g l)
              where
                weighed : (w q l b s t : ℤ) → s ≡ neg_ℤ q *ℤ (l *ℤ w) → t ≡ w *ℤ b → s ≤ℤ t
                    → (w *ℤ pos 0) ≤ℤ (w *ℤ (q *ℤ l +ℤ b))
                weighed w q l b s t e f h =
                    let e2 = simp spread at e in
                    simp spread (omega (arith, ints, e2, f, h))

            level_gain : q *ℤ least i +ℤ dot (slot_count game leaves i k)
                (λ j. (slot_right game leaves i k j)) (y i k) ≡ pos 0
            level_gain = let r = reached in let d = duals_of.gain in omega (arith, ints, r, d)

            -- each slot is tight there, or has no multiplier
            complementary : (j : ℕ) → j < (slot_count game leaves i k) → (y i k j ≡ pos 0)
                ⊎ (gap j ≡ pos 0)
            complementary j h =
                zero_factor (y i k j) (gap j) (duals_of.nonneg j h) (gap_nonneg j h)
                (sum_to_nil (slot_count game leaves i k) (λ j. y i k j *ℤ gap j)
                (λ j h. nonneg_mul (y i k j) (gap j) (duals_of.nonneg j h) (gap_nonneg j h))
                all_gaps j h)
              where
                split_gap : (a b c : ℤ) → a *ℤ b ≡ a *ℤ (b -ℤ c) +ℤ a *ℤ c
                split_gap a b c = simp spread (omega (arith, ints))

                together : (w q l b s t u : ℤ) → t ≡ s +ℤ u → u ≡ neg_ℤ q *ℤ (l *ℤ w) → t ≡ w *ℤ b
                    → q *ℤ l +ℤ b ≡ pos 0 → s ≡ pos 0
                together w q l b s t u a e f z =
                    let z2 = simp spread at (ap (λ x. w *ℤ x) z) in
                    let e2 = simp spread at e in
                    omega (arith, ints, a, e2, f, z2)

                all_gaps : sum_to (slot_count game leaves i k) (λ j. y i k j *ℤ gap j) ≡ pos 0
                all_gaps =
                    let a = sum_to_same (slot_count game leaves i k)
                    (λ j. y i k j *ℤ ((slot_right game leaves i k j) *ℤ weight_of (items i) k))
                    (λ j. y i k j *ℤ gap j +ℤ y i k j *ℤ dot (var_count game i)
                    (slot_number game leaves i k j) (share_of (items i) k))
                    (λ j h. split_gap (y i k j) ((slot_right game leaves i k j) *ℤ weight_of
                    (items i) k) (dot (var_count game i) (slot_number game leaves i k j)
                    (share_of (items i) k))) ∙ sum_to-add (slot_count game leaves i k)
                    (λ j. y i k j *ℤ gap j) (λ j. y i k j *ℤ dot (var_count game i)
                    (slot_number game leaves i k j) (share_of (items i) k)) in
                    together (weight_of (items i) k) q (least i)
                    (dot (slot_count game leaves i k) (λ j. (slot_right game leaves i k j))
                    (y i k)) (sum_to (slot_count game leaves i k) (λ j. y i k j *ℤ gap j)) _ _
                    a pulled gains level_gain

        leaf_holds : Each H (leaf_lines game leaves i k)
        leaf_holds =
            each_join H (slot_lines game leaves i k)
            (ALine.Weight i k false ∷ (if is_exact leaves i k then dual_lines game leaves i k
            else [])) slots_hold (
              weight_holds,
              each_if H (is_exact leaves i k)
                  (dual_lines game leaves i k) (λ e. duals_hold e),
            )

        reach_holds : (pos 0) <ℤ weight_of (items i) k → Each H (reach_lines leaves i k)
        reach_holds used =
            each_if H (is_exact leaves i k) (ALine.Gain i k true ∷ [])
            (λ e. (
              let r = reached e used in let c = *ℤ_comm (least i) q in
                  omega (arith, ints, r, c),
              tt,
            ))

        on_holds : (pos 0) <ℤ weight_of (items i) k → Meets game leaves solution (AChoice.On i k)
        on_holds used = (
          let p = mul_positive m (weight_of (items i) k) m_positive used in
              omega (arith, ints, p),
          reach_holds used,
        )

        off_holds : weight_of (items i) k ≡ pos 0 → Each H (off_lines game i k)
        off_holds none = (
          let z : m *ℤ weight_of (items i) k ≡ pos 0 = rw none (omega (arith, ints)) in
              omega (arith, ints, z),
          each_to H (var_count game i) (λ v. ALine.Share i k v false ∷
              (ALine.Share i k v true ∷ [])) (λ v h. let z = share_nil (Feasible game i)
              (union_of game leaves i) (scale i) k (items i) v (facts.fits i player) none in
              let y : m *ℤ share_of (items i) k v ≡ pos 0 = rw z (omega (arith, ints)) in
              (omega (arith, ints, y), (omega (arith, ints, y), tt))),
        )

        leaf_chosen : Meets game leaves solution (AChoice.On i k)
            ⊎ Meets game leaves solution (AChoice.Off i k)
        leaf_chosen =
            ⊎_elim (λ (none : weight_of (items i) k ≡ pos 0). inr (off_holds none))
            (λ (used : (pos 0) <ℤ weight_of (items i) k). inl (on_holds used))
            (positive_sign (weight_of (items i) k) nonneg)

        slot_chosen : (j : ℕ) → is_exact leaves i k ≡ true → j < (slot_count game leaves i k)
            → (pos 0) <ℤ solution (Weight i k) → Meets game leaves solution (AChoice.Zero i k j)
            ⊎ Meets game leaves solution (AChoice.Tight i k j)
        slot_chosen j e h w =
            ⊎_elim (λ (none : y i k j ≡ pos 0). inl (omega (arith, ints, none), tt))
            (λ (even : gap j ≡ pos 0). inr (
              let a = slot_amount j in
                  let f : dot (var_count game i) (slot_number game leaves i k j)
                  (share_of (items i) k) -ℤ (slot_right game leaves i k j) *ℤ weight_of (items i)
                  k ≡ pos 0 = omega (arith, ints, even) in
                  let z : m *ℤ (dot (var_count game i) (slot_number game leaves i k j)
                  (share_of (items i) k) -ℤ (slot_right game leaves i k j) *ℤ weight_of (items i) k)
                  ≡ pos 0 = rw f (omega (arith, ints)) in omega (arith, ints, a, z),
              tt,
            ))
            (complementary e used j h)
          where
            used : (pos 0) <ℤ weight_of (items i) k
            used = ⊎_elim (λ (none : weight_of (items i) k ≡ pos 0). absurd
                (let z : m *ℤ weight_of (items i) k ≡ pos 0 = rw none (omega (arith, ints)) in
                omega (arith, ints, z, w))) (λ (u : (pos 0) <ℤ weight_of (items i) k). u)
                (positive_sign (weight_of (items i) k) nonneg)

      named_holds : (item : NamedOf) → IsNamed (player_at game i) item
          → amount (named_form game leaves i item) solution ≤ℤ (pos 0)
      named_holds (NamedPoint p) h =
          let b = scaled q (least i *ℤ p.den) (n *ℤ dot (var_count game i) (slopes i) (num_of p))
          (let p = facts.q_positive in omega (arith, ints, p)) (facts.bound i player p h) in
          let s = slopes_at (num_of p) ∙ by_q (dot (var_count game i) (slopes i) (num_of p)) in
          let t : p.den *ℤ (least i *ℤ q) ≡ q *ℤ (least i *ℤ p.den) = simp spread in
          omega (arith, ints, b, s, t)
      named_holds (NamedRay base dir) h =
          let s = slopes_at (change_of dir) in
          let r = scaled m (pos 0) (dot (var_count game i) (slopes i) (change_of dir)) m_nonneg
          rises in
          omega (arith, ints, s, r)
        where
          apart : (a l o d t : ℤ) → (l *ℤ o) ≤ℤ (n *ℤ (a +ℤ (t *ℤ o) *ℤ d))
              → (pos 0) ≤ℤ ((n *ℤ a -ℤ l *ℤ o) +ℤ t *ℤ (n *ℤ (o *ℤ d)))
          apart a l o d t h = let h2 = simp spread at h in simp spread (omega (arith, ints, h2))

          same_len : length base.num ≡ length dir
          same_len = h.base_is.len ∙ sym h.len

          costs : (t : ℕ) → dot (var_count game i) (slopes i) (num_of (moved base dir t)) ≡ dot
              (var_count game i) (slopes i) (num_of base) +ℤ (pos t *ℤ base.den) *ℤ dot
              (var_count game i) (slopes i) (change_of dir)
          costs t =
              sum_to_same (var_count game i) (λ v. slopes i v *ℤ num_of (moved base dir t) v)
              (λ v. slopes i v *ℤ (num_of base v +ℤ (pos t *ℤ base.den) *ℤ change_of dir v))
              (λ v p. ap (λ z. slopes i v *ℤ z) (moved_number (pos t *ℤ base.den) base.num dir
              v same_len)) ∙ dot_add (var_count game i) (slopes i) (num_of base)
              (λ v. (pos t *ℤ base.den) *ℤ change_of dir v)
              ∙ ap (λ z. dot (var_count game i) (slopes i) (num_of base) +ℤ z)
              (dot_mul (var_count game i) (slopes i) (pos t *ℤ base.den) (change_of dir))

          line : (t : ℕ) → (pos 0) ≤ℤ ((n *ℤ dot (var_count game i) (slopes i) (num_of base) -ℤ
              least i *ℤ base.den) +ℤ pos t *ℤ (n *ℤ
              (base.den *ℤ dot (var_count game i) (slopes i) (change_of dir))))
          line t =
              let rules = facts.form.players i (player_at game i) (player_is game i player) in
              let b = facts.bound i player (moved base dir t)
              (leads base dir same_len t (player_at game i) h rules.pairs rules.from_zero) in
              apart (dot (var_count game i) (slopes i) (num_of base)) (least i) base.den
              (dot (var_count game i) (slopes i) (change_of dir)) (pos t)
              (subst (λ (z : ℤ). (least i *ℤ base.den) ≤ℤ (n *ℤ z)) (costs t) b)

          rises : (pos 0) ≤ℤ dot (var_count game i) (slopes i) (change_of dir)
          rises =
              let r = rising (n *ℤ dot (var_count game i) (slopes i) (num_of base) -ℤ least i *ℤ
              base.den) (n *ℤ (base.den *ℤ dot (var_count game i) (slopes i) (change_of dir)))
              line in
              let c = cancelled n (pos 0) (base.den *ℤ dot (var_count game i) (slopes i)
              (change_of dir)) facts.n_positive (omega (arith, ints, r)) in
              cancelled base.den (pos 0) (dot (var_count game i) (slopes i) (change_of dir))
              h.base_is.point (omega (arith, ints, c))

      player_holds : Each H (player_lines game leaves i)
      player_holds =
          let named = λ (n : ℕ). ALine.Named i n ∷ [] in
          let all = λ (k : ℕ). leaf_lines game leaves i k in (
            weights_hold.0,
            (
              weights_hold.1.0,
              each_join H (list_to (leaf_count leaves i) all)
                  (list_to (length (named_at leaves i)) named)
                  (each_to H (leaf_count leaves i) all leaf_holds)
                  (each_to H (length (named_at leaves i)) named
                  (λ n h. (
                    named_holds (get_or (named_at leaves i) n nothing)
                        (facts.named i player n nothing h),
                    tt,
                  ))),
            ),
          )

      -- the leaf of the one part
      which_holds : (t : Item) → items i ≡ t ∷ [] → (k : ℕ) × (k < (leaf_count leaves i))
          × Meets game leaves solution (AChoice.Which i k)
      which_holds t e = (
        t.leaf,
        inside,
        (
          here,
          each_join H (reach_lines leaves i t.leaf)
              (other_lines game leaves i t.leaf) (reach_holds t.leaf inside used)
              (each_to H (leaf_count leaves i) (λ l. if l == t.leaf then [] else off_lines game i
              l) (λ l h. each_unless H (l == t.leaf) (off_lines game i l)
              (λ c. off_holds l h (none_there l (other_leaf l c))))),
        ),
      )
        where
          fit : Fits (Feasible game i) (union_of game leaves i) (scale i) t
          fit = (rw e at (facts.fits i player)).0

          inside : t.leaf < (leaf_count leaves i)
          inside = fit.leaf

          all_here : weight_of (items i) t.leaf ≡ n
          all_here =
              let l = ap (λ x. x *ℤ t.part.point.den)
              (lot_here (Feasible game i) (union_of game leaves i) t t.leaf refl) in
              let o = rw e at (facts.over i player) in
              rw e (omega (arith, ints, l, o))

          used : (pos 0) <ℤ weight_of (items i) t.leaf
          used = rw all_here facts.n_positive

          here : H (ALine.Whole i t.leaf)
          here = let a = ap (λ x. m *ℤ x) all_here in let c = *ℤ_comm m n in
              omega (arith, ints, a, c)

          none_there : (l : ℕ) → t.leaf ≢ l → weight_of (items i) l ≡ pos 0
          none_there l c = let z = ap (λ x. x *ℤ t.part.point.den)
              (lot_else (Feasible game i) (union_of game leaves i) t l c) in
              rw e (omega (arith, ints, z))

          other_leaf : (l : ℕ) → (l == t.leaf) ≡ false → t.leaf ≢ l
          other_leaf l c s = let f : (l == t.leaf) ≡ true = grind (arith, nat_tests) in absurd cc

    pub base_holds : Each H (base_lines game leaves)
    base_holds = each_to H (length game) (λ i. player_lines game leaves i) player_holds

    pub choices_hold : MeetsChoices game leaves kind solution
    choices_hold = record {
      leaf = λ i k p h. leaf_chosen i p k h;
      slot = λ i k j p h e s there w. slot_chosen i p k h j e s w;
      one = λ yes i p. let s = facts.single yes i p in which_holds i p s.0 s.1;
    }
