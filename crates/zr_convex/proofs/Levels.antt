-- Numbers that solve the system and meet one side of each choice: a player's value is the least cost,
-- and the sum of its shares costs it.
use Rattle.std.proofs.Common.{◌≡◌, ℕ, ◌<◌, arith, refl, sym, ap, ◌∙◌, ℤ, pos, negsuc, neg_ℤ, ◌+ℤ◌, ◌*ℤ◌, ◌≤ℤ◌, ◌<ℤ◌, Bool, true, false, List, [], ◌∷◌, ◌++◌, length, ⊎_elim, if◌then◌else◌}
use Rattle.std.proofs.lemmas.Int.{ints}
use Rattle.zr_base.specs.Points.{PointOf, num_of}
use Rattle.zr_base.specs.Sums.{sum_to}
use Rattle.zr_base.proofs.Dense.{sum_to-mul, sum_to_same, sum_to_zero}
use Rattle.zr_base.proofs.Members.{each_back, each_front}
use Rattle.zr_base.proofs.Ring.{spread}
use Rattle.zr_base.proofs.Worth.{Each}
use Rattle.zr_game.specs.Players.{GameOf}
use Rattle.zr_game.specs.declared.choice.Choice.TheVariants as AChoice
use Rattle.zr_game.specs.declared.kind.Kind.{Kind}
use Rattle.zr_system.specs.declared.line.Line.{Line}
use Rattle.zr_system.specs.declared.line.Line.TheVariants as ALine
use Rattle.zr_system.specs.declared.unknown.Unknown.{Unknown}
use Rattle.zr_system.specs.declared.unknown.Unknown.TheVariants.{One, Worth, Share, Weight, Dual}
use Rattle.zr_system.specs.Forms.{amount}
use Rattle.zr_system.specs.Lines.{base_lines, dual_lines, leaf_lines, player_lines, pull_lines, slope_form, slot_lines}
use Rattle.zr_system.specs.Regions.{LeavesOf, is_exact, is_present, leaf_count, named_at, slot_count, slot_number, slot_right, var_count}
use Rattle.zr_system.specs.Unknowns.{list_to}
use Rattle.zr_system.proofs.Joined.{of_each_if, of_each_to}
use Rattle.zr_system.proofs.Meeting.{LineHolds, Meets, MeetsChoices}
use Rattle.zr_convex.proofs.Dots.{by_columns, dot, sum_to-swap, sum_to_le}
use Rattle.zr_convex.proofs.Insides.{absent_number, absent_right, union_of}
use Rattle.zr_convex.proofs.Items.{IsIn}
use Rattle.zr_convex.proofs.Orders.{scaled}

module _ (game : GameOf) (leaves : LeavesOf) (kind : Kind) (x : Unknown → ℤ)
    (base : Each (LineHolds game leaves x) (base_lines game leaves))
    (choices : MeetsChoices game leaves kind x)
    (exact : (i k : ℕ) → i < length game → k < leaf_count leaves i → is_exact leaves i k ≡ true)
  where
    abbrev H : Line → Type 0
    H = LineHolds game leaves x

    -- what one unit of variable v costs player i
    abbrev pub cost_of : ℕ → ℕ → ℤ
    cost_of i v = amount (slope_form game leaves i v) x

    module _ (i : ℕ) (player : i < length game) where
      abbrev all_leaves : ℕ → List Line
      all_leaves k = leaf_lines game leaves i k

      abbrev names : ℕ → List Line
      names n = ALine.Named i n ∷ []

      rows_of : Each H (player_lines game leaves i)
      rows_of = of_each_to H (length game) (λ i. player_lines game leaves i) base i player

      pub all_weights : sum_to (leaf_count leaves i) (λ k. x (Weight i k)) ≡ x One
      all_weights = let a = rows_of.0 in let b = rows_of.1.0 in omega (arith, ints, a, b)

      leaf_of : (k : ℕ) → k < leaf_count leaves i → Each H (leaf_lines game leaves i k)
      leaf_of k inside =
          of_each_to H (leaf_count leaves i) all_leaves (each_front H
          (list_to (leaf_count leaves i) all_leaves)
          (list_to (length (named_at leaves i)) names) rows_of.1.1) k inside

      module _ (k : ℕ) (inside : k < leaf_count leaves i) where
        abbrev slots : ℕ
        slots = slot_count game leaves i k

        abbrev y : ℕ → ℤ
        y s = x (Dual i k s)

        abbrev coef : ℕ → ℕ → ℤ
        coef s = slot_number game leaves i k s

        abbrev right : ℕ → ℤ
        right s = slot_right game leaves i k s

        after_slots : Each H (ALine.Weight i k false ∷
            (if is_exact leaves i k then dual_lines game leaves i k else []))
        after_slots = each_back H (slot_lines game leaves i k) (ALine.Weight i k false ∷
            (if is_exact leaves i k then dual_lines game leaves i k else [])) (leaf_of k inside)

        pub weight_nonneg : (pos 0) ≤ℤ x (Weight i k)
        weight_nonneg = let r = after_slots.0 in omega (arith, ints, r)

        -- the slot's row holds at the share and the weight
        pub slot_row : (s : ℕ) → s < slot_count game leaves i k
            → is_present game leaves i k s ≡ true
            → (dot (var_count game i) (slot_number game leaves i k s) (λ v. x (Share i k v))) ≤ℤ
            (slot_right game leaves i k s *ℤ x (Weight i k))
        slot_row s below there =
            let r = (of_each_if H (is_present game leaves i k s) (ALine.Slot i k s false ∷ []) there
            (of_each_to H slots
            (λ s. if is_present game leaves i k s then ALine.Slot i k s false ∷ [] else [])
            (each_front H (slot_lines game leaves i k) (ALine.Weight i k false ∷
            (if is_exact leaves i k then dual_lines game leaves i k else [])) (leaf_of k inside))
            s below)).0 in
            let n : neg_ℤ (right s) *ℤ x (Weight i k) ≡ neg_ℤ (right s *ℤ x (Weight i k)) =
            simp spread in
            omega (arith, ints, r, n)

        duals_of : Each H (dual_lines game leaves i k)
        duals_of =
            of_each_if H (is_exact leaves i k) (dual_lines game leaves i k)
            (exact i k player inside) after_slots.1

        abbrev signs : ℕ → List Line
        signs s = if is_present game leaves i k s then ALine.Dual i k s false ∷ [] else []

        abbrev gain_line : List Line
        gain_line = ALine.Gain i k false ∷ []

        dual_nonneg : (s : ℕ) → s < slots → is_present game leaves i k s ≡ true → (pos 0) ≤ℤ y s
        dual_nonneg s below there =
            let r = (of_each_if H (is_present game leaves i k s) (ALine.Dual i k s false ∷ []) there
            (of_each_to H slots signs (each_front H (list_to slots signs)
            (pull_lines game i k ++ gain_line) duals_of) s below)).0 in
            omega (arith, ints, r)

        after_signs : Each H (pull_lines game i k ++ gain_line)
        after_signs = each_back H (list_to slots signs) (pull_lines game i k ++ gain_line) duals_of

        pull : (v : ℕ) → v < var_count game i
            → dot slots (λ s. coef s v) y ≡ negsuc 0 *ℤ cost_of i v
        pull v h =
            let r = of_each_to H (var_count game i) (λ v. ALine.Pull i k v false ∷
            (ALine.Pull i k v true ∷ [])) (each_front H (pull_lines game i k) gain_line after_signs)
            v h in
            let a = r.0 in
            let b = r.1.0 in
            omega (arith, ints, a, b)

        gain : (x (Worth i) +ℤ dot slots right y) ≤ℤ (pos 0)
        gain = (each_back H (pull_lines game i k) gain_line after_signs).0

        -- the multiples of the rows at p
        pulled : (p : ℕ → ℤ) → sum_to slots (λ s. y s *ℤ dot (var_count game i) (coef s) p)
            ≡ negsuc 0 *ℤ dot (var_count game i) (cost_of i) p
        pulled p =
            by_columns (var_count game i) slots coef y p
            ∙ sum_to_same (var_count game i) (λ v. dot slots (λ s. coef s v) y *ℤ p v)
            (λ v. negsuc 0 *ℤ (cost_of i v *ℤ p v))
            (λ v h. ap (λ z. z *ℤ p v) (pull v h) ∙ grouped (negsuc 0) (cost_of i v) (p v))
            ∙ sum_to-mul (var_count game i) (negsuc 0) (λ v. cost_of i v *ℤ p v)
          where
            grouped : (a b c : ℤ) → (a *ℤ b) *ℤ c ≡ a *ℤ (b *ℤ c)
            grouped a b c = simp spread

        gains : (d : ℤ) → sum_to slots (λ s. y s *ℤ (right s *ℤ d)) ≡ d *ℤ dot slots right y
        gains d =
            sum_to_same slots (λ s. y s *ℤ (right s *ℤ d)) (λ s. d *ℤ (right s *ℤ y s))
            (λ s h. simp spread) ∙ sum_to-mul slots d (λ s. right s *ℤ y s)

        -- an absent slot counts for nothing
        absent : (s : ℕ) (p : ℕ → ℤ) (d : ℤ) → is_present game leaves i k s ≡ false
            → y s *ℤ dot (var_count game i) (coef s) p ≡ y s *ℤ (right s *ℤ d)
        absent s p d e =
            let z = sum_to_same (var_count game i) (λ v. coef s v *ℤ p v) (λ v. pos 0)
            (λ v h. ap (λ a. a *ℤ p v) (absent_number game leaves i k s v e) ∙ omega (arith, ints))
            ∙ sum_to_zero (var_count game i) in
            let r : right s *ℤ d ≡ pos 0 = ap (λ a. a *ℤ d) (absent_right game leaves i k s e)
            ∙ omega (arith, ints) in
            ap (λ a. y s *ℤ a) (z ∙ sym r)

        -- no point of the leaf costs less than the value
        pub no_less : (p : PointOf) → (pos 0) <ℤ p.den → IsIn (union_of game leaves i) k p
            → (x (Worth i) *ℤ p.den) ≤ℤ dot (var_count game i) (cost_of i) (num_of p)
        no_less p positive inleaf =
            let l = sum_to_le slots (λ s. y s *ℤ dot (var_count game i) (coef s) (num_of p))
            (λ s. y s *ℤ (right s *ℤ p.den)) (λ s h. each s h (is_present game leaves i k s) refl) in
            let a = pulled (num_of p) in
            let b = gains p.den in
            let g = scaled p.den (x (Worth i) +ℤ dot slots right y) (pos 0)
            (omega (arith, ints, positive)) gain in
            let g2 = parted p.den (x (Worth i)) (dot slots right y) in
            omega (arith, ints, l, a, b, g, g2)
          where
            parted : (o w b : ℤ) → o *ℤ (w +ℤ b) ≡ w *ℤ o +ℤ o *ℤ b
            parted o w b = simp spread

            each : (s : ℕ) → s < slots → (t : Bool) → is_present game leaves i k s ≡ t
                → (y s *ℤ dot (var_count game i) (coef s) (num_of p)) ≤ℤ
                (y s *ℤ (right s *ℤ p.den))
            each s h true e =
                scaled (y s) (dot (var_count game i) (coef s) (num_of p)) (right s *ℤ p.den)
                (dual_nonneg s h e) (inleaf s h)
            each s h false e =
                let z = absent s (num_of p) p.den e in omega (arith, ints, z)

        -- a leaf that is Off has neither weight nor shares
        pub off_weight : Meets game leaves x (AChoice.Off i k) → x (Weight i k) ≡ pos 0
        off_weight h = let a = h.0 in let b = weight_nonneg in omega (arith, ints, a, b)

        pub off_share : Meets game leaves x (AChoice.Off i k) → (v : ℕ) → v < var_count game i
            → x (Share i k v) ≡ pos 0
        off_share h v below =
            let z = of_each_to H (var_count game i) (λ v. ALine.Share i k v false ∷
            (ALine.Share i k v true ∷ [])) h.1 v below in
            let a = z.0 in
            let b = z.1.0 in
            omega (arith, ints, a, b)

        -- the share costs the value for each unit of its weight
        level : dot (var_count game i) (cost_of i) (λ v. x (Share i k v))
            ≡ x (Worth i) *ℤ x (Weight i k)
        level = ⊎_elim when_on when_off (choices.leaf i k player inside)
          where
            when_off : Meets game leaves x (AChoice.Off i k)
                → dot (var_count game i) (cost_of i) (λ v. x (Share i k v))
                ≡ x (Worth i) *ℤ x (Weight i k)
            when_off h =
                let s = sum_to_same (var_count game i) (λ v. cost_of i v *ℤ x (Share i k v))
                (λ v. pos 0) (λ v l. ap (λ z. cost_of i v *ℤ z) (off_share h v l)
                ∙ omega (arith, ints)) ∙ sum_to_zero (var_count game i) in
                let w : x (Worth i) *ℤ x (Weight i k) ≡ pos 0 =
                ap (λ z. x (Worth i) *ℤ z) (off_weight h) ∙ omega (arith, ints) in
                s ∙ sym w

            at_slot : (s : ℕ) → s < slots → (pos 0) <ℤ x (Weight i k) → (t : Bool)
                → is_present game leaves i k s ≡ t
                → y s *ℤ dot (var_count game i) (coef s) (λ v. x (Share i k v))
                ≡ y s *ℤ (right s *ℤ x (Weight i k))
            at_slot s l used false e = absent s (λ v. x (Share i k v)) (x (Weight i k)) e
            at_slot s l used true e =
                ⊎_elim (λ (a : Meets game leaves x (AChoice.Zero i k s)).
                let b = dual_nonneg s l e in
                let c = a.0 in
                let z : y s ≡ pos 0 = omega (arith, ints, b, c) in
                none (y s) (dot (var_count game i) (coef s) (λ v. x (Share i k v)))
                (right s *ℤ x (Weight i k)) z)
                (λ (b : Meets game leaves x (AChoice.Tight i k s)). ap (λ z. y s *ℤ z)
                (let c = b.0 in
                let r = slot_row s l e in
                let n : neg_ℤ (right s) *ℤ x (Weight i k) ≡ neg_ℤ (right s *ℤ x (Weight i k)) =
                simp spread in
                omega (arith, ints, c, r, n)))
                (choices.slot i k s player inside (exact i k player inside) l e used)
              where
                none : (a b c : ℤ) → a ≡ pos 0 → a *ℤ b ≡ a *ℤ c
                none a b c z =
                    let p : a *ℤ b ≡ pos 0 = ap (λ u. u *ℤ b) z ∙ omega (arith, ints) in
                    let q : a *ℤ c ≡ pos 0 = ap (λ u. u *ℤ c) z ∙ omega (arith, ints) in
                    p ∙ sym q

            ended : (w b d s u v : ℤ) → s ≡ u → s ≡ negsuc 0 *ℤ d → u ≡ w *ℤ b
                → v ≡ negsuc 0 *ℤ b → d ≡ v *ℤ w
            ended w b d s u v t a c e =
                let f : (negsuc 0 *ℤ b) *ℤ w ≡ negsuc 0 *ℤ (w *ℤ b) = simp spread in
                let g = ap (λ z. z *ℤ w) e in
                omega (arith, ints, t, a, c, f, g)

            when_on : Meets game leaves x (AChoice.On i k)
                → dot (var_count game i) (cost_of i) (λ v. x (Share i k v))
                ≡ x (Worth i) *ℤ x (Weight i k)
            when_on h =
                let used : (pos 0) <ℤ x (Weight i k) = let a = h.0 in omega (arith, ints, a) in
                let least = (of_each_if H (is_exact leaves i k) (ALine.Gain i k true ∷ [])
                (exact i k player inside) h.1).0 in
                let t = sum_to_same slots
                (λ s. y s *ℤ dot (var_count game i) (coef s) (λ v. x (Share i k v)))
                (λ s. y s *ℤ (right s *ℤ x (Weight i k)))
                (λ s l. at_slot s l used (is_present game leaves i k s) refl) in
                let a = pulled (λ v. x (Share i k v)) in
                let b = gains (x (Weight i k)) in
                let g = gain in
                let e : x (Worth i) ≡ negsuc 0 *ℤ dot slots right y = omega
                (arith, ints, least, g) in
                ended (x (Weight i k)) (dot slots right y)
                (dot (var_count game i) (cost_of i) (λ v. x (Share i k v)))
                (sum_to slots (λ s. y s *ℤ dot (var_count game i) (coef s) (λ v. x (Share i k v))))
                (sum_to slots (λ s. y s *ℤ (right s *ℤ x (Weight i k)))) (x (Worth i)) t a b e

      -- the sum of the shares costs the value
      pub all_level : dot (var_count game i) (cost_of i)
          (λ v. sum_to (leaf_count leaves i) (λ k. x (Share i k v))) ≡ x (Worth i) *ℤ x One
      all_level =
          sum_to_same (var_count game i)
          (λ v. cost_of i v *ℤ sum_to (leaf_count leaves i) (λ k. x (Share i k v)))
          (λ v. sum_to (leaf_count leaves i) (λ k. cost_of i v *ℤ x (Share i k v)))
          (λ v h. sym (sum_to-mul (leaf_count leaves i) (cost_of i v) (λ k. x (Share i k v))))
          ∙ sum_to-swap (var_count game i) (leaf_count leaves i)
          (λ v k. cost_of i v *ℤ x (Share i k v))
          ∙ sum_to_same (leaf_count leaves i)
          (λ k. dot (var_count game i) (cost_of i) (λ v. x (Share i k v)))
          (λ k. x (Worth i) *ℤ x (Weight i k)) level
          ∙ sum_to-mul (leaf_count leaves i) (x (Worth i)) (λ k. x (Weight i k))
          ∙ ap (λ z. x (Worth i) *ℤ z) all_weights
