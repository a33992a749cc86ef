-- Each row of the system is over the columns, so that it holds there exactly where its form holds.
use Rattle.std.proofs.Common.{◌≡◌, ℕ, zero, suc, ◌+◌, ◌<◌, arith, refl, sym, ap, subst, ◌∙◌, ℤ, pos, neg_ℤ, ◌+ℤ◌, ◌*ℤ◌, Bool, true, false, IsTrue, Option, Some, None, if◌then◌else◌, ◌==◌, List, [], ◌∷◌, ◌++◌, length, get_or, map, All, ◌⊎◌, inl, inr, ◌↔◌}
use Rattle.std.specs.Option.{is_some, option_map_or}
use Rattle.std.specs.Ordering.{int_eq}
use Rattle.std.proofs.lemmas.Bool.Decides.{Decides-int_eq, nat_tests}
use Rattle.std.proofs.lemmas.Int.{ints}
use Rattle.zr_base.specs.Sums.{sum_to}
use Rattle.zr_base.specs.Terms.{coef_at, value_at}
use Rattle.zr_base.proofs.Dense.{sum_to_same}
use Rattle.zr_base.proofs.Members.{each_join, each_of_all}
use Rattle.zr_base.proofs.Ring.{spread}
use Rattle.zr_base.proofs.Worth.{Each}
use Rattle.zr_lin.specs.DenseRows.{DenseHolds, IsBelow}
use Rattle.zr_lin.specs.Ineqs.{IneqHolds, Solves, dense}
use Rattle.zr_game.specs.Leaves.{Bound, slot_of}
use Rattle.zr_game.specs.Named.{NamedOf, NamedPoint, NamedRay}
use Rattle.zr_game.specs.Players.{GameOf}
use Rattle.zr_game.specs.declared.choice.Choice.{Choice}
use Rattle.zr_game.specs.declared.choice.Choice.TheVariants as AChoice
use Rattle.zr_system.specs.declared.line.Line.{Line}
use Rattle.zr_system.specs.declared.line.Line.TheVariants as ALine
use Rattle.zr_system.specs.declared.unknown.Unknown.{Unknown}
use Rattle.zr_system.specs.declared.unknown.Unknown.TheVariants.{One, Dual}
use Rattle.zr_system.specs.Asked.{ChoiceExists, IsInColumns, LeafExists}
use Rattle.zr_system.specs.Choices.{rows_under}
use Rattle.zr_system.specs.Forms.{Form, FormHolds, FormRow, SolvesForms, amount, number_at, turned}
use Rattle.zr_system.specs.Lines.{all_lines, base_lines, choice_lines, dual_lines, gain_form, leaf_lines, named_form, nothing, off_lines, other_lines, path_lines, player_lines, pull_form, pull_lines, reach_lines, row_of_line, slope_form, slot_form, slot_lines}
use Rattle.zr_system.specs.Regions.{LeavesOf, all_slots, is_exact, is_present, leaf_count, named_at, slot_count, var_count}
use Rattle.zr_system.specs.System.{ineq_over, system_rows, terms_from}
use Rattle.zr_system.specs.Unknowns.{columns, list_to}
use Rattle.zr_system.proofs.Expansion.{IsOver, expanded, total}
use Rattle.zr_system.proofs.Joined.{all_of_each, each_if, each_to, each_unless}
use Rattle.zr_system.proofs.Lists.{slot_below}

-- the first of the summands apart
first_apart : (n : ℕ) (f : ℕ → ℤ) → sum_to (suc n) f ≡ f 0 +ℤ sum_to n (λ k. f (suc k))
first_apart zero f = omega (arith, ints)
first_apart (suc n) f = let r = first_apart n f in omega (arith, ints, r)

by_place : (us : List Unknown) (f : Unknown → ℤ)
    → total us f ≡ sum_to (length us) (λ j. f (get_or us j One))
by_place [] f = refl
by_place (u ∷ us) f =
    let r = by_place us f in
    let a = first_apart (length us) (λ j. f (get_or (u ∷ us) j One)) in
    omega (arith, ints, r, a)

unlisted : (f : Form) (low : ℕ) (us : List Unknown) (j : ℕ) → j < low
    → coef_at (terms_from low us f) j ≡ pos 0
unlisted f low [] j h = refl
unlisted f low (u ∷ us) j h =
    tested (int_eq (number_at f u) (pos 0)) (unlisted f (low + 1) us j (omega (arith, h)))
  where
    tested : (b : Bool) → coef_at (terms_from (low + 1) us f) j ≡ pos 0
        → coef_at (if b then terms_from (low + 1) us f else
        (low, number_at f u) ∷ terms_from (low + 1) us f) j ≡ pos 0
    tested true r = r
    tested false r =
        let e : (low == j) ≡ false = grind (arith, nat_tests) in rw e r

-- the number that is listed at a column is that of its unknown
pub coef_listed : (f : Form) (low : ℕ) (us : List Unknown) (j : ℕ) → j < length us
    → coef_at (terms_from low us f) (low + j) ≡ number_at f (get_or us j One)
coef_listed f low [] j h = absurd (omega arith)
coef_listed f low (u ∷ us) zero h =
    let o : low + 0 ≡ low = omega arith in
    rw o (tested (int_eq (number_at f u) (pos 0)) refl
    (unlisted f (low + 1) us low (omega arith)))
  where
    tested : (b : Bool) → int_eq (number_at f u) (pos 0) ≡ b
        → coef_at (terms_from (low + 1) us f) low ≡ pos 0
        → coef_at (if int_eq (number_at f u) (pos 0) then terms_from (low + 1) us f else
        (low, number_at f u) ∷ terms_from (low + 1) us f) low ≡ number_at f u
    tested true e r =
        let n : number_at f u ≡ pos 0 = (Decides-int_eq (number_at f u) (pos 0)).0 e in
        rw e (r ∙ sym n)
    tested false e r = let s : (low == low) ≡ true = grind (arith, nat_tests) in rw (e, s) refl
coef_listed f low (u ∷ us) (suc j) h =
    let o : low + 1 + j ≡ low + suc j = omega arith in
    tested (int_eq (number_at f u) (pos 0))
    (subst (λ (i : ℕ). coef_at (terms_from (low + 1) us f) i ≡ number_at f (get_or us j One)) o
    (coef_listed f (low + 1) us j (omega (arith, h))))
  where
    tested : (b : Bool)
        → coef_at (terms_from (low + 1) us f) (low + suc j) ≡ number_at f (get_or us j One)
        → coef_at (if b then terms_from (low + 1) us f else
        (low, number_at f u) ∷ terms_from (low + 1) us f) (low + suc j)
        ≡ number_at f (get_or us j One)
    tested true r = r
    tested false r =
        let e : (low == low + suc j) ≡ false = grind (arith, nat_tests) in rw e r

module _ (game : GameOf) (leaves : LeavesOf) where
  -- the row is over the columns
  abbrev pub IsRowOver : Line → Type 0
  IsRowOver line = IsOver game leaves (row_of_line game leaves line).left

  over_turned : (negated : Bool) (f : Form) → IsOver game leaves f
      → IsOver game leaves (turned negated f)
  over_turned true f h = inr h
  over_turned false f h = h

  module _ (i k : ℕ) (there : LeafExists game leaves i k) where
    over_slot : (s : ℕ) → IsOver game leaves (slot_form game leaves i k s)
    over_slot s = ((λ v p. inr (inr (there, p))), inr (inr there))

    off_over : Each IsRowOver (off_lines game i k)
    off_over = (
      inr (inr (inr there)),
      each_to IsRowOver (var_count game i) (λ v. ALine.Share i k v false ∷
          (ALine.Share i k v true ∷ []))
          (λ v p. (inr (there, p), (inr (inr (there, p)), tt))),
    )

    module _ (exact : is_exact leaves i k ≡ true) where
      -- what a slot multiplies has a column, or is 0
      by_slot : (s : ℕ) (f : Option Bound → ℤ) → f None ≡ pos 0
          → (f (slot_of (all_slots game leaves i k) s) ≡ pos 0) ⊎ ((Dual i k s ≡ One)
          ⊎ IsInColumns game leaves (Dual i k s))
      by_slot s f none = tested (slot_of (all_slots game leaves i k) s) refl
        where
          tested : (o : Option Bound) → slot_of (all_slots game leaves i k) s ≡ o
              → (f (slot_of (all_slots game leaves i k) s) ≡ pos 0) ⊎ ((Dual i k s ≡ One)
              ⊎ IsInColumns game leaves (Dual i k s))
          tested None e = inl (ap f e ∙ none)
          tested (Some b) e = inr (inr (
            there,
            exact,
            let t : is_some (slot_of (all_slots game leaves i k) s) ≡ true = ap is_some e in t,
          ))

      over_pull : (v : ℕ) → IsOver game leaves (pull_form game leaves i k v)
      over_pull v s p = by_slot s (λ o. option_map_or (λ bound. bound.coef v) o (pos 0)) refl

      over_gain : IsOver game leaves (gain_form game leaves i k)
      over_gain = (
        inr there.0,
        λ s p. by_slot s (λ o. option_map_or (λ bound. bound.le) o (pos 0)) refl,
      )

  over_slope : (i v : ℕ) → IsOver game leaves (slope_form game leaves i v)
  over_slope i v = (inr (inl refl), λ k p u q. inr (λ l r. inr ((p, r), q)))

  over_named : (i : ℕ) → i < length game → (item : NamedOf)
      → IsOver game leaves (named_form game leaves i item)
  over_named i h (NamedPoint p) = (inr (inr h), inr (λ v q. inr (over_slope i v)))
  over_named i h (NamedRay base dir) = inr (λ v q. inr (over_slope i v))

  over_weights : (i : ℕ) → i < length game → (negated : Bool)
      → IsRowOver (ALine.Weights i negated)
  over_weights i h negated =
      over_turned negated _ ((λ k p. inr (h, p)), inr (inl refl))

  -- a slot that stands in the list of slots is below their number
  pub present_below : (i k s : ℕ) → IsTrue (is_present game leaves i k s)
      → s < slot_count game leaves i k
  present_below i k s h = slot_below (all_slots game leaves i k) s h

  over_leaf : (i k : ℕ) → LeafExists game leaves i k → Each IsRowOver (leaf_lines game leaves i k)
  over_leaf i k there =
      each_join IsRowOver (slot_lines game leaves i k) (ALine.Weight i k false ∷
      (if is_exact leaves i k then dual_lines game leaves i k else []))
      (each_to IsRowOver (slot_count game leaves i k)
      (λ s. if is_present game leaves i k s then ALine.Slot i k s false ∷ [] else [])
      (λ s p. each_if IsRowOver (is_present game leaves i k s) (ALine.Slot i k s false ∷ [])
      (λ e. (over_slot i k there s, tt)))) (
        inr (inr there),
        each_if IsRowOver (is_exact leaves i k) (dual_lines game leaves i k) over_duals,
      )
    where
      over_duals : is_exact leaves i k ≡ true → Each IsRowOver (dual_lines game leaves i k)
      over_duals exact =
          each_join IsRowOver (list_to (slot_count game leaves i k)
          (λ s. if is_present game leaves i k s then ALine.Dual i k s false ∷ [] else []))
          (pull_lines game i k ++ (ALine.Gain i k false ∷ []))
          (each_to IsRowOver (slot_count game leaves i k)
          (λ s. if is_present game leaves i k s then ALine.Dual i k s false ∷ [] else [])
          (λ s p. each_if IsRowOver (is_present game leaves i k s) (ALine.Dual i k s false ∷ [])
          (λ e. (inr (inr (there, exact, e)), tt))))
          (each_join IsRowOver (pull_lines game i k) (ALine.Gain i k false ∷ [])
          (each_to IsRowOver (var_count game i)
          (λ v. ALine.Pull i k v false ∷ (ALine.Pull i k v true ∷ []))
          (λ v p. (
            (over_slope i v, over_pull i k there exact v),
            (inr (over_slope i v, over_pull i k there exact v), tt),
          ))) (over_gain i k there exact, tt))

  over_player : (i : ℕ) → i < length game → Each IsRowOver (player_lines game leaves i)
  over_player i h = (
    over_weights i h false,
    (
      over_weights i h true,
      each_join IsRowOver (list_to (leaf_count leaves i) (λ k. leaf_lines game leaves i k))
          (list_to (length (named_at leaves i)) (λ n. ALine.Named i n ∷ []))
          (each_to IsRowOver (leaf_count leaves i) (λ k. leaf_lines game leaves i k)
          (λ k p. over_leaf i k (h, p)))
          (each_to IsRowOver (length (named_at leaves i)) (λ n. ALine.Named i n ∷ [])
          (λ n p. (over_named i h (get_or (named_at leaves i) n nothing), tt))),
    ),
  )

  over_reach : (i k : ℕ) → LeafExists game leaves i k → Each IsRowOver (reach_lines leaves i k)
  over_reach i k there =
      each_if IsRowOver (is_exact leaves i k) (ALine.Gain i k true ∷ [])
      (λ e. (inr (over_gain i k there e), tt))

  over_choice : (c : Choice) → ChoiceExists game leaves c
      → Each IsRowOver (choice_lines game leaves c)
  over_choice (AChoice.On i k) h = (inr (inr h), over_reach i k h)
  over_choice (AChoice.Off i k) h = off_over i k h
  over_choice (AChoice.Zero i k s) h = (inr (inr (inr h)), tt)
  over_choice (AChoice.Tight i k s) h = (inr (over_slot i k h.0 s), tt)
  over_choice (AChoice.Which i k) h = (
    (inr (inr h), inl refl),
    each_join IsRowOver (reach_lines leaves i k) (other_lines game leaves i k) (over_reach i k h)
        (each_to IsRowOver (leaf_count leaves i) (λ l. if l == k then [] else off_lines game i l)
        (λ l p. each_unless IsRowOver (l == k) (off_lines game i l)
        (λ e. off_over i l (h.0, p)))),
  )

  over_path : (path : List Choice) → Each (ChoiceExists game leaves) path
      → Each IsRowOver (path_lines game leaves path)
  over_path [] h = tt
  over_path (c ∷ cs) h =
      each_join IsRowOver (choice_lines game leaves c) (path_lines game leaves cs)
      (over_choice c h.0) (over_path cs h.1)

  -- each row under a path of choices that exist
  pub all_over : (path : List Choice) → All (ChoiceExists game leaves) path
      → Each IsRowOver (all_lines game leaves path)
  all_over path h =
      each_join IsRowOver (base_lines game leaves) (path_lines game leaves path)
      (each_to IsRowOver (length game) (λ i. player_lines game leaves i) over_player)
      (over_path path (each_of_all (ChoiceExists game leaves) path h))

  -- the value of the listed numbers
  listed_value : (f : Form) (x : Unknown → ℤ) (j : ℕ) (us : List Unknown) (p : ℕ → ℤ)
      → ((k : ℕ) → k < length us → p (j + k) ≡ x (get_or us k One))
      → value_at (terms_from j us f) p ≡ total us (λ w. number_at f w *ℤ x w)
  listed_value f x j [] p h = refl
  listed_value f x j (u ∷ us) p h =
      tested (int_eq (number_at f u) (pos 0)) refl (listed_value f x (j + 1) us p
      (λ k q. let e : j + 1 + k ≡ j + suc k = omega arith in ap p e ∙ h (suc k)
      (omega (arith, q))))
    where
      here : p j ≡ x u
      here = let e : j ≡ j + 0 = omega arith in ap p e ∙ h 0 (omega arith)

      tested : (b : Bool) → int_eq (number_at f u) (pos 0) ≡ b
          → value_at (terms_from (j + 1) us f) p ≡ total us (λ w. number_at f w *ℤ x w)
          → value_at (if int_eq (number_at f u) (pos 0) then terms_from (j + 1) us f else
          (j, number_at f u) ∷ terms_from (j + 1) us f) p ≡ number_at f u *ℤ x u +ℤ total us
          (λ w. number_at f w *ℤ x w)
      tested true e r =
          let n : number_at f u ≡ pos 0 = (Decides-int_eq (number_at f u) (pos 0)).0 e in
          let z : number_at f u *ℤ x u ≡ pos 0 = ap (λ a. a *ℤ x u) n ∙ omega (arith, ints) in
          rw e (omega (arith, ints, z, r))
      tested false e r =
          let z = ap (λ a. number_at f u *ℤ a) here in
          rw e (omega (arith, ints, z, r))

  module _ (x : Unknown → ℤ) where
    abbrev by_column : ℕ → ℤ
    by_column j = x (get_or (columns game leaves) j One)

    abbrev Listed : FormRow → Type 0
    Listed row = IneqHolds by_column (x One) (ineq_over (columns game leaves) row)

    right_side : (s : Bool) (a t n d : ℤ) → a ≡ t +ℤ n *ℤ d
        → IsBelow s a (pos 0) ↔ IsBelow s t (neg_ℤ n *ℤ d)
    right_side s a t n d e =
        let m : neg_ℤ n *ℤ d +ℤ n *ℤ d ≡ pos 0 = simp spread (omega (arith, ints)) in
        tested s e m
      where
        tested : (s : Bool) → a ≡ t +ℤ n *ℤ d → neg_ℤ n *ℤ d +ℤ n *ℤ d ≡ pos 0
            → IsBelow s a (pos 0) ↔ IsBelow s t (neg_ℤ n *ℤ d)
        tested true e m = ((λ h. omega (arith, ints, e, m, h)), λ h. omega (arith, ints, e, m, h))
        tested false e m = ((λ h. omega (arith, ints, e, m, h)), λ h. omega (arith, ints, e, m, h))

    row_holds : (row : FormRow) → IsOver game leaves row.left → FormHolds x row ↔ Listed row
    row_holds row over =
        let v = listed_value row.left x 0 (columns game leaves) by_column
        (λ k h. let e : 0 + k ≡ k = omega arith in ap by_column e) in
        let e = expanded game leaves x row.left over in
        right_side row.strict (amount row.left x)
        (value_at (terms_from 0 (columns game leaves) row.left) by_column)
        (number_at row.left One) (x One)
        (e ∙ ap (λ t. t +ℤ number_at row.left One *ℤ x One) (sym v))

    -- the row over the columns, with a number at each
    pub dense_holds : (row : FormRow) → IsOver game leaves row.left → FormHolds x row
        → DenseHolds (length (columns game leaves)) by_column (x One)
        (dense (ineq_over (columns game leaves) row))
    dense_holds row over h =
        let us = columns game leaves in
        let e = expanded game leaves x row.left over in
        let t = by_place us (λ w. number_at row.left w *ℤ x w) in
        let s = sum_to_same (length us) (λ j. coef_at (terms_from 0 us row.left) j *ℤ by_column j)
        (λ j. number_at row.left (get_or us j One) *ℤ by_column j)
        (λ j p. let o : 0 + j ≡ j = omega arith in ap (λ z. z *ℤ by_column j)
        (ap (λ (k : ℕ). coef_at (terms_from 0 us row.left) k) (sym o)
        ∙ coef_listed row.left 0 us j p)) in
        (right_side row.strict (amount row.left x)
        (sum_to (length us) (λ j. coef_at (terms_from 0 us row.left) j *ℤ by_column j))
        (number_at row.left One) (x One)
        (e ∙ ap (λ z. z +ℤ number_at row.left One *ℤ x One) (t ∙ sym s))).0 h

    to_columns : (lines : List Line) → Each IsRowOver lines
        → Each (FormHolds x) (map (row_of_line game leaves) lines)
        → Each (IneqHolds by_column (x One)) (map
        (λ line. ineq_over (columns game leaves) (row_of_line game leaves line)) lines)
    to_columns [] over h = tt
    to_columns (line ∷ lines) over h =
        ((row_holds (row_of_line game leaves line) over.0).0 h.0, to_columns lines over.1 h.1)

    of_columns : (lines : List Line) → Each IsRowOver lines
        → Each (IneqHolds by_column (x One)) (map
        (λ line. ineq_over (columns game leaves) (row_of_line game leaves line)) lines)
        → Each (FormHolds x) (map (row_of_line game leaves) lines)
    of_columns [] over h = tt
    of_columns (line ∷ lines) over h =
        ((row_holds (row_of_line game leaves line) over.0).1 h.0, of_columns lines over.1 h.1)

    -- the forms hold exactly where the rows hold over the columns
    pub by_columns : (path : List Choice) → All (ChoiceExists game leaves) path
        → SolvesForms (rows_under game leaves path) x
        ↔ Solves (system_rows game leaves path) by_column (x One)
    by_columns path exist = (
      λ h. (
        h.0,
        all_of_each (IneqHolds by_column (x One)) (system_rows game leaves path)
            (to_columns (all_lines game leaves path) (all_over path exist)
            (each_of_all (FormHolds x) (rows_under game leaves path) h.1)),
      ),
      λ h. (
        h.0,
        all_of_each (FormHolds x) (rows_under game leaves path)
            (of_columns (all_lines game leaves path) (all_over path exist)
            (each_of_all (IneqHolds by_column (x One)) (system_rows game leaves path) h.1)),
      ),
    )
