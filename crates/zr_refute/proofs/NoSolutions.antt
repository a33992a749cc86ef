-- Under a refutation no numbers solve the system under a complete list of choices.
use Rattle.std.proofs.Common.{◌≡◌, ◌≢◌, ℕ, zero, suc, ◌<◌, arith, refl, sym, subst, ℤ, pos, ◌<ℤ◌, true, false, IsTrue, List, [], ◌∷◌, length, get_or, map, ◌⊎◌, ⊎_elim, inl, inr, ◌==◌, if◌then◌else◌}
use Rattle.std.proofs.lemmas.Bool.{cases_eq}
use Rattle.std.proofs.lemmas.Bool.Decides.{nat_tests}
use Rattle.std.proofs.lemmas.Int.{ints}
use Rattle.std.proofs.lemmas.List.{length-map}
use Rattle.std.specs.List.{Contains}
use Rattle.zr_base.proofs.Members.{each_back, each_front, each_join}
use Rattle.zr_base.proofs.Worth.{Each}
use Rattle.zr_lin.specs.DenseRows.{DenseHolds}
use Rattle.zr_lin.specs.Ineqs.{IneqOf, dense, row_at}
use Rattle.zr_lin.proofs.Combining.{refutation_excludes}
use Rattle.zr_game.specs.Players.{GameOf}
use Rattle.zr_game.specs.declared.choice.Choice.{Choice}
use Rattle.zr_game.specs.declared.choice.Choice.TheVariants as AChoice
use Rattle.zr_game.specs.declared.kind.Kind.{Kind}
use Rattle.zr_game.specs.declared.kind.Kind.TheVariants.{Pure, Mixed}
use Rattle.zr_tree.specs.Nodes.{Multipliers}
use Rattle.zr_cases.specs.Trees.{CasesOf, OnOff, RowSplit, Which, Close}
use Rattle.zr_system.specs.declared.line.Line.{Line}
use Rattle.zr_system.specs.declared.line.Line.TheVariants as ALine
use Rattle.zr_system.specs.declared.unknown.Unknown.{Unknown}
use Rattle.zr_system.specs.declared.unknown.Unknown.TheVariants.{One, Weight}
use Rattle.zr_system.specs.Asked.{ChoiceExists, no_line}
use Rattle.zr_system.specs.Choices.{AreSlotsDecided, HasCompleteSolution, IsComplete, IsLeafComplete, IsPlayerComplete, IsUsed}
use Rattle.zr_system.specs.Forms.{FormHolds}
use Rattle.zr_system.specs.Lines.{all_lines, base_lines, choice_lines, off_lines, other_lines, path_lines, reach_lines, row_of_line}
use Rattle.zr_system.specs.Regions.{LeavesOf, is_exact, is_present, leaf_count, slot_count}
use Rattle.zr_system.specs.System.{ineq_over, system_rows}
use Rattle.zr_system.specs.Unknowns.{columns}
use Rattle.zr_system.proofs.ColumnForms.{IsRowOver, all_over, dense_holds, present_below}
use Rattle.zr_system.proofs.Joined.{all_of_each, of_all_mapped, of_each_to, of_each_unless}
use Rattle.zr_system.proofs.Meeting.{LineHolds, Meets, MeetsChoices}
use Rattle.zr_refute.specs.Refuting.{Closes, RefutesUnder, then_choice}

-- the row that stands at a place of a mapped list
pub row_there : (g : Line → IneqOf) (lines : List Line) (m : ℕ) (d : IneqOf) → m < length lines
    → get_or (map g lines) m d ≡ g (get_or lines m no_line)
row_there g [] m d h = absurd (omega arith)
row_there g (line ∷ lines) zero d h = refl
row_there g (line ∷ lines) (suc m) d h = row_there g lines m d (omega (arith, h))

both_at : (P Q : Line → Type 0) (lines : List Line) (m : ℕ) → m < length lines → Each P lines
    → Each Q lines → P (get_or lines m no_line) × Q (get_or lines m no_line)
both_at P Q [] m h p q = absurd (omega arith)
both_at P Q (line ∷ lines) zero h p q = (p.0, q.0)
both_at P Q (line ∷ lines) (suc m) h p q = both_at P Q lines m (omega (arith, h)) p.1 q.1

module _ (game : GameOf) (leaves : LeavesOf) (x : Unknown → ℤ) where
  abbrev H : Line → Type 0
  H = LineHolds game leaves x

  more : (path : List Choice) (c : Choice) → Each H (path_lines game leaves path)
      → Meets game leaves x c → Each H (path_lines game leaves (then_choice path c))
  more [] c h m = each_join H (choice_lines game leaves c) [] m tt
  more (b ∷ bs) c h m =
      each_join H (choice_lines game leaves b) (path_lines game leaves (then_choice bs c))
      (each_front H (choice_lines game leaves b) (path_lines game leaves bs) h)
      (more bs c (each_back H (choice_lines game leaves b) (path_lines game leaves bs) h) m)

  chosen_at : (path : List Choice) (c : Choice) (k : ℕ) → k < length path → get_or path k c ≡ c
      → Each H (path_lines game leaves path) → Meets game leaves x c
  chosen_at [] c k below is h = absurd (omega arith)
  chosen_at (b ∷ bs) c zero below is h =
      subst (Meets game leaves x) is
      (each_front H (choice_lines game leaves b) (path_lines game leaves bs) h)
  chosen_at (b ∷ bs) c (suc k) below is h =
      chosen_at bs c k (omega (arith, below)) is
      (each_back H (choice_lines game leaves b) (path_lines game leaves bs) h)

  chosen : (path : List Choice) (c : Choice) → Contains path c
      → Each H (path_lines game leaves path) → Meets game leaves x c
  chosen path c has h = chosen_at path c has.0 has.1 has.2 h

  off_none : (i k : ℕ) → Each H (off_lines game i k) → (pos 0) <ℤ x (Weight i k) → ⊥
  off_none i k h w = let r = h.0 in omega (arith, ints, r, w)

  module _ (positive : (pos 0) <ℤ x One) where
    whole_positive : (i k : ℕ) → H (ALine.Whole i k) → (pos 0) <ℤ x (Weight i k)
    whole_positive i k h = omega (arith, ints, h, positive)

    used_positive : (path : List Choice) (i k : ℕ) → IsUsed path i k
        → Each H (path_lines game leaves path) → (pos 0) <ℤ x (Weight i k)
    used_positive path i k used h =
        ⊎_elim (λ (a : Contains path (AChoice.On i k)).
        let r = (chosen path (AChoice.On i k) a h).0 in omega (arith, ints, r))
        (λ (a : Contains path (AChoice.Which i k)).
        whole_positive i k (chosen path (AChoice.Which i k) a h).0) used

    -- numbers that meet the rows of a complete list meet one side of each choice
    module _ (path : List Choice) (rows : Each H (path_lines game leaves path)) where
      slot_side : (i k s : ℕ) → AreSlotsDecided game leaves path i k → is_exact leaves i k ≡ true
          → s < slot_count game leaves i k → IsTrue (is_present game leaves i k s)
          → Meets game leaves x (AChoice.Zero i k s) ⊎ Meets game leaves x (AChoice.Tight i k s)
      slot_side i k s decided e below there =
          ⊎_elim (λ (a : Contains path (AChoice.Zero i k s)). inl
          (chosen path (AChoice.Zero i k s) a rows))
          (λ (a : Contains path (AChoice.Tight i k s)). inr
          (chosen path (AChoice.Tight i k s) a rows)) (decided e s below there)

      abbrev OnComplete : ℕ → ℕ → Type 0
      OnComplete i k = Contains path (AChoice.On i k) × AreSlotsDecided game leaves path i k

      mixed_leaf : (i k : ℕ) → IsLeafComplete game leaves path i k
          → Meets game leaves x (AChoice.On i k) ⊎ Meets game leaves x (AChoice.Off i k)
      mixed_leaf i k c =
          ⊎_elim (λ (a : Contains path (AChoice.Off i k)). inr
          (chosen path (AChoice.Off i k) a rows))
          (λ (a : OnComplete i k). inl (chosen path (AChoice.On i k) a.0 rows)) c

      mixed_slot : (i k s : ℕ) → IsLeafComplete game leaves path i k → is_exact leaves i k ≡ true
          → s < slot_count game leaves i k → IsTrue (is_present game leaves i k s)
          → (pos 0) <ℤ x (Weight i k)
          → Meets game leaves x (AChoice.Zero i k s) ⊎ Meets game leaves x (AChoice.Tight i k s)
      mixed_slot i k s c e below there w =
          ⊎_elim (λ (a : Contains path (AChoice.Off i k)). absurd
          (off_none i k (chosen path (AChoice.Off i k) a rows) w))
          (λ (a : OnComplete i k). slot_side i k s a.1 e below there) c

      module _ (i : ℕ) (c : IsPlayerComplete game leaves path i) where
        one : Meets game leaves x (AChoice.Which i c.0)
        one = chosen path (AChoice.Which i c.0) c.2 rows

        others_off : (l : ℕ) → l < leaf_count leaves i → l ≢ c.0
            → Meets game leaves x (AChoice.Off i l)
        others_off l below n =
            let e : (l == c.0) ≡ false = grind (arith, nat_tests) in
            of_each_unless H (l == c.0) (off_lines game i l) e
            (of_each_to H (leaf_count leaves i)
            (λ m. if m == c.0 then [] else off_lines game i m)
            (each_back H (reach_lines leaves i c.0) (other_lines game leaves i c.0) one.1) l below)

        pure_leaf : (l : ℕ) → l < leaf_count leaves i
            → Meets game leaves x (AChoice.On i l) ⊎ Meets game leaves x (AChoice.Off i l)
        pure_leaf l below =
            ⊎_elim (λ (e : l ≡ c.0). inl
            (subst (λ (k : ℕ). Meets game leaves x (AChoice.On i k)) (sym e) (
              let r = whole_positive i c.0 one.0 in omega (arith, ints, r),
              each_front H (reach_lines leaves i c.0) (other_lines game leaves i c.0) one.1,
            ))) (λ (n : l ≢ c.0). inr (others_off l below n)) (cases_eq l c.0)

        pure_slot : (l s : ℕ) → l < leaf_count leaves i → is_exact leaves i l ≡ true
            → s < slot_count game leaves i l → IsTrue (is_present game leaves i l s)
            → (pos 0) <ℤ x (Weight i l)
            → Meets game leaves x (AChoice.Zero i l s) ⊎ Meets game leaves x (AChoice.Tight i l s)
        pure_slot l s below e inside there w =
            ⊎_elim (λ (q : l ≡ c.0). slot_side i l s
            (subst (AreSlotsDecided game leaves path i) (sym q) c.3) e inside there)
            (λ (n : l ≢ c.0). absurd (off_none i l (others_off l below n) w)) (cases_eq l c.0)

      pub sides : (kind : Kind) → IsComplete game leaves kind path
          → MeetsChoices game leaves kind x
      sides Mixed c = record {
        leaf = λ i k p q. mixed_leaf i k (c i k p q);
        slot = λ i k s p q e below there w. mixed_slot i k s (c i k p q) e below there w;
        one = λ e i p. absurd cc;
      }
      sides Pure c = record {
        leaf = λ i k p q. pure_leaf i (c i p) k q;
        slot = λ i k s p q e below there w. pure_slot i (c i p) k s q e below there w;
        one = λ e i p. let d = c i p in (d.0, d.1, one i d);
      }

    module _ (base : Each H (base_lines game leaves)) (kind : Kind)
        (choices : MeetsChoices game leaves kind x) where
      -- the rows under the path hold over the columns
      closed : (path : List Choice) (mult : Multipliers) → Each (ChoiceExists game leaves) path
          → Each H (path_lines game leaves path) → Closes game leaves path mult → ⊥
      closed path mult exist h c =
          refutation_excludes (length (columns game leaves)) (length (system_rows game leaves path))
          (row_at (system_rows game leaves path)) (mult, c.0, c.1)
          (λ j. x (get_or (columns game leaves) j One)) (x One) (positive, each_row)
        where
          g : Line → IneqOf
          g line = ineq_over (columns game leaves) (row_of_line game leaves line)

          each_row : (m : ℕ) → m < length (system_rows game leaves path)
              → DenseHolds (length (columns game leaves))
              (λ j. x (get_or (columns game leaves) j One)) (x One)
              (row_at (system_rows game leaves path) m)
          each_row m p =
              let below : m < length (all_lines game leaves path) = subst (λ (n : ℕ). m < n)
              (length-map (all_lines game leaves path) g) p in
              let a = both_at (IsRowOver game leaves) H (all_lines game leaves path) m below
              (all_over game leaves path (all_of_each (ChoiceExists game leaves) path exist))
              (each_join H (base_lines game leaves) (path_lines game leaves path) base h) in
              subst (λ (row : IneqOf). DenseHolds (length (columns game leaves))
              (λ j. x (get_or (columns game leaves) j One)) (x One) (dense row))
              (sym (row_there g (all_lines game leaves path) m _ below))
              (dense_holds game leaves x
              (row_of_line game leaves (get_or (all_lines game leaves path) m no_line)) a.0 a.1)

      pub no_solution : (path : List Choice) (t : CasesOf) → RefutesUnder game leaves kind path t
          → Each (ChoiceExists game leaves) path → Each H (path_lines game leaves path) → ⊥
      no_solution path (OnOff i k on off) r exist h =
          ⊎_elim (λ (a : Meets game leaves x (AChoice.On i k)). no_solution
          (then_choice path (AChoice.On i k)) on r.1
          (each_join (ChoiceExists game leaves) path (AChoice.On i k ∷ []) exist (r.0.0, tt))
          (more path (AChoice.On i k) h a))
          (λ (a : Meets game leaves x (AChoice.Off i k)). no_solution
          (then_choice path (AChoice.Off i k)) off r.2
          (each_join (ChoiceExists game leaves) path (AChoice.Off i k ∷ []) exist (r.0.0, tt))
          (more path (AChoice.Off i k) h a)) (choices.leaf i k r.0.0.0 r.0.0.1)
      no_solution path (RowSplit i k s at_zero at_tight) r exist h =
          ⊎_elim (λ (a : Meets game leaves x (AChoice.Zero i k s)). no_solution
          (then_choice path (AChoice.Zero i k s)) at_zero r.1
          (each_join (ChoiceExists game leaves) path (AChoice.Zero i k s ∷ []) exist (r.0.0, tt))
          (more path (AChoice.Zero i k s) h a))
          (λ (a : Meets game leaves x (AChoice.Tight i k s)). no_solution
          (then_choice path (AChoice.Tight i k s)) at_tight r.2
          (each_join (ChoiceExists game leaves) path (AChoice.Tight i k s ∷ []) exist
          (r.0.0, tt)) (more path (AChoice.Tight i k s) h a))
          (choices.slot i k s r.0.0.0.0 r.0.0.0.1 r.0.0.1
          (present_below game leaves i k s r.0.0.2) r.0.0.2
          (used_positive path i k r.0.1 h))
      no_solution path (Which i trees) r exist h =
          let m = choices.one r.0.0 i r.0.1 in
          no_solution (then_choice path (AChoice.Which i m.0)) (trees m.0) (r.1 m.0 m.1)
          (each_join (ChoiceExists game leaves) path (AChoice.Which i m.0 ∷ []) exist
          ((r.0.1, m.1), tt)) (more path (AChoice.Which i m.0) h m.2)
      no_solution path (Close mult) r exist h = closed path mult exist h r

pub none_complete : (game : GameOf) (leaves : LeavesOf) (kind : Kind) (t : CasesOf)
    → RefutesUnder game leaves kind [] t → HasCompleteSolution game leaves kind → ⊥
none_complete game leaves kind t r s =
    let path = s.0 in
    let x = s.1 in
    let rows = of_all_mapped (row_of_line game leaves) (FormHolds x)
    (all_lines game leaves path) s.2.solves.1 in
    let H = LineHolds game leaves x in
    let base = each_front H (base_lines game leaves) (path_lines game leaves path) rows in
    let under = each_back H (base_lines game leaves) (path_lines game leaves path) rows in
    let positive = s.2.solves.0 in
    no_solution game leaves x positive base kind
    (sides game leaves x positive path under kind s.2.complete) [] t r tt tt
