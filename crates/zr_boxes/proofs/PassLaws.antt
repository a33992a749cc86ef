-- Box trees that pass and box trees that are refused.
use Rattle.std.proofs.Common.{◌≡◌, ◌↔◌, ℕ, ◌+◌, refl, sym, ◌∙◌, Result, Ok, Err, IsOk, IfErr, OnOk, ◌⊎◌, ⊎_elim, inl, inr}
use Rattle.zr_game.specs.Players.{GameOf}
use Rattle.zr_tree.specs.declared.fault.Fault.{Fault}
use Rattle.zr_tree.specs.declared.fault.Fault.TheVariants.{Bad, Wide as TooWide}
use Rattle.zr_cases.specs.Cases.{BNodeOf, EmptyNode, DeviateNode}
use Rattle.zr_cases.specs.Trees.{BoxTreeOf, Cut, Empty, Deviate}
use Rattle.zr_boxes.specs.Boxes.{BoxOf, cut_above, cut_below}
use Rattle.zr_boxes.specs.Right.{HasWholeVar, IsRightBox}
use Rattle.zr_boxes.specs.Steps.{BoxPasses, EndPasses, EndRefused, HasWideBox, IsRefusedBox, IsWideEnd, box_size}

-- a node with two children has one fault where each child has
at_node : (Own Passed : Type 0) (First Second : Fault → Type 0) (bad : Fault)
    → ((fault : Fault) → Passed → First fault → ⊥) → (f g : Fault) → (First f → First g → f ≡ g)
    → (Second f → Second g → f ≡ g)
    → ((Own → ⊥) × (f ≡ bad)) ⊎ (Own × First f) ⊎ (Own × Passed × Second f)
    → ((Own → ⊥) × (g ≡ bad)) ⊎ (Own × First g) ⊎ (Own × Passed × Second g) → f ≡ g
at_node Own Passed First Second bad apart f g first second r s =
    ⊎_elim (λ (a : (Own → ⊥) × (f ≡ bad)). ⊎_elim (λ (b : (Own → ⊥) × (g ≡ bad)). a.1 ∙ sym b.1)
    (λ (b : (Own × First g) ⊎ (Own × Passed × Second g)). absurd (a.0 (own g b))) s)
    (λ (a : (Own × First f) ⊎ (Own × Passed × Second f)).
    ⊎_elim (λ (b : (Own → ⊥) × (g ≡ bad)). absurd (b.0 (own f a)))
    (λ (b : (Own × First g) ⊎ (Own × Passed × Second g)). both a b) s) r
  where
    own : (fault : Fault) → (Own × First fault) ⊎ (Own × Passed × Second fault) → Own
    own fault i =
        ⊎_elim (λ (u : Own × First fault). u.0) (λ (u : Own × Passed × Second fault). u.0) i

    both : (Own × First f) ⊎ (Own × Passed × Second f)
        → (Own × First g) ⊎ (Own × Passed × Second g) → f ≡ g
    both a b =
        ⊎_elim (λ (u : Own × First f). ⊎_elim (λ (w : Own × First g). first u.1 w.1)
        (λ (w : Own × Passed × Second g). absurd (apart f w.1 u.1)) b)
        (λ (u : Own × Passed × Second f). ⊎_elim (λ (w : Own × First g). absurd (apart g u.1 w.1))
        (λ (w : Own × Passed × Second g). second u.2 w.2) b) a

module _ (game : GameOf) where
  end_apart : (k : ℕ) (box : BoxOf) (node : BNodeOf) (fault : Fault) → EndPasses game box node
      → EndRefused game k box node fault → ⊥
  end_apart k box node fault h r = ⊎_elim (λ s. h.1 s.0) (λ s. s.1 h.0) r

  one_end : (k : ℕ) (box : BoxOf) (node : BNodeOf) (f g : Fault) → EndRefused game k box node f
      → EndRefused game k box node g → f ≡ g
  one_end k box node f g r s =
      ⊎_elim (λ (a : IsWideEnd game box node × (f ≡ TooWide k)).
      ⊎_elim (λ (b : IsWideEnd game box node × (g ≡ TooWide k)). a.1 ∙ sym b.1)
      (λ b. absurd (b.0 a.0)) s)
      (λ a. ⊎_elim (λ (b : IsWideEnd game box node × (g ≡ TooWide k)). absurd (a.0 b.0))
      (λ b. a.2 ∙ sym b.2) s) r

  -- a tree whose ends all pass is right and has no end that is too wide
  pub right_if : (t : BoxTreeOf) (box : BoxOf) → BoxPasses game box t
      → IsRightBox game box t × (HasWideBox game box t → ⊥)
  right_if (Cut i v at first second) box h =
      let a = right_if first (cut_below box i v at) h.1 in
      let b = right_if second (cut_above box i v at) h.2 in
      ((h.0, a.0, b.0), λ w. ⊎_elim a.1 b.1 w.1)
  right_if (Empty i mult) box h = h
  right_if (Deviate i x) box h = h

  pub passes_if : (t : BoxTreeOf) (box : BoxOf) → IsRightBox game box t
      → (HasWideBox game box t → ⊥) → BoxPasses game box t
  passes_if (Cut i v at first second) box h n = (
    h.0,
    passes_if first (cut_below box i v at) h.1 (λ w. n (h.0, inl w)),
    passes_if second (cut_above box i v at) h.2 (λ w. n (h.0, inr w)),
  )
  passes_if (Empty i mult) box h n = (h, n)
  passes_if (Deviate i x) box h n = (h, n)

  -- such a tree isn't refused
  pub exclusive : (t : BoxTreeOf) (k : ℕ) (box : BoxOf) (fault : Fault) → BoxPasses game box t
      → IsRefusedBox game k box t fault → ⊥
  exclusive (Cut i v at first second) k box fault h r =
      ⊎_elim (λ s. s.0 h.0)
      (λ s. ⊎_elim (λ u. exclusive first (k + 1) (cut_below box i v at) fault h.1 u.1)
      (λ u. exclusive second (k + 1 + box_size first) (cut_above box i v at) fault h.2 u.2) s) r
  exclusive (Empty i mult) k box fault h r = end_apart k box (EmptyNode i mult) fault h r
  exclusive (Deviate i x) k box fault h r = end_apart k box (DeviateNode i x) fault h r

  -- and a refused tree has one fault
  pub one_fault : (t : BoxTreeOf) (k : ℕ) (box : BoxOf) (f g : Fault)
      → IsRefusedBox game k box t f → IsRefusedBox game k box t g → f ≡ g
  one_fault (Cut i v at first second) k box f g r s =
      at_node (HasWholeVar game i v) (BoxPasses game (cut_below box i v at) first)
      (IsRefusedBox game (k + 1) (cut_below box i v at) first)
      (IsRefusedBox game (k + 1 + box_size first) (cut_above box i v at) second) (Bad k)
      (exclusive first (k + 1) (cut_below box i v at)) f g
      (one_fault first (k + 1) (cut_below box i v at) f g)
      (one_fault second (k + 1 + box_size first) (cut_above box i v at) f g) r s
  one_fault (Empty i mult) k box f g r s = one_end k box (EmptyNode i mult) f g r s
  one_fault (Deviate i x) k box f g r s = one_end k box (DeviateNode i x) f g r s

  -- what is told of a tree makes the answer exact
  pub exact_told : {A : Type 0} (t : BoxTreeOf) (box : BoxOf) (result : Result A Fault)
      → OnOk result (BoxPasses game box t) → IfErr result (IsRefusedBox game 0 box t)
      → IsOk result ↔ (IsRightBox game box t × (HasWideBox game box t → ⊥))
  exact_told t box (Ok a) ok err = (λ h. right_if t box ok, λ h. refl)
  exact_told t box (Err fault) ok err = (
    λ h. absurd cc,
    λ h. absurd (exclusive t 0 box fault (passes_if t box h.0 h.1) err),
  )
