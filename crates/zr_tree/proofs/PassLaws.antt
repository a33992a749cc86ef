-- Trees that pass and trees that are refused.
use Rattle.std.proofs.Common.{◌≡◌, ◌↔◌, ℕ, ◌+◌, refl, sym, ◌∙◌, Result, Ok, Err, IsOk, IfErr, OnOk, ◌⊎◌, ⊎_elim, inl, inr}
use Rattle.zr_game.specs.declared.leaf.Side.TheVariants.{VarZero, RowZero}
use Rattle.zr_game.specs.Players.{PlayerOf}
use Rattle.zr_game.specs.Leaves.{IsOpenPair, IsWholeVar, LeafOf, above, below, decided}
use Rattle.zr_tree.specs.declared.fault.Fault.{Fault}
use Rattle.zr_tree.specs.declared.fault.Fault.TheVariants.{Bad, Wide as TooWide}
use Rattle.zr_tree.specs.Nodes.{NodeOf, KnownNode, LooseNode, ProofNode}
use Rattle.zr_tree.specs.Trees.{TreeOf, Split, Choose, Proof, Known, Loose, size}
use Rattle.zr_tree.specs.Right.{EndRule, IsRightBy}
use Rattle.zr_tree.specs.Steps.{EndPasses, EndRefused, HasWideEnd, IsRefusedBy}

-- a node with two children has one fault where each child has
at_node : (Own Passed : Type 0) (First Second : Fault → Type 0) (bad : Fault) → ((fault : Fault) → Passed → First fault → ⊥) → (f g : Fault) → (First f → First g → f ≡ g) → (Second f → Second g → f ≡ g) → ((Own → ⊥) × (f ≡ bad)) ⊎ (Own × First f) ⊎ (Own × Passed × Second f) → ((Own → ⊥) × (g ≡ bad)) ⊎ (Own × First g) ⊎ (Own × Passed × Second g) → f ≡ g
at_node Own Passed First Second bad apart f g first second r s =
    ⊎_elim (λ (a : (Own → ⊥) × (f ≡ bad)). ⊎_elim (λ (b : (Own → ⊥) × (g ≡ bad)). a.1 ∙ sym b.1) (λ (b : (Own × First g) ⊎ (Own × Passed × Second g)). absurd (a.0 (own g b))) s) (λ (a : (Own × First f) ⊎ (Own × Passed × Second f)). ⊎_elim (λ (b : (Own → ⊥) × (g ≡ bad)). absurd (b.0 (own f a))) (λ (b : (Own × First g) ⊎ (Own × Passed × Second g)). both a b) s) r
  where
    own : (fault : Fault) → (Own × First fault) ⊎ (Own × Passed × Second fault) → Own
    own fault i = ⊎_elim (λ (u : Own × First fault). u.0) (λ (u : Own × Passed × Second fault). u.0) i

    both : (Own × First f) ⊎ (Own × Passed × Second f) → (Own × First g) ⊎ (Own × Passed × Second g) → f ≡ g
    both a b =
        ⊎_elim (λ (u : Own × First f). ⊎_elim (λ (w : Own × First g). first u.1 w.1) (λ (w : Own × Passed × Second g). absurd (apart f w.1 u.1)) b) (λ (u : Own × Passed × Second f). ⊎_elim (λ (w : Own × First g). absurd (apart g u.1 w.1)) (λ (w : Own × Passed × Second g). second u.2 w.2) b) a

module _ (right wide : EndRule) where
  abbrev pub passes : EndRule
  passes = EndPasses right wide

  end_apart : (k : ℕ) (leaf : LeafOf) (node : NodeOf) (fault : Fault) → passes leaf node → EndRefused right wide k leaf node fault → ⊥
  end_apart k leaf node fault h r = ⊎_elim (λ s. h.1 s.0) (λ s. s.1 h.0) r

  one_end : (k : ℕ) (leaf : LeafOf) (node : NodeOf) (f g : Fault) → EndRefused right wide k leaf node f → EndRefused right wide k leaf node g → f ≡ g
  one_end k leaf node f g r s =
      ⊎_elim (λ (a : wide leaf node × (f ≡ TooWide k)). ⊎_elim (λ (b : wide leaf node × (g ≡ TooWide k)). a.1 ∙ sym b.1) (λ b. absurd (b.0 a.0)) s) (λ a. ⊎_elim (λ (b : wide leaf node × (g ≡ TooWide k)). absurd (a.0 b.0)) (λ b. a.2 ∙ sym b.2) s) r

  module _ (player : PlayerOf) where
    -- a tree whose ends all pass is right and has no end that is too wide
    pub right_if : (t : TreeOf) (leaf : LeafOf) → IsRightBy passes player leaf t → IsRightBy right player leaf t × (HasWideEnd wide player leaf t → ⊥)
    right_if (Split v at first second) leaf h =
        let a = right_if first (below leaf v at) h.1 in
        let b = right_if second (above leaf v at) h.2 in
        ((h.0, a.0, b.0), λ w. ⊎_elim a.1 b.1 w.1)
    right_if (Choose p first second) leaf h =
        let a = right_if first (decided leaf p VarZero) h.1 in
        let b = right_if second (decided leaf p RowZero) h.2 in
        ((h.0, a.0, b.0), λ w. ⊎_elim a.1 b.1 w.1)
    right_if (Proof scale mult) leaf h = h
    right_if (Known x) leaf h = h
    right_if Loose leaf h = h

    pub passes_if : (t : TreeOf) (leaf : LeafOf) → IsRightBy right player leaf t → (HasWideEnd wide player leaf t → ⊥) → IsRightBy passes player leaf t
    passes_if (Split v at first second) leaf h n =
        (h.0, passes_if first (below leaf v at) h.1 (λ w. n (h.0, inl w)), passes_if second (above leaf v at) h.2 (λ w. n (h.0, inr w)))
    passes_if (Choose p first second) leaf h n =
        (h.0, passes_if first (decided leaf p VarZero) h.1 (λ w. n (h.0, inl w)), passes_if second (decided leaf p RowZero) h.2 (λ w. n (h.0, inr w)))
    passes_if (Proof scale mult) leaf h n = (h, n)
    passes_if (Known x) leaf h n = (h, n)
    passes_if Loose leaf h n = (h, n)

    -- such a tree isn't refused
    pub exclusive : (t : TreeOf) (k : ℕ) (leaf : LeafOf) (fault : Fault) → IsRightBy passes player leaf t → IsRefusedBy right wide player k leaf t fault → ⊥
    exclusive (Split v at first second) k leaf fault h r =
        ⊎_elim (λ s. s.0 h.0) (λ s. ⊎_elim (λ u. exclusive first (k + 1) (below leaf v at) fault h.1 u.1) (λ u. exclusive second (k + 1 + size first) (above leaf v at) fault h.2 u.2) s) r
    exclusive (Choose p first second) k leaf fault h r =
        ⊎_elim (λ s. s.0 h.0) (λ s. ⊎_elim (λ u. exclusive first (k + 1) (decided leaf p VarZero) fault h.1 u.1) (λ u. exclusive second (k + 1 + size first) (decided leaf p RowZero) fault h.2 u.2) s) r
    exclusive (Proof scale mult) k leaf fault h r = end_apart k leaf (ProofNode scale mult) fault h r
    exclusive (Known x) k leaf fault h r = end_apart k leaf (KnownNode x) fault h r
    exclusive Loose k leaf fault h r = end_apart k leaf LooseNode fault h r

    -- and a refused tree has one fault
    pub one_fault : (t : TreeOf) (k : ℕ) (leaf : LeafOf) (f g : Fault) → IsRefusedBy right wide player k leaf t f → IsRefusedBy right wide player k leaf t g → f ≡ g
    one_fault (Split v at first second) k leaf f g r s =
        at_node (IsWholeVar player v) (IsRightBy passes player (below leaf v at) first) (IsRefusedBy right wide player (k + 1) (below leaf v at) first) (IsRefusedBy right wide player (k + 1 + size first) (above leaf v at) second) (Bad k) (exclusive first (k + 1) (below leaf v at)) f g (one_fault first (k + 1) (below leaf v at) f g) (one_fault second (k + 1 + size first) (above leaf v at) f g) r s
    one_fault (Choose p first second) k leaf f g r s =
        at_node (IsOpenPair player leaf p) (IsRightBy passes player (decided leaf p VarZero) first) (IsRefusedBy right wide player (k + 1) (decided leaf p VarZero) first) (IsRefusedBy right wide player (k + 1 + size first) (decided leaf p RowZero) second) (Bad k) (exclusive first (k + 1) (decided leaf p VarZero)) f g (one_fault first (k + 1) (decided leaf p VarZero) f g) (one_fault second (k + 1 + size first) (decided leaf p RowZero) f g) r s
    one_fault (Proof scale mult) k leaf f g r s = one_end k leaf (ProofNode scale mult) f g r s
    one_fault (Known x) k leaf f g r s = one_end k leaf (KnownNode x) f g r s
    one_fault Loose k leaf f g r s = one_end k leaf LooseNode f g r s

    -- what is told of a tree makes the answer exact
    pub exact_told : {A : Type 0} (t : TreeOf) (leaf : LeafOf) (result : Result A Fault) → OnOk result (IsRightBy passes player leaf t) → IfErr result (IsRefusedBy right wide player 0 leaf t) → IsOk result ↔ (IsRightBy right player leaf t × (HasWideEnd wide player leaf t → ⊥))
    exact_told t leaf (Ok a) ok err = (λ h. right_if t leaf ok, λ h. refl)
    exact_told t leaf (Err fault) ok err =
        (λ h. absurd cc, λ h. absurd (exclusive t 0 leaf fault (passes_if t leaf h.0 h.1) err))
