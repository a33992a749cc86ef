-- Covers, named items and refutations that pass aren't refused, and those that are refused have one
-- fault.
use Rattle.std.proofs.Common.{◌≡◌, ℕ, ◌+◌, sym, ap, subst, ◌∙◌, ⊎_elim, List, [], length}
use Rattle.zr_game.specs.Leaves.{root_leaf}
use Rattle.zr_game.specs.Named.{IsNamed, NamedOf}
use Rattle.zr_game.specs.Players.{GameOf, PlayerOf}
use Rattle.zr_game.specs.declared.kind.Kind.{Kind}
use Rattle.zr_game.proofs.Items.{one}
use Rattle.zr_tree.specs.Covers.{KeepsCover}
use Rattle.zr_tree.specs.CoverSteps.{CoverPasses, IsRefusedCover, IsWideForCover}
use Rattle.zr_tree.specs.Nodes.{NodeOf}
use Rattle.zr_tree.specs.Trees.{TreeOf}
use Rattle.zr_tree.proofs.Forests.{same_tree}
use Rattle.zr_tree.proofs.PassLaws.{exclusive, one_fault}
use Rattle.zr_cases.specs.Cases.{RNodeOf}
use Rattle.zr_system.specs.Regions.{LeavesOf}
use Rattle.zr_refute.specs.Covered.{covered}
use Rattle.zr_refute.specs.Refuting.{Closes}
use Rattle.zr_refute.specs.Steps.{EndPasses, IsWideEnd}
use Rattle.zr_refute.proofs.AlikeCases.{are_alike, refused_alike, refutes_alike}
use Rattle.zr_refute.proofs.PassLaws.{not_both, one_fault as one_case_fault}
use Rattle.zr_cert.specs.declared.fault.CertFault.{CertFault}
use Rattle.zr_cert.specs.declared.fault.CertFault.TheVariants.{Bad, Wide as TooWide}
use Rattle.zr_cert.specs.Places.{cover_line_number}
use Rattle.zr_check.specs.Bounds.{at_line}
use Rattle.zr_check.specs.Covers.{CasesPass, CasesRefused, CoverLinesPass, CoverLinesRefused, CoverTreePasses, CoverTreeRefused, CoversPass, CoversRefused, IsWideItem, ItemPasses, ItemRefused, ItemsPass, ItemsRefused, PlayerCoverPasses, PlayerCoverRefused, ProofPasses, ProofRefused}
use Rattle.zr_check.proofs.CoverTrees.{same_trees}
use Rattle.zr_check.proofs.Firsts.{either_one, first_apart, first_one}

-- a cover's lines
module _ (player : PlayerOf) (nodes : List NodeOf) (line : ℕ) where
  tree_apart : (fault : CertFault) → CoverTreePasses player nodes
      → CoverTreeRefused player nodes line fault → ⊥
  tree_apart fault p r =
      exclusive (KeepsCover player) (IsWideForCover player) player r.0 0 (root_leaf player) r.1
      (subst (CoverPasses player (root_leaf player)) (same_tree p.0 r.0 (p.1 ∙ sym r.2)) p.2) r.3

  tree_one : (f g : CertFault) → CoverTreeRefused player nodes line f
      → CoverTreeRefused player nodes line g → f ≡ g
  tree_one f g r s =
      let same = same_tree r.0 s.0 (r.2 ∙ sym s.2) in
      let first = one_fault (KeepsCover player) (IsWideForCover player) player s.0 0
      (root_leaf player) r.1 s.1
      (subst (λ (t : TreeOf). IsRefusedCover player 0 (root_leaf player) t r.1) same r.3) s.3 in
      r.4 ∙ ap (at_line line) first ∙ sym s.4

-- the lines of named items
module _ (player : PlayerOf) where
  item_apart : (line k : ℕ) (item : NamedOf) (fault : CertFault) → ItemPasses player k item
      → ItemRefused player line item fault → ⊥
  item_apart line k item fault p r = ⊎_elim (λ a. p.1 a.0) (λ a. a.1 p.0) r

  item_one : (line : ℕ) (item : NamedOf) (f g : CertFault) → ItemRefused player line item f
      → ItemRefused player line item g → f ≡ g
  item_one line item f g =
      either_one (λ x. IsWideItem player item × (x ≡ TooWide line))
      (λ x. (IsWideItem player item → ⊥) × (IsNamed player item → ⊥) × (x ≡ Bad line))
      (λ x y a b. b.0 a.0) f g (λ a b. a.1 ∙ sym b.1) (λ a b. a.2 ∙ sym b.2)

  items_apart : (items : List NamedOf) (line : ℕ) (fault : CertFault) → ItemsPass player items
      → ItemsRefused player items line fault → ⊥
  items_apart items line =
      first_apart (ItemPasses player) (λ k. ItemRefused player (line + k))
      (λ k. item_apart (line + k) k) items

  items_one : (items : List NamedOf) (line : ℕ) (f g : CertFault)
      → ItemsRefused player items line f → ItemsRefused player items line g → f ≡ g
  items_one items line =
      first_one (ItemPasses player) (λ k. ItemRefused player (line + k))
      (λ k. item_apart (line + k) k) items (λ k. item_one (line + k))

  module _ (nodes : List NodeOf) (items : List NamedOf) (line : ℕ) where
    lines_apart : (fault : CertFault) → CoverLinesPass player nodes items
        → CoverLinesRefused player nodes items line fault → ⊥
    lines_apart fault p r =
        ⊎_elim (tree_apart player nodes line fault p.0)
        (λ (a : CoverTreePasses player nodes
        × ItemsRefused player items (line + length nodes + 1) fault). items_apart items
        (line + length nodes + 1) fault p.1 a.1) r

    lines_one : (f g : CertFault) → CoverLinesRefused player nodes items line f
        → CoverLinesRefused player nodes items line g → f ≡ g
    lines_one f g =
        either_one (CoverTreeRefused player nodes line)
        (λ x. CoverTreePasses player nodes
        × ItemsRefused player items (line + length nodes + 1) x)
        (λ x y a b. tree_apart player nodes line x b.0 a) f g (tree_one player nodes line f g)
        (λ a b. items_one items (line + length nodes + 1) f g a.1 b.1)

-- the players' lines
module _ (covers : List (List NodeOf)) (named : List (List NamedOf)) where
  player_apart : (i : ℕ) (player : PlayerOf) (fault : CertFault)
      → PlayerCoverPasses covers named i player → PlayerCoverRefused covers named i player fault
      → ⊥
  player_apart i player fault p r =
      lines_apart player r.0 r.1 (cover_line_number covers named i) fault (p r.0 r.1 r.2 r.3) r.4

  player_one : (i : ℕ) (player : PlayerOf) (f g : CertFault)
      → PlayerCoverRefused covers named i player f → PlayerCoverRefused covers named i player g
      → f ≡ g
  player_one i player f g r s =
      let line = cover_line_number covers named i in
      let nodes = one covers i r.0 s.0 r.2 s.2 in
      let items = one named i r.1 s.1 r.3 s.3 in
      lines_one player s.0 s.1 line f g
      (subst (λ (xs : List NamedOf). CoverLinesRefused player s.0 xs line f) items
      (subst (λ (ns : List NodeOf). CoverLinesRefused player ns r.1 line f) nodes r.4)) s.4

pub covers_apart : (game : GameOf) (covers : List (List NodeOf)) (named : List (List NamedOf))
    (fault : CertFault) → CoversPass game covers named → CoversRefused game covers named fault → ⊥
covers_apart game covers named =
    first_apart (PlayerCoverPasses covers named) (PlayerCoverRefused covers named)
    (player_apart covers named) game

pub covers_one : (game : GameOf) (covers : List (List NodeOf)) (named : List (List NamedOf))
    (f g : CertFault) → CoversRefused game covers named f → CoversRefused game covers named g
    → f ≡ g
covers_one game covers named =
    first_one (PlayerCoverPasses covers named) (PlayerCoverRefused covers named)
    (player_apart covers named) game (player_one covers named)

-- the lines of a refutation
module _ (game : GameOf) (leaves : LeavesOf) (kind : Kind) (nodes : List RNodeOf) (line : ℕ) where
  cases_apart : (fault : CertFault) → CasesPass game leaves kind nodes
      → CasesRefused game leaves kind nodes line fault → ⊥
  cases_apart fault p r =
      let right = Closes game leaves in
      let wide = IsWideEnd game leaves in
      not_both right wide game leaves kind 0 [] r.0 r.1
      (refutes_alike leaves game kind (EndPasses right wide) [] p.0 r.0
      (are_alike leaves p.0 r.0 (p.1 ∙ sym r.2)) p.2) r.3

  cases_one : (f g : CertFault) → CasesRefused game leaves kind nodes line f
      → CasesRefused game leaves kind nodes line g → f ≡ g
  cases_one f g r s =
      let right = Closes game leaves in
      let wide = IsWideEnd game leaves in
      let alike = are_alike leaves r.0 s.0 (r.2 ∙ sym s.2) in
      let moved = refused_alike leaves game kind right wide 0 [] r.0 s.0 r.1 alike r.3 in
      let first = one_case_fault right wide game leaves kind 0 [] s.0 r.1 s.1 moved s.3 in
      r.4 ∙ ap (at_line line) first ∙ sym s.4

-- over the leaves of covers
module _ (game : GameOf) (kind : Kind) (covers : List (List NodeOf)) (named : List (List NamedOf))
    (proof : List RNodeOf) (line : ℕ) where
  abbrev over : List TreeOf → LeavesOf
  over trees = covered game trees named

  pub proof_apart : (fault : CertFault) → ProofPasses game kind covers named proof
      → ProofRefused game kind covers named proof line fault → ⊥
  proof_apart fault p r =
      let same = same_trees p.0 r.0 (p.1 ∙ sym r.1) in
      cases_apart game (over r.0) kind proof line fault
      (subst (λ (ts : List TreeOf). CasesPass game (over ts) kind proof) same p.2) r.2

  pub proof_one : (f g : CertFault) → ProofRefused game kind covers named proof line f
      → ProofRefused game kind covers named proof line g → f ≡ g
  proof_one f g r s =
      let same = same_trees r.0 s.0 (r.1 ∙ sym s.1) in
      cases_one game (over s.0) kind proof line f g
      (subst (λ (ts : List TreeOf). CasesRefused game (over ts) kind proof line f) same r.2) s.2
