-- The sums of a cost's line, and a tree's lines.
use Rattle.std.proofs.Common.{◌≡◌, ℕ, ◌+◌, ◌<◌, arith, refl, sym, ap, subst, ◌∙◌, ⊎_elim, inl, inr, ℤ, Result, Ok, Err, IsErr, List, length, length-append}
use Rattle.zr_base.specs.declared.step.Wide.{Wide}
use Rattle.zr_base.specs.Fractions.{Fraction}
use Rattle.zr_game.specs.declared.leaf.Side.TheVariants.{VarZero, RowZero}
use Rattle.zr_game.specs.Leaves.{Bound, LeafOf, above, below, bound_with, decided}
use Rattle.zr_game.specs.Players.{GameOf, PlayerOf}
use Rattle.zr_tree.specs.declared.fault.Fault.{Fault}
use Rattle.zr_tree.specs.declared.fault.Fault.TheVariants as nodes
use Rattle.zr_tree.specs.Nodes.{NodeOf, KnownNode, LooseNode, ProofNode}
use Rattle.zr_tree.specs.Right.{EndRule, ProvesRow}
use Rattle.zr_tree.specs.Steps.{EndRefused, IsRefusedAt, IsRefusedBy, IsWideForRow}
use Rattle.zr_tree.specs.Trees.{TreeOf, Split, Choose, Proof, Known, Loose, preorder, size}
use Rattle.zr_cert.specs.declared.fault.CertFault.{CertFault}
use Rattle.zr_cert.specs.declared.fault.CertFault.TheVariants.{Bad, Wide as TooWide}
use Rattle.zr_cert.specs.Certs.{BoundOf, MixtureOf}
use Rattle.zr_check.specs.Bounds.{BoundPasses, BoundRefused, IsCostMade, TreePasses, TreeRefused, all_means, cost_steps}
use Rattle.zr_check.specs.Benches.{GivesCost, node_number}

-- a tree has as many nodes as are listed
pub size_listed : (t : TreeOf) → length (preorder t) ≡ size t
size_listed (Split v at first second) =
    let a = size_listed first in
    let b = size_listed second in
    let l = length-append (preorder first) (preorder second) in
    omega (arith, a, b, l)
size_listed (Choose p first second) =
    let a = size_listed first in
    let b = size_listed second in
    let l = length-append (preorder first) (preorder second) in
    omega (arith, a, b, l)
size_listed (Proof scale mult) = refl
size_listed (Known x) = refl
size_listed Loose = refl

numbered : (f g : Fault) (k : ℕ) → f ≡ g → node_number g ≡ k → node_number f ≡ k
numbered f g k e n = ap node_number e ∙ n

-- the fault of an end is its number
end_number : (right wide : EndRule) (k : ℕ) (leaf : LeafOf) (node : NodeOf) (fault : Fault) → EndRefused right wide k leaf node fault → node_number fault ≡ k
end_number right wide k leaf node fault r =
    ⊎_elim (λ s. numbered fault (nodes.Wide k) k s.1 refl) (λ s. numbered fault (nodes.Bad k) k s.2 refl) r

module _ (right wide : EndRule) (player : PlayerOf) where
  -- the node at fault is one of the tree's
  pub fault_below : (k : ℕ) (leaf : LeafOf) (t : TreeOf) (fault : Fault) → IsRefusedBy right wide player k leaf t fault → node_number fault < k + size t
  fault_below k leaf (Split v at first second) fault r =
      ⊎_elim (λ s. let n = numbered fault (nodes.Bad k) k s.1 refl in omega (arith, n)) (λ s. ⊎_elim (λ u. let n = fault_below (k + 1) (below leaf v at) first fault u.1 in omega (arith, n)) (λ u. let n = fault_below (k + 1 + size first) (above leaf v at) second fault u.2 in omega (arith, n)) s) r
  fault_below k leaf (Choose p first second) fault r =
      ⊎_elim (λ s. let n = numbered fault (nodes.Bad k) k s.1 refl in omega (arith, n)) (λ s. ⊎_elim (λ u. let n = fault_below (k + 1) (decided leaf p VarZero) first fault u.1 in omega (arith, n)) (λ u. let n = fault_below (k + 1 + size first) (decided leaf p RowZero) second fault u.2 in omega (arith, n)) s) r
  fault_below k leaf (Proof scale mult) fault r =
      let n = end_number right wide k leaf (ProofNode scale mult) fault r in omega (arith, n)
  fault_below k leaf (Known x) fault r = let n = end_number right wide k leaf (KnownNode x) fault r in omega (arith, n)
  fault_below k leaf Loose fault r = let n = end_number right wide k leaf LooseNode fault r in omega (arith, n)

pub fault_within : (player : PlayerOf) (bound : Bound) (k : ℕ) (leaf : LeafOf) (t : TreeOf) (fault : Fault) → IsRefusedAt player bound k leaf t fault → node_number fault < k + size t
fault_within player bound k leaf t fault r =
    fault_below (ProvesRow player bound) (IsWideForRow player bound) player k leaf t fault r

-- what the steps of a cost's line gave
pub gave_wide : (made : Result (Fraction × (List ℤ × ℤ)) Wide) (w : Wide) (left : List ℤ) → GivesCost made (Err w) left → IsErr made
gave_wide (Ok x) w left g = let e = g.0 in absurd cc
gave_wide (Err v) w left g = refl

pub gave_made : (made : Result (Fraction × (List ℤ × ℤ)) Wide) (value : Fraction) (left : List ℤ) (right : ℤ) → GivesCost made (Ok (value, right)) left → made ≡ Ok (value, (left, right))
gave_made (Ok x) value left right g =
    let e = g.0 in
    let l : x.1.0 ≡ left = sym g.1 in
    let p : (value, right) ≡ (x.0, x.1.1) = cc in
    let v : x.0 ≡ value = sym (ap (λ (q : Fraction × ℤ). q.0) p) in
    let r : x.1.1 ≡ right = sym (ap (λ (q : Fraction × ℤ). q.1) p) in
    rw (← v, ← l, ← r) refl
gave_made (Err w) value left right g = absurd cc

-- the line of a cost and the lines of its tree
module _ (game : GameOf) (mixtures : List MixtureOf) (means : List Fraction) (are : all_means game mixtures ≡ Ok means) (i : ℕ) (player : PlayerOf) (bound : BoundOf) (line : ℕ) where
  pub wide_cost : (w : Wide) (left : List ℤ) → GivesCost (cost_steps game player i means) (Err w) left → BoundRefused game mixtures line i player bound (TooWide line)
  wide_cost w left g = inl ((means, are, gave_wide (cost_steps game player i means) w left g), refl)

  module _ (value : Fraction) (left : List ℤ) (right : ℤ) (g : GivesCost (cost_steps game player i means) (Ok (value, right)) left) where
    made : IsCostMade game mixtures i player value left right
    made = record { means = means; are_means = are; made = gave_made (cost_steps game player i means) value left right g }

    pub other_cost : (value ≡ bound.cost → ⊥) → BoundRefused game mixtures line i player bound (Bad line)
    other_cost apart = inr (inl (value, left, right, made, apart, refl))

    module _ (same : value ≡ bound.cost) where
      printed : IsCostMade game mixtures i player bound.cost left right
      printed = subst (λ (f : Fraction). IsCostMade game mixtures i player f left right) same made

      pub bound_refused : (fault : CertFault) → TreeRefused player (bound_with left right) bound.tree (line + 1) fault → BoundRefused game mixtures line i player bound fault
      bound_refused fault r = inr (inr (left, right, printed, r))

      pub bound_passes : TreePasses player (bound_with left right) bound.tree → BoundPasses game mixtures i player bound
      bound_passes p = (left, right, printed, p)
