-- The fault of a refutation is that of one of its nodes.
use Rattle.std.proofs.Common.{◌≡◌, ℕ, zero, suc, ◌+◌, ◌<◌, ◌≤◌, arith, refl, ap, ◌∙◌, ⊎_elim, List, ◌++◌, length, length-append, slice_index_or}
use Rattle.zr_game.specs.Players.{GameOf}
use Rattle.zr_game.specs.declared.choice.Choice.{Choice}
use Rattle.zr_game.specs.declared.choice.Choice.TheVariants as AChoice
use Rattle.zr_game.specs.declared.kind.Kind.{Kind}
use Rattle.zr_tree.specs.Nodes.{Multipliers}
use Rattle.zr_tree.specs.declared.fault.Fault.{Fault}
use Rattle.zr_tree.specs.declared.fault.Fault.TheVariants as nodes
use Rattle.zr_cases.specs.Cases.{RNodeOf}
use Rattle.zr_cases.specs.Trees.{CasesOf, OnOff, RowSplit, Which, Close, lists_below, preorder}
use Rattle.zr_system.specs.Regions.{LeavesOf}
use Rattle.zr_refute.specs.Refuting.{EndRule, leaf_counts, then_choice}
use Rattle.zr_refute.specs.Steps.{EndRefused, RefusedBy, size, sizes}
use Rattle.zr_refute.proofs.Walking.{count_is}
use Rattle.zr_check.specs.Benches.{node_number}

-- the lists before one of the first n and it aren't longer than all n
within : {X : Type 0} (n k : ℕ) (f : ℕ → List X) → k < n
    → length (lists_below k f) + length (f k) ≤ length (lists_below n f)
within zero k f h = absurd (omega (arith, h))
within (suc n) zero f h =
    let l = length-append (f 0) (lists_below n (λ j. f (suc j))) in
    omega (arith, l)
within (suc n) (suc k) f h =
    let r = within n k (λ j. f (suc j)) (omega (arith, h)) in
    let l = length-append (f 0) (lists_below n (λ j. f (suc j))) in
    let m = length-append (f 0) (lists_below k (λ j. f (suc j))) in
    omega (arith, r, l, m)

numbered : (f g : Fault) (k : ℕ) → f ≡ g → node_number g ≡ k → node_number f ≡ k
numbered f g k e n = ap node_number e ∙ n

module _ (right wide : EndRule) (game : GameOf) (leaves : LeavesOf) (kind : Kind) where
  abbrev nodes_of : CasesOf → List RNodeOf
  nodes_of t = preorder (leaf_counts leaves) t

  -- two trees below a node
  two : (a b : CasesOf) → length (nodes_of a ++ nodes_of b) ≡ size leaves a + size leaves b
  two a b = length-append (nodes_of a) (nodes_of b)

  end_number : (n : ℕ) (path : List Choice) (mult : Multipliers) (fault : Fault)
      → EndRefused right wide n path mult fault → node_number fault ≡ n
  end_number n path mult fault r =
      ⊎_elim (λ s. numbered fault (nodes.Wide n) n s.1 refl)
      (λ s. numbered fault (nodes.Bad n) n s.2 refl) r

  pub case_fault_below : (n : ℕ) (path : List Choice) (t : CasesOf) (fault : Fault)
      → RefusedBy right wide game leaves kind n path t fault
      → node_number fault < n + size leaves t
  case_fault_below n path (OnOff i k on off) fault r =
      let l = two on off in
      ⊎_elim (λ s. let e = numbered fault (nodes.Bad n) n s.1 refl in omega (arith, e))
      (λ s. ⊎_elim
      (λ u. let e = case_fault_below (n + 1) (then_choice path (AChoice.On i k)) on fault u.1 in
      omega (arith, e, l))
      (λ u. let e = case_fault_below (n + 1 + size leaves on)
      (then_choice path (AChoice.Off i k)) off fault u.2 in omega (arith, e, l)) s) r
  case_fault_below n path (RowSplit i k s at_zero at_tight) fault r =
      let l = two at_zero at_tight in
      ⊎_elim (λ u. let e = numbered fault (nodes.Bad n) n u.1 refl in omega (arith, e))
      (λ u. ⊎_elim
      (λ v. let e = case_fault_below (n + 1) (then_choice path (AChoice.Zero i k s)) at_zero
      fault v.1 in omega (arith, e, l))
      (λ v. let e = case_fault_below (n + 1 + size leaves at_zero)
      (then_choice path (AChoice.Tight i k s)) at_tight fault v.2 in omega (arith, e, l)) u) r
  case_fault_below n path (Which i trees) fault r =
      ⊎_elim (λ s. let e = numbered fault (nodes.Bad n) n s.1 refl in omega (arith, e))
      (λ s. let k = s.1.0 in
      let e = case_fault_below (n + 1 + sizes leaves trees k)
      (then_choice path (AChoice.Which i k)) (trees k) fault s.1.3 in
      let c = count_is leaves.regions i in
      let h = s.1.1 in
      let w = within (slice_index_or (leaf_counts leaves) i 0) k (λ j. nodes_of (trees j))
      (omega (arith, c, h)) in
      omega (arith, e, w)) r
  case_fault_below n path (Close mult) fault r =
      let e = end_number n path mult fault r in omega (arith, e)
