-- Whether a list of nodes is a tree.
use Rattle.std.proofs.Common.{◌≡◌, ℕ, zero, suc, ◌+◌, ◌-◌, ◌<◌, ◌≤◌, ◌==◌, arith, refl, sym, ap, ◌∙◌, false, List, [], ◌∷◌, map, length, get_or, drop, drop-cons, add-one}
use Rattle.std.proofs.lemmas.Bool.Decides.{nat_tests}
use Rattle.std.proofs.lemmas.List.{drop_all}
use Rattle.zr_tree.specs.declared.node.Node.{Node}
use Rattle.zr_tree.specs.Nodes.{NodeOf, SplitNode, ChooseNode, ProofNode, KnownNode, LooseNode, node_of}
use Rattle.zr_tree.specs.Form.{child_count, is_forest}

two_at_most : (node : NodeOf) → child_count node ≤ 2
two_at_most (SplitNode v at) = omega arith
two_at_most (ChooseNode p) = omega arith
two_at_most (ProofNode scale mult) = omega arith
two_at_most (KnownNode x) = omega arith
two_at_most LooseNode = omega arith

-- so many trees are due after the first i nodes
pub record Due (nodes : List Node) (i due : ℕ) : Type 0 where
  pub few : due ≤ i + 1
  pub left : is_forest 1 (map node_of nodes) ≡ is_forest due (map node_of (drop i nodes))

module _ (nodes : List Node) (i due : ℕ) (before : Due nodes i due) where
  module _ (node : Node) (below : i < length nodes) (is : node ≡ get_or nodes i node) where
    cut : is_forest due (map node_of (drop i nodes)) ≡ is_forest due (node_of node ∷ map node_of (drop (suc i) nodes))
    cut = ap (λ (ns : List Node). is_forest due (map node_of ns)) (drop-cons nodes i node below) ∙ ap (λ (n : Node). is_forest due (node_of n ∷ map node_of (drop (suc i) nodes))) (sym is)

    pub none_due : due ≡ 0 → false ≡ is_forest 1 (map node_of nodes)
    none_due e =
        sym (before.left ∙ cut ∙ ap (λ (n : ℕ). is_forest n (node_of node ∷ map node_of (drop (suc i) nodes))) e)

    pub due_next : 0 < due → (count : ℕ) → count ≡ child_count (node_of node) → Due nodes (i + 1) (due - 1 + count)
    due_next some count e = record {
      few = let t = two_at_most (node_of node) in let f = before.few in omega (arith, t, e, f, some);
      left = before.left ∙ cut ∙ step due some ∙ ap (λ (n : ℕ). is_forest (due - 1 + count) (map node_of (drop n nodes))) (sym (add-one i));
    }
      where
        step : (due : ℕ) → 0 < due → is_forest due (node_of node ∷ map node_of (drop (suc i) nodes)) ≡ is_forest (due - 1 + count) (map node_of (drop (suc i) nodes))
        step zero h = absurd (omega (arith, h))
        step (suc n) h =
            let m : child_count (node_of node) + n ≡ suc n - 1 + count = omega (arith, e) in
            ap (λ (k : ℕ). is_forest k (map node_of (drop (suc i) nodes))) m

  pub all_seen : length nodes ≤ i → (due == 0) ≡ is_forest 1 (map node_of nodes)
  all_seen end =
      sym (before.left ∙ ap (λ (ns : List Node). is_forest due (map node_of ns)) (drop_all i nodes end) ∙ none due)
    where
      none : (due : ℕ) → is_forest due [] ≡ (due == 0)
      none zero = refl
      none (suc n) = let e : (suc n == 0) ≡ false = grind (arith, nat_tests) in sym e
