-- What the nodes seen so far, and the leaves that are still due, say of the whole tree.
use Rattle.std.proofs.Common.{◌≡◌, ℕ, suc, ◌+◌, arith, refl, sym, ap, subst, ◌∙◌, List, [], ◌∷◌, ◌++◌, length, length-append, ◌⊎◌, ⊎_elim, inl, inr}
use Rattle.zr_game.specs.Players.{PlayerOf}
use Rattle.zr_game.specs.Leaves.{LeafOf, root_leaf}
use Rattle.zr_tree.specs.declared.fault.Fault.{Fault}
use Rattle.zr_tree.specs.Nodes.{NodeOf}
use Rattle.zr_tree.specs.Trees.{TreeOf, Split, Choose, Proof, Known, Loose, preorder, size}
use Rattle.zr_tree.specs.Right.{EndRule, IsRightBy}
use Rattle.zr_tree.specs.Steps.{EndPasses, IsRefusedBy}
use Rattle.zr_tree.specs.Visits.{NodePasses, NodeRefused, children}
use Rattle.std.proofs.lemmas.List.{append-nil}
use Rattle.zr_tree.proofs.Forests.{after_node, forest, kids, opened, size_of_kids, sizes, top}

module _ (right wide : EndRule) (player : PlayerOf) where
  abbrev passes : EndRule
  passes = EndPasses right wide

  -- each tree passes at its leaf
  abbrev pub AllPass : List LeafOf → List TreeOf → Type 0
  AllPass [] [] = Unit {0}
  AllPass [] (t ∷ ts) = ⊥
  AllPass (leaf ∷ leaves) [] = ⊥
  AllPass (leaf ∷ leaves) (t ∷ ts) = IsRightBy passes player leaf t × AllPass leaves ts

  -- the trees before one pass, and that one, whose nodes are numbered on from k, is refused
  abbrev pub OneRefused : ℕ → List LeafOf → List TreeOf → Fault → Type 0
  OneRefused k [] [] fault = ⊥
  OneRefused k [] (t ∷ ts) fault = ⊥
  OneRefused k (leaf ∷ leaves) [] fault = ⊥
  OneRefused k (leaf ∷ leaves) (t ∷ ts) fault =
      IsRefusedBy right wide player k leaf t fault ⊎ (IsRightBy passes player leaf t × OneRefused (k + size t) leaves ts fault)

  parts_pass : (xs ys : List LeafOf) (us vs : List TreeOf) → length us ≡ length xs → AllPass (xs ++ ys) (us ++ vs) → AllPass xs us × AllPass ys vs
  parts_pass [] ys [] vs l h = (tt, h)
  parts_pass [] ys (u ∷ us) vs l h = absurd (omega (arith, l))
  parts_pass (x ∷ xs) ys [] vs l h = absurd (omega (arith, l))
  parts_pass (x ∷ xs) ys (u ∷ us) vs l h =
      let r = parts_pass xs ys us vs (omega (arith, l)) h.1 in ((h.0, r.0), r.1)

  part_refused : (k : ℕ) (xs ys : List LeafOf) (us vs : List TreeOf) (fault : Fault) → length us ≡ length xs → OneRefused k (xs ++ ys) (us ++ vs) fault → OneRefused k xs us fault ⊎ (AllPass xs us × OneRefused (k + sizes us) ys vs fault)
  part_refused k [] ys [] vs fault l h =
      let e : k + 0 ≡ k = omega arith in inr (tt, rw e h)
  part_refused k [] ys (u ∷ us) vs fault l h = absurd (omega (arith, l))
  part_refused k (x ∷ xs) ys [] vs fault l h = absurd (omega (arith, l))
  part_refused k (x ∷ xs) ys (u ∷ us) vs fault l h =
      ⊎_elim (λ (r : IsRefusedBy right wide player k x u fault). inl (inl r)) (λ (r : IsRightBy passes player x u × OneRefused (k + size u) (xs ++ ys) (us ++ vs) fault). ⊎_elim (λ (s : OneRefused (k + size u) xs us fault). inl (inr (r.0, s))) (λ (s : AllPass xs us × OneRefused (k + size u + sizes us) ys vs fault). let e : k + (size u + sizes us) ≡ k + size u + sizes us = omega arith in inr ((r.0, s.0), rw e s.1)) (part_refused (k + size u) xs ys us vs fault (omega (arith, l)) r.1)) h

  -- a tree passes where its node does and the trees at its children do
  tree_passes : (leaf : LeafOf) (t : TreeOf) → NodePasses right wide player leaf (top t) → AllPass (children leaf (top t)) (kids t) → IsRightBy passes player leaf t
  tree_passes leaf (Split v at first second) h r = (h, r.0, r.1.0)
  tree_passes leaf (Choose p first second) h r = (h, r.0, r.1.0)
  tree_passes leaf (Proof scale mult) h r = h
  tree_passes leaf (Known x) h r = h
  tree_passes leaf Loose h r = h

  kid_refused : (k : ℕ) (leaf : LeafOf) (t : TreeOf) (fault : Fault) → NodePasses right wide player leaf (top t) → OneRefused (k + 1) (children leaf (top t)) (kids t) fault → IsRefusedBy right wide player k leaf t fault
  kid_refused k leaf (Split v at first second) fault h r =
      ⊎_elim (λ s. inr (inl (h, s))) (λ s. ⊎_elim (λ u. inr (inr (h, s.0, u))) (λ u. absurd u.1) s.1) r
  kid_refused k leaf (Choose p first second) fault h r =
      ⊎_elim (λ s. inr (inl (h, s))) (λ s. ⊎_elim (λ u. inr (inr (h, s.0, u))) (λ u. absurd u.1) s.1) r
  kid_refused k leaf (Proof scale mult) fault h r = absurd r
  kid_refused k leaf (Known x) fault h r = absurd r
  kid_refused k leaf Loose fault h r = absurd r

  node_refused : (k : ℕ) (leaf : LeafOf) (t : TreeOf) (fault : Fault) → NodeRefused right wide player k leaf (top t) fault → IsRefusedBy right wide player k leaf t fault
  node_refused k leaf (Split v at first second) fault h = inl h
  node_refused k leaf (Choose p first second) fault h = inl h
  node_refused k leaf (Proof scale mult) fault h = h
  node_refused k leaf (Known x) fault h = h
  node_refused k leaf Loose fault h = h

  kid_count : (leaf : LeafOf) (t : TreeOf) → length (kids t) ≡ length (children leaf (top t))
  kid_count leaf (Split v at first second) = refl
  kid_count leaf (Choose p first second) = refl
  kid_count leaf (Proof scale mult) = refl
  kid_count leaf (Known x) = refl
  kid_count leaf Loose = refl

  -- k nodes are seen; those that are left are the trees of the leaves that are due, and the whole tree stands with them
  pub record Walked (whole : TreeOf) (k : ℕ) (nodes : List NodeOf) (leaves : List LeafOf) : Type 0 where
    pub trees : List TreeOf
    pub listed : nodes ≡ forest trees
    pub paired : length trees ≡ length leaves
    pub passes : AllPass leaves trees → IsRightBy passes player (root_leaf player) whole
    pub refused : (fault : Fault) → OneRefused k leaves trees fault → IsRefusedBy right wide player 0 (root_leaf player) whole fault

  pub at_start : (whole : TreeOf) (nodes : List NodeOf) → preorder whole ≡ nodes → Walked whole 0 nodes (root_leaf player ∷ [])
  at_start whole nodes e = record {
    trees = whole ∷ [];
    listed = sym e ∙ sym (append-nil (preorder whole));
    paired = refl;
    passes = λ h. h.0;
    refused = λ fault h. ⊎_elim (λ (r : IsRefusedBy right wide player 0 (root_leaf player) whole fault). r) (λ (r : IsRightBy passes player (root_leaf player) whole × ⊥). absurd r.1) h;
  }

  module _ (whole : TreeOf) (k : ℕ) where
    pub at_end : (leaves : List LeafOf) → Walked whole k [] leaves → IsRightBy passes player (root_leaf player) whole
    at_end leaves w = done w.trees leaves w.listed w.paired w.passes
      where
        done : (ts : List TreeOf) (leaves : List LeafOf) → [] ≡ forest ts → length ts ≡ length leaves → (AllPass leaves ts → IsRightBy passes player (root_leaf player) whole) → IsRightBy passes player (root_leaf player) whole
        done [] [] e l h = h tt
        done [] (leaf ∷ leaves) e l h = absurd (omega (arith, l))
        done (t ∷ ts) leaves e l h =
            let f : [] ≡ top t ∷ (forest (kids t) ++ forest ts) = e ∙ ap (λ (ns : List NodeOf). ns ++ forest ts) (opened t) in absurd cc

    -- where a node is left, a leaf is due
    pub leaf_due : (node : NodeOf) (nodes : List NodeOf) → Walked whole k (node ∷ nodes) [] → ⊥
    leaf_due node nodes w = none w.trees w.listed w.paired
      where
        none : (ts : List TreeOf) → node ∷ nodes ≡ forest ts → length ts ≡ 0 → ⊥
        none [] e l = cc
        none (t ∷ ts) e l = omega (arith, l)

    module _ (node : NodeOf) (nodes : List NodeOf) (leaf : LeafOf) (leaves : List LeafOf) where
      pub seen : Walked whole k (node ∷ nodes) (leaf ∷ leaves) → NodePasses right wide player leaf node → Walked whole (k + 1) nodes (children leaf node ++ leaves)
      seen w h = next w.trees w.listed w.paired w.passes w.refused
        where
          next : (ts : List TreeOf) → node ∷ nodes ≡ forest ts → length ts ≡ suc (length leaves) → (AllPass (leaf ∷ leaves) ts → IsRightBy passes player (root_leaf player) whole) → ((fault : Fault) → OneRefused k (leaf ∷ leaves) ts fault → IsRefusedBy right wide player 0 (root_leaf player) whole fault) → Walked whole (k + 1) nodes (children leaf node ++ leaves)
          next [] e l p r = absurd cc
          next (t ∷ ts) e l p r =
              let a = after_node node nodes t ts e in
              let here : NodePasses right wide player leaf (top t) = subst (NodePasses right wide player leaf) a.0 h in
              let n = kid_count leaf t in
              let on : Walked whole (k + 1) nodes (children leaf (top t) ++ leaves) = record {
                trees = kids t ++ ts;
                listed = a.1;
                paired = length-append (kids t) ts ∙ omega (arith, n, l, length-append (children leaf (top t)) leaves);
                passes = λ q. let s = parts_pass (children leaf (top t)) leaves (kids t) ts n q in p (tree_passes leaf t here s.0, s.1);
                refused = λ fault q. ⊎_elim (λ (s : OneRefused (k + 1) (children leaf (top t)) (kids t) fault). r fault (inl (kid_refused k leaf t fault here s))) (λ (s : AllPass (children leaf (top t)) (kids t) × OneRefused (k + 1 + sizes (kids t)) leaves ts fault). let z : k + 1 + sizes (kids t) ≡ k + size t = omega (arith, size_of_kids t) in r fault (inr (tree_passes leaf t here s.0, rw z at s.1))) (part_refused (k + 1) (children leaf (top t)) leaves (kids t) ts fault n q);
              } in
              subst (λ (m : NodeOf). Walked whole (k + 1) nodes (children leaf m ++ leaves)) (sym a.0) on

      pub stopped : Walked whole k (node ∷ nodes) (leaf ∷ leaves) → (fault : Fault) → NodeRefused right wide player k leaf node fault → IsRefusedBy right wide player 0 (root_leaf player) whole fault
      stopped w fault h = end w.trees w.listed w.refused
        where
          end : (ts : List TreeOf) → node ∷ nodes ≡ forest ts → ((fault : Fault) → OneRefused k (leaf ∷ leaves) ts fault → IsRefusedBy right wide player 0 (root_leaf player) whole fault) → IsRefusedBy right wide player 0 (root_leaf player) whole fault
          end [] e r = absurd cc
          end (t ∷ ts) e r =
              let a = after_node node nodes t ts e in
              r fault (inl (node_refused k leaf t fault (subst (λ (m : NodeOf). NodeRefused right wide player k leaf m fault) a.0 h)))
