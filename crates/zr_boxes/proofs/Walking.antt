-- What the nodes seen so far, and the boxes that are still due, say of the whole box tree.
use Rattle.std.proofs.Common.{◌≡◌, ℕ, suc, ◌+◌, arith, refl, sym, ap, subst, ◌∙◌, List, [], ◌∷◌, ◌++◌, length, length-append, ◌⊎◌, ⊎_elim, inl, inr}
use Rattle.std.proofs.lemmas.List.{append-nil}
use Rattle.zr_game.specs.Players.{GameOf}
use Rattle.zr_tree.specs.declared.fault.Fault.{Fault}
use Rattle.zr_cases.specs.Cases.{BNodeOf}
use Rattle.zr_cases.specs.Trees.{BoxTreeOf, Cut, Empty, Deviate, box_preorder}
use Rattle.zr_boxes.specs.Boxes.{BoxOf, root_box}
use Rattle.zr_boxes.specs.Steps.{BoxPasses, IsRefusedBox, box_size}
use Rattle.zr_boxes.specs.Visits.{NodePasses, NodeRefused, children}
use Rattle.zr_boxes.proofs.Forests.{after_node, forest, kids, opened, size_of_kids, sizes, top}

module _ (game : GameOf) where
  -- each tree passes at its box
  abbrev pub AllPass : List BoxOf → List BoxTreeOf → Type 0
  AllPass [] [] = Unit {0}
  AllPass [] (t ∷ ts) = ⊥
  AllPass (box ∷ boxes) [] = ⊥
  AllPass (box ∷ boxes) (t ∷ ts) = BoxPasses game box t × AllPass boxes ts

  -- the trees before one pass, and that one, whose nodes are numbered on from k, is refused
  abbrev pub OneRefused : ℕ → List BoxOf → List BoxTreeOf → Fault → Type 0
  OneRefused k [] [] fault = ⊥
  OneRefused k [] (t ∷ ts) fault = ⊥
  OneRefused k (box ∷ boxes) [] fault = ⊥
  OneRefused k (box ∷ boxes) (t ∷ ts) fault =
      IsRefusedBox game k box t fault
      ⊎ (BoxPasses game box t × OneRefused (k + box_size t) boxes ts fault)

  parts_pass : (xs ys : List BoxOf) (us vs : List BoxTreeOf) → length us ≡ length xs
      → AllPass (xs ++ ys) (us ++ vs) → AllPass xs us × AllPass ys vs
  parts_pass [] ys [] vs l h = (tt, h)
  parts_pass [] ys (u ∷ us) vs l h = absurd (omega (arith, l))
  parts_pass (x ∷ xs) ys [] vs l h = absurd (omega (arith, l))
  parts_pass (x ∷ xs) ys (u ∷ us) vs l h =
      let r = parts_pass xs ys us vs (omega (arith, l)) h.1 in ((h.0, r.0), r.1)

  part_refused : (k : ℕ) (xs ys : List BoxOf) (us vs : List BoxTreeOf) (fault : Fault)
      → length us ≡ length xs → OneRefused k (xs ++ ys) (us ++ vs) fault
      → OneRefused k xs us fault ⊎ (AllPass xs us × OneRefused (k + sizes us) ys vs fault)
  part_refused k [] ys [] vs fault l h =
      let e : k + 0 ≡ k = omega arith in inr (tt, rw e h)
  part_refused k [] ys (u ∷ us) vs fault l h = absurd (omega (arith, l))
  part_refused k (x ∷ xs) ys [] vs fault l h = absurd (omega (arith, l))
  part_refused k (x ∷ xs) ys (u ∷ us) vs fault l h =
      ⊎_elim (λ (r : IsRefusedBox game k x u fault). inl (inl r))
      (λ (r : BoxPasses game x u × OneRefused (k + box_size u) (xs ++ ys) (us ++ vs) fault).
      ⊎_elim (λ (s : OneRefused (k + box_size u) xs us fault). inl (inr (r.0, s)))
      (λ (s : AllPass xs us × OneRefused (k + box_size u + sizes us) ys vs fault).
      let e : k + (box_size u + sizes us) ≡ k + box_size u + sizes us = omega arith in
      inr ((r.0, s.0), rw e s.1))
      (part_refused (k + box_size u) xs ys us vs fault (omega (arith, l)) r.1)) h

  -- a tree passes where its node does and the trees at its children do
  tree_passes : (box : BoxOf) (t : BoxTreeOf) → NodePasses game box (top t)
      → AllPass (children box (top t)) (kids t) → BoxPasses game box t
  tree_passes box (Cut i v at first second) h r = (h, r.0, r.1.0)
  tree_passes box (Empty i mult) h r = h
  tree_passes box (Deviate i x) h r = h

  kid_refused : (k : ℕ) (box : BoxOf) (t : BoxTreeOf) (fault : Fault) → NodePasses game box (top t)
      → OneRefused (k + 1) (children box (top t)) (kids t) fault → IsRefusedBox game k box t fault
  kid_refused k box (Cut i v at first second) fault h r =
      ⊎_elim (λ s. inr (inl (h, s)))
      (λ s. ⊎_elim (λ u. inr (inr (h, s.0, u))) (λ u. absurd u.1) s.1) r
  kid_refused k box (Empty i mult) fault h r = absurd r
  kid_refused k box (Deviate i x) fault h r = absurd r

  node_refused : (k : ℕ) (box : BoxOf) (t : BoxTreeOf) (fault : Fault)
      → NodeRefused game k box (top t) fault → IsRefusedBox game k box t fault
  node_refused k box (Cut i v at first second) fault h = inl h
  node_refused k box (Empty i mult) fault h = h
  node_refused k box (Deviate i x) fault h = h

  kid_count : (box : BoxOf) (t : BoxTreeOf) → length (kids t) ≡ length (children box (top t))
  kid_count box (Cut i v at first second) = refl
  kid_count box (Empty i mult) = refl
  kid_count box (Deviate i x) = refl

  -- k nodes are seen; those that are left are the trees of the boxes that are due, and the whole
  -- tree stands with them
  pub record Walked (whole : BoxTreeOf) (k : ℕ) (nodes : List BNodeOf) (boxes : List BoxOf)
      : Type 0 where
    pub trees : List BoxTreeOf
    pub listed : nodes ≡ forest trees
    pub paired : length trees ≡ length boxes
    pub passes : AllPass boxes trees → BoxPasses game (root_box game) whole
    pub refused : (fault : Fault) → OneRefused k boxes trees fault
        → IsRefusedBox game 0 (root_box game) whole fault

  pub at_start : (whole : BoxTreeOf) (nodes : List BNodeOf) → box_preorder whole ≡ nodes
      → Walked whole 0 nodes (root_box game ∷ [])
  at_start whole nodes e = record {
    trees = whole ∷ [];
    listed = sym e ∙ sym (append-nil (box_preorder whole));
    paired = refl;
    passes = λ h. h.0;
    refused = λ fault h. ⊎_elim (λ (r : IsRefusedBox game 0 (root_box game) whole fault). r)
        (λ (r : BoxPasses game (root_box game) whole × ⊥). absurd r.1) h;
  }

  module _ (whole : BoxTreeOf) (k : ℕ) where
    pub at_end : (boxes : List BoxOf) → Walked whole k [] boxes
        → BoxPasses game (root_box game) whole
    at_end boxes w = done w.trees boxes w.listed w.paired w.passes
      where
        done : (ts : List BoxTreeOf) (boxes : List BoxOf) → [] ≡ forest ts
            → length ts ≡ length boxes → (AllPass boxes ts → BoxPasses game (root_box game) whole)
            → BoxPasses game (root_box game) whole
        done [] [] e l h = h tt
        done [] (box ∷ boxes) e l h = absurd (omega (arith, l))
        done (t ∷ ts) boxes e l h =
            let f : [] ≡ top t ∷ (forest (kids t) ++ forest ts) =
            e ∙ ap (λ (ns : List BNodeOf). ns ++ forest ts) (opened t) in
            absurd cc

    -- where a node is left, a box is due
    pub box_due : (node : BNodeOf) (nodes : List BNodeOf) → Walked whole k (node ∷ nodes) [] → ⊥
    box_due node nodes w = none w.trees w.listed w.paired
      where
        none : (ts : List BoxTreeOf) → node ∷ nodes ≡ forest ts → length ts ≡ 0 → ⊥
        none [] e l = cc
        none (t ∷ ts) e l = omega (arith, l)

    module _ (node : BNodeOf) (nodes : List BNodeOf) (box : BoxOf) (boxes : List BoxOf) where
      pub seen : Walked whole k (node ∷ nodes) (box ∷ boxes) → NodePasses game box node
          → Walked whole (k + 1) nodes (children box node ++ boxes)
      seen w h = next w.trees w.listed w.paired w.passes w.refused
        where
          next : (ts : List BoxTreeOf) → node ∷ nodes ≡ forest ts → length ts ≡ suc (length boxes)
              → (AllPass (box ∷ boxes) ts → BoxPasses game (root_box game) whole)
              → ((fault : Fault) → OneRefused k (box ∷ boxes) ts fault
              → IsRefusedBox game 0 (root_box game) whole fault)
              → Walked whole (k + 1) nodes (children box node ++ boxes)
          next [] e l p r = absurd cc
          next (t ∷ ts) e l p r =
              let a = after_node node nodes t ts e in
              let here : NodePasses game box (top t) = subst (NodePasses game box) a.0 h in
              let n = kid_count box t in
              let on : Walked whole (k + 1) nodes (children box (top t) ++ boxes) = record {
                trees = kids t ++ ts;
                listed = a.1;
                paired = length-append (kids t) ts ∙
                    omega (arith, n, l, length-append (children box (top t)) boxes);
                passes = λ q. let s = parts_pass (children box (top t)) boxes (kids t) ts n q in
                    p (tree_passes box t here s.0, s.1);
                refused = λ fault q.
                    ⊎_elim (λ (s : OneRefused (k + 1) (children box (top t)) (kids t) fault).
                    r fault (inl (kid_refused k box t fault here s)))
                    (λ (s : AllPass (children box (top t)) (kids t)
                    × OneRefused (k + 1 + sizes (kids t)) boxes ts fault).
                    let z : k + 1 + sizes (kids t) ≡ k + box_size t =
                    omega (arith, size_of_kids t) in
                    r fault (inr (tree_passes box t here s.0, rw z at s.1)))
                    (part_refused (k + 1) (children box (top t)) boxes (kids t) ts fault n q);
              } in
              subst (λ (m : BNodeOf). Walked whole (k + 1) nodes (children box m ++ boxes))
              (sym a.0) on

      pub stopped : Walked whole k (node ∷ nodes) (box ∷ boxes) → (fault : Fault)
          → NodeRefused game k box node fault → IsRefusedBox game 0 (root_box game) whole fault
      stopped w fault h = end w.trees w.listed w.refused
        where
          end : (ts : List BoxTreeOf) → node ∷ nodes ≡ forest ts
              → ((fault : Fault) → OneRefused k (box ∷ boxes) ts fault
              → IsRefusedBox game 0 (root_box game) whole fault)
              → IsRefusedBox game 0 (root_box game) whole fault
          end [] e r = absurd cc
          end (t ∷ ts) e r =
              let a = after_node node nodes t ts e in
              r fault (inl (node_refused k box t fault
              (subst (λ (m : BNodeOf). NodeRefused game k box m fault) a.0 h)))
