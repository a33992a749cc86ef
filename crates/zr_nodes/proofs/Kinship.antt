-- Each child has its parent, and came after it.
use Rattle.std.proofs.Common.{◌≡◌, ℕ, zero, suc, ◌+◌, ◌<◌, arith, refl, sym, ap, subst, ◌∙◌, List, [], ◌∷◌, length, Option, Some, None, ◌⊎◌, ⊎_elim, inl, inr}
use Rattle.std.specs.Prelude.{IfSome}
use Rattle.std.proofs.lemmas.Bool.{eq-eqb, ne_eqb, cases_eq}
use Rattle.zr_nodes.specs.Lists.{first, after, Has}
use Rattle.zr_nodes.specs.Forests.{Forest, IsForest, IsChild, IsNextSibling, children_from, children, children_of, parent_of, siblings}
use Rattle.zr_nodes.proofs.ListLemmas.{first_has, after_has, after_behind}

-- the children among the nodes from number k on
child_here : (p node k : ℕ) (ps : List (Option ℕ)) → p ≡ node
    → children_from k (Some p ∷ ps) node ≡ k ∷ children_from (k + 1) ps node
child_here p node k ps e = rw (eq-eqb p node e) refl

child_later : (p node k : ℕ) (ps : List (Option ℕ)) → (p ≡ node → ⊥)
    → children_from k (Some p ∷ ps) node ≡ children_from (k + 1) ps node
child_later p node k ps ne = rw (ne_eqb p node ne) refl

child_from : (ps : List (Option ℕ)) (k node c : ℕ) → Has (children_from k ps node) c
    → (i : ℕ) × (c ≡ k + i) × (i < length ps) × (parent_of ps i ≡ Some node)
child_from [] k node c h = absurd h
child_from (None ∷ ps) k node c h =
    let r = child_from ps (k + 1) node c h in
    let e : c ≡ (k + 1) + r.0 = r.1 in
    let l : r.0 < length ps = r.2 in
    (suc r.0, omega arith, omega arith, r.3)
child_from (Some p ∷ ps) k node c h = go (cases_eq p node) h (child_from ps (k + 1) node c)
  where
    further : (i : ℕ) × (c ≡ (k + 1) + i) × (i < length ps) × (parent_of ps i ≡ Some node)
        → (i : ℕ) × (c ≡ k + i) × (i < suc (length ps)) × (parent_of (Some p ∷ ps) i ≡ Some node)
    further r =
        let e : c ≡ (k + 1) + r.0 = r.1 in
        let l : r.0 < length ps = r.2 in
        (suc r.0, omega arith, omega arith, r.3)

    go : (p ≡ node) ⊎ (p ≡ node → ⊥) → Has (children_from k (Some p ∷ ps) node) c
        → (Has (children_from (k + 1) ps node) c
        → (i : ℕ) × (c ≡ (k + 1) + i) × (i < length ps) × (parent_of ps i ≡ Some node))
        → (i : ℕ) × (c ≡ k + i) × (i < suc (length ps)) × (parent_of (Some p ∷ ps) i ≡ Some node)
    go (inl e) has before =
        ⊎_elim
        (λ (q : c ≡ k). (0, omega arith, omega arith, ap Some e))
        (λ (r : Has (children_from (k + 1) ps node) c). further (before r))
        (subst (λ v. Has v c) (child_here p node k ps e) has)
    go (inr ne) has before =
        further (before (subst (λ v. Has v c) (child_later p node k ps ne) has))

pub child_is : (ps : List (Option ℕ)) (node c : ℕ) → Has (children ps node) c
    → (c < length ps) × (parent_of ps c ≡ Some node)
child_is ps node c h =
    let r = child_from ps 0 node c h in
    let e : r.0 ≡ c = let q : c ≡ 0 + r.0 = r.1 in omega arith in
    (subst (λ (v : ℕ). v < length ps) e r.2, subst (λ (v : ℕ). parent_of ps v ≡ Some node) e r.3)

-- children stand in the order of their numbers
after_rises : (ps : List (Option ℕ)) (k node x y : ℕ) → after x (children_from k ps node) ≡ Some y
    → x < y
after_rises [] k node x y e = cc
after_rises (None ∷ ps) k node x y e = after_rises ps (k + 1) node x y e
after_rises (Some p ∷ ps) k node x y e =
    go (cases_eq p node) (cases_eq x k) (after_rises ps (k + 1) node x y)
  where
    rest : List ℕ
    rest = children_from (k + 1) ps node

    go : (p ≡ node) ⊎ (p ≡ node → ⊥) → (x ≡ k) ⊎ (x ≡ k → ⊥)
        → (after x (children_from (k + 1) ps node) ≡ Some y → x < y) → x < y
    go (inl same) (inl here) _ =
        let after_k : after x (k ∷ children_from (k + 1) ps node)
        ≡ Some y = sym (ap (after x) (child_here p node k ps same)) ∙ e in
        let begins : first (children_from (k + 1) ps node)
        ≡ Some y = rw (eq-eqb x k here) at after_k in
        let r = child_from ps (k + 1) node y (first_has (children_from (k + 1) ps node) y begins) in
        let q : y ≡ (k + 1) + r.0 = r.1 in
        omega arith
    go (inl same) (inr other) before =
        let after_k : after x (k ∷ children_from (k + 1) ps node)
        ≡ Some y = sym (ap (after x) (child_here p node k ps same)) ∙ e in
        before (sym (after_behind x k (children_from (k + 1) ps node) other) ∙ after_k)
    go (inr ne) _ before = before (sym (ap (after x) (child_later p node k ps ne)) ∙ e)

module _ {T : Type 0} (f : Forest T) (kept : IsForest f) where
  pub is_child : (c node : ℕ) → c < length f.items → parent_of f.parents c ≡ Some node
      → IsChild f c node
  is_child zero node inside e = let bad : None ≡ Some node = sym kept.tree.root ∙ e in cc
  is_child (suc c) node inside e =
      let r = kept.tree.above (suc c) (omega arith) (omega (arith, kept.size)) in
      let same : Some r.0 ≡ Some node = sym r.1 ∙ e in
      let is : r.0 ≡ node = cc in
      record { inside = inside; parent = e; later = subst (λ (v : ℕ). v < suc c) is r.2 }

  pub parent_child : (node : ℕ) (r : Option ℕ) → node < length f.items
      → r ≡ parent_of f.parents node → IfSome r (λ parent. IsChild f node parent)
  parent_child node None inside e = tt
  parent_child node (Some p) inside e = is_child node p inside (sym e)

  pub first_is_child : (node : ℕ) (r : Option ℕ) → r ≡ first (children f.parents node)
      → IfSome r (λ child. IsChild f child node)
  first_is_child node None e = tt
  first_is_child node (Some c) e =
      let r = child_is f.parents node c (first_has (children f.parents node) c (sym e)) in
      is_child c node (omega (arith, r.0, kept.size)) r.1

  pub next_is_sibling : (node : ℕ) (r : Option ℕ) → r ≡ after node (siblings f.parents node)
      → IfSome r (λ other. IsNextSibling f other node)
  next_is_sibling node None e = tt
  next_is_sibling node (Some c) e = go (parent_of f.parents node) refl e
    where
      go : (q : Option ℕ) → parent_of f.parents node ≡ q
          → Some c ≡ after node (children_of f.parents q) → IsNextSibling f c node
      go None _ none = cc
      go (Some p) is found =
          let r = child_is f.parents p c (after_has (children f.parents p) node c (sym found)) in
          record {
            inside = omega (arith, r.0, kept.size);
            parent = r.1 ∙ sym is;
            later = after_rises f.parents 0 p node c (sym found);
          }

  -- the leaves that the list gives are leaves left
  pub listed_inside : (r : Option ℕ) → IfSome r (Has f.left)
      → IfSome r (λ leaf. leaf < length f.items)
  listed_inside None h = tt
  listed_inside (Some k) h = (kept.leaves k h).inside

  pub first_listed : (r : Option ℕ) → r ≡ first f.left → IfSome r (Has f.left)
  first_listed None e = tt
  first_listed (Some k) e = first_has f.left k (sym e)

  pub after_listed : (node : ℕ) (r : Option ℕ) → r ≡ after node f.left → IfSome r (Has f.left)
  after_listed node None e = tt
  after_listed node (Some k) e = after_has f.left node k (sym e)
