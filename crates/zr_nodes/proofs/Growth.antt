-- What each call keeps of a forest, and which leaves it closes.
use Rattle.std.proofs.Common.{◌≡◌, ℕ, zero, suc, ◌+◌, ◌^◌, ◌<◌, ◌≤◌, arith, refl, sym, ap, subst, ◌∙◌, List, [], ◌∷◌, length, length-append, replicate, Option, Some, None, ◌⊎◌, ⊎_elim, inl, inr, ◌↔◌}
use Rattle.std.proofs.lemmas.Bool.{ne_eqb, cases_eq, cases_lt}
use Rattle.std.proofs.lemmas.List.{get_or_past, length-replicate}
use Rattle.zr_nodes.specs.Lists.{numbers, without, Has, NoRepeats}
use Rattle.zr_nodes.specs.Forests.{Forest, IsForest, IsTree, IsLeaf, IsClosed, grown, with_left, children, children_from, parent_of}
use Rattle.zr_nodes.proofs.ListLemmas.{has_replaced, replaced_has, replaced_has_new, once_replaced, numbers_within, numbers_has, numbers_once, length-numbers, has_or_lacks}
use Rattle.zr_nodes.proofs.Families.{children_others, children_new, tree_more}

-- a node that no node has as its parent has no children
no_children : (ps : List (Option ℕ)) (k node : ℕ) → ((j : ℕ) → parent_of ps j ≡ Some node → ⊥)
    → children_from k ps node ≡ []
no_children [] k node free = refl
no_children (None ∷ ps) k node free = no_children ps (k + 1) node (λ j. free (suc j))
no_children (Some p ∷ ps) k node free =
    rw (ne_eqb p node (λ e. free 0 (ap Some e))) (no_children ps (k + 1) node (λ j. free (suc j)))

-- numbers beyond the last node have no children
pub childless_beyond : (ps : List (Option ℕ)) (node : ℕ) → IsTree ps → length ps ≤ node
    → children ps node ≡ []
childless_beyond ps node tree beyond = no_children ps 0 node free
  where
    free : (j : ℕ) → parent_of ps j ≡ Some node → ⊥
    free zero e = let bad : None ≡ Some node = sym tree.root ∙ e in cc
    free (suc j) e = go (cases_lt (suc j) (length ps))
      where
        go : (suc j < length ps) ⊎ (length ps ≤ suc j) → ⊥
        go (inl below) =
            let r = tree.above (suc j) (omega arith) below in
            let same : Some r.0 ≡ Some node = sym r.1 ∙ e in
            let is : r.0 ≡ node = cc in
            let small : r.0 < suc j = r.2 in
            omega arith
        go (inr past) = let bad : None ≡ Some node = sym (get_or_past ps (suc j) None past)
            ∙ e in cc

module _ {T : Type 0} where
  -- a leaf of the forest is left to do or was closed
  left_or_closed : (f : Forest T) (k : ℕ) → IsLeaf f k → Has f.left k ⊎ IsClosed f k
  left_or_closed f k leaf =
      ⊎_elim
      (λ (h : Has f.left k). inl h)
      (λ (l : Has f.left k → ⊥). inr (record { leaf = leaf; done = l }))
      (has_or_lacks f.left k)

  -- for how many nodes there is room has no part in what a forest keeps
  pub kept_spare : (f : Forest T) (spare : ℕ) → IsForest f → IsForest (record f { spare = spare })
  kept_spare f spare kept = record {
    tree = kept.tree;
    size = kept.size;
    few = kept.few;
    once = kept.once;
    leaves = λ k h. let leaf = kept.leaves k h in record
        { inside = leaf.inside; childless = leaf.childless };
    all = λ k leaf. left_or_closed (record f { spare = spare }) k leaf;
  }

  pub closed_spare : (f : Forest T) (spare k : ℕ)
      → IsClosed (record f { spare = spare }) k ↔ IsClosed f k
  closed_spare f spare k = (
    λ closed. record {
      leaf = record { inside = closed.leaf.inside; childless = closed.leaf.childless };
      done = closed.done;
    },
    λ closed. record {
      leaf = record { inside = closed.leaf.inside; childless = closed.leaf.childless };
      done = closed.done;
    },
  )

module _ {T : Type 0} (f : Forest T) (kept : IsForest f) where
  -- another list of the same leaves left, or of some of them
  kept_left : (left : List ℕ) → NoRepeats left → ((k : ℕ) → Has left k → Has f.left k)
      → IsForest (with_left f left)
  kept_left left once within = record {
    tree = kept.tree;
    size = kept.size;
    few = kept.few;
    once = once;
    leaves = λ k h. let leaf = kept.leaves k (within k h) in record
        { inside = leaf.inside; childless = leaf.childless };
    all = λ k leaf. left_or_closed (with_left f left) k leaf;
  }

  module _ (node : ℕ) (here : Has f.left node) where
    within_without : (k : ℕ) → Has (without node f.left) k → Has f.left k × (k ≡ node → ⊥)
    within_without k h =
        ⊎_elim
        (λ (b : Has [] k). absurd b)
        (λ (a : Has f.left k × (k ≡ node → ⊥)). a)
        (has_replaced f.left [] node k kept.once h)

    once_without : NoRepeats (without node f.left)
    once_without = once_replaced f.left [] node kept.once tt (λ k b a. b)

    pub kept_without : IsForest (with_left f (without node f.left))
    kept_without = kept_left (without node f.left) once_without (λ k h. (within_without k h).0)

    pub closed_without : (k : ℕ)
        → IsClosed (with_left f (without node f.left)) k ↔ (IsClosed f k ⊎ (k ≡ node))
    closed_without k = (forth, back)
      where
        forth : IsClosed (with_left f (without node f.left)) k → IsClosed f k ⊎ (k ≡ node)
        forth closed =
            ⊎_elim
            (λ (e : k ≡ node). inr e)
            (λ (ne : k ≡ node → ⊥). inl (record {
              leaf = record { inside = closed.leaf.inside; childless = closed.leaf.childless };
              done = λ h. closed.done (replaced_has f.left [] node k h ne);
            }))
            (cases_eq k node)

        back : IsClosed f k ⊎ (k ≡ node) → IsClosed (with_left f (without node f.left)) k
        back (inl closed) = record {
          leaf = record { inside = closed.leaf.inside; childless = closed.leaf.childless };
          done = λ h. closed.done (within_without k h).0;
        }
        back (inr e) =
            let leaf = kept.leaves k (subst (λ v. Has f.left v) (sym e) here) in record {
              leaf = record { inside = leaf.inside; childless = leaf.childless };
              done = λ h. (within_without k h).1 e;
            }

    front_within : (k : ℕ) → Has (node ∷ without node f.left) k → Has f.left k
    front_within k (inl e) = subst (λ v. Has f.left v) (sym e) here
    front_within k (inr h) = (within_without k h).0

    pub kept_front : IsForest (with_left f (node ∷ without node f.left))
    kept_front =
        kept_left (node ∷ without node f.left) (λ h. (within_without node h).1 refl, once_without)
        front_within

    pub closed_front : (k : ℕ)
        → IsClosed (with_left f (node ∷ without node f.left)) k ↔ IsClosed f k
    closed_front k = (forth, back)
      where
        forth : IsClosed (with_left f (node ∷ without node f.left)) k → IsClosed f k
        forth closed = record {
          leaf = record { inside = closed.leaf.inside; childless = closed.leaf.childless };
          done = λ h. closed.done
              (⊎_elim
              (λ (e : k ≡ node). inl e)
              (λ (ne : k ≡ node → ⊥). inr (replaced_has f.left [] node k h ne))
              (cases_eq k node));
        }

        back : IsClosed f k → IsClosed (with_left f (node ∷ without node f.left)) k
        back closed = record {
          leaf = record { inside = closed.leaf.inside; childless = closed.leaf.childless };
          done = λ h. closed.done (front_within k h);
        }

    module _ (items : List T) (some : 0 < length items) where
      inside : node < length f.items
      inside = (kept.leaves node here).inside

      old_or_new : (k : ℕ) → Has (grown f node items).left k
          → Has (numbers (length f.items) (length items)) k ⊎ (Has f.left k × (k ≡ node → ⊥))
      old_or_new k h =
          has_replaced f.left (numbers (length f.items) (length items)) node k kept.once h

      pub children_grown : children (grown f node items).parents node
          ≡ numbers (length f.items) (length items)
      children_grown =
          children_new f.parents node (length items) (kept.leaves node here).childless
          ∙ ap (λ (v : ℕ). numbers v (length items)) kept.size

      pub others_grown : (k : ℕ) → (k ≡ node → ⊥)
          → children (grown f node items).parents k ≡ children f.parents k
      others_grown k ne = children_others f.parents node (length items) k ne

      size_grown : length (grown f node items).items ≡ length f.items + length items
      size_grown = length-append f.items items

      leaves_grown : (k : ℕ) → Has (grown f node items).left k → IsLeaf (grown f node items) k
      leaves_grown k h = go (old_or_new k h)
        where
          go : Has (numbers (length f.items) (length items)) k ⊎ (Has f.left k × (k ≡ node → ⊥))
              → IsLeaf (grown f node items) k
          go (inl new) =
              let w = numbers_within (length f.items) (length items) k new in
              let there : node < length f.items = inside in
              record {
                inside = omega (arith, w.0, w.1, size_grown);
                childless =
                    others_grown k (omega (arith, w.0))
                    ∙ childless_beyond f.parents k kept.tree (omega (arith, w.0, kept.size));
              }
          go (inr old) =
              let leaf = kept.leaves k old.0 in
              let there : k < length f.items = leaf.inside in
              record {
                inside = omega (arith, size_grown);
                childless = others_grown k old.1 ∙ leaf.childless;
              }

      pub kept_grown : length f.items + length items < 2 ^ 32 → IsForest (grown f node items)
      kept_grown few = record {
        tree =
            tree_more f.parents node (length items) kept.tree
            (let there : node < length f.items = inside in omega (arith, kept.size));
        size =
            omega (
              arith,
              size_grown,
              length-append f.parents
                  (replicate (length items) (Some node)),
              length-replicate (length items) (Some node),
              kept.size,
            );
        few = omega (arith, size_grown);
        once =
            once_replaced f.left (numbers (length f.items) (length items)) node kept.once
            (numbers_once (length f.items) (length items))
            (λ k b a.
            let w = numbers_within (length f.items) (length items) k b in
            let there : k < length f.items = (kept.leaves k a).inside in
            omega (arith, w.0));
        leaves = leaves_grown;
        all = λ k leaf. left_or_closed (grown f node items) k leaf;
      }

      pub closed_grown : (k : ℕ) → IsClosed (grown f node items) k ↔ IsClosed f k
      closed_grown k =
          (λ closed. forth closed (cases_eq k node) (cases_lt k (length f.items)), back)
        where
          forth : IsClosed (grown f node items) k → (k ≡ node) ⊎ (k ≡ node → ⊥)
              → (k < length f.items) ⊎ (length f.items ≤ k) → IsClosed f k
          forth closed (inl e) _ =
              let none : numbers (length f.items) (length items) ≡ [] = sym children_grown
              ∙ ap (children (grown f node items).parents) (sym e) ∙ closed.leaf.childless in
              let short : length (numbers (length f.items) (length items)) ≡ 0 = ap length none in
              absurd (omega (arith, length-numbers (length f.items) (length items)))
          forth closed (inr ne) (inl below) = record {
            leaf = record {
              inside = below;
              childless = sym (others_grown k ne)
                  ∙ closed.leaf.childless;
            };
            done =
                λ h. closed.done
                (replaced_has f.left (numbers (length f.items) (length items)) node k h ne);
          }
          forth closed (inr ne) (inr above) =
              let last : k < length (grown f node items).items = closed.leaf.inside in
              let new : Has (numbers (length f.items) (length items)) k =
              numbers_has (length f.items) (length items) k above (omega (arith, size_grown)) in
              absurd (closed.done
              (replaced_has_new f.left (numbers (length f.items) (length items)) node k here
              new))

          back : IsClosed f k → IsClosed (grown f node items) k
          back closed =
              let ne : k ≡ node → ⊥ = λ e. closed.done (subst (λ v. Has f.left v) (sym e) here) in
              let there : k < length f.items = closed.leaf.inside in
              record {
                leaf = record {
                  inside = omega (arith, size_grown);
                  childless = others_grown k ne
                      ∙ closed.leaf.childless;
                };
                done = λ h.
                    ⊎_elim
                    (λ (new : Has (numbers (length f.items) (length items)) k). let w =
                    numbers_within (length f.items) (length items) k new in omega (arith, w.0))
                    (λ (old : Has f.left k × (k ≡ node → ⊥)). closed.done old.0)
                    (old_or_new k h);
              }
