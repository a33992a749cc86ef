-- The links of a tree spell out its nodes' children, also once a leaf gets children.
use Rattle.std.proofs.Common.{◌≡◌, ℕ, zero, suc, ◌+◌, ◌-◌, ◌<◌, ◌≤◌, arith, refl, sym, ap, subst, ◌∙◌, Bool, true, false, List, [], ◌∷◌, ◌++◌, append-nil, append_assoc, set, length, length-append, replicate, get_or, Option, Some, None, ◌⊎◌, ⊎_elim, inl, inr, if◌then◌else◌}
use Rattle.std.specs.Prelude.{◌==◌}
use Rattle.std.proofs.lemmas.Bool.{eq-eqb, ne_eqb, cases_eq, cases_lt}
use Rattle.std.proofs.lemmas.List.{get_or_append_left, get_or-append-add, get_or-set_same, get_or-set_other, get_or-replicate, get_or_past, get_or_default, length-map, map-append, length-replicate}
use Rattle.std.proofs.Math.Seq.{map-set_same}
use Rattle.zr_nodes.specs.Lists.{numbers, first, after}
use Rattle.zr_nodes.specs.Forests.{is_node, children_from, children, children_of, parent_of, siblings, IsTree}
use Rattle.zr_nodes.specs.Kin.{alone, branch_at, parents_of, IsKin, brood}
use Rattle.zr_nodes.specs.declared.branches.Branch.{Branch}
use Rattle.zr_nodes.proofs.ListLemmas.{numbers_within, first_or-numbers, after_outside, after_behind}

-- what was added to the old nodes, with what is left to add, is the whole brood
pub record Bearing (old now : List Branch) (node start from count left : ℕ) : Type 0 where
  pub shape : now ++ brood node from left ≡ old ++ brood node start count

pub bearing_start : (old : List Branch) (node start count left : ℕ) → left ≡ count
    → Bearing old old node start start count left
bearing_start old node start count left e = rw e (record { shape = refl })

pub bearing_step : (old now : List Branch) (node start from count left rest : ℕ) (next : Option ℕ)
    → left ≡ suc rest → next ≡ first (numbers (from + 1) rest)
    → Bearing old now node start from count left
    → Bearing old
    (now ++ record { parent = Some node; first_child = None; next_sibling = next } ∷ []) node start
    (from + 1) count rest
bearing_step old now node start from count left rest next e is bearing = record {
  shape = rw (append_assoc, is) (rw e at bearing.shape);
}

pub bearing_end : (old now : List Branch) (node start from count left : ℕ) → left ≡ 0
    → Bearing old now node start from count left → now ++ [] ≡ old ++ brood node start count
bearing_end old now node start from count left e bearing = rw e at bearing.shape

-- the children among two lists of nodes
children_from-append : (xs ys : List (Option ℕ)) (k node : ℕ)
    → children_from k (xs ++ ys) node
    ≡ children_from k xs node ++ children_from (k + length xs) ys node
children_from-append [] ys k node = let e : k + 0 ≡ k = omega arith in rw e refl
children_from-append (x ∷ xs) ys k node =
    let e : k + suc (length xs) ≡ (k + 1) + length xs = omega arith in
    rw e (go (is_node x node) (children_from-append xs ys (k + 1) node))
  where
    go : (b : Bool)
        → children_from (k + 1) (xs ++ ys) node
        ≡ children_from (k + 1) xs node ++ children_from ((k + 1) + length xs) ys node
        → (if b then k ∷ children_from (k + 1) (xs ++ ys) node else children_from (k + 1) (xs ++ ys)
        node) ≡ (if b then k ∷ children_from (k + 1) xs node else children_from (k + 1) xs node) ++
        children_from ((k + 1) + length xs) ys node
    go true rest = ap (λ v. k ∷ v) rest
    go false rest = rest

children_from-replicate : (count k parent node : ℕ)
    → children_from k (replicate count (Some parent)) node
    ≡ (if parent == node then numbers k count else [])
children_from-replicate zero k parent node =
    elim (parent == node) as (λ b. ◌≡◌ {A = List ℕ} [] (if b then [] else []))
    [ true ↦ refl | false ↦ refl ]
children_from-replicate (suc count) k parent node =
    go (parent == node) (children_from (k + 1) (replicate count (Some parent)) node)
    (children_from-replicate count (k + 1) parent node)
  where
    go : (b : Bool) (rest : List ℕ) → rest ≡ (if b then numbers (k + 1) count else [])
        → (if b then k ∷ rest else rest) ≡ (if b then k ∷ numbers (k + 1) count else [])
    go true rest e = ap (λ v. k ∷ v) e
    go false rest e = e

-- a leaf got so many children, the newest nodes
module _ (ps : List (Option ℕ)) (node count : ℕ) where
  children_more : (k : ℕ)
      → children (ps ++ replicate count (Some node)) k
      ≡ children ps k ++ (if node == k then numbers (length ps) count else [])
  children_more k =
      let e : 0 + length ps ≡ length ps = omega arith in
      children_from-append ps (replicate count (Some node)) 0 k
      ∙ ap (λ v. children ps k ++ v)
      (ap (λ (v : ℕ). children_from v (replicate count (Some node)) k) e
      ∙ children_from-replicate count (length ps) node k)

  pub children_others : (k : ℕ) → (k ≡ node → ⊥)
      → children (ps ++ replicate count (Some node)) k ≡ children ps k
  children_others k ne =
      children_more k ∙ rw (ne_eqb node k (λ e. ne (sym e))) (append-nil (children ps k))

  pub children_new : children ps node ≡ []
      → children (ps ++ replicate count (Some node)) node ≡ numbers (length ps) count
  children_new childless = children_more node ∙ rw (eq-eqb node node refl, childless) refl

  pub parent_before : (k : ℕ) → k < length ps
      → parent_of (ps ++ replicate count (Some node)) k ≡ parent_of ps k
  parent_before k below = get_or_append_left ps (replicate count (Some node)) None k below

  pub parent_new : (j : ℕ) → j < count
      → parent_of (ps ++ replicate count (Some node)) (length ps + j) ≡ Some node
  parent_new j below =
      get_or-append-add ps (replicate count (Some node)) j None
      ∙ get_or-replicate count j (Some node) None below

  -- a new node's siblings are the new ones, and an old node's are as before
  after_siblings_before : (k : ℕ) → children ps node ≡ [] → k < length ps
      → after k (siblings (ps ++ replicate count (Some node)) k) ≡ after k (siblings ps k)
  after_siblings_before k childless below =
      ap (λ v. after k (children_of (ps ++ replicate count (Some node)) v)) (parent_before k below)
      ∙ go (parent_of ps k)
    where
      go : (q : Option ℕ)
          → after k (children_of (ps ++ replicate count (Some node)) q) ≡ after k (children_of ps q)
      go None = refl
      go (Some p) =
          ⊎_elim
          (λ (e : p ≡ node).
          let new : after k (numbers (length ps) count)
          ≡ None = after_outside (numbers (length ps) count) k
          (λ h. let above = numbers_within (length ps) count k h in omega (arith, above.0)) in
          rw (e, children_new childless, childless) new)
          (λ (ne : p ≡ node → ⊥). ap (after k) (children_others p ne))
          (cases_eq p node)

  after_siblings_new : (j : ℕ) → children ps node ≡ []
      → after (length ps + j) (siblings (ps ++ replicate count (Some node)) (length ps + j))
      ≡ after (length ps + j) (numbers (length ps) count)
  after_siblings_new j childless = go (cases_lt j count)
    where
      beyond : (n i : ℕ) (x : Option ℕ) → n ≤ i → get_or (replicate n x) i None ≡ None
      beyond zero i x h = refl
      beyond (suc n) zero x h = absurd (omega arith)
      beyond (suc n) (suc i) x h = beyond n i x (omega arith)

      go : (j < count) ⊎ (count ≤ j)
          → after (length ps + j) (siblings (ps ++ replicate count (Some node)) (length ps + j))
          ≡ after (length ps + j) (numbers (length ps) count)
      go (inl below) =
          ap (λ v. after (length ps + j) (children_of (ps ++ replicate count (Some node)) v))
          (parent_new j below)
          ∙ ap (after (length ps + j)) (children_new childless)
      go (inr above) =
          let none : parent_of (ps ++ replicate count (Some node)) (length ps + j)
          ≡ None = get_or-append-add ps (replicate count (Some node)) j None
          ∙ beyond count j (Some node) above in
          ap (λ v. after (length ps + j) (children_of (ps ++ replicate count (Some node)) v)) none
          ∙ sym (after_outside (numbers (length ps) count) (length ps + j)
          (λ h. let within =
          numbers_within (length ps) count (length ps + j) h in omega (arith, within.1)))

  pub tree_more : IsTree ps → node < length ps → IsTree (ps ++ replicate count (Some node))
  tree_more tree inside = record {
    some = omega (arith, length-append ps (replicate count (Some node)));
    root = parent_before 0 tree.some ∙ tree.root;
    above = λ k positive within. go k positive within (cases_lt k (length ps));
  }
    where
      go : (k : ℕ) → 0 < k → k < length (ps ++ replicate count (Some node))
          → (k < length ps) ⊎ (length ps ≤ k)
          → (parent : ℕ) × (parent_of (ps ++ replicate count (Some node)) k ≡ Some parent)
          × (parent < k)
      go k positive within (inl below) =
          let r = tree.above k positive below in (r.0, parent_before k below ∙ r.1, r.2)
      go k positive within (inr above) =
          let e : k ≡ length ps + (k - length ps) = omega arith in
          let small : k - length ps < count =
          omega (
            arith,
            length-append ps (replicate count (Some node)),
            length-replicate count
                (Some node),
          ) in (
            node,
            ap (parent_of (ps ++ replicate count (Some node))) e
                ∙ parent_new (k - length ps) small,
            omega arith,
          )

-- the links of new children
brood_first : (count from j node : ℕ) → (branch_at (brood node from count) j).first_child ≡ None
brood_first zero from j node = refl
brood_first (suc count) from zero node = refl
brood_first (suc count) from (suc j) node = brood_first count (from + 1) j node

brood_next : (count from j node : ℕ)
    → (branch_at (brood node from count) j).next_sibling ≡ after (from + j) (numbers from count)
brood_next zero from j node = refl
brood_next (suc count) from zero node = rw (eq-eqb (from + 0) from (omega arith)) refl
brood_next (suc count) from (suc j) node =
    let e : (from + 1) + j ≡ from + suc j = omega arith in
    brood_next count (from + 1) j node
    ∙ ap (λ (v : ℕ). after v (numbers (from + 1) count)) e
    ∙ sym (after_behind (from + suc j) from (numbers (from + 1) count) (omega arith))

pub brood_parents : (count from node : ℕ)
    → parents_of (brood node from count) ≡ replicate count (Some node)
brood_parents zero from node = refl
brood_parents (suc count) from node = ap (λ v. Some node ∷ v) (brood_parents count (from + 1) node)

-- the links after a leaf got children
pub kin_borne : (old new : List Branch) (node count : ℕ) → IsKin old → node < length old
    → children (parents_of old) node ≡ [] → 0 < count
    → parents_of new ≡ parents_of old ++ replicate count (Some node)
    → (branch_at new node).first_child ≡ Some (length old)
    → (branch_at new node).next_sibling ≡ (branch_at old node).next_sibling
    → ((k : ℕ) → (k ≡ node → ⊥)
    → branch_at new k ≡ branch_at (old ++ brood node (length old) count) k) → IsKin new
kin_borne old new node count kin inside childless some parents is_first is_next others = record {
  tree =
      subst (λ v. IsTree v) (sym parents)
      (tree_more (parents_of old) node count kin.tree (omega (arith, size)));
  first_child = λ k. first_is k (cases_eq k node) (cases_lt k (length old))
      ∙ ap (λ v. first (children v k)) (sym parents);
  next_sibling = λ k. next_is k (cases_lt k (length old))
      ∙ ap (λ v. after k (siblings v k)) (sym parents);
}
  where
    size : length (parents_of old) ≡ length old
    size = length-map old (λ b. b.parent)

    more : List (Option ℕ)
    more = parents_of old ++ replicate count (Some node)

    at_new : (k : ℕ) → length old ≤ k
        → branch_at new k ≡ branch_at (brood node (length old) count) (k - length old)
    at_new k above =
        let e : k ≡ length old + (k - length old) = omega arith in
        others k (omega arith) ∙ ap (branch_at (old ++ brood node (length old) count)) e
        ∙ get_or-append-add old (brood node (length old) count) (k - length old) alone

    beyond : (k : ℕ) → length old ≤ k → branch_at old k ≡ alone
    beyond k above = get_or_past old k alone above

    first_is : (k : ℕ) → (k ≡ node) ⊎ (k ≡ node → ⊥) → (k < length old) ⊎ (length old ≤ k)
        → (branch_at new k).first_child
        ≡ first (children (parents_of old ++ replicate count (Some node)) k)
    first_is k (inl e) _ =
        rw e
        (is_first
        ∙ sym
        (ap first (children_new (parents_of old) node count childless)
        ∙ first_or-numbers (length (parents_of old)) count None some ∙ ap Some size))
    first_is k (inr ne) (inl below) =
        ap (λ b. b.first_child) (others k ne
        ∙ get_or_append_left old (brood node (length old) count) alone k below)
        ∙ kin.first_child k
        ∙ ap first (sym (children_others (parents_of old) node count k ne))
    first_is k (inr ne) (inr above) =
        ap (λ b. b.first_child) (at_new k above)
        ∙ brood_first count (length old) (k - length old) node
        ∙ sym (ap (λ b. b.first_child) (beyond k above))
        ∙ kin.first_child k
        ∙ ap first (sym (children_others (parents_of old) node count k ne))

    next_below : (k : ℕ) → (k ≡ node) ⊎ (k ≡ node → ⊥) → k < length old
        → (branch_at new k).next_sibling ≡ (branch_at old k).next_sibling
    next_below k (inl e) below = rw e is_next
    next_below k (inr ne) below =
        ap (λ b. b.next_sibling) (others k ne
        ∙ get_or_append_left old (brood node (length old) count) alone k below)

    next_is : (k : ℕ) → (k < length old) ⊎ (length old ≤ k)
        → (branch_at new k).next_sibling
        ≡ after k (siblings (parents_of old ++ replicate count (Some node)) k)
    next_is k (inl below) =
        next_below k (cases_eq k node) below
        ∙ kin.next_sibling k
        ∙ sym (after_siblings_before (parents_of old) node count k childless (omega (arith, size)))
    next_is k (inr above) =
        let e : k ≡ length (parents_of old) + (k - length old) = omega (arith, size) in
        ap (λ b. b.next_sibling) (at_new k above)
        ∙ brood_next count (length old) (k - length old) node
        ∙ ap (λ (v : ℕ). after (v + (k - length old)) (numbers v count)) (sym size)
        ∙ sym (after_siblings_new (parents_of old) node count (k - length old) childless)
        ∙ ap (λ (v : ℕ). after v (siblings (parents_of old ++ replicate count (Some node)) v))
        (sym e)

-- a branch whose first child was written
abbrev pub written : Branch → ℕ → Branch
written b child = record
    { parent = b.parent; first_child = Some child; next_sibling = b.next_sibling }

-- the same where the node's first child was written
pub kin_written : (old pushed : List Branch) (node i count size child : ℕ) (b : Branch) → IsKin old
    → node < length old → children (parents_of old) node ≡ [] → 0 < count → size ≡ length old
    → pushed ≡ old ++ brood node size count → i ≡ node → child ≡ size → b ≡ get_or pushed i b
    → IsKin (set pushed i (written b child)) × (parents_of (set pushed i (written b child))
    ≡ parents_of old ++ replicate count (Some node))
kin_written old pushed node i count size child b kin inside childless some size_is pushed_is i_is
    child_is b_is = (
      kin_borne old (set pushed i (written b child)) node count kin inside childless some parents
          (ap (λ v. v.first_child) at_node ∙ ap Some (child_is ∙ size_is))
          (ap (λ v. v.next_sibling) at_node
          ∙ ap (λ v. v.next_sibling) (b_at ∙ ap (λ (v : ℕ). branch_at pushed v) i_is ∙ old_place))
          others,
      parents,
    )
  where
    longer : node < length pushed
    longer =
        let e : length pushed ≡ length (old ++ brood node size count) = ap length pushed_is in
        omega (arith, e, length-append old (brood node size count))

    b_at : b ≡ branch_at pushed i
    b_at = let w : node < length pushed = longer in b_is
        ∙ get_or_default pushed i b alone (omega arith)

    old_place : branch_at pushed node ≡ branch_at old node
    old_place =
        ap (λ v. branch_at v node) pushed_is
        ∙ get_or_append_left old (brood node size count) alone node inside

    at_node : branch_at (set pushed i (written b child)) node ≡ written b child
    at_node =
        let w : node < length pushed = longer in
        ap (λ (v : ℕ). branch_at (set pushed v (written b child)) node) i_is
        ∙ get_or-set_same pushed node (written b child) alone w

    parents : parents_of (set pushed i (written b child))
        ≡ parents_of old ++ replicate count (Some node)
    parents =
        map-set_same (λ v. v.parent) pushed i (written b child) alone (ap (λ v. v.parent) b_at)
        ∙ ap parents_of pushed_is
        ∙ map-append (λ v. v.parent) old (brood node size count)
        ∙ ap (λ v. parents_of old ++ v) (brood_parents count size node)

    others : (k : ℕ) → (k ≡ node → ⊥)
        → branch_at (set pushed i (written b child)) k
        ≡ branch_at (old ++ brood node (length old) count) k
    others k ne =
        get_or-set_other pushed i k (written b child) alone (λ e. ne (e ∙ i_is))
        ∙ ap (λ v. branch_at v k) pushed_is
        ∙ ap (λ (v : ℕ). branch_at (old ++ brood node v count) k) size_is
