-- What the nodes seen so far, and the paths that are still due, say of the whole tree.
use Rattle.std.proofs.Common.{◌≡◌, ℕ, zero, suc, ◌+◌, ◌<◌, arith, refl, sym, ap, subst, ◌∙◌, List, [], ◌∷◌, ◌++◌, length, length-append, map, slice_index_or, append_assoc, ◌⊎◌, ⊎_elim, inl, inr}
use Rattle.std.proofs.lemmas.List.{append-nil}
use Rattle.zr_game.specs.Players.{GameOf}
use Rattle.zr_game.specs.declared.choice.Choice.{Choice}
use Rattle.zr_game.specs.declared.choice.Choice.TheVariants as AChoice
use Rattle.zr_game.specs.declared.kind.Kind.{Kind}
use Rattle.zr_tree.specs.declared.fault.Fault.{Fault}
use Rattle.zr_cases.specs.Cases.{RNodeOf, OnOffNode, RowNode, WhichNode, CloseNode}
use Rattle.zr_cases.specs.Trees.{CasesOf, OnOff, RowSplit, Which, Close, lists_below, preorder}
use Rattle.zr_system.specs.Regions.{LeavesOf, RegionOf, leaf_count}
use Rattle.zr_refute.specs.Refuting.{leaf_counts, then_choice}
use Rattle.zr_refute.specs.Steps.{IsRefused, Passes, size, sizes}
use Rattle.zr_refute.specs.Visits.{NodePasses, NodeRefused}
use Rattle.zr_refute.specs.Walks.{children, whiches}

-- the first n trees
abbrev pub trees_to : ℕ → (ℕ → CasesOf) → List CasesOf
trees_to zero f = []
trees_to (suc n) f = f 0 ∷ trees_to n (λ k. f (suc k))

-- how many leaves a player has, by the list of these numbers
pub count_is : (regions : List (List RegionOf)) (i : ℕ)
    → slice_index_or (map (λ list. length list) regions) i 0 ≡ length (slice_index_or regions i [])
count_is [] i = refl
count_is (r ∷ rs) zero = refl
count_is (r ∷ rs) (suc i) = count_is rs i

module _ (game : GameOf) (leaves : LeavesOf) (kind : Kind) where
  abbrev nodes_of : CasesOf → List RNodeOf
  nodes_of t = preorder (leaf_counts leaves) t

  abbrev top : CasesOf → RNodeOf
  top (OnOff i k on off) = OnOffNode i k
  top (RowSplit i k s at_zero at_tight) = RowNode i k s
  top (Which i trees) = WhichNode i
  top (Close mult) = CloseNode mult

  abbrev kids : CasesOf → List CasesOf
  kids (OnOff i k on off) = on ∷ off ∷ []
  kids (RowSplit i k s at_zero at_tight) = at_zero ∷ at_tight ∷ []
  kids (Which i trees) = trees_to (leaf_count leaves i) trees
  kids (Close mult) = []

  -- the nodes of trees, one after another
  abbrev pub forest : List CasesOf → List RNodeOf
  forest [] = []
  forest (t ∷ ts) = nodes_of t ++ forest ts

  forest_join : (us ts : List CasesOf) → forest (us ++ ts) ≡ forest us ++ forest ts
  forest_join [] ts = refl
  forest_join (u ∷ us) ts =
      ap (λ ns. nodes_of u ++ ns) (forest_join us ts)
      ∙ sym (append_assoc (nodes_of u) (forest us) (forest ts))

  forest_to : (n : ℕ) (f : ℕ → CasesOf)
      → lists_below n (λ k. nodes_of (f k)) ≡ forest (trees_to n f)
  forest_to zero f = refl
  forest_to (suc n) f = ap (λ ns. nodes_of (f 0) ++ ns) (forest_to n (λ k. f (suc k)))

  opened : (t : CasesOf) → nodes_of t ≡ top t ∷ forest (kids t)
  opened (OnOff i k on off) =
      ap (λ ns. OnOffNode i k ∷ (nodes_of on ++ ns)) (sym (append-nil (nodes_of off)))
  opened (RowSplit i k s at_zero at_tight) =
      ap (λ ns. RowNode i k s ∷ (nodes_of at_zero ++ ns)) (sym (append-nil (nodes_of at_tight)))
  opened (Which i trees) =
      ap (λ (n : ℕ). WhichNode i ∷ lists_below n (λ k. nodes_of (trees k)))
      (count_is leaves.regions i)
      ∙ ap (λ ns. WhichNode i ∷ ns) (forest_to (leaf_count leaves i) trees)
  opened (Close mult) = refl

  abbrev Pass : List Choice → CasesOf → Type 0
  Pass path t = Passes game leaves kind path t

  abbrev Refused : ℕ → List Choice → CasesOf → Fault → Type 0
  Refused n path t fault = IsRefused game leaves kind n path t fault

  -- each tree passes under its path
  abbrev pub AllPass : List (List Choice) → List CasesOf → Type 0
  AllPass [] [] = Unit {0}
  AllPass [] (t ∷ ts) = ⊥
  AllPass (path ∷ paths) [] = ⊥
  AllPass (path ∷ paths) (t ∷ ts) = Pass path t × AllPass paths ts

  -- the trees before one pass, and that one, whose nodes are numbered on from n, is refused
  abbrev pub OneRefused : ℕ → List (List Choice) → List CasesOf → Fault → Type 0
  OneRefused n [] [] fault = ⊥
  OneRefused n [] (t ∷ ts) fault = ⊥
  OneRefused n (path ∷ paths) [] fault = ⊥
  OneRefused n (path ∷ paths) (t ∷ ts) fault =
      Refused n path t fault ⊎ (Pass path t × OneRefused (n + size leaves t) paths ts fault)

  parts_pass : (xs ys : List (List Choice)) (us vs : List CasesOf) → length us ≡ length xs
      → AllPass (xs ++ ys) (us ++ vs) → AllPass xs us × AllPass ys vs
  parts_pass [] ys [] vs l h = (tt, h)
  parts_pass [] ys (u ∷ us) vs l h = absurd (omega (arith, l))
  parts_pass (x ∷ xs) ys [] vs l h = absurd (omega (arith, l))
  parts_pass (x ∷ xs) ys (u ∷ us) vs l h =
      let r = parts_pass xs ys us vs (omega (arith, l)) h.1 in ((h.0, r.0), r.1)

  part_refused : (n : ℕ) (xs ys : List (List Choice)) (us vs : List CasesOf) (fault : Fault)
      → length us ≡ length xs → OneRefused n (xs ++ ys) (us ++ vs) fault
      → OneRefused n xs us fault
      ⊎ (AllPass xs us × OneRefused (n + length (forest us)) ys vs fault)
  part_refused n [] ys [] vs fault l h =
      let e : n + 0 ≡ n = omega arith in inr (tt, rw e h)
  part_refused n [] ys (u ∷ us) vs fault l h = absurd (omega (arith, l))
  part_refused n (x ∷ xs) ys [] vs fault l h = absurd (omega (arith, l))
  part_refused n (x ∷ xs) ys (u ∷ us) vs fault l h =
      ⊎_elim (λ (r : Refused n x u fault). inl (inl r))
      (λ (r : Pass x u × OneRefused (n + size leaves u) (xs ++ ys) (us ++ vs) fault).
      ⊎_elim (λ (s : OneRefused (n + size leaves u) xs us fault). inl (inr (r.0, s)))
      (λ (s : AllPass xs us × OneRefused (n + size leaves u + length (forest us)) ys vs fault).
      let a = length-append (nodes_of u) (forest us) in
      let e : n + length (nodes_of u ++ forest us) ≡ n + size leaves u + length (forest us) =
      omega (arith, a) in inr ((r.0, s.0), rw e s.1))
      (part_refused (n + size leaves u) xs ys us vs fault (omega (arith, l)) r.1)) h

  -- of the trees of a choice among leaves
  module _ (path : List Choice) (i : ℕ) where
    which_passes : (n j : ℕ) (f : ℕ → CasesOf) → AllPass (whiches path i j n) (trees_to n f)
        → (k : ℕ) → k < n → Pass (then_choice path (AChoice.Which i (j + k))) (f k)
    which_passes zero j f h k b = absurd (omega arith)
    which_passes (suc n) j f h zero b =
        let e : j ≡ j + 0 = omega arith in
        subst (λ (l : ℕ). Pass (then_choice path (AChoice.Which i l)) (f 0)) e h.0
    which_passes (suc n) j f h (suc k) b =
        let e : suc j + k ≡ j + suc k = omega arith in
        subst (λ (l : ℕ). Pass (then_choice path (AChoice.Which i l)) (f (suc k))) e
        (which_passes n (suc j) (λ l. f (suc l)) h.1 k (omega (arith, b)))

    -- the first of them that is refused
    abbrev FirstRefused : ℕ → ℕ → ℕ → (ℕ → CasesOf) → Fault → Type 0
    FirstRefused m n j f fault = (k : ℕ) × (k < n)
        × ((l : ℕ) → l < k → Pass (then_choice path (AChoice.Which i (j + l))) (f l))
        × Refused (m + sizes leaves f k) (then_choice path (AChoice.Which i (j + k))) (f k) fault

    which_refused : (m n j : ℕ) (f : ℕ → CasesOf) (fault : Fault)
        → OneRefused m (whiches path i j n) (trees_to n f) fault → FirstRefused m n j f fault
    which_refused m zero j f fault h = absurd h
    which_refused m (suc n) j f fault h =
        ⊎_elim (λ (r : Refused m (then_choice path (AChoice.Which i j)) (f 0) fault). here r)
        (λ (r : Pass (then_choice path (AChoice.Which i j)) (f 0)
        × OneRefused (m + size leaves (f 0)) (whiches path i (suc j) n)
        (trees_to n (λ k. f (suc k))) fault). there r.0
        (which_refused (m + size leaves (f 0)) n (suc j) (λ k. f (suc k)) fault r.1)) h
      where
        here : Refused m (then_choice path (AChoice.Which i j)) (f 0) fault
            → FirstRefused m (suc n) j f fault
        here r =
            let e : j ≡ j + 0 = omega arith in
            let d : m ≡ m + 0 = omega arith in (
              0,
              omega arith,
              λ l b. absurd (omega (arith, b)),
              subst (λ (a : ℕ). Refused (m + 0) (then_choice path (AChoice.Which i a)) (f 0) fault)
                  e (subst (λ (a : ℕ). Refused a (then_choice path (AChoice.Which i j)) (f 0)
                  fault) d r),
            )

        before : (r : FirstRefused (m + size leaves (f 0)) n (suc j) (λ k. f (suc k)) fault)
            → Pass (then_choice path (AChoice.Which i j)) (f 0) → (l : ℕ) → l < suc r.0
            → Pass (then_choice path (AChoice.Which i (j + l))) (f l)
        before r p zero b =
            let e : j ≡ j + 0 = omega arith in
            subst (λ (a : ℕ). Pass (then_choice path (AChoice.Which i a)) (f 0)) e p
        before r p (suc l) b =
            let e : suc j + l ≡ j + suc l = omega arith in
            subst (λ (a : ℕ). Pass (then_choice path (AChoice.Which i a)) (f (suc l))) e
            (r.2 l (omega (arith, b)))

        there : Pass (then_choice path (AChoice.Which i j)) (f 0)
            → FirstRefused (m + size leaves (f 0)) n (suc j) (λ k. f (suc k)) fault
            → FirstRefused m (suc n) j f fault
        there p r =
            let k = r.0 in
            let e : suc j + k ≡ j + suc k = omega arith in
            let a = length-append (nodes_of (f 0)) (lists_below k (λ l. nodes_of (f (suc l)))) in
            let d : m + size leaves (f 0) + sizes leaves (λ l. f (suc l)) k
            ≡ m + sizes leaves f (suc k) = omega (arith, a) in (
              suc k,
              (let b = r.1 in omega (arith, b)),
              before r p,
              subst (λ (c : ℕ). Refused (m + sizes leaves f (suc k))
                  (then_choice path (AChoice.Which i c)) (f (suc k)) fault) e
                  (subst (λ (c : ℕ). Refused c (then_choice path (AChoice.Which i (suc j + k)))
                  (f (suc k)) fault) d r.3),
            )

    pub trees_count : (n j : ℕ) (f : ℕ → CasesOf)
        → length (trees_to n f) ≡ length (whiches path i j n)
    trees_count zero j f = refl
    trees_count (suc n) j f = ap suc (trees_count n (suc j) (λ k. f (suc k)))

  from_zero : (path : List Choice) (i : ℕ) (k : ℕ) (t : CasesOf)
      → Pass (then_choice path (AChoice.Which i (0 + k))) t
      → Pass (then_choice path (AChoice.Which i k)) t
  from_zero path i k t h =
      let e : 0 + k ≡ k = omega arith in
      subst (λ (l : ℕ). Pass (then_choice path (AChoice.Which i l)) t) e h

  -- a tree passes where its node does and the trees of its choices do
  tree_passes : (path : List Choice) (t : CasesOf) → NodePasses game leaves kind path (top t)
      → AllPass (children leaves path (top t)) (kids t) → Pass path t
  tree_passes path (OnOff i k on off) h r = (h, r.0, r.1.0)
  tree_passes path (RowSplit i k s at_zero at_tight) h r = (h, r.0, r.1.0)
  tree_passes path (Which i trees) h r = (
    h,
    λ k b. from_zero path i k (trees k)
        (which_passes path i (leaf_count leaves i) 0 trees r k b),
  )
  tree_passes path (Close mult) h r = h

  kid_refused : (n : ℕ) (path : List Choice) (t : CasesOf) (fault : Fault)
      → NodePasses game leaves kind path (top t)
      → OneRefused (n + 1) (children leaves path (top t)) (kids t) fault → Refused n path t fault
  kid_refused n path (OnOff i k on off) fault h r =
      ⊎_elim (λ s. inr (inl (h, s)))
      (λ s. ⊎_elim (λ u. inr (inr (h, s.0, u))) (λ u. absurd u.1) s.1) r
  kid_refused n path (RowSplit i k s at_zero at_tight) fault h r =
      ⊎_elim (λ o. inr (inl (h, o)))
      (λ o. ⊎_elim (λ u. inr (inr (h, o.0, u))) (λ u. absurd u.1) o.1) r
  kid_refused n path (Which i trees) fault h r =
      let s = which_refused path i (n + 1) (leaf_count leaves i) 0 trees fault r in
      let e : 0 + s.0 ≡ s.0 = omega arith in
      inr (
        h,
        (
          s.0,
          s.1,
          (λ l b. from_zero path i l (trees l) (s.2 l b)),
          subst (λ (k : ℕ). Refused (n + 1 + sizes leaves trees s.0)
              (then_choice path (AChoice.Which i k)) (trees s.0) fault) e s.3,
        ),
      )
  kid_refused n path (Close mult) fault h r = absurd r

  node_refused : (n : ℕ) (path : List Choice) (t : CasesOf) (fault : Fault)
      → NodeRefused game leaves kind n path (top t) fault → Refused n path t fault
  node_refused n path (OnOff i k on off) fault h = inl h
  node_refused n path (RowSplit i k s at_zero at_tight) fault h = inl h
  node_refused n path (Which i trees) fault h = inl h
  node_refused n path (Close mult) fault h = h

  kid_count : (path : List Choice) (t : CasesOf)
      → length (kids t) ≡ length (children leaves path (top t))
  kid_count path (OnOff i k on off) = refl
  kid_count path (RowSplit i k s at_zero at_tight) = refl
  kid_count path (Which i trees) = trees_count path i (leaf_count leaves i) 0 trees
  kid_count path (Close mult) = refl

  -- the node that stands first is the first tree's, and its trees and the others follow
  after_node : (node : RNodeOf) (nodes : List RNodeOf) (t : CasesOf) (ts : List CasesOf)
      → node ∷ nodes ≡ forest (t ∷ ts) → (node ≡ top t) × (nodes ≡ forest (kids t ++ ts))
  after_node node nodes t ts e =
      let f : node ∷ nodes ≡ top t ∷ (forest (kids t) ++ forest ts) =
      e ∙ ap (λ (ns : List RNodeOf). ns ++ forest ts) (opened t) in
      let j = forest_join (kids t) ts in
      let g : nodes ≡ forest (kids t) ++ forest ts = cc in (cc, g ∙ sym j)

  size_of_kids : (t : CasesOf) → size leaves t ≡ 1 + length (forest (kids t))
  size_of_kids t = let e = ap length (opened t) in omega (arith, e)

  -- n nodes are seen; those that are left are the trees of the paths that are due, and the whole
  -- tree stands with them
  pub record Walked (whole : CasesOf) (n : ℕ) (nodes : List RNodeOf)
      (paths : List (List Choice)) : Type 0 where
    pub trees : List CasesOf
    pub listed : nodes ≡ forest trees
    pub paired : length trees ≡ length paths
    pub passes : AllPass paths trees → Pass [] whole
    pub refused : (fault : Fault) → OneRefused n paths trees fault → Refused 0 [] whole fault

  pub at_start : (whole : CasesOf) (nodes : List RNodeOf) → nodes_of whole ≡ nodes
      → Walked whole 0 nodes ([] ∷ [])
  at_start whole nodes e = record {
    trees = whole ∷ [];
    listed = sym e ∙ sym (append-nil (nodes_of whole));
    paired = refl;
    passes = λ h. h.0;
    refused = λ fault h. ⊎_elim (λ (r : Refused 0 [] whole fault). r)
        (λ (r : Pass [] whole × ⊥). absurd r.1) h;
  }

  module _ (whole : CasesOf) (n : ℕ) where
    pub at_end : (paths : List (List Choice)) → Walked whole n [] paths → Pass [] whole
    at_end paths w = done w.trees paths w.listed w.paired w.passes
      where
        done : (ts : List CasesOf) (paths : List (List Choice)) → [] ≡ forest ts
            → length ts ≡ length paths → (AllPass paths ts → Pass [] whole) → Pass [] whole
        done [] [] e l h = h tt
        done [] (path ∷ paths) e l h = absurd (omega (arith, l))
        done (t ∷ ts) paths e l h =
            let f : [] ≡ top t ∷ (forest (kids t) ++ forest ts) =
            e ∙ ap (λ (ns : List RNodeOf). ns ++ forest ts) (opened t) in absurd cc

    -- where a node is left, a path is due
    pub path_due : (node : RNodeOf) (nodes : List RNodeOf) → Walked whole n (node ∷ nodes) [] → ⊥
    path_due node nodes w = none w.trees w.listed w.paired
      where
        none : (ts : List CasesOf) → node ∷ nodes ≡ forest ts → length ts ≡ 0 → ⊥
        none [] e l = cc
        none (t ∷ ts) e l = omega (arith, l)

    module _ (node : RNodeOf) (nodes : List RNodeOf) (path : List Choice)
        (paths : List (List Choice)) where
      pub seen : Walked whole n (node ∷ nodes) (path ∷ paths)
          → NodePasses game leaves kind path node
          → Walked whole (n + 1) nodes (children leaves path node ++ paths)
      seen w h = next w.trees w.listed w.paired w.passes w.refused
        where
          next : (ts : List CasesOf) → node ∷ nodes ≡ forest ts
              → length ts ≡ suc (length paths) → (AllPass (path ∷ paths) ts → Pass [] whole)
              → ((fault : Fault) → OneRefused n (path ∷ paths) ts fault
              → Refused 0 [] whole fault)
              → Walked whole (n + 1) nodes (children leaves path node ++ paths)
          next [] e l p r = absurd cc
          next (t ∷ ts) e l p r =
              let a = after_node node nodes t ts e in
              let here : NodePasses game leaves kind path (top t) =
              subst (NodePasses game leaves kind path) a.0 h in
              let c = kid_count path t in
              let on : Walked whole (n + 1) nodes (children leaves path (top t) ++ paths) =
              record {
                trees = kids t ++ ts;
                listed = a.1;
                paired = length-append (kids t) ts
                    ∙ omega (arith, c, l, length-append (children leaves path (top t)) paths);
                passes = λ q. let s = parts_pass (children leaves path (top t)) paths (kids t) ts c
                    q in p (tree_passes path t here s.0, s.1);
                refused = λ fault q. ⊎_elim
                    (λ (s : OneRefused (n + 1) (children leaves path (top t)) (kids t) fault).
                    r fault (inl (kid_refused n path t fault here s)))
                    (λ (s : AllPass (children leaves path (top t)) (kids t)
                    × OneRefused (n + 1 + length (forest (kids t))) paths ts fault).
                    let z : n + 1 + length (forest (kids t)) ≡ n + size leaves t =
                    omega (arith, size_of_kids t) in
                    r fault (inr (tree_passes path t here s.0, rw z at s.1)))
                    (part_refused (n + 1) (children leaves path (top t)) paths (kids t) ts fault c
                    q);
              } in
              subst (λ (m : RNodeOf). Walked whole (n + 1) nodes (children leaves path m ++ paths))
              (sym a.0) on

      pub stopped : Walked whole n (node ∷ nodes) (path ∷ paths) → (fault : Fault)
          → NodeRefused game leaves kind n path node fault → Refused 0 [] whole fault
      stopped w fault h = end w.trees w.listed w.refused
        where
          end : (ts : List CasesOf) → node ∷ nodes ≡ forest ts
              → ((fault : Fault) → OneRefused n (path ∷ paths) ts fault
              → Refused 0 [] whole fault) → Refused 0 [] whole fault
          end [] e r = absurd cc
          end (t ∷ ts) e r =
              let a = after_node node nodes t ts e in
              r fault (inl (node_refused n path t fault
              (subst (λ (m : RNodeOf). NodeRefused game leaves kind n path m fault) a.0 h)))
