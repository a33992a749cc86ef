-- Lists of nodes and the trees that they are.
use Rattle.std.proofs.Common.{◌≡◌, ℕ, zero, suc, ◌+◌, arith, refl, sym, ap, ◌∙◌, true, List, [], ◌∷◌, ◌++◌, length, append_assoc}
use Rattle.std.proofs.lemmas.List.{append-nil}
use Rattle.zr_tree.specs.Nodes.{NodeOf, SplitNode, ChooseNode, ProofNode, KnownNode, LooseNode}
use Rattle.zr_tree.specs.Trees.{TreeOf, Split, Choose, Proof, Known, Loose, preorder, size}
use Rattle.zr_tree.specs.Form.{child_count, is_forest}

-- the nodes of several trees, one after the other
abbrev pub forest : List TreeOf → List NodeOf
forest [] = []
forest (t ∷ ts) = preorder t ++ forest ts

-- a tree's node and the trees at its children
abbrev pub top : TreeOf → NodeOf
top (Split v at first second) = SplitNode v at
top (Choose p first second) = ChooseNode p
top (Proof scale mult) = ProofNode scale mult
top (Known x) = KnownNode x
top Loose = LooseNode

abbrev pub kids : TreeOf → List TreeOf
kids (Split v at first second) = first ∷ second ∷ []
kids (Choose p first second) = first ∷ second ∷ []
kids (Proof scale mult) = []
kids (Known x) = []
kids Loose = []

abbrev pub sizes : List TreeOf → ℕ
sizes [] = 0
sizes (t ∷ ts) = size t + sizes ts

pub forest-append : (us vs : List TreeOf) → forest (us ++ vs) ≡ forest us ++ forest vs
forest-append [] vs = refl
forest-append (t ∷ us) vs =
    ap (λ (ns : List NodeOf). preorder t ++ ns) (forest-append us vs) ∙ sym (append_assoc (preorder t) (forest us) (forest vs))

pub opened : (t : TreeOf) → preorder t ≡ top t ∷ forest (kids t)
opened (Split v at first second) =
    ap (λ (ns : List NodeOf). SplitNode v at ∷ (preorder first ++ ns)) (sym (append-nil (preorder second)))
opened (Choose p first second) =
    ap (λ (ns : List NodeOf). ChooseNode p ∷ (preorder first ++ ns)) (sym (append-nil (preorder second)))
opened (Proof scale mult) = refl
opened (Known x) = refl
opened Loose = refl

pub size_of_kids : (t : TreeOf) → size t ≡ 1 + sizes (kids t)
size_of_kids (Split v at first second) = omega arith
size_of_kids (Choose p first second) = omega arith
size_of_kids (Proof scale mult) = refl
size_of_kids (Known x) = refl
size_of_kids Loose = refl

-- the first node of a forest, and the forest after it
pub after_node : (node : NodeOf) (rest : List NodeOf) (t : TreeOf) (ts : List TreeOf) → node ∷ rest ≡ forest (t ∷ ts) → (node ≡ top t) × (rest ≡ forest (kids t ++ ts))
after_node node rest t ts e =
    let f : node ∷ rest ≡ top t ∷ (forest (kids t) ++ forest ts) = e ∙ ap (λ (ns : List NodeOf). ns ++ forest ts) (opened t) in
    (cc, (let g : rest ≡ forest (kids t) ++ forest ts = cc in g ∙ sym (forest-append (kids t) ts)))

build : (due : ℕ) (node : NodeOf) (nodes : List NodeOf) (ts : List TreeOf) → forest ts ≡ nodes → length ts ≡ child_count node + due → (us : List TreeOf) × (forest us ≡ node ∷ nodes) × (length us ≡ suc due)
build due (SplitNode v at) nodes [] e l = absurd (omega (arith, l))
build due (SplitNode v at) nodes (first ∷ []) e l = absurd (omega (arith, l))
build due (SplitNode v at) nodes (first ∷ second ∷ ts) e l =
    (Split v at first second ∷ ts, ap (λ (ns : List NodeOf). SplitNode v at ∷ ns) (append_assoc (preorder first) (preorder second) (forest ts) ∙ e), omega (arith, l))
build due (ChooseNode p) nodes [] e l = absurd (omega (arith, l))
build due (ChooseNode p) nodes (first ∷ []) e l = absurd (omega (arith, l))
build due (ChooseNode p) nodes (first ∷ second ∷ ts) e l =
    (Choose p first second ∷ ts, ap (λ (ns : List NodeOf). ChooseNode p ∷ ns) (append_assoc (preorder first) (preorder second) (forest ts) ∙ e), omega (arith, l))
build due (ProofNode scale mult) nodes ts e l =
    (Proof scale mult ∷ ts, ap (λ (ns : List NodeOf). ProofNode scale mult ∷ ns) e, omega (arith, l))
build due (KnownNode x) nodes ts e l =
    (Known x ∷ ts, ap (λ (ns : List NodeOf). KnownNode x ∷ ns) e, omega (arith, l))
build due LooseNode nodes ts e l =
    (Loose ∷ ts, ap (λ (ns : List NodeOf). LooseNode ∷ ns) e, omega (arith, l))

-- so many trees, where the list is so many of them
trees : (due : ℕ) (nodes : List NodeOf) → is_forest due nodes ≡ true → (ts : List TreeOf) × (forest ts ≡ nodes) × (length ts ≡ due)
trees zero [] e = ([], refl, refl)
trees zero (node ∷ nodes) e = absurd cc
trees (suc due) [] e = absurd cc
trees (suc due) (node ∷ nodes) e =
    let r = trees (child_count node + due) nodes e in build due node nodes r.0 r.1 r.2

-- a list that is one tree has that tree
pub tree_of : (nodes : List NodeOf) → is_forest 1 nodes ≡ true → (t : TreeOf) × (preorder t ≡ nodes)
tree_of nodes e = let r = trees 1 nodes e in only r.0 r.1 r.2
  where
    only : (ts : List TreeOf) → forest ts ≡ nodes → length ts ≡ 1 → (t : TreeOf) × (preorder t ≡ nodes)
    only [] f l = absurd (omega (arith, l))
    only (t ∷ []) f l = (t, sym (append-nil (preorder t)) ∙ f)
    only (t ∷ u ∷ ts) f l = absurd (omega (arith, l))

-- one list is the beginning of one tree only
same_front : (s t : TreeOf) (xs ys : List NodeOf) → preorder s ++ xs ≡ preorder t ++ ys → (s ≡ t) × (xs ≡ ys)
same_front (Split v at first second) (Split w by third fourth) xs ys e =
    let r : (preorder first ++ preorder second) ++ xs ≡ (preorder third ++ preorder fourth) ++ ys = cc in
    let f : v ≡ w = cc in
    let g : at ≡ by = cc in
    let a = same_front first third (preorder second ++ xs) (preorder fourth ++ ys) (sym (append_assoc (preorder first) (preorder second) xs) ∙ r ∙ append_assoc (preorder third) (preorder fourth) ys) in
    let b = same_front second fourth xs ys a.1 in
    (cc (a.0, b.0), b.1)
same_front (Choose p first second) (Choose q third fourth) xs ys e =
    let r : (preorder first ++ preorder second) ++ xs ≡ (preorder third ++ preorder fourth) ++ ys = cc in
    let f : p ≡ q = cc in
    let a = same_front first third (preorder second ++ xs) (preorder fourth ++ ys) (sym (append_assoc (preorder first) (preorder second) xs) ∙ r ∙ append_assoc (preorder third) (preorder fourth) ys) in
    let b = same_front second fourth xs ys a.1 in
    (cc (a.0, b.0), b.1)
same_front (Proof scale mult) (Proof by ts) xs ys e = (cc, cc)
same_front (Known x) (Known y) xs ys e = (cc, cc)
same_front Loose Loose xs ys e = (refl, cc)
same_front s t xs ys e = absurd cc

pub same_tree : (s t : TreeOf) → preorder s ≡ preorder t → s ≡ t
same_tree s t e = (same_front s t [] [] (append-nil (preorder s) ∙ e ∙ sym (append-nil (preorder t)))).0
