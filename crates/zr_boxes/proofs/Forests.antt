-- Box trees, and the lists of their nodes.
use Rattle.std.proofs.Common.{◌≡◌, ℕ, ◌+◌, arith, refl, sym, ap, ◌∙◌, List, [], ◌∷◌, ◌++◌, append_assoc}
use Rattle.std.proofs.lemmas.List.{append-nil}
use Rattle.zr_cases.specs.Cases.{BNodeOf, CutNode, EmptyNode, DeviateNode}
use Rattle.zr_cases.specs.Trees.{BoxTreeOf, Cut, Empty, Deviate, box_preorder}
use Rattle.zr_boxes.specs.Steps.{box_size}

-- the nodes of several trees, one after the other
abbrev pub forest : List BoxTreeOf → List BNodeOf
forest [] = []
forest (t ∷ ts) = box_preorder t ++ forest ts

-- a tree's node and the trees at its children
abbrev pub top : BoxTreeOf → BNodeOf
top (Cut i v at first second) = CutNode i v at
top (Empty i mult) = EmptyNode i mult
top (Deviate i x) = DeviateNode i x

abbrev pub kids : BoxTreeOf → List BoxTreeOf
kids (Cut i v at first second) = first ∷ second ∷ []
kids (Empty i mult) = []
kids (Deviate i x) = []

abbrev pub sizes : List BoxTreeOf → ℕ
sizes [] = 0
sizes (t ∷ ts) = box_size t + sizes ts

forest-append : (us vs : List BoxTreeOf) → forest (us ++ vs) ≡ forest us ++ forest vs
forest-append [] vs = refl
forest-append (t ∷ us) vs =
    ap (λ (ns : List BNodeOf). box_preorder t ++ ns) (forest-append us vs) ∙
    sym (append_assoc (box_preorder t) (forest us) (forest vs))

pub opened : (t : BoxTreeOf) → box_preorder t ≡ top t ∷ forest (kids t)
opened (Cut i v at first second) =
    ap (λ (ns : List BNodeOf). CutNode i v at ∷ (box_preorder first ++ ns))
    (sym (append-nil (box_preorder second)))
opened (Empty i mult) = refl
opened (Deviate i x) = refl

pub size_of_kids : (t : BoxTreeOf) → box_size t ≡ 1 + sizes (kids t)
size_of_kids (Cut i v at first second) = omega arith
size_of_kids (Empty i mult) = refl
size_of_kids (Deviate i x) = refl

-- the first node of a forest, and the forest after it
pub after_node : (node : BNodeOf) (rest : List BNodeOf) (t : BoxTreeOf) (ts : List BoxTreeOf)
    → node ∷ rest ≡ forest (t ∷ ts) → (node ≡ top t) × (rest ≡ forest (kids t ++ ts))
after_node node rest t ts e =
    let f : node ∷ rest ≡ top t ∷ (forest (kids t) ++ forest ts) =
    e ∙ ap (λ (ns : List BNodeOf). ns ++ forest ts) (opened t) in (
      cc,
      (let g : rest ≡ forest (kids t) ++ forest ts = cc in g ∙ sym (forest-append (kids t) ts)),
    )

-- one list is the beginning of one tree only
same_front : (s t : BoxTreeOf) (xs ys : List BNodeOf)
    → box_preorder s ++ xs ≡ box_preorder t ++ ys → (s ≡ t) × (xs ≡ ys)
same_front (Cut i v at first second) (Cut j w by third fourth) xs ys e =
    let r : (box_preorder first ++ box_preorder second) ++ xs
    ≡ (box_preorder third ++ box_preorder fourth) ++ ys = cc in
    let d : i ≡ j = cc in
    let f : v ≡ w = cc in
    let g : at ≡ by = cc in
    let a = same_front first third (box_preorder second ++ xs) (box_preorder fourth ++ ys)
    (sym (append_assoc (box_preorder first) (box_preorder second) xs) ∙ r ∙
    append_assoc (box_preorder third) (box_preorder fourth) ys) in
    let b = same_front second fourth xs ys a.1 in
    (cc (a.0, b.0), b.1)
same_front (Empty i mult) (Empty j by) xs ys e = (cc, cc)
same_front (Deviate i x) (Deviate j y) xs ys e = (cc, cc)
same_front s t xs ys e = absurd cc

pub same_tree : (s t : BoxTreeOf) → box_preorder s ≡ box_preorder t → s ≡ t
same_tree s t e =
    (same_front s t [] [] (append-nil (box_preorder s) ∙ e ∙ sym (append-nil (box_preorder t)))).0
