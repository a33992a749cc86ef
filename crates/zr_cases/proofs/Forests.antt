-- Lists of nodes and the trees that they are.
use Rattle.std.proofs.Common.{◌≡◌, ℕ, zero, suc, ◌+◌, arith, refl, sym, ap, ◌∙◌, true, List, [], ◌∷◌, ◌++◌, append_assoc, slice_index_or}
use Rattle.std.proofs.lemmas.List.{append-nil}
use Rattle.zr_cases.specs.Cases.{RNodeOf, OnOffNode, RowNode, WhichNode, CloseNode, BNodeOf, CutNode, EmptyNode, DeviateNode}
use Rattle.zr_cases.specs.Forms.{box_count, case_count, is_forest_by}
use Rattle.zr_cases.specs.Trees.{BoxTreeOf, CasesOf, OnOff, RowSplit, Which, Close, Cut, Empty, Deviate, box_preorder, lists_below, preorder}

same_lists : {X : Type 0} (n : ℕ) (f g : ℕ → List X) → ((k : ℕ) → f k ≡ g k) → lists_below n f ≡ lists_below n g
same_lists zero f g same = refl
same_lists (suc n) f g same =
    ap (λ xs. xs ++ lists_below n (λ k. f (suc k))) (same 0) ∙ ap (λ xs. g 0 ++ xs) (same_lists n (λ k. f (suc k)) (λ k. g (suc k)) (λ k. same (suc k)))

-- the lists below m + n are those below m, and then n more
split : {X : Type 0} (m n : ℕ) (f g : ℕ → List X) → ((k : ℕ) → f (m + k) ≡ g k) → lists_below (m + n) f ≡ lists_below m f ++ lists_below n g
split zero n f g same =
    let e : 0 + n ≡ n = omega arith in
    ap (λ (k : ℕ). lists_below k f) e ∙ same_lists n f g (λ k. let d : k ≡ 0 + k = omega arith in ap f d ∙ same k)
split (suc m) n f g same =
    let e : suc m + n ≡ suc (m + n) = omega arith in
    ap (λ (k : ℕ). lists_below k f) e ∙ ap (λ xs. f 0 ++ xs) (split m n (λ k. f (suc k)) g (λ k. let d : suc (m + k) ≡ suc m + k = omega arith in ap f d ∙ same k)) ∙ sym (append_assoc (f 0) (lists_below m (λ k. f (suc k))) (lists_below n g))

-- one tree, and then the others
abbrev with_first : {T : Type 0} → T → (ℕ → T) → ℕ → T
with_first t f zero = t
with_first t f (suc k) = f k

-- a tree whose first node and children are these
abbrev pub IsTop : {N T : Type 0} → (T → List N) → (N → ℕ) → N → (ℕ → T) → Type 0
IsTop {N} {T} nodes_of count node f =
    (t : T) × (nodes_of t ≡ node ∷ lists_below (count node) (λ k. nodes_of (f k)))

module _ {N T : Type 0} (nodes_of : T → List N) (count : N → ℕ) (any : T) (top : (node : N) (f : ℕ → T) → IsTop nodes_of count node f) where
  -- the list is so many trees
  trees : (nodes : List N) (due : ℕ) → is_forest_by count due nodes ≡ true → (f : ℕ → T) × (lists_below due (λ k. nodes_of (f k)) ≡ nodes)
  trees [] zero e = (λ k. any, refl)
  trees [] (suc due) e = absurd cc
  trees (node ∷ nodes) zero e = absurd cc
  trees (node ∷ nodes) (suc due) e =
      let r = trees nodes (count node + due) e in
      let b = top node r.0 in
      let f : ℕ → T = λ k. r.0 (count node + k) in
      let p : ℕ → List N = λ k. nodes_of (r.0 k) in
      let q : ℕ → List N = λ k. nodes_of (f k) in (
        with_first b.0 f,
        ap (λ xs. xs ++ lists_below due q) b.1 ∙ ap (λ xs. node ∷ xs) (sym (split (count node) due p q (λ k. refl)) ∙ r.1),
      )

  pub tree_of : (nodes : List N) → is_forest_by count 1 nodes ≡ true → (t : T) × (nodes_of t ≡ nodes)
  tree_of nodes e = let r = trees nodes 1 e in (r.0 0, sym (append-nil (nodes_of (r.0 0))) ∙ r.1)

-- with these nodes one tree less is due
abbrev ClosesOne : {N : Type 0} → (N → ℕ) → List N → Type 0
ClosesOne {N} count front =
    (due : ℕ) (rest : List N) → is_forest_by count (suc due) (front ++ rest) ≡ is_forest_by count due rest

module _ {N : Type 0} (count : N → ℕ) where
  close_two : (a b : List N) → ClosesOne count a → ClosesOne count b → (due : ℕ) (rest : List N) → is_forest_by count (2 + due) ((a ++ b) ++ rest) ≡ is_forest_by count due rest
  close_two a b f g due rest =
      let e : 2 + due ≡ suc (suc due) = omega arith in
      ap (λ (k : ℕ). is_forest_by count k ((a ++ b) ++ rest)) e ∙ ap (is_forest_by count (suc (suc due))) (append_assoc a b rest) ∙ f (suc due) (b ++ rest) ∙ g due rest

  close_all : (n : ℕ) (f : ℕ → List N) → ((k : ℕ) → ClosesOne count (f k)) → (due : ℕ) (rest : List N) → is_forest_by count (n + due) (lists_below n f ++ rest) ≡ is_forest_by count due rest
  close_all zero f each due rest =
      let e : 0 + due ≡ due = omega arith in ap (λ (k : ℕ). is_forest_by count k rest) e
  close_all (suc n) f each due rest =
      let e : suc n + due ≡ suc (n + due) = omega arith in
      ap (λ (k : ℕ). is_forest_by count k (lists_below (suc n) f ++ rest)) e ∙ ap (is_forest_by count (suc (n + due))) (append_assoc (f 0) (lists_below n (λ k. f (suc k))) rest) ∙ each 0 (n + due) (lists_below n (λ k. f (suc k)) ++ rest) ∙ close_all n (λ k. f (suc k)) (λ k. each (suc k)) due rest

  one_tree : (front : List N) → ClosesOne count front → is_forest_by count 1 front ≡ true
  one_tree front f = ap (is_forest_by count 1) (sym (append-nil front)) ∙ f 0 []

-- ---- refutations

case_top : (leaves : List ℕ) (node : RNodeOf) (f : ℕ → CasesOf) → IsTop (preorder leaves) (case_count leaves) node f
case_top leaves (OnOffNode i k) f =
    (OnOff i k (f 0) (f 1), ap (λ ns. OnOffNode i k ∷ (preorder leaves (f 0) ++ ns)) (sym (append-nil (preorder leaves (f 1)))))
case_top leaves (RowNode i k slot) f =
    (RowSplit i k slot (f 0) (f 1), ap (λ ns. RowNode i k slot ∷ (preorder leaves (f 0) ++ ns)) (sym (append-nil (preorder leaves (f 1)))))
case_top leaves (WhichNode i) f = (Which i f, refl)
case_top leaves (CloseNode mult) f = (Close mult, refl)

case_closes : (leaves : List ℕ) (t : CasesOf) → ClosesOne (case_count leaves) (preorder leaves t)
case_closes leaves (OnOff i k a b) =
    close_two (case_count leaves) (preorder leaves a) (preorder leaves b) (case_closes leaves a) (case_closes leaves b)
case_closes leaves (RowSplit i k slot a b) =
    close_two (case_count leaves) (preorder leaves a) (preorder leaves b) (case_closes leaves a) (case_closes leaves b)
case_closes leaves (Which i trees) =
    close_all (case_count leaves) (slice_index_or leaves i 0) (λ k. preorder leaves (trees k)) (λ k. case_closes leaves (trees k))
case_closes leaves (Close mult) = λ due rest. let e : 0 + due ≡ due = omega arith in ap (λ (k : ℕ). is_forest_by (case_count leaves) k rest) e

pub cases_of : (leaves : List ℕ) (nodes : List RNodeOf) → is_forest_by (case_count leaves) 1 nodes ≡ true → (t : CasesOf) × (preorder leaves t ≡ nodes)
cases_of leaves nodes e = tree_of (preorder leaves) (case_count leaves) (Close []) (case_top leaves) nodes e

pub of_cases : (leaves : List ℕ) (nodes : List RNodeOf) → (t : CasesOf) × (preorder leaves t ≡ nodes) → is_forest_by (case_count leaves) 1 nodes ≡ true
of_cases leaves nodes r =
    ap (is_forest_by (case_count leaves) 1) (sym r.1) ∙ one_tree (case_count leaves) (preorder leaves r.0) (case_closes leaves r.0)

-- ---- box trees

box_top : (node : BNodeOf) (f : ℕ → BoxTreeOf) → IsTop box_preorder box_count node f
box_top (CutNode i v at) f =
    (Cut i v at (f 0) (f 1), ap (λ ns. CutNode i v at ∷ (box_preorder (f 0) ++ ns)) (sym (append-nil (box_preorder (f 1)))))
box_top (EmptyNode i mult) f = (Empty i mult, refl)
box_top (DeviateNode i x) f = (Deviate i x, refl)

box_closes : (t : BoxTreeOf) → ClosesOne box_count (box_preorder t)
box_closes (Cut i v at a b) =
    close_two box_count (box_preorder a) (box_preorder b) (box_closes a) (box_closes b)
box_closes (Empty i mult) = λ due rest. let e : 0 + due ≡ due = omega arith in ap (λ (k : ℕ). is_forest_by box_count k rest) e
box_closes (Deviate i x) = λ due rest. let e : 0 + due ≡ due = omega arith in ap (λ (k : ℕ). is_forest_by box_count k rest) e

pub boxes_of : (nodes : List BNodeOf) → is_forest_by box_count 1 nodes ≡ true → (t : BoxTreeOf) × (box_preorder t ≡ nodes)
boxes_of nodes e = tree_of box_preorder box_count (Empty 0 []) box_top nodes e

pub of_boxes : (nodes : List BNodeOf) → (t : BoxTreeOf) × (box_preorder t ≡ nodes) → is_forest_by box_count 1 nodes ≡ true
of_boxes nodes r =
    ap (is_forest_by box_count 1) (sym r.1) ∙ one_tree box_count (box_preorder r.0) (box_closes r.0)
