-- Trees whose leaves are all refuted.
use Rattle.std.proofs.Common.{◌≡◌, arith, pos, List, [], ◌∷◌, ◌++◌, All, ⊎_elim}
use Rattle.std.proofs.lemmas.Int.{ints}
use Rattle.std.proofs.lemmas.List.Elements.{All-cons, All-head, All-nil, All-tail}
use Rattle.zr_game.specs.declared.leaf.Side.TheVariants.{VarZero, RowZero}
use Rattle.zr_game.specs.Players.{PlayerOf}
use Rattle.zr_game.specs.Leaves.{Bound, LeafOf, above, below, decided, slots}
use Rattle.zr_tree.specs.Nodes.{ChooseNode, ProofNode, SplitNode}
use Rattle.zr_tree.specs.Trees.{TreeOf, Split, Choose, Proof, Known, Loose, preorder}
use Rattle.zr_tree.specs.Right.{IsRefuted, IsRefuting, IsRight, IsScaled}
use Rattle.zr_cert.specs.Forms.{IsEmptyNode}

All_split : {A : Type 0} (P : A → Type 0) (xs ys : List A) → All P (xs ++ ys) → All P xs × All P ys
All_split P [] ys all = (All-nil P, all)
All_split P (x ∷ xs) ys all =
    let rest = All_split P xs ys (All-tail P x (xs ++ ys) all) in
    (All-cons P x xs (All-head P x (xs ++ ys) all) rest.0, rest.1)

-- a right tree refutes its leaf where no proof has a scale
pub refuted_if_right : (player : PlayerOf) (row : Bound) (t : TreeOf) (leaf : LeafOf) → All IsEmptyNode (preorder t) → IsRight player row leaf t → IsRefuted player leaf t
refuted_if_right player row (Split v at first second) leaf nodes h =
    let all = All_split IsEmptyNode (preorder first) (preorder second) (All-tail IsEmptyNode (SplitNode v at) (preorder first ++ preorder second) nodes) in
    (h.0, refuted_if_right player row first (below leaf v at) all.0 h.1, refuted_if_right player row second (above leaf v at) all.1 h.2)
refuted_if_right player row (Choose p first second) leaf nodes h =
    let all = All_split IsEmptyNode (preorder first) (preorder second) (All-tail IsEmptyNode (ChooseNode p) (preorder first ++ preorder second) nodes) in
    (h.0, refuted_if_right player row first (decided leaf p VarZero) all.0 h.1, refuted_if_right player row second (decided leaf p RowZero) all.1 h.2)
refuted_if_right player row (Proof scale mult) leaf nodes h = (h.0, h.1, ⊎_elim scaled (λ r. r) h.2)
  where
    scaled : IsScaled player row scale (slots player leaf) mult → IsRefuting player scale (slots player leaf) mult
    scaled s =
        let none : scale ≡ pos 0 = (All-head IsEmptyNode (ProofNode scale mult) [] nodes).0 in
        let positive = s.positive in
        absurd (omega (arith, ints, none, positive))
refuted_if_right player row (Known x) leaf nodes h = absurd h
refuted_if_right player row Loose leaf nodes h = absurd h
