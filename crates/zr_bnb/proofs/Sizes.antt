-- How many nodes the tree of an answer has.
use Rattle.std.proofs.Common.{◌≡◌, ℕ, ◌+◌, ◌-◌, ◌*◌, ◌≤◌, arith, ap, ℤ, List, length, map, Ok, Err, Result, IfOk}
use Rattle.std.proofs.lemmas.List.{length-append, length-map}
use Rattle.zr_io.specs.declared.purse.Purse.{Purse}
use Rattle.zr_game.specs.Players.{PlayerOf}
use Rattle.zr_tree.specs.declared.tree.Tree.{Tree}
use Rattle.zr_tree.specs.Listed.{IsTreeOf}
use Rattle.zr_tree.specs.Nodes.{NodeOf, node_of}
use Rattle.zr_tree.specs.Trees.{TreeOf, Split, Choose, Proof, Known, Loose, preorder}
use Rattle.zr_asked.specs.OpenTrees.{units}
use Rattle.zr_bnb.specs.declared.answer.BnbStop.{BnbStop}
use Rattle.zr_bnb.specs.declared.answer.LeastAnswer.{LeastAnswer}
use Rattle.zr_bnb.specs.declared.answer.LeastAnswer.TheVariants.{At, Empty, Below}
use Rattle.zr_bnb.specs.Answers.{HasFewNodes, IsLeastAnswer}

-- inner nodes and one end more
size_of : (t : TreeOf) → length (preorder t) ≡ 1 + 2 * units t
size_of (Split v at first second) =
    let a = size_of first in
    let b = size_of second in
    let l = length-append (preorder first) (preorder second) in
    omega (arith, a, b, l)
size_of (Choose p first second) =
    let a = size_of first in
    let b = size_of second in
    let l = length-append (preorder first) (preorder second) in
    omega (arith, a, b, l)
size_of (Proof scale mult) = omega arith
size_of (Known x) = omega arith
size_of Loose = omega arith

few_listed : (tree : Tree) (t : TreeOf) (old new : ℕ) → IsTreeOf tree t → new ≡ old + units t
    → length tree.nodes.items ≤ 1 + 2 * (new - old)
few_listed tree t old new is e =
    let s = size_of t in
    let m = length-map tree.nodes.items node_of in
    let l = ap (λ (ns : List NodeOf). length ns) is in
    omega (arith, s, m, l, e)

few_nodes : (player : PlayerOf) (aim : List ℤ) (old new : Purse) (answer : LeastAnswer)
    → IsLeastAnswer player aim old new answer → HasFewNodes old new answer
few_nodes player aim old new (At point value tree) h =
    few_listed tree h.0 old.branches new.branches h.3 h.5.spent
few_nodes player aim old new (Empty tree) h =
    few_listed tree h.0 old.branches new.branches h.1 h.3.spent
few_nodes player aim old new (Below base dir) h = tt

pub if_few : (player : PlayerOf) (aim : List ℤ) (old new : Purse)
    (result : Result LeastAnswer BnbStop) → IfOk result (IsLeastAnswer player aim old new)
    → IfOk result (HasFewNodes old new)
if_few player aim old new (Ok answer) h = few_nodes player aim old new answer h
if_few player aim old new (Err stop) h = tt
