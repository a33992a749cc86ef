use Rattle.std.proofs.Common.{◌≡◌, arith, suc, sym, ap, subst, ◌+◌, ◌++◌, [], ◌∷◌, ℕ, List, map, drop, add-one}
use Rattle.std.proofs.lemmas.List.{drop_all, length-map}
use Rattle.std.proofs.lemmas.List.Elements.{All-cons, All-nil}
use Rattle.zr_game.specs.Players.{player_of}
use Rattle.zr_game.specs.Leaves.{IsLeafOf, LeafOf, leaf_of}
use Rattle.zr_game.proofs.Items.{item}
use Rattle.zr_tree.specs.Form.{IsNodeForm}
use Rattle.zr_tree.specs.Nodes.{NodeOf, node_of}
use Rattle.zr_tree.specs.Openings.{own_leaves, upcoming}
use Rattle.zr_tree.proofs.Listing.{Listing, first_of, listing_first, listing_last, listing_next, rest_of}
use Rattle.zr_tree.proofs.Moves.{node_next}
use Rattle.zr_tree.proofs.leaves.leaves_from.Goals as goal

pub loop-node-init : goal.loop-node-init
loop-node-init c =
    let player = player_of c.args.player.now in
    let pushed = c.in_ok-push.ensures in
    rw (pushed.items, c.new-due.ensures.items, c.new-leaves.ensures.items) (record {
      listing = listing_first player (leaf_of c.args.root) (map node_of c.args.nodes.now);
      due = All-cons (IsLeafOf player) c.args.root [] c.requires.root (All-nil (IsLeafOf player));
      lengths = All-nil (IsLeafOf player);
    })

pub open-requires-clause-leaf : goal.open-requires-clause-leaf
open-requires-clause-leaf c =
    first_of (IsLeafOf (player_of c.args.player.now)) (upcoming c.loop-node.due.items) c.in-Some.leaf (upcoming c.take_next.new.due.items) c.loop-node.invariant.due c.in-Some.ensures

pub open-requires-clause-node : goal.open-requires-clause-node
open-requires-clause-node c =
    item node_of IsNodeForm c.args.nodes.now c.loop-node.node-index c.node-item.result c.requires.nodes c.loop-node-test.true c.node-item.is

pub loop-node-preserved : goal.loop-node-preserved
loop-node-preserved c =
    let player = player_of c.args.player.now in
    let root = leaf_of c.args.root in
    let nodes = map node_of c.args.nodes.now in
    let k = c.loop-node.node-index in
    let node = node_of c.node-item.result in
    let leaf = leaf_of c.in-Some.leaf in
    let others = map leaf_of (upcoming c.take_next.new.due.items) in
    let made = map leaf_of c.loop-node.leaves.items in
    let o = c.in_ok-open.ensures in
    let taken = c.in-Some.ensures in
    let here = subst (λ (ns : List NodeOf). Listing player root nodes ns (map leaf_of (upcoming c.loop-node.due.items)) made) (node_next c.args.nodes.now k c.node-item.result c.loop-node-test.true c.node-item.is) c.loop-node.invariant.listing in
    let at_leaf = subst (λ (ls : List LeafOf). Listing player root nodes (node ∷ drop (suc k) nodes) ls made) (ap (map leaf_of) taken) here in
    let next = listing_next player root nodes node (drop (suc k) nodes) leaf others made at_leaf in
    let with_due = subst (λ (ls : List LeafOf). Listing player root nodes (drop (suc k) nodes) ls (made ++ own_leaves leaf node)) (sym o.due.due) next in
    let with_made = subst (λ (ls : List LeafOf). Listing player root nodes (drop (suc k) nodes) (map leaf_of (upcoming c.open.new.due.items)) ls) (sym o.leaves) with_due in
    let one : suc k ≡ k + 1 = sym (add-one k) in
    record {
      listing = subst (λ (n : ℕ). Listing player root nodes (drop n nodes) (map leaf_of (upcoming c.open.new.due.items)) (map leaf_of c.open.new.leaves.items)) one with_made;
      due = o.due.lengths (rest_of (IsLeafOf player) (upcoming c.loop-node.due.items) c.in-Some.leaf (upcoming c.take_next.new.due.items) c.loop-node.invariant.due taken);
      lengths = o.lengths c.loop-node.invariant.lengths;
    }

pub returns-clause-leaves : goal.returns-clause-leaves
returns-clause-leaves c =
    let nodes = map node_of c.args.nodes.now in
    let none : drop c.loop-node.node-index nodes ≡ [] = drop_all c.loop-node.node-index nodes (omega (arith, c.loop-node-test.false, length-map c.args.nodes.now node_of)) in
    listing_last (player_of c.args.player.now) (leaf_of c.args.root) nodes (map leaf_of (upcoming c.loop-node.due.items)) (map leaf_of c.loop-node.leaves.items) (subst (λ (ns : List NodeOf). Listing (player_of c.args.player.now) (leaf_of c.args.root) nodes ns (map leaf_of (upcoming c.loop-node.due.items)) (map leaf_of c.loop-node.leaves.items)) none c.loop-node.invariant.listing)
