use Rattle.std.proofs.Common.{arith, ◌∙◌, ap, length, map}
use Rattle.std.proofs.lemmas.List.{length-map}
use Rattle.zr_game.specs.Games.{game_of}
use Rattle.zr_game.specs.Leaves.{leaf_of}
use Rattle.zr_game.proofs.Items.{at_number}
use Rattle.zr_tree.specs.Nodes.{node_of}
use Rattle.zr_tree.proofs.Forests.{tree_of}
use Rattle.zr_system.specs.Regions.{region_of}
use Rattle.zr_refute.specs.Flags.{flags_in}
use Rattle.zr_refute.proofs.Flagging.{are_regions, as_many, few_flags, few_regions}
use Rattle.zr_refute.proofs.over.regions_of.Goals as goal

pub exact_and_not-requires : goal.exact_and_not-requires
exact_and_not-requires c =
    let who = at_number (game_of c.args.game.now) c.args.i c.requires in
    let t = tree_of (map node_of c.args.cover.now.nodes.items) c.args.cover.now.whole.whole in
    let l = c.in_ok-leaves.ensures.leaves who.0 who.1 t.0 t.1 in
    rw (c.deref.ensures.value, c.deref-2.ensures.value) (as_many who.0 t.0 (map node_of c.args.cover.now.nodes.items) t.1 c.in_ok-leaves.leaves.items l)

pub returns-in-Ok-clause-few : goal.returns-in-Ok-clause-few
returns-in-Ok-clause-few c =
    let nodes = map node_of c.deref-2.result.now in
    let leaves = map leaf_of c.deref.result.now in
    let r = few_regions leaves (flags_in nodes) in
    let f = few_flags nodes in
    let n = length-map c.deref-2.result.now node_of in
    let m = length-map c.args.cover.now.nodes.items node_of in
    let k = ap length c.deref-2.ensures.value in
    let e = ap length c.in-Ok.ensures.content in
    let l = length-map c.in-Ok.list.items region_of in
    omega (arith, r, f, n, m, k, e, l, c.args.cover.now.whole.few)

pub returns-in-Ok-clause-leaf : goal.returns-in-Ok-clause-leaf
returns-in-Ok-clause-leaf c player is =
    let l = c.in_ok-leaves.ensures.lengths player is in
    c.in-Ok.ensures.leaf player (rw c.deref.ensures.value l)

pub returns-in-Ok-clause-content : goal.returns-in-Ok-clause-content
returns-in-Ok-clause-content c player is t e =
    let l = c.in_ok-leaves.ensures.leaves player is t e in
    c.in-Ok.ensures.content ∙ rw (c.deref.ensures.value, c.deref-2.ensures.value) (are_regions player t (map node_of c.args.cover.now.nodes.items) e c.in_ok-leaves.leaves.items l)
