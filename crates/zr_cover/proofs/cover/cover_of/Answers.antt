use Rattle.std.proofs.Common.{◌∙◌, arith, sym, ap, map}
use Rattle.zr_game.specs.Players.{player_of}
use Rattle.zr_tree.specs.Nodes.{node_of}
use Rattle.zr_tree.specs.Form.{is_forest}
use Rattle.zr_bnb.proofs.Proving.{one_forest}
use Rattle.std.proofs.lemmas.List.{length-map}
use Rattle.zr_cover.proofs.Coverings.{exact_cover_of}
use Rattle.zr_cover.proofs.cover.cover_of.Goals as goal

pub tree_of-requires : goal.tree_of-requires
tree_of-requires c =
    let nodes = c.in-Ok.nodes.items in
    let t = c.in-Ok.ensures.nodes in
    let few = c.in-Ok.ensures.few in
    let l = length-map nodes node_of in
    let w = c.nodes_of.new.purse.within in
    let s = c.in-Ok.ensures.spends.limit in
    let r = c.requires.limit in
    record {
      whole = sym (ap (is_forest 1) t.1) ∙ one_forest t.0;
      few = omega (arith, few, l, w, s, r);
      forms = c.in-Ok.ensures.forms;
    }

pub returns-in-Ok-clause-cover : goal.returns-in-Ok-clause-cover
returns-in-Ok-clause-cover c =
    let player = player_of c.args.player.now in
    let nodes = map node_of c.in-Ok.nodes.items in
    let t = c.in-Ok.ensures.nodes in (
      t.0,
      t.1 ∙ sym (ap (map node_of) c.tree_of.ensures),
      exact_cover_of player c.args.purse.now c.nodes_of.new.purse nodes t,
    )
