use Rattle.std.proofs.Common.{◌∙◌, arith, sym, ap, map}
use Rattle.zr_game.specs.Players.{player_of}
use Rattle.zr_tree.specs.Nodes.{node_of}
use Rattle.zr_tree.specs.Form.{is_forest}
use Rattle.zr_bnb.specs.Found.{proofs_for}
use Rattle.zr_bnb.proofs.Proving.{as_many, one_forest}
use Rattle.zr_bnb.proofs.prove.prove.Goals as goal

pub make_tree-requires : goal.make_tree-requires
make_tree-requires c =
    let player = player_of c.args.player.now in
    let wanted = proofs_for c.args.aim.now c.args.least in
    let nodes = map node_of c.in-Ok.nodes.items in
    let t = c.requires.tree.1 wanted nodes c.in-Ok.ensures.nodes in
    let count = as_many player wanted c.args.plans.now nodes c.in-Ok.ensures.nodes in
    let few = c.requires.few in
    record {
      whole = sym (ap (is_forest 1) t.2) ∙ one_forest t.0;
      few = omega (arith, count, few);
      forms = c.in-Ok.ensures.forms;
    }

pub returns-in-Ok-clause-tree : goal.returns-in-Ok-clause-tree
returns-in-Ok-clause-tree c n plan =
    let wanted = proofs_for c.args.aim.now c.args.least in
    let nodes = map node_of c.in-Ok.nodes.items in
    let t = plan wanted nodes c.in-Ok.ensures.nodes in
    (t.0, t.2 ∙ sym (ap (map node_of) c.make_tree.ensures), t.1, t.3)
