use Rattle.std.proofs.Common.{arith, ◌≡◌, ◌+◌, ◌≤◌, sym, ap, subst, ◌∙◌, List, length, map}
use Rattle.std.proofs.lemmas.List.{length-map}
use Rattle.zr_game.specs.Games.{game_of}
use Rattle.zr_game.specs.Forms.{IsPlayer}
use Rattle.zr_game.specs.Players.{PlayerOf, player_of}
use Rattle.zr_game.proofs.Items.{at_number}
use Rattle.zr_tree.specs.Nodes.{node_of}
use Rattle.zr_tree.specs.declared.node.Node.{Node}
use Rattle.zr_cert.specs.Certs.{nodes_of}
use Rattle.zr_cert.specs.Forms.{leaf_count}
use Rattle.zr_decide.specs.Coverings.{AreCoversTo}
use Rattle.zr_decide.proofs.Causing.{cover_cause}
use Rattle.zr_decide.proofs.Covering.{cover_more, no_covers, none_of, shows_empty}
use Rattle.zr_decide.proofs.Working.{all_work, more_work}
use Rattle.zr_decide.proofs.covers.covers_of.Goals as goal
use Rattle.zr_decide.proofs.covers.covers_of.Goals.{In-loop-i}

module _ (c : In-loop-i) where
  who : (player : PlayerOf) × IsPlayer (game_of c.args.game.now) c.loop-i.i player
  who =
      let m = length-map c.args.game.now.players.items player_of in
      at_number (game_of c.args.game.now) c.loop-i.i
      (omega (arith, c.loop-i-test.true, c.len-i-end.ensures, c.args.game.now.players.ok.0, m))

pub loop-i-init : goal.loop-i-init
loop-i-init c = record {
  so_far = rw c.new-trees.ensures.items
      (no_covers (game_of c.args.game.now) c.args.purse.now);
  within = omega arith;
}

pub returns-in-Err-clause-cause : goal.returns-in-Err-clause-cause
returns-in-Err-clause-cause c kind =
    let here = who (goal.at.returns-in-Err-clause-cause c).In-loop-i in
    cover_cause (game_of c.args.game.now) kind c.loop-i.i here.0 here.1 c.args.purse.now
    c.loop-i.purse c.cover_of.new.purse c.loop-i.invariant.so_far.work c.in-Err.stop
    (c.in-Err.ensures.cause here.0 here.1)

pub returns-in-Err-clause-spends : goal.returns-in-Err-clause-spends
returns-in-Err-clause-spends c =
    let here = who (goal.at.returns-in-Err-clause-spends c).In-loop-i in
    all_work (game_of c.args.game.now) (c.loop-i.i + 1) c.args.purse.now c.cover_of.new.purse
    (more_work (game_of c.args.game.now) c.loop-i.i here.0 here.1 c.args.purse.now c.loop-i.purse
    c.loop-i.invariant.so_far.work c.cover_of.new.purse (c.in-Err.ensures.spends here.0 here.1))

pub returns-then-not-has_leaf-clause-covering : goal.returns-then-not-has_leaf-clause-covering
returns-then-not-has_leaf-clause-covering c =
    let here = who (goal.at.returns-then-not-has_leaf-clause-covering c).In-loop-i in
    let none = ap (λ (xs : List Node). leaf_count (map node_of xs)) (sym c.deref.ensures.value)
    ∙ none_of c.has_leaf.result (leaf_count (map node_of c.deref.result.now))
    c.if-not-has_leaf.true c.has_leaf.ensures.1 in
    let short = c.in-Ok.ensures.few in
    let within = c.cover_of.new.purse.within in
    let own = (c.in-Ok.ensures.spends here.0 here.1).limit in
    let before = c.loop-i.invariant.so_far.work.limit in
    let limit = c.requires.limit in
    shows_empty (game_of c.args.game.now) c.loop-i.i here.0 here.1 (nodes_of c.in-Ok.cover.0)
    c.in-Ok.cover.1 (c.in-Ok.ensures.cover here.0 here.1) none
    (omega (arith, short, within, own, before, limit))

pub returns-then-not-has_leaf-clause-spends : goal.returns-then-not-has_leaf-clause-spends
returns-then-not-has_leaf-clause-spends c =
    let here = who (goal.at.returns-then-not-has_leaf-clause-spends c).In-loop-i in
    all_work (game_of c.args.game.now) (c.loop-i.i + 1) c.args.purse.now c.cover_of.new.purse
    (more_work (game_of c.args.game.now) c.loop-i.i here.0 here.1 c.args.purse.now c.loop-i.purse
    c.loop-i.invariant.so_far.work c.cover_of.new.purse (c.in-Ok.ensures.spends here.0 here.1))

pub returns-in_default-clause-spends : goal.returns-in_default-clause-spends
returns-in_default-clause-spends c =
    let here = who (goal.at.returns-in_default-clause-spends c).In-loop-i in
    all_work (game_of c.args.game.now) (c.loop-i.i + 1) c.args.purse.now c.cover_of.new.purse
    (more_work (game_of c.args.game.now) c.loop-i.i here.0 here.1 c.args.purse.now c.loop-i.purse
    c.loop-i.invariant.so_far.work c.cover_of.new.purse (c.in-Ok.ensures.spends here.0 here.1))

pub loop-i-preserved : goal.loop-i-preserved
loop-i-preserved c =
    let here = who (goal.at.loop-i-preserved c).In-loop-i in
    let m = length-map c.args.game.now.players.items player_of in
    let s = c.loop-i.invariant.so_far in
    let leaf = subst (λ (xs : List Node). 1 ≤ leaf_count (map node_of xs)) c.deref.ensures.value
    (c.has_leaf.ensures.0 c.if-not-has_leaf.false) in
    record {
      so_far = rw c.in-Ok-push.ensures.items
          (cover_more (game_of c.args.game.now) c.loop-i.i here.0 here.1 c.loop-i.trees.items
          c.loop-i.ray s.covers_are c.in-Ok.cover.0 c.in-Ok.cover.1
          (c.in-Ok.ensures.cover here.0 here.1) leaf c.args.purse.now c.loop-i.purse
          c.cover_of.new.purse s.few s.work (c.in-Ok.ensures.spends here.0 here.1)
          c.in-Ok.ensures.few c.first_of-ray.result c.first_of-ray.ensures.some
          c.first_of-ray.ensures.none);
      within = omega (arith, c.loop-i-test.true, c.len-i-end.ensures, c.args.game.now.players.ok.0, m);
    }

pub returns-clause-covering : goal.returns-clause-covering
returns-clause-covering c =
    let m = length-map c.args.game.now.players.items player_of in
    let e : c.loop-i.i ≡ length (game_of c.args.game.now) = omega (
      arith,
      c.loop-i-test.false,
      c.len-i-end.ensures,
      c.args.game.now.players.ok.0,
      m,
      c.loop-i.invariant.within,
    ) in
    let s = c.loop-i.invariant.so_far in
    let f = s.few in (
      subst (λ n. AreCoversTo (game_of c.args.game.now) n c.loop-i.trees.items c.loop-i.ray) e
          s.covers_are,
      omega (arith, f, e),
    )

pub returns-clause-spends : goal.returns-clause-spends
returns-clause-spends c =
    all_work (game_of c.args.game.now) c.loop-i.i c.args.purse.now c.loop-i.purse
    c.loop-i.invariant.so_far.work
