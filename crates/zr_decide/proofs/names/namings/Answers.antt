use Rattle.std.proofs.Common.{arith, ◌-◌, [], List, get_or, map, subst}
use Rattle.zr_game.specs.Games.{game_of}
use Rattle.zr_game.specs.Named.{named_of}
use Rattle.zr_tree.specs.Nodes.{NodeOf}
use Rattle.zr_cert.specs.Certs.{nodes_of}
use Rattle.zr_decide.specs.Naming.{IsNaming}
use Rattle.zr_decide.proofs.Naming.{namings_more, nodes_read, pivots_on}
use Rattle.zr_decide.proofs.names.namings.Goals as goal

pub loop-i-preserved : goal.loop-i-preserved
loop-i-preserved c =
    let few = c.cut-items.ensures.few in
    let len = c.len-left.ensures in
    let ok = c.cut-items.result.ok.0 in
    record {
      named = rw c.in-Ok-push.ensures.items
          (namings_more (game_of c.args.game.now) (map nodes_of c.args.covers.now) c.args.room c.loop-i.i
          c.loop-i.left (c.loop-i.left - c.len-left.result) c.loop-i.lists.items
          c.cut-items.result c.loop-i.invariant.named (omega (arith, few, len, ok))
          (λ player is. c.cut-items.ensures.cut (c.loop-i.left - c.len-left.result)
          (game_of c.args.game.now) c.loop-i.i player (get_or (map nodes_of c.args.covers.now) c.loop-i.i [])
          (omega (arith, few, len, ok))
          (subst (λ (ns : List NodeOf). IsNaming (game_of c.args.game.now) c.loop-i.i player ns
          (map named_of c.in-Ok.items.items))
          (nodes_read c.args.covers.now c.loop-i.i c.index-covers-i.result c.deref.result.now
          (omega (arith, c.loop-i-test.true)) c.deref.ensures.value)
          (c.in-Ok.ensures.named player is))));
      pivots = pivots_on c.args.purse.now c.loop-i.purse c.naming.new.purse
          c.loop-i.invariant.pivots c.naming.ensures.purse;
    }
