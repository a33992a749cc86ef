use Rattle.std.proofs.Common.{arith}
use Rattle.std.proofs.lemmas.List.{length-map}
use Rattle.zr_base.specs.Rows.{row_of}
use Rattle.zr_game.specs.Players.{pair_of, player_of, var_of}
use Rattle.zr_tree.proofs.KnownRows.{slot_count}
use Rattle.zr_tree.proofs.slot.slot_count.Goals as goal

pub returns : goal.returns
returns c leaf =
    let n = slot_count (player_of c.args.player.now) leaf in
    let rows = length-map c.args.player.now.rows.items row_of in
    let vars = length-map c.args.player.now.vars.items var_of in
    let pairs = length-map c.args.player.now.pairs.items pair_of in
    omega (arith, n, rows, vars, pairs, c.len.ensures, c.len-2.ensures, c.len-3.ensures, c.args.player.now.rows.ok.0, c.args.player.now.vars.ok.0, c.args.player.now.pairs.ok.0)
