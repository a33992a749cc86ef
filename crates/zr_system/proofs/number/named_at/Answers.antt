use Rattle.std.proofs.Common.{◌≡◌, ℕ, ◌<◌, arith, length, sym, subst}
use Rattle.std.proofs.lemmas.List.{length-map}
use Rattle.zr_game.specs.Players.{player_of, var_of}
use Rattle.zr_game.specs.Named.{named_of}
use Rattle.zr_system.specs.Asked.{IsNamedForm}
use Rattle.zr_system.proofs.GameReads.{item_read, named_count_read}
use Rattle.zr_system.proofs.number.named_at.Goals as goal

pub named_number-requires-clause-item : goal.named_number-requires-clause-item
named_number-requires-clause-item c =
    let player = c.index.result.now in
    let below : c.args.i < length c.args.game.now.players.items = omega
    (arith, c.requires.line.0, length-map c.args.game.now.players.items player_of) in
    let named : c.args.i < length c.args.leaves.now.named.items = omega
    (arith, below, c.requires.line.0, c.requires.leaves.named) in
    let inside : c.args.n < length c.index-2.result.now.items = omega (
      arith,
      c.requires.line.1,
      named_count_read c.args.leaves.now c.args.i c.index-2.result.now
          named c.index-2.ensures,
    ) in
    let form = item_read c.args.game.now c.args.i player below c.index.ensures c.args.leaves.now
    c.requires.leaves c.index-2.result.now c.args.n c.index-3.result.now named
    c.index-2.ensures inside c.index-3.ensures in
    let e : c.len.result ≡ length (player_of player).vars = omega
    (arith, c.len.ensures, player.vars.ok.0, length-map player.vars.items var_of) in
    subst (λ (m : ℕ). IsNamedForm m (named_of c.index-3.result.now)) (sym e) form
