use Rattle.std.proofs.Common.{◌≤◌, arith, length}
use Rattle.std.proofs.lemmas.List.{length-map}
use Rattle.zr_game.specs.Players.{player_of, players_of}
use Rattle.zr_game.proofs.GameForms.{not_empty}
use Rattle.zr_game.proofs.form.is_game.Goals as goal

pub returns : goal.returns
returns c =
    let len = length-map c.args.players.now player_of in
    let some = not_empty (length c.args.players.now) c.is_empty.result c.is_empty.ensures
    c.if-is_empty.false in
    let few : length (players_of c.args.players.now) ≤ 16 = omega (arith, len) in (
      λ h. record {
        some_player = omega (arith, len, some);
        player_count = few;
        players = c.are_players.ensures.0 h;
      },
      λ h. c.are_players.ensures.1 h.players,
    )
