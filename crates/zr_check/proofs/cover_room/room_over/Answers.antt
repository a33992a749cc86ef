use Rattle.std.proofs.Common.{refl}
use Rattle.zr_game.specs.Games.{game_of}
use Rattle.zr_check.proofs.NamedForms.{lists_few, system_forms}
use Rattle.zr_check.proofs.cover_room.room_over.Goals as goal

pub leaves_over-requires-clause-few : goal.leaves_over-requires-clause-few
leaves_over-requires-clause-few c = lists_few c.args.named.now 4294967296 c.requires.lines

pub leaves_over-requires-clause-items : goal.leaves_over-requires-clause-items
leaves_over-requires-clause-items c i player is list here =
    let fit = c.if-not-fit_players.ensures.0 refl in
    system_forms (game_of c.args.game.now) c.args.named.now fit.lengths
    c.requires.form.1.named_forms i player is list here
