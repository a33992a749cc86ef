use Rattle.std.proofs.Common.{◌+◌, arith}
use Rattle.zr_gen.proofs.Places.{rank_small, round_place}
use Rattle.zr_gen.proofs.item_draws.ItemDraws.meeting.Goals as goal

pub player_draw-requires-clause-place : goal.player_draw-requires-clause-place
player_draw-requires-clause-place c =
    let d = c.args.self.now in
    let small = rank_small c.args.i c.args.j d.players c.requires.player c.requires.other c.requires.two in
    round_place d.players d.items (2 + c.rank.result) c.args.k (omega (arith, small, c.rank.ensures))
    c.requires.item
