use Rattle.std.proofs.Common.{arith, sym}
use Rattle.zr_game.specs.Games.{game_of}
use Rattle.zr_refute.proofs.Places.{off_past, off_share}
use Rattle.zr_refute.proofs.place.off_line.Goals as goal

pub returns-then-var-var_count : goal.returns-then-var-var_count
returns-then-var-var_count c =
    let v = c.var_count.ensures.count in
    let t = c.if-var-var_count.true in
    sym (off_share (game_of c.args.game.now) c.args.i c.args.k c.args.n c.if-n-eq0.false
    (omega (arith, v, t)))

pub returns : goal.returns
returns c =
    let v = c.var_count.ensures.count in
    let t = c.if-var-var_count.false in
    sym (off_past (game_of c.args.game.now) c.args.i c.args.k c.args.n c.if-n-eq0.false
    (λ h. omega (arith, v, t, h)))
