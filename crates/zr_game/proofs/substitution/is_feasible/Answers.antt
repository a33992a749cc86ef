use Rattle.std.proofs.Common.{pos, ◌<ℤ◌}
use Rattle.zr_game.specs.Players.{player_of}
use Rattle.zr_game.proofs.FeasibleLaws.{feasible_told}
use Rattle.zr_game.proofs.substitution.is_feasible.Goals as goal

pub returns : goal.returns
returns c =
    let d : (pos 0) <ℤ c.args.point.now.den = rw c.den-den.ensures.value at
    c.den-den.ensures.positive in
    let a = rw c.deref.ensures.value at c.in_ok-bounds.ensures in
    let b = rw c.deref-2.ensures.value at c.in_ok-rows.ensures in
    let e = rw c.deref-3.ensures.value at c.in_ok-pairs.ensures in
    feasible_told (player_of c.args.player.now) c.args.point.now c.in_ok-bounds.bounds
    c.in_ok-rows.rows c.in_ok-pairs.pairs d c.requires.len a b e
