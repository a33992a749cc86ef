use Rattle.std.proofs.Common.{arith, ℕ, ◌≡◌, ap, length}
use Rattle.zr_game.specs.Games.{game_of}
use Rattle.zr_system.specs.Lines.{leaf_lines}
use Rattle.zr_system.specs.Regions.{leaf_count, leaves_of}
use Rattle.zr_system.specs.Unknowns.{list_to}
use Rattle.zr_system.proofs.Sizes.{length_player}
use Rattle.zr_system.proofs.size.player_row_count.Goals as goal

pub returns-clause-count : goal.returns-clause-count
returns-clause-count c =
    let game = game_of c.args.game.now in
    let leaves = leaves_of c.args.leaves.now in
    let s = length_player game leaves c.args.i in
    let e : c.loop-k.k ≡ leaf_count leaves c.args.i = omega
    (arith, c.loop-k-test.false, c.loop-k.auto.k-end, c.leaf_count-k-end.ensures.count) in
    let l = ap (λ (n : ℕ). length (list_to n (λ k. leaf_lines game leaves c.args.i k))) e in
    omega (arith, s, l, c.loop-k.invariant.count)
