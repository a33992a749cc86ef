use Rattle.std.proofs.Common.{arith, sym, ◌∙◌}
use Rattle.zr_game.specs.Games.{game_of}
use Rattle.zr_system.specs.Regions.{leaves_of}
use Rattle.zr_system.proofs.Sizes.{exact_unknowns, loose_unknowns}
use Rattle.zr_system.proofs.size.leaf_column_count.Goals as goal

pub returns-then-is_exact-clause-count : goal.returns-then-is_exact-clause-count
returns-then-is_exact-clause-count c =
    let s = exact_unknowns (game_of c.args.game.now) (leaves_of c.args.leaves.now) c.args.i c.args.k
    (sym c.is_exact.ensures ∙ c.if-is_exact.true) in
    omega (arith, s, c.var_count.ensures.count, c.present_count.ensures)

pub returns-else-is_exact-clause-count : goal.returns-else-is_exact-clause-count
returns-else-is_exact-clause-count c =
    let s = loose_unknowns (game_of c.args.game.now) (leaves_of c.args.leaves.now) c.args.i c.args.k
    (sym c.is_exact.ensures ∙ c.if-is_exact.false) in
    omega (arith, s, c.var_count.ensures.count)
