use Rattle.std.proofs.Common.{arith}
use Rattle.zr_game.specs.Games.{game_of}
use Rattle.zr_system.proofs.Sizes.{few_leaves}
use Rattle.zr_system.proofs.size.leaf_columns_before.Goals as goal

pub overflow_add-count : goal.overflow_add-count
overflow_add-count c =
    let f = few_leaves (game_of c.args.game.now) c.args.leaves.now c.requires.leaves c.args.i in
    omega (
      arith,
      f,
      c.requires.first,
      c.loop-k-test.true,
      c.loop-k.invariant.few,
      c.leaf_column_count-count.ensures.few,
    )

pub returns-clause-few : goal.returns-clause-few
returns-clause-few c =
    let f = few_leaves (game_of c.args.game.now) c.args.leaves.now c.requires.leaves c.args.i in
    omega (arith, f, c.requires.first, c.loop-k.auto.k-end, c.loop-k.invariant.few)
