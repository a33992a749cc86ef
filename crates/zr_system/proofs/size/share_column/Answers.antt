use Rattle.std.proofs.Common.{◌+◌, arith}
use Rattle.std.proofs.lemmas.Option.{slice_get_within}
use Rattle.zr_game.specs.Games.{game_of}
use Rattle.zr_system.specs.declared.unknown.Unknown.TheVariants.{Weight}
use Rattle.zr_system.specs.Regions.{leaves_of, var_count}
use Rattle.zr_system.specs.Unknowns.{columns}
use Rattle.zr_system.proofs.ColumnPlaces.{first_column, share_found, weight_found}
use Rattle.zr_system.proofs.size.share_column.Goals as goal

pub overflow_cast-result : goal.overflow_cast-result
overflow_cast-result c =
    let game = game_of c.args.game.now in
    let leaves = leaves_of c.args.leaves.now in
    let w = weight_found game leaves c.args.i c.args.k c.requires.leaf in
    let b = slice_get_within (columns game leaves)
    (first_column game leaves c.args.i c.args.k c.requires.leaf + var_count game c.args.i)
    (Weight c.args.i c.args.k) w in
    omega (
      arith,
      b,
      c.requires.few_columns,
      c.columns_before.ensures.count,
      c.leaf_columns_before.ensures.count,
    )

pub returns-clause-shares : goal.returns-clause-shares
returns-clause-shares c v h =
    let game = game_of c.args.game.now in
    let leaves = leaves_of c.args.leaves.now in
    rw (c.columns_before.ensures.count, c.leaf_columns_before.ensures.count)
    (share_found game leaves c.args.i c.args.k c.requires.leaf v h)

pub returns-clause-weight : goal.returns-clause-weight
returns-clause-weight c =
    let game = game_of c.args.game.now in
    let leaves = leaves_of c.args.leaves.now in
    rw (c.columns_before.ensures.count, c.leaf_columns_before.ensures.count)
    (weight_found game leaves c.args.i c.args.k c.requires.leaf)
