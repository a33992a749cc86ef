use Rattle.std.proofs.Common.{rules, ◌+◌, ◌∙◌, sym, FitsSigned}
use Rattle.std.specs.Int.{w128}
use Rattle.std.proofs.lemmas.Int.{to_z-of_z}
use Rattle.zr_game.specs.Games.{game_of}
use Rattle.zr_system.specs.Regions.{leaves_of}
use Rattle.zr_system.specs.declared.unknown.Unknown.TheVariants.{Weight}
use Rattle.zr_draw.proofs.Columns.{number_is, place_below}
use Rattle.zr_draw.proofs.parts.weight_of.Goals as goal

pub num-requires : goal.num-requires
num-requires c =
    place_below (game_of c.args.game.now) (leaves_of c.args.leaves.now) c.args.x.now
    c.requires.columns (c.share_column.result + c.var_count.result) (Weight c.args.i c.args.k)
    (rw c.var_count.ensures.count c.share_column.ensures.weight)

pub returns-clause-value : goal.returns-clause-value
returns-clause-value c =
    let fits : FitsSigned w128 c.num.result = search rules in
    simp to_z-of_z (c.num.ensures.value
    ∙ sym (number_is (game_of c.args.game.now) (leaves_of c.args.leaves.now) c.args.x.now
    (c.share_column.result + c.var_count.result) (Weight c.args.i c.args.k)
    (rw c.var_count.ensures.count c.share_column.ensures.weight)))
