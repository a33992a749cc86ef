use Rattle.std.proofs.Common.{arith, refl}
use Rattle.zr_game.specs.Games.{game_of}
use Rattle.zr_boxes.specs.Paths.{box_of}
use Rattle.zr_box_search.proofs.Fating.{pivots_end_units}
use Rattle.zr_box_search.proofs.Spending.{spent_nothing}
use Rattle.zr_box_search.proofs.visit.with_points.Goals as goal

pub returns-in-Ok-Some-clause-fate : goal.returns-in-Ok-Some-clause-fate
returns-in-Ok-Some-clause-fate c =
    (c.requires.points, rw c.in-Ok-Some.field-0-is at c.in-Ok-Some.ensures.some, spent_nothing c.args.purse.now)

pub returns-in-Ok-Some-clause-spends : goal.returns-in-Ok-Some-clause-spends
returns-in-Ok-Some-clause-spends c =
    pivots_end_units (game_of c.args.game.now) (box_of c.args.leaves.now) c.args.purse.now
    c.args.purse.now (record { limit = refl; branches = refl; cuts = refl; pivots = omega arith })

pub deviation-requires-clause-single : goal.deviation-requires-clause-single
deviation-requires-clause-single c = record {
  values = rw c.in-Ok-None.field-0-is at c.in-Ok-None.ensures.none;
  points = c.requires.points;
}
