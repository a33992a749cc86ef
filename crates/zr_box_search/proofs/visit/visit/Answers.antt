use Rattle.std.proofs.Common.{◌∙◌, arith, ap, refl, subst, sym}
use Rattle.zr_game.specs.Games.{game_of}
use Rattle.zr_cases.specs.Cases.{bnode_of}
use Rattle.zr_boxes.specs.Boxes.{BoxOf}
use Rattle.zr_boxes.specs.Paths.{box_of}
use Rattle.zr_box_search.specs.Dues.{AreRanged, box_by, moves_of}
use Rattle.zr_box_search.specs.Fates.{IsEndNode}
use Rattle.zr_box_search.proofs.Fating.{pivots_end}
use Rattle.zr_box_search.proofs.PathLists.{leaves_box}
use Rattle.zr_box_search.proofs.visit.visit.Goals as goal

pub early_deviation-requires-clause-ranged : goal.early_deviation-requires-clause-ranged
early_deviation-requires-clause-ranged c =
    let same = leaves_box (game_of c.args.game.now) (moves_of c.args.paths.now)
    c.in-Ok.leaves.items c.in-Ok.ensures in
    subst (AreRanged (game_of c.args.game.now)) (sym (ap box_of c.deref.ensures.value ∙ same))
    c.requires.due.ranged

pub returns-in-Ok-Some-clause-fate : goal.returns-in-Ok-Some-clause-fate
returns-in-Ok-Some-clause-fate c =
    let game = game_of c.args.game.now in
    let same = leaves_box game (moves_of c.args.paths.now) c.in-Ok.leaves.items c.in-Ok.ensures in (
      subst (λ (b : BoxOf). IsEndNode game b (bnode_of c.in-Ok-Some.node))
          (ap box_of c.deref.ensures.value ∙ same)
          (rw c.in-Ok-Some.field-0-is at c.in-Ok-Some.ensures.node),
      rw c.in-Ok-Some.field-0-is at c.in-Ok-Some.ensures.form,
      pivots_end game (box_by game (moves_of c.args.paths.now)) c.args.purse.now c.args.purse.now
          (record { limit = refl; branches = refl; cuts = refl; pivots = omega arith }),
    )
