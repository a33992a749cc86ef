use Rattle.std.proofs.Common.{◌-◌, ◌^◌, arith, ap, ◌∙◌, min}
use Rattle.zr_game.specs.Games.{game_of}
use Rattle.zr_system.specs.Regions.{LeavesOf}
use Rattle.zr_system.specs.Regions as content
use Rattle.zr_system.specs.System.{cell_count}
use Rattle.zr_decide.proofs.Refuting.{same_leaves}
use Rattle.zr_decide.proofs.system.leaves_of.Goals as goal

pub returns-then-cells-gt-CELL_LIMIT-clause-cause :
    goal.returns-then-cells-gt-CELL_LIMIT-clause-cause
returns-then-cells-gt-CELL_LIMIT-clause-cause c trees e =
    let game = game_of c.args.game.now in
    let same = same_leaves game trees c.args.named.now c.requires.named c.requires.empty
    (content.leaves_of c.in-Ok.leaves) (c.in-Ok.ensures.content trees e) in (
      c.cells-cells.ensures
          ∙ ap (λ (l : LeavesOf). min (cell_count game l) (2 ^ 128 - 1)) same,
      omega (arith, c.if-cells-gt-CELL_LIMIT.true),
    )

pub returns-clause-content : goal.returns-clause-content
returns-clause-content c trees e =
    same_leaves (game_of c.args.game.now) trees c.args.named.now c.requires.named
    c.requires.empty (content.leaves_of c.in-Ok.leaves) (c.in-Ok.ensures.content trees e)
