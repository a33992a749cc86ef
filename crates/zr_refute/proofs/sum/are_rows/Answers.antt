use Rattle.std.proofs.Common.{◌<◌, ◌≤◌, arith, subst, ℕ, ℤ, pos, length}
use Rattle.zr_base.specs.Steps.{IsNarrow}
use Rattle.zr_base.proofs.SumSteps.{get_or_default}
use Rattle.zr_game.specs.Games.{game_of}
use Rattle.zr_system.specs.Regions.{leaves_of}
use Rattle.zr_system.specs.System.{system_rows}
use Rattle.zr_refute.proofs.Multiplied.{are_multipliers, rows_length, rows_of_multipliers}
use Rattle.zr_refute.proofs.sum.are_rows.Goals as goal

pub returns : goal.returns
returns c =
    let game = game_of c.args.game.now in
    let leaves = leaves_of c.args.leaves.now in
    let path = c.args.path.now in
    let mult = c.args.mult.now in
    let count = length (system_rows game leaves path) in
    let l = rows_length game leaves path in
    let past : length mult ≤ c.loop-row.row-index = c.loop-row-test.false in (
      λ t. are_multipliers count IsNarrow mult c.requires.mult.0 (λ k d h.
          let b = c.loop-row.invariant.0 t k (omega (arith, h, past)) in
          subst (λ (s : ℕ × ℤ). s.0 < count) (get_or_default mult k (0, pos 0) d h)
          (omega (arith, b, l))),
      λ a. c.loop-row.invariant.1 (λ m h. let e = c.loop-row.auto.row-index-end in
          let b = rows_of_multipliers count mult a m (0, pos 0) (omega (arith, h, e)) in
          omega (arith, b, l)),
    )
