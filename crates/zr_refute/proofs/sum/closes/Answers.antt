use Rattle.std.proofs.Common.{rules, IsTrue, ap, ◌∙◌, length, ⊎_elim}
use Rattle.zr_lin.specs.Ineqs.{row_at}
use Rattle.zr_game.specs.Games.{game_of}
use Rattle.zr_system.specs.Regions.{leaves_of}
use Rattle.zr_system.specs.System.{system_rows}
use Rattle.zr_system.specs.Unknowns.{columns}
use Rattle.zr_refute.specs.Steps.{HasWideRow, HasWideSum}
use Rattle.zr_refute.proofs.Closing.{closing, none_wide}
use Rattle.zr_refute.proofs.sum.closes.Goals as goal

pub returns : goal.returns
returns c =
    let game = game_of c.args.game.now in
    let leaves = leaves_of c.args.leaves.now in
    let path = c.args.path.now in
    let mult = c.args.mult.now in
    let row = row_at (system_rows game leaves path) in
    let count = length (columns game leaves) in
    let len = c.combine.auto.sums ∙ c.requires.columns ∙ ap length c.requires.order in
    let made = c.in_ok-total.ensures.ok in
    let yes : IsTrue c.are_rows.result = search rules in
    let exist = c.are_rows.ensures.0 yes in
    let told = closing row mult c.combine.new.sums c.in_ok-total.total made count len
    c.are_zero-zero.result c.is_negative.result c.are_zero-zero.ensures c.is_negative.ensures in (
      λ wide. ⊎_elim (λ (a : HasWideRow game leaves path mult). absurd
          (let e = c.in_ok-total.ensures.wide_ends a in cc))
          (λ (a : HasWideSum game leaves path mult). none_wide row mult c.combine.new.sums
          c.in_ok-total.total made count len a.0 a.1) wide.1,
      (λ t. (exist, told.0 t), λ r. told.1 r.1),
    )
