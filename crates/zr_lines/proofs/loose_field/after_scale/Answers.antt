use Rattle.std.proofs.Common.{rules, ◌≡◌, ◌≢◌}
use Rattle.std.specs.Prelude.{codes}
use Rattle.zr_lines.proofs.LooseSteps.{scale_found, scale_missing, scale_refused, zero_scale_found}
use Rattle.zr_lines.proofs.loose_field.after_scale.Goals.{else-refuting-via-then-refuting+else-ne, else-refuting-via-else-refuting}
use Rattle.zr_lines.proofs.loose_field.after_scale.Goals as goal

pub returns-in_err-field : goal.returns-in_err-field
returns-in_err-field c = rw c.from_residual.ensures (scale_missing c.args.refuting c.args.left c.in_err-field.ensures)

pub returns-then-ne : goal.returns-then-ne
returns-then-ne c =
    let other : c.in_ok-field.field.now ≢ codes "0" = search rules in
    rw c.if-refuting.true (scale_refused c.args.left c.in_ok-field.field c.in_ok-field.rest c.in_ok-field.ensures other)

pub returns : goal.returns
returns c =
    elim c.else-refuting.branch [
      | else-refuting-via-then-refuting+else-ne w ↦
          let same : c.in_ok-field.field.now ≡ codes "0" = search rules in
          zero_scale_found c.args.refuting c.args.left c.in_ok-field.field c.in_ok-field.rest c.in_ok-field.ensures same
      | else-refuting-via-else-refuting w ↦
          rw w.if-refuting.false (scale_found c.args.left c.in_ok-field.field c.in_ok-field.rest c.in_ok-field.ensures)
    ]
