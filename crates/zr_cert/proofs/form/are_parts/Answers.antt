use Rattle.std.proofs.Common.{arith}
use Rattle.zr_game.proofs.Checks.{all_checked, all_mapped, more_checked, none_checked}
use Rattle.zr_mix.specs.Mixtures.{part_of}
use Rattle.zr_cert.specs.Forms.{IsPartForm}
use Rattle.zr_cert.proofs.form.are_parts.Goals as goal

pub loop-part-init : goal.loop-part-init
loop-part-init c = none_checked (λ k part. IsPartForm (part_of part)) c.args.parts.now

pub loop-part-preserved : goal.loop-part-preserved
loop-part-preserved c =
    more_checked (λ k part. IsPartForm (part_of part)) c.args.parts.now c.loop-part.part-index c.part-item.result c.loop-part-test.true c.part-item.is c.loop-part.all c.loop-part.invariant c.is_part-all.result c.is_part-all.ensures

pub returns : goal.returns
returns c =
    all_mapped part_of IsPartForm c.args.parts.now c.loop-part.all (all_checked (λ k part. IsPartForm (part_of part)) c.args.parts.now c.loop-part.part-index c.loop-part.all (omega arith) (omega arith) c.loop-part.invariant)
