use Rattle.zr_game.proofs.Checks.{Checked}
use Rattle.zr_mix.specs.Mixtures.{part_of}
use Rattle.zr_cert.specs.Forms.{IsPartForm}
use Rattle.zr_cert.proofs.form.are_parts.Given as goal

abbrev pub invariant-loop-part : goal.invariant-loop-part
invariant-loop-part l = Checked l.part-index (λ k part. IsPartForm (part_of part)) l.parts l.all
