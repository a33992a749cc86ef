use Rattle.zr_cert.specs.Certs.{bound_of}
use Rattle.zr_check.proofs.Greatest.{AreWithin}
use Rattle.zr_check.proofs.room.greatest_bound.Given as goal

abbrev pub invariant-loop-bound : goal.invariant-loop-bound
invariant-loop-bound l =
    AreWithin (λ b. (bound_of b).tree) l.bound-index l.bounds l.most
