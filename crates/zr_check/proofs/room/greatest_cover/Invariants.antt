use Rattle.zr_cert.specs.Certs.{nodes_of}
use Rattle.zr_check.proofs.Greatest.{AreWithin}
use Rattle.zr_check.proofs.room.greatest_cover.Given as goal

abbrev pub invariant-loop-cover : goal.invariant-loop-cover
invariant-loop-cover l = AreWithin nodes_of l.cover-index l.covers l.most
