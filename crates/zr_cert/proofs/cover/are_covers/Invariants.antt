use Rattle.zr_game.proofs.Checks.{Checked}
use Rattle.zr_cert.specs.Certs.{nodes_of}
use Rattle.zr_cert.specs.Forms.{IsCoverNode, IsTreeWith}
use Rattle.zr_cert.proofs.cover.are_covers.Given as goal

abbrev pub invariant-loop-cover : goal.invariant-loop-cover
invariant-loop-cover l = Checked l.cover-index (λ k cover. (IsTreeWith IsCoverNode) (nodes_of cover)) l.covers l.all
