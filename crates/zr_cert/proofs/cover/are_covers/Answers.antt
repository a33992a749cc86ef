use Rattle.std.proofs.Common.{arith}
use Rattle.zr_game.proofs.Checks.{all_checked, all_mapped, more_checked, none_checked}
use Rattle.zr_cert.specs.Certs.{nodes_of}
use Rattle.zr_cert.specs.Forms.{IsCoverNode, IsTreeWith}
use Rattle.zr_cert.proofs.cover.are_covers.Goals as goal

pub loop-cover-init : goal.loop-cover-init
loop-cover-init c = none_checked (λ k cover. (IsTreeWith IsCoverNode) (nodes_of cover)) c.args.covers.now

pub loop-cover-preserved : goal.loop-cover-preserved
loop-cover-preserved c =
    more_checked (λ k cover. (IsTreeWith IsCoverNode) (nodes_of cover)) c.args.covers.now c.loop-cover.cover-index c.cover-item.result c.loop-cover-test.true c.cover-item.is c.loop-cover.all c.loop-cover.invariant c.is_cover-all.result c.is_cover-all.ensures

pub returns : goal.returns
returns c =
    all_mapped nodes_of (IsTreeWith IsCoverNode) c.args.covers.now c.loop-cover.all (all_checked (λ k cover. (IsTreeWith IsCoverNode) (nodes_of cover)) c.args.covers.now c.loop-cover.cover-index c.loop-cover.all (omega arith) (omega arith) c.loop-cover.invariant)
