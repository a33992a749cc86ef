use Rattle.std.proofs.Common.{length, subst}
use Rattle.zr_game.specs.Forms.{IsCoefficient}
use Rattle.zr_tree.specs.declared.slot.Left.{Left}
use Rattle.zr_tree.specs.SlotRows.{IsLeft}
use Rattle.zr_tree.proofs.SignedTerms.{terms_below}
use Rattle.zr_tree.proofs.known.left_at.Goals as goal

pub terms_at-requires : goal.terms_at-requires
terms_at-requires c =
    let form = subst (λ (left : Left). IsLeft (length c.args.point.now.num) left) c.in-Terms.is c.requires in
    terms_below IsCoefficient 0 (length c.args.point.now.num) c.in-Terms.terms.now form
