use Rattle.std.proofs.Common.{arith}
use Rattle.zr_nodes.proofs.Parts.{whole_front, closed_by_front}
use Rattle.zr_nodes.proofs.forest.Forest.move_front.Goals as goal

pub invariant_of-self : goal.invariant_of-self
invariant_of-self g c =
    whole_front _ _ _ _ _ c.self.invariant c.args.self.now c.self.view_is c.args.node c.requires _
    (omega (arith, c.move_front.ensures.size)) c.move_front.ensures.capacity
    c.move_front.ensures.order

pub returns-clause-closed : goal.returns-clause-closed
returns-clause-closed g c =
    closed_by_front _ _ _ _ _ c.self.invariant c.args.self.now c.self.view_is c.args.node c.requires
    c.move_front.new.self
    (omega (arith, c.move_front.ensures.size)) c.move_front.ensures.capacity
    c.move_front.ensures.order

pub returns-clause-kept : goal.returns-clause-kept
returns-clause-kept g c = (invariant_of-self g c).forest
