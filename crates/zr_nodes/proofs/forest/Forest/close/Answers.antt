use Rattle.std.proofs.Common.{arith}
use Rattle.zr_nodes.proofs.Parts.{whole_closed, closed_closed}
use Rattle.zr_nodes.proofs.forest.Forest.close.Goals as goal

pub invariant_of-self : goal.invariant_of-self
invariant_of-self g c =
    whole_closed _ _ _ _ _ c.self.invariant c.args.self.now c.self.view_is c.args.node c.requires _
    (omega (arith, c.replace.ensures.size)) c.replace.ensures.capacity c.replace.ensures.order

pub returns-clause-closed : goal.returns-clause-closed
returns-clause-closed g c =
    closed_closed _ _ _ _ _ c.self.invariant c.args.self.now c.self.view_is c.args.node c.requires
    c.replace.new.self
    (omega (arith, c.replace.ensures.size)) c.replace.ensures.capacity c.replace.ensures.order

pub returns-clause-kept : goal.returns-clause-kept
returns-clause-kept g c = (invariant_of-self g c).forest
