use Rattle.zr_refute.proofs.check.visit.Goals as goal

pub returns-in-OnOff-clause-err : goal.returns-in-OnOff-clause-err
returns-in-OnOff-clause-err c = rw c.in-OnOff.is c.visit_leaf.ensures.err

pub returns-in-RowSplit-clause-ok : goal.returns-in-RowSplit-clause-ok
returns-in-RowSplit-clause-ok c = rw c.in-RowSplit.is c.visit_slot.ensures.ok

pub returns-in-RowSplit-clause-err : goal.returns-in-RowSplit-clause-err
returns-in-RowSplit-clause-err c = rw c.in-RowSplit.is c.visit_slot.ensures.err

pub returns-in-Close-clause-ok : goal.returns-in-Close-clause-ok
returns-in-Close-clause-ok c =
    rw c.in-Close.is (rw c.deref.ensures.value at c.visit_close.ensures.ok)

pub returns-in-Close-clause-err : goal.returns-in-Close-clause-err
returns-in-Close-clause-err c =
    rw c.in-Close.is (rw c.deref.ensures.value at c.visit_close.ensures.err)
