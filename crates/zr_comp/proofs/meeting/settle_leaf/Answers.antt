use Rattle.zr_comp.proofs.meeting.settle_leaf.Goals as goal

pub leaf_case-requires-clause-path : goal.leaf_case-requires-clause-path
leaf_case-requires-clause-path c = rw c.deref.ensures.value c.requires.list.suits
