use Rattle.zr_simplex.proofs.resume.with_last_row.Goals as goal

pub append-requires-clause-kept : goal.append-requires-clause-kept
append-requires-clause-kept c rows e = (rw c.in_ok-tableau.was at (c.requires.kept rows e)).0

pub append-requires-clause-dual : goal.append-requires-clause-dual
append-requires-clause-dual c rows e = (rw c.in_ok-tableau.was at (c.requires.kept rows e)).1
