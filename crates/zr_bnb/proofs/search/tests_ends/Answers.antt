use Rattle.zr_bnb.proofs.search.tests_ends.Goals as goal

pub returns-in-Var-clause-cause : goal.returns-in-Var-clause-cause
returns-in-Var-clause-cause c main still old new =
    c.test_ends.ensures.cause main (still c.if-not-least_open.false) old new
