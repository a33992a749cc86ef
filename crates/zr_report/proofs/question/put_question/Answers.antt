use Rattle.zr_report.proofs.question.put_question.Goals as goal

pub returns-in-Branch : goal.returns-in-Branch
returns-in-Branch c = rw c.in-Branch.is (c.put_branch.ensures c.args.basis.now)
