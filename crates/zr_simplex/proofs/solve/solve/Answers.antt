use Rattle.zr_simplex.specs.Programs.{program_of}
use Rattle.zr_simplex.specs.Halts.{origin_of}
use Rattle.zr_simplex.specs.Tableaus.{basis_of, form_of}
use Rattle.zr_simplex.proofs.Stops.{end_answers, end_misses}
use Rattle.zr_simplex.proofs.solve.solve.Goals as goal

pub returns-in-Ok-clause-reached : goal.returns-in-Ok-clause-reached
returns-in-Ok-clause-reached c =
    let t = c.run.new.tableau in
    end_answers (program_of c.args.lp.now) (origin_of c.args.tableau.now c.args.order.now) c.args.purse.now c.run.new.purse (basis_of t) (form_of t) c.answer.result c.in-Ok.ensures.run c.answer.ensures.basic

pub returns-in-Ok-clause-miss : goal.returns-in-Ok-clause-miss
returns-in-Ok-clause-miss c =
    let t = c.run.new.tableau in
    end_misses (program_of c.args.lp.now) (origin_of c.args.tableau.now c.args.order.now) c.args.purse.now c.run.new.purse (basis_of t) (form_of t) c.answer.result c.in-Ok.ensures.run c.answer.ensures.halts
