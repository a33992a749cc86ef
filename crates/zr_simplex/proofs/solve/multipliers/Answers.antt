use Rattle.std.proofs.Common.{rules, ◌≡◌, length}
use Rattle.zr_simplex.specs.Programs.{program_of}
use Rattle.zr_simplex.specs.Answers.{AreOf}
use Rattle.zr_simplex.specs.Tableaus.{form_of}
use Rattle.zr_simplex.proofs.Conclude.{lists_apart}
use Rattle.zr_simplex.proofs.solve.multipliers.Goals as goal

pub returns-clause-listed : goal.returns-clause-listed
returns-clause-listed c =
    let e : c.len.result ≡ length c.args.lp.now.rows.items = search rules in
    let of : AreOf (program_of c.args.lp.now) (form_of c.args.tableau.now c.args.row) c.args.negated c.in_ok-mult.mult.items c.in_ok-extra.extra.items = search rules in
    record {
      multipliers = rw e at c.in_ok-mult.ensures.multipliers;
      extras = c.in_ok-extra.ensures.multipliers;
      narrow = (rw e at c.in_ok-mult.ensures.ascends, c.in_ok-extra.ensures.ascends);
      apart = lists_apart c.args.lp.now c.requires.lp c.args.tableau.now c.requires.kept c.args.row c.args.negated c.in_ok-mult.mult.items c.in_ok-extra.extra.items c.requires.row c.requires.sign of;
    }
