use Rattle.std.proofs.Common.{◌≡◌, ◌-◌, length, MatchOption}
use Rattle.zr_basis.specs.BasicForms.{value_column}
use Rattle.zr_basis.specs.Choices.{choose}
use Rattle.zr_simplex.specs.Programs.{program_of}
use Rattle.zr_simplex.specs.Binaries.{number_of}
use Rattle.zr_simplex.specs.Halts.{origin_of}
use Rattle.zr_simplex.specs.Tableaus.{basis_of, form_of}
use Rattle.zr_simplex.specs.Dues.{IsTableau}
use Rattle.zr_simplex.proofs.Going.{IsImproving, IsMending}
use Rattle.zr_simplex.proofs.solve.run.Given as goal

abbrev pub invariant-pivots : goal.invariant-pivots
invariant-pivots l =
    let p = program_of l.lp in
    let n = number_of l.count.items in
    let basis = basis_of l.tableau in
    let form = form_of l.tableau in
    record {
      kept : IsTableau p l.tableau;
      digits : length l.count.items ≡ value_column p;
      going : MatchOption l.start (IsMending p (origin_of l.fn.tableau l.order) l.fn.purse l.purse n basis form) (λ kept. IsImproving p (origin_of l.fn.tableau l.order) l.fn.purse l.purse n basis form kept.items);
    }

abbrev pub decreases-pivots : goal.decreases-pivots
decreases-pivots l =
    let p = program_of l.lp in
    choose (value_column p) p.rows - number_of l.count.items
