use Rattle.std.proofs.Common.{◌≡◌, ℕ, ◌+◌, ◌<◌, arith, ap, ◌∙◌, [], ◌∷◌, ◌++◌, map, length, length-append, false}
use Rattle.zr_lin.specs.DenseRows.{DenseRow}
use Rattle.zr_lin.specs.Ineqs.{IsIneq, ineq_of, row_at}
use Rattle.zr_simplex.specs.Programs.{program_of}
use Rattle.zr_simplex.proofs.Pushed.{one_more, row_before, tableau_if}
use Rattle.zr_simplex.proofs.resume.OpenLp.add_row.Goals as goal
use Rattle.zr_simplex.proofs.resume.OpenLp.add_row.Goals.{In_ok-push}

module _ (c : In_ok-push) where
  items : c.push.new.self.items ≡ c.self.inside.lp.rows.items ++ c.args.row ∷ []
  items = c.in_ok-push.ensures.items

  long : length c.push.new.self.items ≡ length c.self.inside.lp.rows.items + 1
  long = ap length items ∙ length-append c.self.inside.lp.rows.items (c.args.row ∷ []) ∙ omega arith

pub with_last_row-requires-clause-lp : goal.with_last_row-requires-clause-lp
with_last_row-requires-clause-lp c =
    let at = (goal.at.with_last_row-requires-clause-lp c).In_ok-push in
    let lp = c.self.inside.lp in
    let old = c.self.invariant.0 in
    let here = rw (← c.self.view_is) at c.requires.row in
    let size = rw (← c.self.view_is) at c.requires.size in
    record {
      rows = rw (items at) (one_more lp.rows.items c.args.row (IsIneq lp.columns) old.rows here);
      weak = rw (items at) (one_more lp.rows.items c.args.row (λ row. row.strict ≡ false) old.weak c.requires.weak);
      aim = old.aim;
      narrow = old.narrow;
      size = omega (arith, size, long at);
    }

pub with_last_row-requires-clause-kept : goal.with_last_row-requires-clause-kept
with_last_row-requires-clause-kept c rows e =
    let at = (goal.at.with_last_row-requires-clause-kept c).In_ok-push in
    let lp = c.self.inside.lp in
    let m = length lp.rows.items in
    let is : rows ≡ m = omega (arith, e, long at) in
    let now = map ineq_of c.push.new.self.items in
    let before : (r : ℕ) → r < m → row_at now r ≡ row_at (map ineq_of lp.rows.items) r = λ r h. rw (items at) (row_before lp.rows.items c.args.row r h) in
    let kept = rw (← c.take-tableau.ensures.value) at c.self.invariant.1 in
    rw is (tableau_if (program_of lp) (λ r. (row_at now r).coef) (λ r. (row_at now r).le) (λ r h. ap (λ (x : DenseRow). x.coef) (before r h)) (λ r h. ap (λ (x : DenseRow). x.le) (before r h)) c.take-tableau.result kept)
