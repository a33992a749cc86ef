use Rattle.std.proofs.Common.{rules, ◌≡◌, ◌+◌, suc, arith, ap, subst, ◌∙◌, length, Ok, Err}
use Rattle.std.proofs.lemmas.List.{with_items_is}
use Rattle.std.specs.Prelude.{Result, OnOk, is_err, false}
use Rattle.std.specs.Vec.{with_items}
use Rattle.zr_simplex.specs.Programs.{numbers, program_of}
use Rattle.zr_simplex.specs.Tableaus.{basis_of, form_of}
use Rattle.zr_simplex.specs.Appends.{IsTakenOff}
use Rattle.zr_simplex.proofs.Enlarged.{expressed_first, expressed_more, raw_start}
use Rattle.zr_simplex.proofs.append.express.Goals as goal

granted : {T E A : Type 0} (r : Result T E) → false ≡ is_err r → OnOk r A → A
granted (Ok x) e a = a
granted (Err x) e a = absurd cc

pub loop-row-init : goal.loop-row-init
loop-row-init c =
    let q = program_of c.args.lp.now in
    let m = c.args.rows in
    let t = c.args.tableau.now in
    let more : q.rows ≡ suc m = omega (arith, c.requires.rows) in
    let u = numbers c.in-Ok.made.items in
    let start = c.in-Ok.ensures.start in
    record {
      len = c.in-Ok.ensures.len;
      narrow = c.in-Ok.ensures.narrow;
      expressed = expressed_first q m more u (raw_start q m more u start) (basis_of t) (form_of t) start.one (start.zeros (q.columns + m) (omega arith) (omega arith) (λ e. omega (arith, e)));
    }

pub loop-row-preserved : goal.loop-row-preserved
loop-row-preserved c =
    let q = program_of c.args.lp.now in
    let m = c.args.rows in
    let t = c.args.tableau.now in
    let i = c.loop-row.row in
    let inv = c.loop-row.invariant in
    let kept = c.requires.kept in
    let more : q.rows ≡ suc m = omega (arith, c.requires.rows) in
    let old : c.deref_mut.result.now ≡ c.loop-row.made.items = c.deref_mut.ensures.value in
    let made = c.clear_column.new.made in
    let new : (with_items c.loop-row.made made).items ≡ made = with_items_is c.loop-row.made made (search rules) in
    let taken = granted c.clear_column.result c.if-is_err.ensures.value (rw old at c.clear_column.ensures.taken) in
    let off = subst (λ w. IsTakenOff w (form_of t i) (numbers c.loop-row.made.items) (numbers made)) kept.width taken in
    let zero = granted c.clear_column.result c.if-is_err.ensures.value c.clear_column.ensures.cleared in
    rw new (record {
      len = c.clear_column.ensures.len ∙ ap length old ∙ inv.len;
      narrow = c.clear_column.ensures.narrow;
      expressed = expressed_more q m more (basis_of t) (form_of t) kept.form i c.loop-row-test.true (numbers c.loop-row.made.items) (numbers made) inv.expressed off zero;
    })
