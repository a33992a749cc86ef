use Rattle.std.proofs.Common.{rules, ◌≡◌, ◌<◌, ◌≤◌, ◌+◌, ℕ, pos, neg_ℤ, arith, refl, ap, ◌∙◌, length, slice_index}
use Rattle.zr_simplex.specs.Programs.{program_of}
use Rattle.zr_simplex.specs.RowSteps.{IsFirstEquation}
use Rattle.zr_simplex.specs.Tableaus.{basis_of, form_in, form_of, row_in}
use Rattle.zr_simplex.proofs.Begin.{start_form}
use Rattle.zr_simplex.proofs.First.{AreFirst, are_columns, first_start}
use Rattle.zr_simplex.proofs.start.start.Goals as goal
use Rattle.zr_simplex.proofs.start.start.Goals.{In_ok-stands}

module _ (c : In_ok-stands) where
  count : c.len-rows.result ≡ length c.args.lp.now.rows.items
  count = search rules

  are : AreFirst c.args.lp.now.columns (length c.args.lp.now.rows.items) c.in_ok-basis.basis.items c.in_ok-free.free.items c.in_ok-stands.stands.items
  are = record {
    basis_long = rw count at c.in_ok-basis.ensures.len;
    free_long = c.in_ok-free.ensures.len;
    long = rw count at c.in_ok-stands.ensures.len;
    slacks = rw count at c.in_ok-basis.ensures.each;
    off = c.in_ok-free.ensures.each;
    last = rw count at c.in_ok-free.ensures.last;
    at_off = c.in_ok-stands.ensures.free;
    at_slack = rw count at c.in_ok-stands.ensures.basic;
    at_last = rw count at c.in_ok-stands.ensures.last;
  }

pub new-requires-clause-columns : goal.new-requires-clause-columns
new-requires-clause-columns c = are_columns (are (goal.at.new-requires-clause-columns c).In_ok-stands)

pub returns-clause-kept : goal.returns-clause-kept
unfolding form_of
returns-clause-kept c =
    let at = (goal.at.returns-clause-kept c).In_ok-stands in
    let lp = c.args.lp.now in
    let p = program_of lp in
    let m = length lp.rows.items in
    let n = lp.columns in
    let t = c.new.result in
    let made = c.new.ensures in
    let first = are at in
    let all = c.in_ok-numbers.numbers.items in
    let numbers = c.in_ok-numbers.ensures in
    let w : n + 2 ≡ length c.in_ok-free.free.items + 1 = omega (arith, first.free_long) in
    let form : form_of t ≡ form_in c.in_ok-stands.stands.items (length c.in_ok-free.free.items) all = rw (made.columns, made.free, made.numbers) refl in
    let basis : (i : ℕ) → i ≤ m → basis_of t i ≡ n + i = λ i h. ap (λ b. slice_index b i) made.basis ∙ first.slacks i (omega arith) in
    let starts : (i : ℕ) → i < m → IsFirstEquation n (n + m) (n + i) (p.coef i) (p.le i) (form_of t i) = λ i h. rw form (first_start first i (omega (arith, h)) (p.coef i) (p.le i) (row_in (length c.in_ok-free.free.items + 1) all i) (rw w at (numbers.rows i h))) in
    let last : IsFirstEquation n (n + m) (n + m) (λ j. neg_ℤ (p.aim j)) (pos 0) (form_of t m) = rw form (first_start first m (omega arith) (λ j. neg_ℤ (p.aim j)) (pos 0) (row_in (length c.in_ok-free.free.items + 1) all m) (rw w at numbers.value)) in
    record {
      count = ap length made.basis ∙ first.basis_long;
      width = made.width ∙ first.long;
      partition = made.partition;
      free_count = ap length made.free ∙ first.free_long;
      right = ap (λ f. slice_index f n) made.free ∙ first.last;
      form = start_form p (form_of t) starts last (basis_of t) basis;
    }
