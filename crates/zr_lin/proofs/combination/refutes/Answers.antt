use Rattle.std.proofs.Common.{◌≡◌, ◌∙◌, length}
use Rattle.zr_lin.specs.Ineqs.{rows_of}
use Rattle.zr_lin.proofs.SparseRows.{refuted_excludes}
use Rattle.zr_lin.proofs.Summed.{refutes_if, zero_if}
use Rattle.zr_lin.proofs.combination.refutes.Goals as goal
use Rattle.zr_lin.proofs.combination.refutes.Goals.{In_ok-sum}

places : (c : In_ok-sum) → length c.combine.new.left ≡ c.args.sys.now.columns
places c = c.combine.auto.left ∙ c.requires.places

pub returns-then-zero-clause-sound : goal.returns-then-zero-clause-sound
returns-then-zero-clause-sound c said =
    let at = goal.at.returns-then-zero-clause-sound c in
    let r = refutes_if _ _ _ _ _ (places at.In_ok-sum) c.in_ok-sum.ensures.exact (c.is_all_zero-zero.ensures.0 c.if-zero.true) (c.is_negative.ensures.0 said) in
    refuted_excludes c.args.sys.now.columns (rows_of c.args.sys.now) c.requires.rows (c.args.mult.now, c.requires.multipliers, r)

pub returns-else-zero-clause-exact : goal.returns-else-zero-clause-exact
returns-else-zero-clause-exact c =
    let at = goal.at.returns-else-zero-clause-exact c in
    (λ said. absurd cc, λ r. c.is_all_zero-zero.ensures.1 (zero_if _ _ _ _ _ (places at.In_ok-sum) c.in_ok-sum.ensures.exact r))
