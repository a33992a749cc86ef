use Rattle.std.proofs.Common.{◌≡◌, ◌<◌, ◌+◌, ℕ}
use Rattle.zr_base.specs.Terms.{Ascends, coef_at}
use Rattle.zr_lin.specs.DenseRows.{AreMultipliers}
use Rattle.zr_simplex.specs.Answers.{signed}
use Rattle.zr_simplex.specs.Tableaus.{form_of}
use Rattle.zr_simplex.proofs.listed.listed.Given as goal

abbrev pub invariant-loop-k : goal.invariant-loop-k
invariant-loop-k l = record {
  ascends : Ascends 0 l.k l.list.items;
  multipliers : AreMultipliers l.k l.list.items;
  numbers : (j : ℕ) → j < l.k → coef_at l.list.items j ≡ signed l.negated (form_of l.tableau l.row (l.from + j));
}
