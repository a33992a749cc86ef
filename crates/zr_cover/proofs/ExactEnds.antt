-- The ends of a cover.
use Rattle.std.proofs.Common.{arith, ℤ, pos, List}
use Rattle.std.proofs.lemmas.Int.{ints}
use Rattle.zr_base.specs.Points.{PointOf}
use Rattle.zr_game.specs.Players.{PlayerOf}
use Rattle.zr_game.specs.Leaves.{IsSettled, LeafOf, MeetsLeaf}
use Rattle.zr_simplex.specs.Programs.{numbers}
use Rattle.zr_tree.specs.Form.{IsNodeForm}
use Rattle.zr_tree.specs.Nodes.{KnownNode, Multipliers, ProofNode}
use Rattle.zr_tree.proofs.Combinations.{positive_if}
use Rattle.zr_asked.specs.Drawn.{IsBranchSolution}
use Rattle.zr_asked.specs.Stuck.{IsPlainAim}
use Rattle.zr_branch.specs.Replies.{ProvesEmpty}
use Rattle.zr_cover.specs.Fates.{IsExactEnd}

module _ (player : PlayerOf) (leaf : LeafOf) (aim : List ℤ) (plain : IsPlainAim player aim) where
  -- multipliers that refute a leaf
  pub empty_end : (mult : Multipliers) → ProvesEmpty player leaf aim mult
      → IsExactEnd player leaf (ProofNode (pos 0) mult) × IsNodeForm (ProofNode (pos 0) mult)
  empty_end mult e = (
    (
      (e.multipliers.present, positive_if 0 mult e.multipliers.form, e.refuting),
      (aim, plain, e.drawn),
    ),
    (omega (arith, ints), omega arith, e.multipliers.form),
  )

  -- a point of a settled leaf
  pub known_end : (x : PointOf) → IsSettled player leaf → MeetsLeaf player leaf x
      → IsBranchSolution player leaf (numbers aim) x → IsExactEnd player leaf (KnownNode x)
  known_end x settled meets solution = ((settled, meets), (aim, plain, solution))
