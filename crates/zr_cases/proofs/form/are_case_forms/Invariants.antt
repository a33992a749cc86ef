use Rattle.zr_game.proofs.Checks.{Checked}
use Rattle.zr_cases.specs.Cases.{rnode_of}
use Rattle.zr_cases.specs.Forms.{IsCaseForm}
use Rattle.zr_cases.proofs.form.are_case_forms.Given as goal

abbrev pub invariant-loop-node : goal.invariant-loop-node
invariant-loop-node l = Checked l.node-index (λ k node. IsCaseForm (rnode_of node)) l.nodes l.all
