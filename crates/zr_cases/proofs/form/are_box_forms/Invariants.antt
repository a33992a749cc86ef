use Rattle.zr_game.proofs.Checks.{Checked}
use Rattle.zr_cases.specs.Cases.{bnode_of}
use Rattle.zr_cases.specs.Forms.{IsBoxForm}
use Rattle.zr_cases.proofs.form.are_box_forms.Given as goal

abbrev pub invariant-loop-node : goal.invariant-loop-node
invariant-loop-node l = Checked l.node-index (λ k node. IsBoxForm (bnode_of node)) l.nodes l.all
