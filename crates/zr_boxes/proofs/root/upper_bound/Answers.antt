use Rattle.zr_tree.proofs.Lookups.{no_up, up_here}
use Rattle.zr_boxes.proofs.root.upper_bound.Goals as goal

pub returns-then-v-vars : goal.returns-then-v-vars
returns-then-v-vars c = up_here c.args.vars.now c.args.v c.index-vars-v.result c.if-v-vars.true

pub returns : goal.returns
returns c = no_up c.args.vars.now c.args.v c.if-v-vars.false
