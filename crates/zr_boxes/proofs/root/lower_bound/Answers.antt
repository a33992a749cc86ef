use Rattle.zr_tree.proofs.Lookups.{no_low, low_here}
use Rattle.zr_boxes.proofs.root.lower_bound.Goals as goal

pub returns-then-v-vars : goal.returns-then-v-vars
returns-then-v-vars c = low_here c.args.vars.now c.args.v c.index-vars-v.result c.if-v-vars.true

pub returns : goal.returns
returns c = no_low c.args.vars.now c.args.v c.if-v-vars.false
