use Rattle.std.proofs.Common.{arith, ◌&&◌}
use Rattle.zr_game.proofs.Checks.{all_checked, more_checked, none_checked}
use Rattle.zr_source.proofs.NameTests.{IsNew, new_told, var_text, var_texts}
use Rattle.zr_source.proofs.names.are_var_names.Goals as goal

pub loop-v-init : goal.loop-v-init
loop-v-init c = none_checked (IsNew var_text c.args.vars.now) c.args.vars.now

pub loop-v-preserved : goal.loop-v-preserved
loop-v-preserved c =
    let x = c.index-vars-v.result in
    let rule = rw c.deref.ensures at c.is_name.ensures in
    let new = rw c.deref-in-loop-v.ensures at c.is_new_var.ensures in
    let told = new_told var_text c.args.vars.now c.loop-v.v x c.is_name.result c.is_new_var.result
    rule new in
    more_checked (IsNew var_text c.args.vars.now) c.args.vars.now c.loop-v.v x c.loop-v-test.true
    c.index-vars-v.is c.loop-v.all c.loop-v.invariant (c.is_name.result && c.is_new_var.result)
    told

pub returns : goal.returns
returns c =
    let all = all_checked (IsNew var_text c.args.vars.now) c.args.vars.now c.loop-v.v c.loop-v.all
    (omega arith) (omega arith) c.loop-v.invariant in
    var_texts c.args.vars.now c.loop-v.all all
