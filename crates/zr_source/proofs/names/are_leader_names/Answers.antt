use Rattle.std.proofs.Common.{arith, ◌&&◌}
use Rattle.zr_game.proofs.Checks.{all_checked, more_checked, none_checked}
use Rattle.zr_source.proofs.NameTests.{IsNew, new_told, leader_text, leader_texts}
use Rattle.zr_source.proofs.names.are_leader_names.Goals as goal

pub loop-i-init : goal.loop-i-init
loop-i-init c = none_checked (IsNew leader_text c.args.leaders.now) c.args.leaders.now

pub loop-i-preserved : goal.loop-i-preserved
loop-i-preserved c =
    let x = c.index-leaders-i.result in
    let rule = rw c.deref.ensures at c.is_name.ensures in
    let new = rw c.deref-in-loop-i.ensures at c.is_new_leader.ensures in
    let told = new_told leader_text c.args.leaders.now c.loop-i.i x c.is_name.result
    c.is_new_leader.result rule new in
    more_checked (IsNew leader_text c.args.leaders.now) c.args.leaders.now c.loop-i.i x
    c.loop-i-test.true c.index-leaders-i.is c.loop-i.all c.loop-i.invariant
    (c.is_name.result && c.is_new_leader.result) told

pub returns : goal.returns
returns c =
    let all = all_checked (IsNew leader_text c.args.leaders.now) c.args.leaders.now c.loop-i.i
    c.loop-i.all (omega arith) (omega arith) c.loop-i.invariant in
    leader_texts c.args.leaders.now c.loop-i.all all
