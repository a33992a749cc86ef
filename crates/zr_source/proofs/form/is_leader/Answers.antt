use Rattle.std.proofs.Common.{◌∙◌, ap, sym, map}
use Rattle.zr_game.proofs.GameForms.{vars_len}
use Rattle.zr_game.specs.Players.{var_of}
use Rattle.zr_source.proofs.FormTests.{leader_told}
use Rattle.zr_source.specs.Sources.{leader_of}
use Rattle.zr_source.proofs.form.is_leader.Goals as goal

pub returns : goal.returns
returns c =
    let columns = c.len-columns.ensures ∙ vars_len c.args.leader.now.base in
    let own = rw c.deref.ensures.value at c.have_own_variable.ensures in
    let followers = rw c.deref-2.ensures.value at c.are_followers.ensures in
    let order = rw c.deref-3.ensures.value at c.stand_in_order.ensures in
    let vars = ap (map var_of) (sym c.deref-4.ensures.value) in
    let free = rw c.deref-5.ensures.value at (c.are_free.ensures (leader_of c.args.leader.now).base
    vars) in
    let names = rw c.deref-6.ensures.value at c.are_var_names.ensures in
    leader_told (leader_of c.args.leader.now) c.len-columns.result columns
    c.have_own_variable.result c.are_followers.result c.stand_in_order.result c.are_free.result
    c.are_var_names.result own followers order free names
