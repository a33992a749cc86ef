use Rattle.std.proofs.Common.{rules, ◌≡◌, ◌+◌, ◌-◌, ◌≤◌, arith, length}
use Rattle.zr_simplex.proofs.Stands.{slack_added}
use Rattle.zr_simplex.proofs.columns.add_slack.Goals as goal

pub returns-clause-columns : goal.returns-clause-columns
returns-clause-columns c =
    let basis = c.args.basis.now.items in
    let free = c.args.free.now in
    let columns = c.args.columns.now.items in
    let long : c.len-right.result ≡ length columns = search rules in
    let count : c.len-row.result ≡ length basis = search rules in
    let m = length basis - 1 in
    let n = length free - 1 in
    let v = length columns - 2 in
    let row = c.requires.value m (omega (arith, c.requires.some)) in
    let place = c.requires.right n (omega (arith, c.requires.some_free)) in
    let enough : 2 ≤ length columns = omega (arith, row) in
    let made = slack_added basis free columns c.requires.columns m n v (omega (arith, c.requires.some)) (omega (arith, c.requires.some_free)) (omega (arith, enough)) (omega (arith, row)) (omega (arith, place, enough)) in
    let a : length columns - 2 + 1 ≡ length columns - 1 = omega (arith, enough) in
    let b : length columns - 2 + 2 ≡ length columns - 1 + 1 = omega (arith, enough) in
    let d : length basis - 1 + 1 ≡ length basis = omega (arith, c.requires.some) in
    let whole = rw (a, b, d) at made in
    rw (c.in_ok-push.ensures.items, c.in_ok-push-2.ensures.items, long, count) whole
