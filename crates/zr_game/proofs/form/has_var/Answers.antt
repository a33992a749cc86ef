use Rattle.zr_game.proofs.GameForms.{has_none, has_told}
use Rattle.zr_game.proofs.form.has_var.Goals as goal

pub returns-then-k-counts : goal.returns-then-k-counts
returns-then-k-counts c game are = has_told game c.args.counts.now c.args.k c.args.v are
    c.if-k-counts.true

pub returns-else-k-counts : goal.returns-else-k-counts
returns-else-k-counts c game are = has_none game c.args.counts.now c.args.k c.args.v are
    c.if-k-counts.false
