use Rattle.std.proofs.Common.{arith}
use Rattle.zr_tree.proofs.Lookups.{none_whole, whole_here}
use Rattle.zr_tree.proofs.check.is_whole.Goals as goal

pub returns-then-var-len : goal.returns-then-var-len
returns-then-var-len c =
    (λ h. absurd cc, λ w. absurd (none_whole c.args.player.now.vars.items c.args.var (omega (arith, c.if-var-len.true, c.len.ensures, c.args.player.now.vars.ok.0)) w))

pub returns : goal.returns
returns c =
    whole_here c.args.player.now.vars.items c.args.var c.index.result.now (omega (arith, c.if-var-len.false, c.len.ensures, c.args.player.now.vars.ok.0)) c.index.ensures
