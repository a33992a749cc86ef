use Rattle.std.proofs.Common.{rules}
use Rattle.zr_form.proofs.AnySize.{less_if_fewer, less_in_order}
use Rattle.zr_form.proofs.loose.is_less.Goals as goal

pub returns-then-a-b : goal.returns-then-a-b
returns-then-a-b c m n p q = less_if_fewer c.args.a.now c.args.b.now m n (search rules) p q

pub returns : goal.returns
returns c m n p q = less_in_order c.args.a.now c.args.b.now m n c.lt.result (search rules) c.lt.ensures p q
