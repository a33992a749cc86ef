use Rattle.std.proofs.Common.{rules, refl, inr}
use Rattle.zero.proofs.reading.too_many.Goals as goal

pub returns-in-Ok : goal.returns-in-Ok
returns-in-Ok c = inr (c.in-Ok.path, refl, search rules)
