use Rattle.std.proofs.Common.{string_bytes}
use Rattle.serde_json.specs.Data.{string}
use Rattle.zr_write.proofs.Grown.{Stands}
use Rattle.zr_write.proofs.followers.names_value.Given as goal

abbrev pub invariant-loop-var : goal.invariant-loop-var
invariant-loop-var l = Stands (λ var. string (string_bytes var.name)) l.vars l.var-index l.items.items
