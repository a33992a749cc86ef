use Rattle.std.proofs.Common.{map}
use Rattle.zr_game.specs.Players.{var_of}
use Rattle.zr_source.specs.Names.{var_name}
use Rattle.zr_write.specs.Canonical.{term_data}
use Rattle.zr_write.proofs.Grown.{Stands}
use Rattle.zr_write.proofs.rows.terms_value.Given as goal

abbrev pub invariant-loop-v : goal.invariant-loop-v
invariant-loop-v l = Stands (term_data (map var_name (map var_of l.vars))) l.terms l.v-index l.items.items
