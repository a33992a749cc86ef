use Rattle.zr_source.specs.Sources.{leaders_of}
use Rattle.zr_write.specs.Canonical.{other_data}
use Rattle.zr_write.proofs.Grown.{Stands}
use Rattle.zr_write.proofs.costs.others_value.Given as goal

abbrev pub invariant-loop-term : goal.invariant-loop-term
invariant-loop-term l = Stands (other_data (leaders_of l.leaders)) l.terms l.term-index l.items.items
