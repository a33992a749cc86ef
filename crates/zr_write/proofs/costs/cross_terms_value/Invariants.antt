use Rattle.zr_source.specs.Sources.{leaders_of}
use Rattle.zr_write.specs.Canonical.{cross_data}
use Rattle.zr_write.proofs.Grown.{Stands}
use Rattle.zr_write.proofs.costs.cross_terms_value.Given as goal

abbrev pub invariant-loop-term : goal.invariant-loop-term
invariant-loop-term l = Stands (cross_data (leaders_of l.leaders) l.i) l.terms l.term-index l.items.items
