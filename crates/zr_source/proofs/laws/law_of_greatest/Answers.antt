use Rattle.zr_source.proofs.ExampleForms.{are_source}
use Rattle.zr_source.proofs.ExampleLaws.{at_two, not_at_one}
use Rattle.zr_source.proofs.laws.law_of_greatest.Goals as goal

pub returns-clause-source : goal.returns-clause-source
returns-clause-source c = are_source

pub returns-clause-greatest : goal.returns-clause-greatest
returns-clause-greatest c = at_two

pub returns-clause-smaller : goal.returns-clause-smaller
returns-clause-smaller c = not_at_one
