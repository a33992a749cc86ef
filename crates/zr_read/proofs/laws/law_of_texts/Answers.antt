use Rattle.zr_read.proofs.Exclusive.{answered, one_source, one_fault, source_or_fault}
use Rattle.zr_read.proofs.Sound.{source_is_right}
use Rattle.zr_read.proofs.laws.law_of_texts.Goals as goal

pub returns-clause-one : goal.returns-clause-one
returns-clause-one c = answered

pub returns-clause-one_source : goal.returns-clause-one_source
returns-clause-one_source c = one_source

pub returns-clause-one_fault : goal.returns-clause-one_fault
returns-clause-one_fault c = one_fault

pub returns-clause-source_or_fault : goal.returns-clause-source_or_fault
returns-clause-source_or_fault c = source_or_fault

pub returns-clause-kept : goal.returns-clause-kept
returns-clause-kept c bytes source stands = source_is_right stands.value source stands.content
