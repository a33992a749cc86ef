use Rattle.zero.proofs.PrintedLemmas.{accepted}
use Rattle.zero.proofs.laws.law_of_printed_certificates.Goals as goal

pub returns : goal.returns
returns c = accepted
