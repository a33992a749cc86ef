use Rattle.zr_check.proofs.Truths.{true_of_right}
use Rattle.zr_check.proofs.laws.law_of_right_certs.Goals as goal

pub returns : goal.returns
returns c game form cert right = true_of_right game form cert right
