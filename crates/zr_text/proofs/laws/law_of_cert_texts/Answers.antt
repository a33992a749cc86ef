-- The laws of certificate texts.
use Rattle.std.proofs.Common.{ap, ◌∙◌, length, true}
use Rattle.zr_text.proofs.Counts.{as_many_lines}
use Rattle.zr_text.proofs.Kept.{cert_tells, cert_told}
use Rattle.zr_text.proofs.Top.{one_fault, one_text, text_has_no_fault, text_lines, text_or_fault}
use Rattle.zr_text.proofs.laws.law_of_cert_texts.Goals as goal

pub returns : goal.returns
returns c = record {
  one = one_text;
  apart = text_has_no_fault;
  fault_is_one = one_fault;
  decided = text_or_fault;
  kept = λ d. (λ h. (cert_tells d h, h.few), λ h. cert_told d h.0 h.1);
  lines = λ d f. ap length (text_lines true d f) ∙ as_many_lines d f;
}
