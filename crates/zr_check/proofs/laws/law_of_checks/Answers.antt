use Rattle.zr_check.proofs.Passing.{narrow_if_cert_passes, right_if_passes}
use Rattle.zr_check.proofs.Narrow.{cert_passes, head_is}
use Rattle.zr_check.proofs.Refusals.{cert_apart, cert_one, head_apart, head_one}
use Rattle.zr_check.proofs.RightLines.{cert_keeps}
use Rattle.zr_check.proofs.laws.law_of_checks.Goals as goal

pub returns-clause-passes : goal.returns-clause-passes
returns-clause-passes c game form cert is =
    (λ pass. (right_if_passes game form cert is pass, narrow_if_cert_passes game form cert is pass), λ h. cert_passes game form cert is h.0 h.1)

pub returns-clause-apart : goal.returns-clause-apart
returns-clause-apart c = cert_apart

pub returns-clause-one : goal.returns-clause-one
returns-clause-one c = cert_one

pub returns-clause-head_apart : goal.returns-clause-head_apart
returns-clause-head_apart c = head_apart

pub returns-clause-head_one : goal.returns-clause-head_one
returns-clause-head_one c = head_one

pub returns-clause-head : goal.returns-clause-head
returns-clause-head c = head_is

pub returns-clause-unbroken : goal.returns-clause-unbroken
returns-clause-unbroken c = cert_keeps
