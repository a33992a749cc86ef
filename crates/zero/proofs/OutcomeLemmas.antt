-- What stands of a refusal once a report was to be written.
use Rattle.std.proofs.Common.{◌≡◌, ◌⊎◌, ℕ, Option, refl, sym, ap, subst, ◌∙◌, inl, inr, arith}
use Rattle.zr_io.specs.Contents.{Bytes, Contents}
use Rattle.zr_io.specs.Faults.{Rose}
use Rattle.zr_io.specs.Written.{AppendsPrefix}
use Rattle.zr_report.specs.declared.end.End.{End}
use Rattle.zr_report.specs.Spelling.{report_text}
use Rattle.zr_words.specs.Words.{Words}
use Rattle.zero.specs.declared.refusal.Refusal.{Refusal}
use Rattle.zero.specs.declared.refusal.Refusal.TheVariants.{Usage, CannotRead, TooLong, Faulty, Flawed, Ended, NoMemory, WriteFault}
use Rattle.zero.specs.declared.text.Text.{Text}
use Rattle.zero.specs.Answers.{HasBegun, IsEnded}
use Rattle.zero.specs.Refusals.{HasReported, HasTaken, IsCause, IsEndStatus, IsReported, end_status, status_of}
use Rattle.zero.specs.Outcomes.{IsOutcome}
use Rattle.zero.specs.Told.{IsStatus}
use Rattle.zero.proofs.CauseLemmas.{names_of_end}
use Rattle.zero.proofs.LineLemmas.{end_range}

-- the refusals that a report may end with
from_end : (P : Refusal → Type 0) (last : Text) (end : End) (result : Refusal) → P (Ended last end)
    → P NoMemory → P WriteFault → (result ≡ Ended last end) ⊎ (result ≡ NoMemory) ⊎ (result ≡ WriteFault) → P result
from_end P last end result a b d (inl e) = subst P (sym e) a
from_end P last end result a b d (inr (inl e)) = subst P (sym e) b
from_end P last end result a b d (inr (inr e)) = subst P (sym e) d

no_three : (end : End) → IsStatus 3 (end_status end) → ⊥
no_three end (inl e) = let range = end_range end in omega (arith, e, range.0)
no_three end (inr e) = let range = end_range end in omega (arith, e, range.1)

-- no end is a fault of what is written to, or want of memory
not_ended : (last : Text) (end : End) (refusal : Refusal) → (11 ≡ status_of refusal) ⊎ (12 ≡ status_of refusal)
    → refusal ≡ Ended last end → ⊥
not_ended last end refusal (inl e) is =
    let range = end_range end in
    let n : 11 ≡ end_status end = e ∙ ap status_of is in omega (arith, n, range.1)
not_ended last end refusal (inr e) is =
    let range = end_range end in
    let n : 12 ≡ end_status end = e ∙ ap status_of is in omega (arith, n, range.1)

-- of a refusal that is no end there is nothing to report
unreported : (before after : Option Bytes) (refusal : Refusal)
    → ((last : Text) (end : End) → refusal ≡ Ended last end → ⊥) → HasReported before after refusal
unreported before after (Usage help) none = tt
unreported before after (CannotRead text name) none = tt
unreported before after (TooLong text name) none = tt
unreported before after (Faulty fault path) none = tt
unreported before after (Flawed number flaw) none = tt
unreported before after (Ended last end) none = absurd (none last end refl)
unreported before after NoMemory none = tt
unreported before after WriteFault none = tt

module _ (words : Words) (contents : Contents) (before after : Option Bytes) (old new : ℕ)
    (refusal result : Refusal) where
  pub outcome_cause : IsOutcome refusal result before after old new → IsCause words contents refusal
      → IsCause words contents result
  outcome_cause (inl (last, end, is, rep)) h =
      let ended : IsEnded words contents last end = subst (IsCause words contents) is h in
      from_end (IsCause words contents) last end result ended tt (names_of_end words contents last end ended) rep.refusal_is
  outcome_cause (inr (none, same, still, count)) h = subst (IsCause words contents) (sym same) h

  pub outcome_lacks : IsOutcome refusal result before after old new → IsStatus 3 (status_of refusal)
      → IsStatus 3 (status_of result)
  outcome_lacks (inl (last, end, is, rep)) h =
      absurd (no_three end (subst (λ (r : Refusal). IsStatus 3 (status_of r)) is h))
  outcome_lacks (inr (none, same, still, count)) h =
      subst (λ (r : Refusal). IsStatus 3 (status_of r)) (sym same) h

  pub outcome_taken : IsOutcome refusal result before after old new → (a b : ℕ) → HasTaken a b refusal
      → HasTaken a b result
  outcome_taken (inl (last, end, is, rep)) a b h =
      let taken = subst (HasTaken a b) is h in
      from_end (HasTaken a b) last end result taken tt tt rep.refusal_is
  outcome_taken (inr (none, same, still, count)) a b h = subst (HasTaken a b) (sym same) h

  pub outcome_reported : IsOutcome refusal result before after old new → HasReported before after result
  outcome_reported (inl (last, end, is, rep)) = rep.written
  outcome_reported (inr (none, same, still, count)) =
      subst (HasReported before after) (sym same) (unreported before after refusal none)

  pub outcome_unread : IsOutcome refusal result before after old new → status_of result ≡ 3
      → status_of refusal ≡ 3
  outcome_unread (inl (last, end, is, rep)) three =
      absurd (from_end (λ (r : Refusal). status_of r ≡ 3 → ⊥) last end result (λ e. no_three end (inl e))
      (λ e. omega (arith, e)) (λ e. omega (arith, e)) rep.refusal_is three)
  outcome_unread (inr (none, same, still, count)) three = sym (ap status_of same) ∙ three

  -- a prefix of the report was written
  begun_report : (last : Text) (end : End) → refusal ≡ Ended last end → IsCause words contents refusal
      → AppendsPrefix before (report_text end) after → HasBegun words contents before after
  begun_report last end is h prefix = record {
    text = report_text end;
    true_text = inr (last, end, subst (IsCause words contents) is h, refl);
    written = prefix;
  }

  by_case : (last : Text) (end : End) → refusal ≡ Ended last end → IsCause words contents refusal
      → IsReported last end before after old new result
      → (result ≡ Ended last end) ⊎ (result ≡ NoMemory) ⊎ (result ≡ WriteFault)
      → (after ≡ before) ⊎ IsEndStatus (status_of result)
      ⊎ (((status_of result ≡ 11) ⊎ (status_of result ≡ 12)) × HasBegun words contents before after)
  by_case last end is h rep (inl e) =
      inr (inl (subst (λ (r : Refusal). IsEndStatus (status_of r)) (sym e) (end_range end)))
  by_case last end is h rep (inr (inl e)) =
      let status = ap status_of e in
      inr (inr (inl status, begun_report last end is h (rep.begun (not_ended last end result (inl (sym status))))))
  by_case last end is h rep (inr (inr e)) =
      let status = ap status_of e in
      inr (inr (inr status, begun_report last end is h (rep.begun (not_ended last end result (inr (sym status))))))

  pub outcome_begun : IsOutcome refusal result before after old new → IsCause words contents refusal
      → (after ≡ before) ⊎ IsEndStatus (status_of result)
      ⊎ (((status_of result ≡ 11) ⊎ (status_of result ≡ 12)) × HasBegun words contents before after)
  outcome_begun (inl (last, end, is, rep)) h = by_case last end is h rep rep.refusal_is
  outcome_begun (inr (none, same, still, count)) h = inl still

  written_case : (last : Text) (end : End) → refusal ≡ Ended last end → IsCause words contents refusal
      → IsReported last end before after old new result
      → (result ≡ Ended last end) ⊎ (result ≡ NoMemory) ⊎ (result ≡ WriteFault) → status_of result ≡ 12
      → Rose old new × HasBegun words contents before after
  written_case last end is h rep (inl e) twelve =
      absurd (not_ended last end result (inr (sym twelve)) e)
  written_case last end is h rep (inr (inl e)) twelve =
      let n : 11 ≡ 12 = sym (ap status_of e) ∙ twelve in absurd (omega (arith, n))
  written_case last end is h rep (inr (inr e)) twelve =
      (rep.failed e, begun_report last end is h (rep.begun (not_ended last end result (inr (sym twelve)))))

  pub outcome_unwritten : IsOutcome refusal result before after old new → IsCause words contents refusal
      → (status_of refusal ≡ 12 → ⊥) → status_of result ≡ 12
      → Rose old new × HasBegun words contents before after
  outcome_unwritten (inl (last, end, is, rep)) h other twelve = written_case last end is h rep rep.refusal_is twelve
  outcome_unwritten (inr (none, same, still, count)) h other twelve =
      absurd (other (sym (ap status_of same) ∙ twelve))
