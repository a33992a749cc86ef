-- What comes of texts that are told.
use Rattle.std.proofs.Common.{◌≡◌, ℕ, ◌≤◌, true, List, length, Some, refl, sym, ap, subst, ◌∙◌, inl, inr, arith, string_bytes}
use Rattle.zr_game.specs.Players.{GameOf}
use Rattle.zr_game.specs.Forms.{IsGame}
use Rattle.zr_game.specs.declared.kind.Kind.{Kind}
use Rattle.zr_io.specs.Contents.{Bytes, Contents}
use Rattle.zr_form.specs.Lines.{lines_of}
use Rattle.zr_form.proofs.Composing.{lines_fit}
use Rattle.zr_source.specs.Sources.{SourceOf}
use Rattle.zr_follow.specs.Expansion.{expansion}
use Rattle.zr_value.specs.declared.fault.GameFault.{GameFault}
use Rattle.zr_cert.specs.Certs.{CertOf, MixtureOf, VerdictOf}
use Rattle.zr_cert.specs.Forms.{IsCert}
use Rattle.zr_cert.specs.Lines.{line_count}
use Rattle.zr_cert.specs.declared.fault.CertFault.{CertFault}
use Rattle.zr_cert.specs.declared.fault.CertFault.TheVariants as checks
use Rattle.zr_check.specs.Checks.{CertRefused, HeadRefused}
use Rattle.zr_check.specs.Right.{IsRightHead}
use Rattle.zr_check.specs.WideSteps.{HeadIsWide}
use Rattle.zr_check.proofs.Narrow.{cert_passes, head_is}
use Rattle.zr_check.proofs.Refusals.{cert_apart, head_apart}
use Rattle.zr_text.specs.Faults.{IsText}
use Rattle.zr_text.specs.declared.fault.TextError.TheVariants as texts
use Rattle.zr_text.proofs.Counts.{as_many_lines}
use Rattle.zr_text.proofs.Kept.{cert_told}
use Rattle.zr_text.proofs.Top.{one_text, text_has_no_fault, text_lines}
use Rattle.zr_words.specs.Words.{Words}
use Rattle.zr_report.specs.declared.end.End.{End}
use Rattle.zr_report.specs.declared.end.End.TheVariants as ends
use Rattle.zero.specs.BestTexts.{IsBestEnd, IsProfileText}
use Rattle.zero.specs.Commands.{IsGameName, IsMigrate, IsPurpose, IsSolve, Purpose, for_best, for_check}
use Rattle.zero.specs.Games.{HasGameFault, IsGameText}
use Rattle.zero.specs.Reads.{IsContent, IsDueCert, IsMore, IsTold, cert_limit, game_limit}
use Rattle.zero.specs.Answers.{IsAnswer, IsAskedCert, IsAskedSolve, IsFlawed, IsRefusedFor, IsRightText}
use Rattle.zero.specs.Refusals.{IsCause, end_status, status_of}
use Rattle.zero.specs.Told.{IsCertStatus, IsDone, IsGameStatus, IsRightFor, IsSolveStatus, IsStatus, IsToldCert, IsToldGame}
use Rattle.zero.specs.declared.refusal.CertFlaw.{CertFlaw}
use Rattle.zero.specs.declared.refusal.CertFlaw.TheVariants.{Form, Number, Wrong, Wide}
use Rattle.zero.specs.declared.refusal.Refusal.{Refusal}
use Rattle.zero.specs.declared.refusal.Refusal.TheVariants.{Usage, CannotRead, TooLong, Faulty, Flawed, Ended, NoMemory, WriteFault}
use Rattle.zero.specs.declared.text.Text.TheVariants.{Game, Cert}
use Rattle.zero.proofs.CommandLemmas.{named_or_faulty, no_migrate, no_solve, not_both, one_name, one_purpose}
use Rattle.zero.proofs.LineLemmas.{end_range}
use Rattle.zero.proofs.StatusLemmas.{faulty_of_help}
use Rattle.zero.proofs.GameLemmas.{game_of_text, game_or_fault, one_game}

-- ---- contents

-- what was read is what was told
same_content : (contents : Contents) (limit : ℕ) (name told read : Bytes)
    → IsTold contents limit name told → IsContent contents name read → told ≡ read
same_content contents limit name told read t content =
    let s : Some told ≡ Some read = sym t.holds ∙ content t.get t.told in cc

-- the same, where the name that was read is only known to be that name
named_content : (contents : Contents) (limit : ℕ) (name told other read : Bytes)
    → IsTold contents limit name told → name ≡ other → IsContent contents other read → told ≡ read
named_content contents limit name told other read t same content =
    let here = subst (λ (n : Bytes). IsContent contents n read) (sym same) content in
    same_content contents limit name told read t here

not_more : (contents : Contents) (limit : ℕ) (name told other : Bytes)
    → IsTold contents limit name told → name ≡ other → IsMore contents limit other → ⊥
not_more contents limit name told other t named more =
    let here : IsMore contents limit name = subst (λ (n : Bytes). IsMore contents limit n) (sym named) more in
    let m = here t.get t.told in
    let s : Some told ≡ Some m.0 = sym t.holds ∙ m.1 in
    let same : told ≡ m.0 = cc in
    let n : length told ≡ length m.0 = ap length same in
    let over = m.2 in
    omega (arith, t.within, n, over)

-- ---- the game that is told

module _ (words : Words) (contents : Contents) (bytes : Bytes)
    (told : IsToldGame words contents bytes) where
  -- the game text that was read is the one that was told
  game_read : (name read : Bytes) → IsGameName words name → IsContent contents name read → bytes ≡ read
  game_read name read named content =
      let same = one_name words told.name name told.named named in
      named_content contents game_limit told.name bytes name read told.told same content

  -- a text that stands for a game has no other status than these
  standing : (source : SourceOf) → IsGameText bytes source → (status : ℕ)
      → ((kind : Kind) (budget : ℕ) (name : Bytes) → IsSolve words kind budget name → IsSolveStatus status)
      → ((name : Bytes) → IsMigrate words name → IsStatus 0 status)
      → IsGameStatus words bytes status
  standing source text status solved migrated = record {
    faulty = λ fault path h. absurd (game_or_fault bytes source fault path text h);
    solved = λ kind budget name other solve h. solved kind budget name solve;
    migrated = λ name other migrate h. migrated name migrate;
  }

  -- what a certificate is taken for has the status that the certificate settles
  using : (p : Purpose) (g c : Bytes) → IsPurpose words p g c → (source : SourceOf) → IsGameText bytes source
      → (status : ℕ) → IsGameStatus words bytes status
  using p g c asks source text status =
      standing source text status
      (λ kind budget name solve. absurd (no_solve words p g c kind budget name asks solve))
      (λ name migrate. absurd (no_migrate words p g c name asks migrate))

  -- a solving is decided, or comes to an end
  solving : (kind : Kind) (budget : ℕ) (source : SourceOf) → IsAskedSolve words contents kind budget source
      → (status : ℕ) → IsSolveStatus status → IsGameStatus words bytes status
  solving kind budget source asked status h =
      let same = game_read asked.name asked.bytes (inl (kind, budget, asked.solve)) asked.read.content in
      let stands = subst (λ (b : Bytes). IsGameText b source) (sym same) asked.game in
      standing source stands status
      (λ other limit name solve. h)
      (λ name migrate. absurd (not_both words kind budget asked.name name asked.solve migrate))

  due_text : (p : Purpose) (source : SourceOf) (name : Bytes) → IsDueCert words contents p source name
      → IsGameText bytes source
  due_text p source name due =
      let same = game_read due.game_name due.bytes (inr (inl (p, name, due.asks))) due.read.content in
      subst (λ (b : Bytes). IsGameText b source) (sym same) due.text

  due_status : (p : Purpose) (source : SourceOf) (name : Bytes) → IsDueCert words contents p source name
      → (status : ℕ) → IsGameStatus words bytes status
  due_status p source name due =
      using p due.game_name name due.asks source (due_text p source name due)

  faulty_status : (fault : GameFault) (path : Bytes) → HasGameFault bytes fault path → IsGameStatus words bytes 5
  faulty_status fault path first = record {
    faulty = λ other at h. inl refl;
    solved = λ kind budget name source solve h. absurd (game_or_fault bytes source fault path h first);
    migrated = λ name source migrate h. absurd (game_or_fault bytes source fault path h first);
  }

  -- a printed answer comes of a text that decides the game, of a certificate, or of a canonical text
  pub answer_status : (text : Bytes) → IsAnswer words contents text → IsGameStatus words bytes 0
  answer_status text (inl solved) = solving solved.kind solved.budget solved.source solved.asked 0 (inl refl)
  answer_status text (inr (inl checked)) =
      due_status for_check checked.source checked.asked.name checked.asked.due 0
  answer_status text (inr (inr (inl best))) =
      due_status (for_best best.budget) best.source best.asked.name best.asked.due 0
  answer_status text (inr (inr (inr migrated))) =
      let same = game_read migrated.name migrated.bytes (inr (inr migrated.migrate)) migrated.read.content in
      let source = migrated.same.source in
      let stands = subst (λ (b : Bytes). IsGameText b source) (sym same) migrated.same.game in
      standing source stands 0
      (λ kind budget name solve. absurd (not_both words kind budget name migrated.name solve migrated.migrate))
      (λ name migrate. inl refl)

  -- a refusal that is no fault of shelf or sink comes of the game's bytes, or of the certificate, or
  -- of want of memory
  pub refusal_status : (refusal : Refusal) → IsCause words contents refusal
      → (status_of refusal ≡ 3 → ⊥) → (status_of refusal ≡ 12 → ⊥)
      → IsGameStatus words bytes (status_of refusal)
  refusal_status (Usage help) h three twelve =
      absurd (named_or_faulty words told.name told.named (faulty_of_help words contents help h))
  refusal_status (CannotRead text name) h three twelve = absurd (three refl)
  refusal_status (TooLong Game name) h three twelve =
      let same = one_name words told.name name.now told.named h.due in
      absurd (not_more contents game_limit told.name bytes name.now told.told same h.more)
  refusal_status (TooLong Cert name) h three twelve = due_status h.due.0 h.due.1 name.now h.due.2 4
  refusal_status (Faulty fault path) h three twelve =
      let same = game_read h.name h.bytes h.named h.read.content in
      let first = subst (λ (b : Bytes). HasGameFault b fault (string_bytes path)) (sym same) h.first in
      faulty_status fault (string_bytes path) first
  refusal_status (Flawed number flaw) h three twelve =
      due_status h.purpose h.source h.asked.name h.asked.due 6
  refusal_status (Ended Game end) h three twelve =
      solving h.kind h.budget h.source h.asked (end_status end) (inr (inl (end_range end)))
  refusal_status (Ended Cert end) h three twelve =
      due_status (for_best h.budget) h.source h.asked.name h.asked.due (end_status end)
  refusal_status NoMemory h three twelve = record {
    faulty = λ fault path f. inr refl;
    solved = λ kind budget name source solve f. inr (inr refl);
    migrated = λ name source migrate f. inr refl;
  }
  refusal_status WriteFault h three twelve = absurd (twelve refl)

-- ---- certificates

-- a text within the limit is that of a certificate that keeps the rules
text_cert : (c : CertOf) (bytes : Bytes) → IsText c bytes → length bytes ≤ cert_limit → IsCert c
text_cert c bytes t within =
    let cut = ap (λ (b : Bytes). length (lines_of b)) t.1 in
    let lines : length (lines_of bytes) ≡ line_count c = cut ∙ ap length (text_lines true c t.0) ∙ as_many_lines c t.0 in
    let fits = lines_fit bytes in
    cert_told c t.0 (omega (arith, lines, fits, within))

right_apart : (game : GameOf) → IsGame game → (bytes : Bytes) → length bytes ≤ cert_limit → (c d : CertOf)
    → IsRightText game bytes c → IsText d bytes → (fault : CertFault) → CertRefused game d fault → ⊥
right_apart game form bytes within c d right t fault refused =
    let same : c ≡ d = one_text c d right.is_text.0 t.0 (sym right.is_text.1 ∙ t.1) in
    let pass = cert_passes game form c (text_cert c bytes right.is_text within) right.right right.narrow in
    cert_apart game c fault pass (subst (λ (x : CertOf). CertRefused game x fault) (sym same) refused)

-- the head of a profile's text is right, and narrow
head_of : (game : GameOf) (bytes : Bytes) (mixtures : List MixtureOf) → (p : IsProfileText game bytes mixtures)
    → (p.cert.players ≡ length game) × IsRightHead game p.cert.kind p.cert.verdict
    × (HeadIsWide game p.cert.verdict → ⊥)
head_of game bytes mixtures p = (
  p.players,
  subst (λ (v : VerdictOf). IsRightHead game p.cert.kind v) (sym p.verdict) p.right,
  subst (λ (v : VerdictOf). HeadIsWide game v → ⊥) (sym p.verdict) p.narrow,
)

profile_apart : (game : GameOf) (bytes : Bytes) → length bytes ≤ cert_limit → (mixtures : List MixtureOf) (d : CertOf)
    → IsProfileText game bytes mixtures → IsText d bytes → (fault : CertFault) → HeadRefused game d fault → ⊥
profile_apart game bytes within mixtures d p t fault refused =
    let same : p.cert ≡ d = one_text p.cert d p.is_text.0 t.0 (sym p.is_text.1 ∙ t.1) in
    let pass = (head_is game p.cert (text_cert p.cert bytes p.is_text within)).1 (head_of game bytes mixtures p) in
    head_apart game p.cert fault pass (subst (λ (x : CertOf). HeadRefused game x fault) (sym same) refused)

refused_apart : (p : Purpose) (game : GameOf) → IsGame game → (bytes : Bytes) → length bytes ≤ cert_limit
    → (d : CertOf) → IsText d bytes → (fault : CertFault) → IsRefusedFor p game d fault
    → IsRightFor p game bytes → ⊥
refused_apart for_check game form bytes within d t fault refused right =
    right_apart game form bytes within right.0 d right.1 t fault refused
refused_apart (for_best n) game form bytes within d t fault refused right =
    profile_apart game bytes within right.0 d right.1 t fault refused

-- what is right for a purpose is the text of some certificate
text_of_right : (p : Purpose) (game : GameOf) (bytes : Bytes) → IsRightFor p game bytes
    → (c : CertOf) × IsText c bytes
text_of_right for_check game bytes right = (right.0, right.1.is_text)
text_of_right (for_best n) game bytes right = (right.1.cert, right.1.is_text)

-- a text that is refused isn't right for the purpose
flawed_apart : (p : Purpose) (game : GameOf) → IsGame game → (bytes : Bytes) → length bytes ≤ cert_limit
    → (number : ℕ) (flaw : CertFlaw) → IsFlawed p game bytes number flaw → IsRightFor p game bytes → ⊥
flawed_apart p game form bytes within number Form h right =
    let t = text_of_right p game bytes right in
    let e = text_has_no_fault t.0 bytes t.1 (texts.NotCert number) h in absurd cc
flawed_apart p game form bytes within number Number h right =
    let t = text_of_right p game bytes right in
    let e = text_has_no_fault t.0 bytes t.1 (texts.NumberTooBig number) h in absurd cc
flawed_apart p game form bytes within number Wrong h right =
    refused_apart p game form bytes within h.0 h.1 (checks.Bad number) h.2 right
flawed_apart p game form bytes within number Wide h right =
    refused_apart p game form bytes within h.0 h.1 (checks.Wide number) h.2 right

-- ---- the certificate that is told

-- best answers, or an end of their search, are done
done_end : (end : End) (game : GameOf) (mixtures : List MixtureOf) (budget : ℕ)
    → IsBestEnd game mixtures budget end → IsDone (for_best budget) (end_status end)
done_end (ends.Budget limit) game mixtures budget h = inr (omega arith, omega arith)
done_end (ends.Stuck asked) game mixtures budget h = inr (omega arith, omega arith)
done_end (ends.Step wide) game mixtures budget h = inr (omega arith, omega arith)
done_end (ends.Certificate number cert) game mixtures budget h = absurd h
done_end (ends.Open i var dir named) game mixtures budget h = inr (omega arith, omega arith)
done_end (ends.Large cells) game mixtures budget h = absurd h
done_end (ends.Long bytes) game mixtures budget h = absurd h

module _ (words : Words) (contents : Contents) (purpose : Purpose) (source : SourceOf) (bytes : Bytes)
    (told : IsToldCert words contents purpose source bytes) where
  named : IsGameName words told.game_name
  named = inr (inl (purpose, told.cert_name, told.asks))

  told_game : IsToldGame words contents told.game_bytes
  told_game = record { name = told.game_name; named = named; told = told.game_told }

  due_game : (p : Purpose) (other : SourceOf) (name : Bytes) → IsDueCert words contents p other name
      → (p ≡ purpose) × (other ≡ source) × (told.cert_name ≡ name)
  due_game p other name due =
      let text = due_text words contents told.game_bytes told_game p other name due in
      let names = one_purpose words p purpose due.game_name name told.game_name told.cert_name due.asks told.asks in
      (names.0, one_game told.game_bytes other source text told.text, sym names.2)

  asked_bytes : (p : Purpose) (other : SourceOf) (read : Bytes) → IsAskedCert words contents p other read
      → (p ≡ purpose) × (other ≡ source) × (bytes ≡ read)
  asked_bytes p other read asked =
      let due = due_game p other asked.name asked.due in
      (due.0, due.1, named_content contents cert_limit told.cert_name bytes asked.name read told.cert_told due.2 asked.read.content)

  -- what comes of the certificate that was read comes of the one that was told
  same_status : (p : Purpose) (other : SourceOf) (read : Bytes) → IsAskedCert words contents p other read
      → (status : ℕ) → IsCertStatus p other read status → IsCertStatus purpose source bytes status
  same_status p other read asked status h =
      let same = asked_bytes p other read asked in
      let here = subst (λ (q : Purpose). IsCertStatus q other read status) same.0 h in
      let there = subst (λ (s : SourceOf). IsCertStatus purpose s read status) same.1 here in
      subst (λ (b : Bytes). IsCertStatus purpose source b status) (sym same.2) there

  -- a printed answer comes of a right text
  pub told_answer : (text : Bytes) → IsAnswer words contents text → IsCertStatus purpose source bytes 0
  told_answer text (inl solved) =
      absurd (no_solve words purpose told.game_name told.cert_name solved.kind solved.budget solved.asked.name told.asks solved.asked.solve)
  told_answer text (inr (inl checked)) =
      same_status for_check checked.source checked.bytes checked.asked 0
      (inl (refl, (checked.accepted.cert, checked.accepted.shown)))
  told_answer text (inr (inr (inl best))) =
      same_status (for_best best.budget) best.source best.bytes best.asked 0
      (inl (inl refl, (best.best.shown.mixtures, best.best.shown.profile)))
  told_answer text (inr (inr (inr migrated))) =
      absurd (no_migrate words purpose told.game_name told.cert_name migrated.name told.asks migrated.migrate)

  -- a refusal that is no fault of shelf or sink says that no right text was told, that the search for
  -- best answers came to an end, or that memory was wanting
  pub told_refusal : (refusal : Refusal) → IsCause words contents refusal
      → (status_of refusal ≡ 3 → ⊥) → (status_of refusal ≡ 12 → ⊥)
      → IsCertStatus purpose source bytes (status_of refusal)
  told_refusal (Usage help) h three twelve =
      absurd (named_or_faulty words told.game_name named (faulty_of_help words contents help h))
  told_refusal (CannotRead text name) h three twelve = absurd (three refl)
  told_refusal (TooLong Game name) h three twelve =
      let same = one_name words told.game_name name.now named h.due in
      absurd (not_more contents game_limit told.game_name told.game_bytes name.now told.game_told same h.more)
  told_refusal (TooLong Cert name) h three twelve =
      let due = due_game h.due.0 h.due.1 name.now h.due.2 in
      absurd (not_more contents cert_limit told.cert_name bytes name.now told.cert_told due.2 h.more)
  told_refusal (Faulty fault path) h three twelve =
      let same = game_read words contents told.game_bytes told_game h.name h.bytes h.named h.read.content in
      let text = subst (λ (b : Bytes). IsGameText b source) same told.text in
      absurd (game_or_fault h.bytes source fault (string_bytes path) text h.first)
  told_refusal (Flawed number flaw) h three twelve =
      let form = game_of_text h.asked.due.bytes h.source h.asked.due.text in
      same_status h.purpose h.source h.bytes h.asked 6
      (inr (inl (refl, flawed_apart h.purpose (expansion h.source) form h.bytes h.asked.read.within number flaw h.flawed)))
  told_refusal (Ended Game end) h three twelve =
      absurd (no_solve words purpose told.game_name told.cert_name h.kind h.budget h.asked.name told.asks h.asked.solve)
  told_refusal (Ended Cert end) h three twelve =
      same_status (for_best h.budget) h.source h.bytes h.asked (end_status end)
      (inl (done_end end (expansion h.source) h.mixtures h.budget h.cause, (h.mixtures, h.profile)))
  told_refusal NoMemory h three twelve = inr (inr refl)
  told_refusal WriteFault h three twelve = absurd (twelve refl)
