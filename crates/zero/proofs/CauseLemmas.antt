-- Why the words have no answer, from why a step gave none.
use Rattle.std.proofs.Common.{ℕ, sym, subst, inl, inr, Result, Ok, Err, IfErr, IfOk, IsErrAnd}
use Rattle.zr_io.specs.Contents.{Bytes, Contents}
use Rattle.zr_words.specs.Words.{Words}
use Rattle.zr_source.specs.Sources.{SourceOf}
use Rattle.zr_game.specs.declared.kind.Kind.{Kind}
use Rattle.zr_report.specs.declared.end.End.{End}
use Rattle.zero.specs.declared.text.Text.{Text}
use Rattle.zero.specs.declared.text.Text.TheVariants.{Game, Cert}
use Rattle.zr_follow.specs.Expansion.{expansion}
use Rattle.zero.specs.declared.refusal.Refusal.{Refusal}
use Rattle.zero.specs.Answers.{IsAnswer, IsAskedCert, IsAskedSolve, IsEnded}
use Rattle.zero.specs.Commands.{Purpose, for_best}
use Rattle.zero.specs.Reads.{IsDueCert}
use Rattle.zero.specs.Refusals.{ComesOfWork, IsCause, IsStopped, NamesGame}

-- words that name a certificate name its game
pub names_of_due : {words : Words} {contents : Contents} {purpose : Purpose} {source : SourceOf} {name : Bytes}
    → IsDueCert words contents purpose source name → NamesGame words
names_of_due {purpose = purpose} {name = name} due =
    (due.game_name, inr (inl (purpose, name, due.asks)))

-- words that have an answer name a game
pub names_of_answer : (words : Words) (contents : Contents) (text : Bytes)
    → IsAnswer words contents text → NamesGame words
names_of_answer words contents text (inl solved) =
    (solved.asked.name, inl (solved.kind, solved.budget, solved.asked.solve))
names_of_answer words contents text (inr (inl checked)) = names_of_due checked.asked.due
names_of_answer words contents text (inr (inr (inl best))) = names_of_due best.asked.due
names_of_answer words contents text (inr (inr (inr migrated))) =
    (migrated.name, inr (inr migrated.migrate))

-- what stands of an error
pub if_err : {T E : Type 0} (r : Result T E) (P Q : E → Type 0) → ((x : E) → P x → Q x) → IfErr r P → IfErr r Q
if_err (Ok x) P Q to h = tt
if_err (Err e) P Q to h = to e h

-- what stands of a result
pub if_ok : {T E : Type 0} (r : Result T E) (P Q : T → Type 0) → ((x : T) → P x → Q x) → IfOk r P → IfOk r Q
if_ok (Ok x) P Q to h = to x h
if_ok (Err e) P Q to h = tt

-- what stands of a result that is an error
pub err_and : {T E : Type 0} (r : Result T E) (P Q : E → Type 0) → ((x : E) → P x → Q x) → IsErrAnd r P → IsErrAnd r Q
err_and (Ok x) P Q to h = h
err_and (Err e) P Q to h = to e h

-- the end of the search for best answers, of which the words ask
pub stopped_cause : (words : Words) (contents : Contents) (budget : ℕ) (source : SourceOf) (bytes : Bytes)
    (refusal : Refusal) → IsAskedCert words contents (for_best budget) source bytes
    → IsStopped (expansion source) bytes budget refusal → IsCause words contents refusal
stopped_cause words contents budget source bytes refusal asked (mixtures, profile, inl none) =
    subst (IsCause words contents) (sym none) tt
stopped_cause words contents budget source bytes refusal asked (mixtures, profile, inr (end, is, cause)) =
    subst (IsCause words contents) (sym is) (record {
      budget = budget;
      source = source;
      bytes = bytes;
      asked = asked;
      mixtures = mixtures;
      profile = profile;
      cause = cause;
    })

-- words whose work comes to an end name a game
pub names_of_end : (words : Words) (contents : Contents) (last : Text) (end : End)
    → IsEnded words contents last end → NamesGame words
names_of_end words contents Game end h = (h.asked.name, inl (h.kind, h.budget, h.asked.solve))
names_of_end words contents Cert end h = names_of_due h.asked.due

-- the end of the work on an equilibrium, of which the words ask
pub worked_cause : (words : Words) (contents : Contents) (kind : Kind) (budget : ℕ) (source : SourceOf)
    (refusal : Refusal) → IsAskedSolve words contents kind budget source
    → ComesOfWork (expansion source) kind budget refusal → IsCause words contents refusal
worked_cause words contents kind budget source refusal asked (inl none) =
    subst (IsCause words contents) (sym none) tt
worked_cause words contents kind budget source refusal asked (inr (end, is, cause)) =
    subst (IsCause words contents) (sym is)
    (record { kind = kind; budget = budget; source = source; asked = asked; cause = cause })
