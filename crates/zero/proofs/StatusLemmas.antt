-- The status of words that ask for nothing.
use Rattle.std.proofs.Common.{◌≡◌, refl, inl, inr, arith, String, Option, Some, None}
use Rattle.std.specs.declared.alloc.Global.{Global}
use Rattle.zr_io.specs.Contents.{Bytes, Contents}
use Rattle.zr_words.specs.Words.{Words}
use Rattle.zr_words.specs.Commands.{IsFaulty}
use Rattle.zero.specs.declared.refusal.Refusal.{Refusal}
use Rattle.zero.specs.declared.refusal.Refusal.TheVariants.{Usage, CannotRead, TooLong, Faulty, Flawed, Ended, NoMemory, WriteFault}
use Rattle.zero.specs.declared.text.Text.{Text}
use Rattle.zero.specs.declared.text.Text.TheVariants.{Game, Cert}
use Rattle.zero.specs.Reads.{IsDue}
use Rattle.zero.specs.Refusals.{IsCause, IsHelp, NamesGame, status_of}
use Rattle.zero.specs.Told.{IsStatus}
use Rattle.zero.proofs.CauseLemmas.{names_of_due, names_of_end}
use Rattle.zero.proofs.LineLemmas.{end_range}
use Rattle.zero.proofs.CommandLemmas.{named_or_faulty}

module _ (words : Words) (contents : Contents) where
  -- words that have no form, or are of no action, ask for nothing
  pub faulty_of_help : (help : Option (String Global)) → IsHelp words help → IsFaulty words
  faulty_of_help None h = h.1
  faulty_of_help (Some text) h = λ command asks. h asks.said asks.options asks.form

  -- a text that is due is named, or its certificate's game is
  due_name : (text : Text) (name : Bytes) → IsDue words contents text name → NamesGame words
  due_name Game name due = (name, due)
  due_name Cert name due = names_of_due due.2

  -- words that ask for nothing have the status 2
  pub faulty_status : (refusal : Refusal) → IsCause words contents refusal → IsFaulty words
      → IsStatus 2 (status_of refusal)
  faulty_status (Usage help) h faulty = inl refl
  faulty_status (CannotRead text name) h faulty =
      let due = due_name text name.now h in absurd (named_or_faulty words due.0 due.1 faulty)
  faulty_status (TooLong text name) h faulty =
      let due = due_name text name.now h.due in absurd (named_or_faulty words due.0 due.1 faulty)
  faulty_status (Faulty fault path) h faulty = absurd (named_or_faulty words h.name h.named faulty)
  faulty_status (Flawed number flaw) h faulty =
      let names = names_of_due h.asked.due in absurd (named_or_faulty words names.0 names.1 faulty)
  faulty_status (Ended last end) h faulty =
      let names = names_of_end words contents last end h in absurd (named_or_faulty words names.0 names.1 faulty)
  faulty_status NoMemory h faulty = inr refl
  faulty_status WriteFault h faulty = absurd (named_or_faulty words h.0 h.1 faulty)

  -- the status 2 comes of words that ask for nothing
  pub usage_of : (refusal : Refusal) → IsCause words contents refusal → status_of refusal ≡ 2 → IsFaulty words
  usage_of (Usage help) h e = faulty_of_help help h
  usage_of (CannotRead text name) h e = absurd (omega (arith, e))
  usage_of (TooLong text name) h e = absurd (omega (arith, e))
  usage_of (Faulty fault path) h e = absurd (omega (arith, e))
  usage_of (Flawed number flaw) h e = absurd (omega (arith, e))
  usage_of (Ended last end) h e = let range = end_range end in absurd (omega (arith, e, range.0))
  usage_of NoMemory h e = absurd (omega (arith, e))
  usage_of WriteFault h e = absurd (omega (arith, e))
