-- What `clap` answers to the words, by what they say.
use Rattle.std.proofs.Common.{◌≡◌, ◌⊎◌, inl, inr, zero, suc, List, [], ◌∷◌, sym, subst, true, arith, IsUtf8, String}
use Rattle.std.specs.Prelude.{Result, Ok, Err, IfOk, MatchResult}
use Rattle.std.specs.List.{All}
use Rattle.std.specs.declared.alloc.Global.{Global}
use Rattle.std.proofs.lemmas.Str.{IsUtf8-string_bytes}
use Rattle.clap.specs.Words.{App, Kinds, fault_of, found_of, is_simple, is_simple_and_free, kind_of, rows_of, FailsBy, HasMatchesOf, IsAmong}
use Rattle.clap.specs.declared.builder.value_parser.ValueParser.{ValueParser}
use Rattle.clap.specs.declared.parser.matches.ArgMatches.{ArgMatches}
use Rattle.clap.specs.declared.error.Error.{Error}
use Rattle.clap.specs.declared.error.kind.ErrorKind.{ErrorKind}
use Rattle.clap.specs.declared.error.kind.ErrorKind.TheVariants.{OutOfMemory}
use Rattle.zr_words.specs.Words.{Words, spelled}
use Rattle.zr_words.specs.Commands.{IsMisspelt}
use Rattle.zr_words.specs.Arguments.{TakesKinds, zero_app, zero_fault, zero_rows}
use Rattle.zr_words.specs.Matches.{AreRead}
use Rattle.zr_words.proofs.Rules.{is_free, simple}
use Rattle.zr_words.proofs.Ends.{read_of, taken_of}

-- words are texts
pub are_texts : (words : List (String Global)) → All IsUtf8 (spelled words)
are_texts [] k d lt = absurd (omega arith)
are_texts (word ∷ words) zero d lt = IsUtf8-string_bytes word
are_texts (word ∷ words) (suc k) d lt = are_texts words k d (omega arith)

-- a fault has a kind
among_none : (x : ErrorKind) (kinds : Kinds) → IsAmong x kinds → kinds ≡ [] → ⊥
among_none x [] h e = h
among_none x (k ∷ ks) h e = cc

pub answer_is : (app : App) (kinds : ValueParser) (words : Words) (r : Result ArgMatches Error)
    → app ≡ zero_app kinds → TakesKinds kinds → All IsUtf8 words
    → (is_simple_and_free app ≡ true → FailsBy (fault_of app words) r) → IfOk r (HasMatchesOf app words)
    → MatchResult r (λ m. AreRead words (rows_of (found_of m))) (λ e. (kind_of e ≡ OutOfMemory) ⊎ IsMisspelt words)
unfolding zero_fault zero_rows
answer_is app kinds words (Ok m) e takes utf8 fails matches =
    let none = subst (λ (a : App). is_simple_and_free a ≡ true → FailsBy (fault_of a words) (Ok m)) e fails (is_free kinds) in
    let rows = subst (λ (a : App). is_simple a ≡ true → HasMatchesOf a words m) e (λ s. matches) (simple kinds) (simple kinds) in
    subst (AreRead words) (sym rows.0) (read_of kinds takes words utf8 none)
answer_is app kinds words (Err x) e takes utf8 fails matches =
    let has = subst (λ (a : App). is_simple_and_free a ≡ true → FailsBy {T = ArgMatches} (fault_of a words) (Err x)) e fails (is_free kinds) in
    elim has [
      | inl memory ↦ inl memory
      | inr among ↦ inr (λ said options form. among_none (kind_of x) (zero_fault kinds words) among (taken_of kinds takes words said options form).0)
    ]
