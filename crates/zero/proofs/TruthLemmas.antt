-- What is true of a game with its followers' conditions is true of the game as it was read.
use Rattle.std.proofs.Common.{◌≡◌, length, subst, ◌∙◌}
use Rattle.std.proofs.lemmas.List.{length-map}
use Rattle.zr_game.specs.Profiles.{Profile}
use Rattle.zr_game.specs.Equilibria.{HasNoEquilibrium, IsEquilibrium}
use Rattle.zr_game.specs.declared.kind.Kind.{Kind}
use Rattle.zr_source.specs.Sources.{SourceOf}
use Rattle.zr_source.specs.SourceEquilibria.{HasNoSourceEquilibrium}
use Rattle.zr_source.specs.SourceForms.{IsSource}
use Rattle.zr_follow.specs.Expansion.{expanded, expansion}
use Rattle.zr_follow.proofs.Equilibria.{equilibria, kinds_base, none_alike}
use Rattle.zr_follow.proofs.Relations.{expansion_is}
use Rattle.zr_cert.specs.Certs.{BoxVerdict, CoverVerdict, EmptyVerdict, ProfileVerdict, VerdictOf, profile_with}
use Rattle.zr_check.specs.Truth.{IsTrueVerdict}
use Rattle.zr_game.specs.Forms.{IsGame}
use Rattle.zr_check.proofs.Truths.{true_of_right}
use Rattle.zr_drive.specs.Verdicts.{IsVerdictText}
use Rattle.zr_io.specs.Contents.{Bytes}
use Rattle.zero.specs.Answers.{IsDecided, IsTrueOf}

module _ (source : SourceOf) (form : IsSource source) where
  as_many : (profile : Profile) → IsEquilibrium (expansion source) profile → length profile ≡ length source
  as_many profile e = e.valid.len ∙ length-map source expanded

  pub none_of : (kind : Kind) → HasNoEquilibrium (expansion source) kind → HasNoSourceEquilibrium source kind
  none_of kind none = (none_alike source form (expansion source) (expansion_is source) kind).0 none

  pub true_of : (kind : Kind) (verdict : VerdictOf) → IsTrueVerdict (expansion source) kind verdict
      → IsTrueOf source kind verdict
  true_of kind (ProfileVerdict mixtures bounds) (of_kind, e) =
      let profile = profile_with mixtures in (
        (kinds_base source profile (as_many profile e) kind).0 of_kind,
        (equilibria source form (expansion source) (expansion_is source) profile e.valid).0 e,
      )
  true_of kind (CoverVerdict covers named proof) none = none_of kind none
  true_of kind (EmptyVerdict i nodes) none = none_of kind none
  true_of kind (BoxVerdict nodes) none = none_of kind none

  -- the text of a right certificate decides the game
  pub decided_of : IsGame (expansion source) → (kind : Kind) (text : Bytes) → IsVerdictText (expansion source) kind text
      → IsDecided source kind text
  decided_of game kind text v =
      let truth = true_of_right (expansion source) game v.cert v.right.right in
      record {
        cert = v.cert;
        kind_is = v.kind_is;
        shown = record { is_text = v.text; right = v.right.right; narrow = v.right.narrow };
        within = v.within;
        truth = subst (λ (k : Kind). IsTrueOf source k v.cert.verdict) v.kind_is (true_of v.cert.kind v.cert.verdict truth);
      }
