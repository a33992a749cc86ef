-- A certificate that was printed is accepted.
use Rattle.std.proofs.Common.{◌≡◌, ℕ, inl, inr, refl}
use Rattle.zr_io.specs.Contents.{Bytes, Contents}
use Rattle.zr_source.specs.Sources.{SourceOf}
use Rattle.zr_follow.specs.Expansion.{expansion}
use Rattle.zr_words.specs.Words.{Words}
use Rattle.zero.specs.Commands.{for_check}
use Rattle.zero.specs.Answers.{IsSolved}
use Rattle.zero.specs.Told.{IsCertStatus, IsRightFor, IsStatus, IsToldCert, IsToldCheck}

-- a check of a right text is answered
answered : (source : SourceOf) (bytes : Bytes) → IsRightFor for_check (expansion source) bytes
    → (status : ℕ) → IsCertStatus for_check source bytes status → IsStatus 0 status
answered source bytes right status (inl (done, shown)) = inl done
answered source bytes right status (inr (inl (six, wrong))) = absurd (wrong right)
answered source bytes right status (inr (inr e)) = inr e

pub accepted : (words checker : Words) (contents shelf : Contents) (text : Bytes)
    → (solved : IsSolved words contents text) → IsToldCheck checker shelf solved.asked.bytes text
    → (status : ℕ)
    → ((source : SourceOf) → IsToldCert checker shelf for_check source text
    → IsCertStatus for_check source text status) → IsStatus 0 status
accepted words checker contents shelf text solved told status settled =
    let source = solved.source in
    let right : IsRightFor for_check (expansion source) text = (solved.decided.cert, solved.decided.shown) in
    answered source text right status (settled source (record {
      game_name = told.game_name;
      cert_name = told.cert_name;
      asks = told.asks;
      game_bytes = solved.asked.bytes;
      game_told = told.game_told;
      text = solved.asked.game;
      cert_told = told.cert_told;
    }))
