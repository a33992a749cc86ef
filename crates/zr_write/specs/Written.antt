-- The bytes of a source's one text in each format.
use Rattle.std.specs.Prelude.{◌≡◌, ℕ, ℤ, Bool, not, pos, List, Option, Some, None, false, IsUtf8}
use Rattle.std.specs.List.{list_all}
use Rattle.std.specs.Ordering.{int_eq}
use Rattle.serde_json.specs.Read.{read}
use Rattle.serde_json.specs.Written.{compact_text}
use Rattle.zr_game.specs.Players.{VarOf}
use Rattle.zr_source.specs.Sources.{LeaderOf, SourceOf}
use Rattle.zr_write.specs.Canonical.{source_data}

-- the lower bound is there, and is 0
abbrev pub is_zero : Option ℤ → Bool
is_zero None = false
is_zero (Some z) = int_eq z (pos 0)

abbrev pub has_zero_lows : LeaderOf → Bool
has_zero_lows leader = list_all (λ (var : VarOf). is_zero var.low) leader.base.vars

-- some lower bound isn't 0, so that only format 2 has the source
abbrev pub needs_lows : SourceOf → Bool
needs_lows source = not (list_all has_zero_lows source)

-- the bytes are the compact JSON text of the source's value
pub record IsWritten (lows : Bool) (source : SourceOf) (bytes : List ℕ) : Type 0 where
  pub text : bytes ≡ compact_text (source_data lows source)
  pub utf8 : IsUtf8 bytes
  pub reads : read bytes ≡ Some (source_data lows source)
