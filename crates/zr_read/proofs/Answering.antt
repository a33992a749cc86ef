-- From the answer to a value to the answer to its bytes.
use Rattle.std.proofs.Common.{ℕ, List, Result, Ok, Err, inr}
use Rattle.std.specs.Prelude.{IfOk, IfErr}
use Rattle.serde_json.specs.Data.{Data}
use Rattle.zr_source.specs.declared.source.Source.{Source}
use Rattle.zr_value.specs.declared.fault.GameError.{GameError}
use Rattle.zr_value.specs.declared.fault.GameError.TheVariants.{At, NoMemory}
use Rattle.zr_value.specs.Faults.{Reads}
use Rattle.zr_read.specs.Passes.{source_in}
use Rattle.zr_read.specs.Texts.{source_of, IsTextOf, StandsFor, IsRefusal}

module _ (bytes : List ℕ) (value : Data) (text : IsTextOf bytes value) where
  -- the bytes stand for the source that was read
  pub answers_source : (r : Result Source GameError) → Reads source_of r (source_in value)
      → IfOk r (λ s. StandsFor bytes (source_of s))
  answers_source (Ok s) h = record { value = value; text = text; content = h }
  answers_source (Err e) h = tt

  -- or they have the fault
  pub answers_refusal : (r : Result Source GameError) → Reads source_of r (source_in value)
      → IfErr r (λ e. IsRefusal bytes e)
  answers_refusal (Ok s) h = tt
  answers_refusal (Err (At what path)) h = inr (record { value = value; text = text; fault = h })
  answers_refusal (Err NoMemory) h = tt
