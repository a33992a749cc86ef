-- Bytes stand for one source or have one first fault, and only one of these.
use Rattle.std.proofs.Common.{◌≡◌, ℕ, Bool, true, false, List, [], refl, sym, ap, ◌∙◌, Ok, Err, Option, Some, None, inl, inr, ◌⊎◌, true≢false}
use Rattle.std.specs.Prelude.{IsUtf8}
use Rattle.std.specs.Str.{is_utf8}
use Rattle.std.proofs.lemmas.Str.{IsUtf8-from_is_utf8, is_utf8-from_IsUtf8}
use Rattle.serde_json.specs.Data.{Data}
use Rattle.serde_json.specs.Read.{read}
use Rattle.zr_source.specs.Sources.{SourceOf}
use Rattle.zr_value.specs.declared.fault.GameFault.{GameFault}
use Rattle.zr_value.specs.declared.fault.GameFault.TheVariants.{NotJson}
use Rattle.zr_value.specs.Faults.{Read, Fault}
use Rattle.zr_read.specs.Passes.{source_in}
use Rattle.zr_read.specs.Texts.{IsTextOf, StandsFor, HasFirstFault}

-- bytes are the text of one value
one_value : (bytes : List ℕ) (v w : Data) → IsTextOf bytes v → IsTextOf bytes w → v ≡ w
one_value bytes v w a b = let e = sym (a.1) ∙ b.1 in cc (e)

pub one_source : (bytes : List ℕ) (g h : SourceOf) → StandsFor bytes g → StandsFor bytes h → g ≡ h
one_source bytes g h a b =
    let same = one_value bytes a.value b.value a.text b.text in
    let e = sym (a.content) ∙ ap source_in same ∙ b.content in cc (e)

pub one_fault : (bytes : List ℕ) (f k : GameFault) (p q : List ℕ) → HasFirstFault bytes f p
    → HasFirstFault bytes k q → (f ≡ k) × (p ≡ q)
one_fault bytes f k p q (inl a) (inl b) = (a.named ∙ sym (b.named), a.at_top ∙ sym (b.at_top))
one_fault bytes f k p q (inl a) (inr b) = absurd (a.no_text b.value b.text)
one_fault bytes f k p q (inr a) (inl b) = absurd (b.no_text a.value a.text)
one_fault bytes f k p q (inr a) (inr b) =
    let same = one_value bytes a.value b.value a.text b.text in
    let e = sym (a.fault) ∙ ap source_in same ∙ b.fault in
    let g : record { kind = f; path = p } ≡ record { kind = k; path = q } = cc (e) in
    (ap (λ (x : Fault). x.kind) g, ap (λ (x : Fault). x.path) g)

pub source_or_fault : (bytes : List ℕ) (g : SourceOf) (f : GameFault) (p : List ℕ)
    → StandsFor bytes g → HasFirstFault bytes f p → ⊥
source_or_fault bytes g f p a (inl b) = b.no_text a.value a.text
source_or_fault bytes g f p a (inr b) =
    let same = one_value bytes a.value b.value a.text b.text in
    let e = sym (a.content) ∙ ap source_in same ∙ b.fault in cc (e)

-- ---- one of them always holds

abbrev pub Answered : List ℕ → Type 0
Answered bytes = ((g : SourceOf) × StandsFor bytes g)
    ⊎ ((f : GameFault) × (p : List ℕ) × HasFirstFault bytes f p)

module _ (bytes : List ℕ) where
  by_reading : (v : Data) → IsTextOf bytes v → (r : Read SourceOf) → source_in v ≡ r
      → Answered bytes
  by_reading v t (Ok g) e = inl (g, record { value = v; text = t; content = e })
  by_reading v t (Err f) e =
      inr (f.kind, f.path, inr (record { value = v; text = t; fault = e }))

  no_json : ((v : Data) → IsTextOf bytes v → ⊥) → Answered bytes
  no_json none =
      inr (NotJson, [], inl (record { no_text = none; named = refl; at_top = refl }))

  by_value : IsUtf8 bytes → (o : Option Data) → read bytes ≡ o → Answered bytes
  by_value u None e = no_json (λ v t. let h = sym e ∙ t.1 in cc (h))
  by_value u (Some v) e = by_reading v (u, e) (source_in v) refl

  by_utf8 : (b : Bool) → is_utf8 bytes ≡ b → Answered bytes
  by_utf8 true e = by_value (IsUtf8-from_is_utf8 bytes e) (read bytes) refl
  by_utf8 false e = no_json (λ v t. true≢false (sym (is_utf8-from_IsUtf8 bytes t.0) ∙ e))

  pub answered : Answered bytes
  answered = by_utf8 (is_utf8 bytes) refl
