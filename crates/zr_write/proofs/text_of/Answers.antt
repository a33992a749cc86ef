use Rattle.std.proofs.Common.{List, ap, subst, sym, ◌≡◌, ◌∙◌, string_bytes, ℕ, Some}
use Rattle.std.proofs.lemmas.Str.{IsUtf8-string_bytes}
use Rattle.serde_json.specs.View.{view}
use Rattle.serde_json.specs.Written.{compact_text}
use Rattle.zr_source.specs.Sources.{leaders_of}
use Rattle.zr_write.specs.Written.{IsWritten}
use Rattle.zr_write.proofs.Flat.{IsFlat, flat_source}
use Rattle.zr_write.proofs.text_of.Goals as goal

pub returns-in-Ok-to_string : goal.returns-in-Ok-to_string
returns-in-Ok-to_string c =
    let is = c.in-Ok.ensures in
    let flat : IsFlat 127 (view c.in-Ok.value) = subst (IsFlat 127) (sym is) (flat_source c.args.lows (leaders_of c.args.leaders.now)) in
    let same : c.into_bytes.result.items ≡ string_bytes c.in-Ok-to_string.text = ap (λ v. v.items) c.into_bytes.ensures.value in
    let text = c.in-Ok-to_string.ensures.text flat.float ∙ ap compact_text is in
    let reads = c.in-Ok-to_string.ensures.reads_back flat.nests ∙ ap (λ d. Some d) is in
    subst (λ (bytes : List ℕ). IsWritten c.args.lows (leaders_of c.args.leaders.now) bytes) (sym same)
    (record { text = text; utf8 = IsUtf8-string_bytes c.in-Ok-to_string.text; reads = reads })
