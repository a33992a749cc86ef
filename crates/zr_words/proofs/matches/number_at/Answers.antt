use Rattle.std.proofs.Common.{◌≡◌, ◌∙◌, ℕ, List, Some, sym, ap, subst}
use Rattle.std.specs.Prelude.{unwrap_or}
use Rattle.std.specs.Str.Parse.{ParsesUnsigned, ExplainsUnsignedError, HasUnsignedDigitsIfOk}
use Rattle.clap.specs.Words.{found_of, one_of, one_text, rows_of, without_minus}
use Rattle.clap.proofs.WalkLemmas.{one_text-rows}
use Rattle.zr_words.specs.Commands.{IsNumber}
use Rattle.zr_words.proofs.Numbers.{reads_number}
use Rattle.zr_words.proofs.matches.number_at.Goals as goal

pub returns : goal.returns
returns c = λ said o most same small row.
    let f = found_of c.args.matches.now in
    let text : one_text f c.args.id.now ≡ Some (without_minus row.value) = one_text-rows f c.args.id.now ∙ ap (λ (i : List ℕ). one_of i (rows_of f)) same ∙ row.read in
    let read = c.get_one.ensures.value (without_minus row.value) text in
    let n = reads_number _ (λ bs r. ParsesUnsigned 32 10 bs r × ExplainsUnsignedError 10 bs r × HasUnsignedDigitsIfOk bs r) 32 most row.value c.get_one.result read (λ u x g. g.0) small row.number in
    let is : n.0 ≡ c.unwrap_or.result = sym (c.unwrap_or.ensures ∙ ap (λ x. unwrap_or x 0) n.1) in
    (row.value, row.is_value, subst (IsNumber most row.value) is n.2)
