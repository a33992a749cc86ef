use Rattle.std.proofs.Common.{◌∷◌, [], List, length, map, ◌≡◌, ap, ◌∙◌, sym, ℕ, ◌++◌}
use Rattle.std.proofs.lemmas.List.{length-map}
use Rattle.std.proofs.lemmas.Result.{on_ok_weaker}
use Rattle.zr_game.specs.Named.{named_of}
use Rattle.zr_form.specs.Reading.{Bytes}
use Rattle.zr_lines.specs.Spelling.{named_count_line, named_line}
use Rattle.zr_text.proofs.Putting.{first_line, more_lines}
use Rattle.zr_text.proofs.writing_lines.put_named.Goals as goal

pub returns : goal.returns
returns c =
    let start : Bytes = c.args.out.now.items in
    let items = map named_of c.args.items.now in
    let lines : List Bytes = map named_line items in
    let line : c.put_named_count.new.out.items ≡ start ++ named_count_line (length items) = c.in_ok-put_named_count.ensures ∙ ap (λ (n : ℕ). start ++ named_count_line n) (sym (length-map c.args.items.now named_of)) in
    on_ok_weaker c.put_items.result (λ put. more_lines start (named_count_line (length items) ∷ []) lines (first_line start (named_count_line (length items)) line) put) c.put_items.ensures
