use Rattle.std.proofs.Common.{◌≡◌, ap, ◌∙◌, ◌++◌, ◌∷◌, [], List, map}
use Rattle.std.proofs.lemmas.Result.{on_ok_weaker}
use Rattle.zr_cert.specs.Certs.{bound_of, mixture_of}
use Rattle.zr_form.specs.Reading.{Bytes, spell_from}
use Rattle.zr_text.specs.Spelling.{bound_lines, profile_line, strategy_lines}
use Rattle.zr_text.proofs.Putting.{first_line, more_lines}
use Rattle.zr_text.proofs.writing.put_profile.Goals as goal

pub returns : goal.returns
returns c =
    let start : Bytes = c.args.out.now.items in
    let strategies : List Bytes = spell_from strategy_lines 0 (map mixture_of c.args.strategies.now) in
    let bounds : List Bytes = spell_from bound_lines 0 (map bound_of c.args.bounds.now) in
    let line : c.extend_from_slice.new.self.items ≡ start ++ profile_line = c.in_ok-extend_from_slice.ensures.items ∙ ap (λ (z : Bytes). start ++ z) c.as_slice.ensures in
    let before = more_lines start (profile_line ∷ []) strategies (first_line start profile_line line) c.in_ok-put_strategies.ensures in
    on_ok_weaker c.put_bounds.result (λ put. more_lines start (profile_line ∷ strategies) bounds before put) c.put_bounds.ensures
