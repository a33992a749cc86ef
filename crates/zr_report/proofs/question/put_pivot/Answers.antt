use Rattle.std.proofs.Common.{rules, ◌≡◌, ◌∙◌, ◌++◌, ◌∷◌, [], ℕ, ap, map, List}
use Rattle.std.specs.Prelude.{codes}
use Rattle.zr_form.specs.Reading.{Bytes}
use Rattle.zr_report.proofs.Growing.{four_fields}
use Rattle.zr_report.proofs.question.put_pivot.Goals as goal

pub returns : goal.returns
returns c =
    let start : Bytes = c.args.out.now.items in
    let word : c.extend_from_slice.new.self.items ≡ start ++ codes "step pivot" = c.in_ok-extend_from_slice.ensures.items ∙ ap (λ (z : Bytes). start ++ z) c.as_slice.ensures in
    four_fields start (codes "step pivot") _ _ _ _ _ _ _ _ word c.in_ok-put_places.ensures c.in_ok-put_places-2.ensures c.in_ok-push.ensures.items
