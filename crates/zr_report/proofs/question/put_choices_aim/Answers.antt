use Rattle.std.proofs.Common.{rules, ◌≡◌, ◌∙◌, ◌++◌, ap}
use Rattle.std.specs.Prelude.{codes}
use Rattle.zr_form.specs.Reading.{Bytes}
use Rattle.zr_report.proofs.Growing.{aim_pieces}
use Rattle.zr_report.proofs.question.put_choices_aim.Goals as goal

pub returns : goal.returns
returns c =
    let start : Bytes = c.args.out.now.items in
    let word : c.extend_from_slice.new.self.items ≡ start ++ codes "aim" = c.in_ok-extend_from_slice.ensures.items ∙ ap (λ (z : Bytes). start ++ z) c.as_slice.ensures in
    aim_pieces c.args.columns start c.extend_from_slice.new.self.items c.put_zeros.new.out.items
    c.put_integer_field.new.out.items c.push.new.self.items word (search rules) c.in_ok-put_integer_field.ensures
    c.in_ok-push.ensures.items
