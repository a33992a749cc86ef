use Rattle.std.proofs.Common.{rules, ◌≡◌, ◌∙◌, ◌++◌, ◌∷◌, ap, map}
use Rattle.std.specs.Prelude.{codes}
use Rattle.zr_form.specs.Numbers.{decimal, signed}
use Rattle.zr_form.specs.Reading.{Bytes}
use Rattle.zr_lines.specs.Spelling.{point_fields}
use Rattle.zr_report.proofs.Growing.{below_written}
use Rattle.zr_report.proofs.best.put_below.Goals as goal

pub returns : goal.returns
returns c =
    let start : Bytes = c.args.out.now.items in
    let word : c.extend_from_slice.new.self.items ≡ start ++ codes "below" = c.in_ok-extend_from_slice.ensures.items ∙ ap (λ (z : Bytes). start ++ z) c.as_slice.ensures in
    below_written start c.args.i c.args.base.now c.args.dir.now c.extend_from_slice.new.self.items
    c.put_natural_field.new.out.items c.put_point.new.out.items c.put_direction.new.out.items c.push.new.self.items
    word (search rules) c.in_ok-put_point.ensures (search rules) c.in_ok-push.ensures.items
