use Rattle.std.proofs.Common.{◌≡◌, ◌∙◌, ◌++◌, ap, map}
use Rattle.std.specs.Prelude.{codes}
use Rattle.zr_form.specs.Numbers.{signed}
use Rattle.zr_form.specs.Reading.{Bytes}
use Rattle.zr_lines.specs.Spelling.{point_fields}
use Rattle.zr_text.proofs.Putting.{two_lists_written}
use Rattle.zr_text.proofs.writing_lines.put_ray.Goals as goal

pub returns : goal.returns
returns c =
    let start : Bytes = c.args.out.now.items in
    let word : c.extend_from_slice.new.self.items ≡ start ++ codes "ray" = c.in_ok-extend_from_slice.ensures.items ∙ ap (λ (z : Bytes). start ++ z) c.as_slice.ensures in
    two_lists_written start (codes "ray") (point_fields c.args.base.now) (map signed c.args.dir.now) c.extend_from_slice.new.self.items c.put_point.new.out.items c.put_direction.new.out.items c.push.new.self.items word c.in_ok-put_point.ensures c.in_ok-put_direction.ensures c.in_ok-push.ensures.items
