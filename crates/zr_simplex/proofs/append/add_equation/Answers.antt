use Rattle.std.proofs.Common.{rules, ◌≡◌}
use Rattle.std.proofs.lemmas.List.{with_items_is}
use Rattle.std.specs.Vec.{with_items}
use Rattle.zr_simplex.proofs.append.add_equation.Goals as goal

pub returns-clause-primitive : goal.returns-clause-primitive
returns-clause-primitive c =
    let all = c.copy_last.new.numbers in
    let made = c.replace_row.new.all in
    let new : (with_items all made).items ≡ made = with_items_is all made (search rules) in
    rw new c.replace_row.ensures.primitive
