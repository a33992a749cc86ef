use Rattle.std.proofs.Common.{rules, ◌≡◌, ap, sym, subst, ◌∙◌, refl, false, List, ℤ, FitsSigned}
use Rattle.std.specs.Int.{w128}
use Rattle.std.specs.List.{All}
use Rattle.std.proofs.lemmas.Int.{to_z-of_z}
use Rattle.zr_base.specs.Steps.{IsNarrow}
use Rattle.zr_base.specs.Terms.{Ascends, Terms}
use Rattle.zr_tree.specs.SlotRows.{left_coef, slot_bound}
use Rattle.zr_branch.specs.Columns.{listed_from, part_numbers}
use Rattle.zr_branch.proofs.PartLaws.{bound_listed, list_ascends}
use Rattle.zr_branch.proofs.row.ineq_of.Goals as goal

pub returns-clause-weak : goal.returns-clause-weak
returns-clause-weak c =
    let f : FitsSigned w128 c.args.row.le = search rules in
    let values = c.in_ok-list.ensures.values in
    let narrow = subst (All IsNarrow) values c.in_ok-list.ensures.narrow in
    let items = c.in_ok-listed.ensures ∙ ap (listed_from 0) (c.deref.ensures.value ∙ values) in
    simp to_z-of_z ((rw items (list_ascends (left_coef c.args.row.left) c.args.parts.now narrow), c.requires.narrow), refl)

pub returns-clause-bound : goal.returns-clause-bound
returns-clause-bound c =
    let f : FitsSigned w128 c.args.row.le = search rules in
    let values = c.in_ok-list.ensures.values in
    let items = c.in_ok-listed.ensures ∙ ap (listed_from 0) (c.deref.ensures.value ∙ values) in
    simp to_z-of_z (bound_listed (slot_bound c.args.row) c.args.parts.now c.in_ok-listed.field-0.items items)
