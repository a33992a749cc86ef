use Rattle.std.proofs.Common.{rules, ◌≡◌, ◌+◌, ◌≤◌, arith, ap, sym, ◌∙◌, pos, length, map, [], ◌∷◌, ◌++◌, FitsSigned}
use Rattle.std.specs.Int.{w128}
use Rattle.std.proofs.lemmas.Int.{to_z-of_z}
use Rattle.std.proofs.lemmas.List.Elements.{All-push}
use Rattle.zr_base.specs.Steps.{IsNarrow}
use Rattle.zr_game.specs.Players.{var_of}
use Rattle.zr_simplex.specs.Programs.{numbers}
use Rattle.zr_asked.specs.Parts.{is_from_zero}
use Rattle.zr_branch.specs.Columns.{values_from}
use Rattle.zr_branch.proofs.PartLaws.{columns_more, values_more}
use Rattle.zr_branch.proofs.value.values_by.Goals as goal

pub loop-var-preserved : goal.loop-var-preserved
loop-var-preserved c =
    let vars = c.args.vars.now in
    let i = c.loop-var.var-index in
    let y = numbers c.args.list.now in
    let v = c.value_of.result in
    let f : FitsSigned w128 v = search rules in
    let items = simp to_z-of_z at c.in_ok-push.ensures.items in
    let value = c.value_of.ensures.value in
    let made = items ∙ ap (λ z. c.loop-var.values.items ++ z ∷ []) value in
    record {
      values = rw c.width_of-c.ensures (values_more vars i c.loop-var.c y c.loop-var.values.items c.push.new.self.items (values_from 0 (map var_of vars) y) c.var-item.result c.loop-var-test.true c.var-item.is made c.loop-var.invariant.values);
      columns = rw c.width_of-c.ensures (columns_more vars i c.loop-var.c (length c.args.list.now) c.var-item.result c.loop-var-test.true c.var-item.is c.loop-var.invariant.columns);
      narrow = rw items (All-push IsNarrow c.loop-var.values.items v c.loop-var.invariant.narrow c.value_of.ensures.narrow);
    }
