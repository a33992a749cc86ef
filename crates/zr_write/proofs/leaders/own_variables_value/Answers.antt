use Rattle.std.proofs.Common.{List, ap, map, subst, ◌∙◌, take}
use Rattle.std.specs.Prelude.{IfOk, ◌≡◌}
use Rattle.serde_json.specs.View.{view}
use Rattle.zr_game.specs.Players.{VarOf, var_of}
use Rattle.zr_write.specs.Canonical.{list_data, variable_data}
use Rattle.zr_write.proofs.Grown.{run_by}
use Rattle.zr_write.proofs.leaders.own_variables_value.Goals as goal

pub returns : goal.returns
returns c =
    let same = ap (map var_of) c.run_of.ensures ∙ run_by var_of 0 c.own_count-own.result c.args.vars.now
    ∙ ap (λ n. take n (map var_of c.args.vars.now)) c.own_count-own.ensures in
    subst (λ (vars : List VarOf). IfOk c.variables_value.result (λ x. view x ≡ list_data (variable_data c.args.lows) vars)) same c.variables_value.ensures
