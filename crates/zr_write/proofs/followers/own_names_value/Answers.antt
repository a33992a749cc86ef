use Rattle.std.proofs.Common.{List, ap, subst, ◌∙◌, map}
use Rattle.std.specs.Prelude.{IfOk, ◌≡◌}
use Rattle.serde_json.specs.Data.{string}
use Rattle.serde_json.specs.View.{view}
use Rattle.zr_game.specs.Players.{Name, var_of}
use Rattle.zr_source.specs.Names.{var_name}
use Rattle.zr_write.specs.Canonical.{list_data}
use Rattle.zr_write.proofs.Grown.{run_twice}
use Rattle.zr_write.proofs.followers.own_names_value.Goals as goal

pub returns : goal.returns
returns c =
    let same = ap (λ vars. map var_name (map var_of vars)) c.run_of.ensures ∙ run_twice var_name var_of c.args.first c.args.count c.args.vars.now in
    subst (λ (names : List Name). IfOk c.names_value.result (λ value. view value ≡ list_data (λ name. string name) names)) same c.names_value.ensures
