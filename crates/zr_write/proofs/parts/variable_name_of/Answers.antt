use Rattle.std.proofs.Common.{[], List, ap, map, sym, ◌∙◌}
use Rattle.zr_game.specs.Players.{Name, var_of}
use Rattle.zr_source.specs.Names.{var_name}
use Rattle.zr_source.specs.Sources.{leader_of}
use Rattle.zr_write.specs.Canonical.{name_at, variable_names}
use Rattle.zr_write.proofs.Grown.{index_twice}
use Rattle.zr_write.proofs.parts.variable_name_of.Goals as goal

pub returns-in-Some : goal.returns-in-Some
returns-in-Some c =
    let names = index_twice variable_names leader_of c.args.leaders.now c.args.j c.in-Some.leader.now [] c.in-Some.ensures.lookup.0 c.in-Some.ensures.lookup.1 in
    let own = ap (λ vars. name_at (map var_name (map var_of vars)) c.args.v) c.deref.ensures.value in
    c.variable_name.ensures ∙ own ∙ sym (ap (λ (l : List Name). name_at l c.args.v) names)
