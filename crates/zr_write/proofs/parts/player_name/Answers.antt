use Rattle.std.proofs.Common.{[], sym, ◌∙◌}
use Rattle.zr_source.specs.Names.{leader_name}
use Rattle.zr_source.specs.Sources.{leader_of}
use Rattle.zr_write.proofs.Grown.{index_twice}
use Rattle.zr_write.proofs.parts.player_name.Goals as goal

pub returns-in-Some : goal.returns-in-Some
returns-in-Some c = c.as_str.ensures.value ∙ sym (index_twice leader_name leader_of c.args.leaders.now c.args.j c.in-Some.leader.now [] c.in-Some.ensures.lookup.0 c.in-Some.ensures.lookup.1)
