use Rattle.zr_follow.proofs.BaseProfiles.{base_is}
use Rattle.zr_follow.proofs.Expanded.{leader_feasible}
use Rattle.zr_follow.proofs.Relations.{expanded_is, player_expanded}
use Rattle.zr_follow.proofs.SameAnswers.{feasible_exactly}
use Rattle.zr_follow.specs.Expansion.{expanded}
use Rattle.zr_source.specs.Sources.{bases}
use Rattle.zr_follow.proofs.laws.law_of_expansion.Goals as goal

pub returns-clause-exactly : goal.returns-clause-exactly
returns-clause-exactly c source form i leader is =
    feasible_exactly (bases source) i leader (expanded leader)
    (form.bases.players i leader.base (base_is source i leader is)) (form.leaders i leader is)
    (expanded_is leader)

pub returns-clause-base : goal.returns-clause-base
returns-clause-base c source form i leader is =
    leader_feasible (bases source) i leader (expanded leader)
    (form.bases.players i leader.base (base_is source i leader is)) (form.leaders i leader is)
    (expanded_is leader)

pub returns-clause-players : goal.returns-clause-players
returns-clause-players c = player_expanded
