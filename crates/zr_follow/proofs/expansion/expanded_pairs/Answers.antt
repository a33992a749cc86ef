use Rattle.std.proofs.Common.{◌<◌, ◌+◌, arith, sym, subst, map, List}
use Rattle.zr_follow.proofs.LeaderForms.{few_multipliers}
use Rattle.zr_source.specs.declared.source.Follower.{Follower}
use Rattle.zr_follow.specs.Expansion.{multipliers}
use Rattle.zr_source.specs.Sources.{follower_of}
use Rattle.zr_follow.proofs.expansion.expanded_pairs.Goals as goal

pub add_all_pairs-requires-clause-from : goal.add_all_pairs-requires-clause-from
add_all_pairs-requires-clause-from c =
    let m = few_multipliers c.args.leader.now c.requires.form in
    subst (λ (fs : List Follower). c.len-columns.result + multipliers (map follower_of fs) < 4294967296) (sym c.deref-2.ensures.value) (omega (arith, m, c.len-columns.ensures, c.requires.vars, c.args.leader.now.base.vars.ok.0))
