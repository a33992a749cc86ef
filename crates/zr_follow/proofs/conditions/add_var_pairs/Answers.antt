use Rattle.std.proofs.Common.{◌+◌, ◌-◌, ◌++◌, map, ap, sym, ◌∙◌}
use Rattle.zr_game.specs.Players.{pair_of}
use Rattle.zr_source.specs.Sources.{follower_of}
use Rattle.zr_follow.specs.Expansion.{var_pair, var_pairs}
use Rattle.zr_follow.proofs.Steps.{pushed, var_pairs_from}
use Rattle.zr_follow.proofs.conditions.add_var_pairs.Goals as goal

pub loop-k-preserved : goal.loop-k-preserved
loop-k-preserved c =
    let f = follower_of c.args.follower.now in
    let first = c.args.follower.now.first in
    let count = c.args.follower.now.count in
    let k = c.loop-k.k in
    let more = var_pairs_from c.args.from f first count k c.loop-k-test.true in
    pushed c.loop-k.pairs.items c.push.new.self.items c.in_ok-pair.pair (var_pair c.args.from f (first + k)) (var_pairs c.args.from f (first + (k + 1)) (count - (k + 1))) (map pair_of c.args.pairs.now.items ++ var_pairs c.args.from f first count) c.in_ok-push.ensures.items c.in_ok-pair.ensures (ap (λ l. map pair_of c.loop-k.pairs.items ++ l) (sym more) ∙ c.loop-k.invariant)
