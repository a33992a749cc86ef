use Rattle.std.proofs.Common.{ℕ, ◌<◌}
use Rattle.zr_follow.specs.Expansion.{IsWithinCounts}
use Rattle.zr_source.specs.Sources.{IsLeader, LeaderOf, leaders_of}
use Rattle.zr_follow.proofs.expansion.first_past.Given as goal

abbrev pub invariant-loop-i : goal.invariant-loop-i
invariant-loop-i l = (k : ℕ) (leader : LeaderOf) → k < l.i → IsLeader (leaders_of l.leaders) k leader → IsWithinCounts leader
