use Rattle.std.proofs.Common.{pos}
use Rattle.zr_mix.specs.Multiples.{IsNegatedOver}
use Rattle.zr_mix.specs.Steps.{negated_over}
use Rattle.zr_mix.specs.Values.{item_of}
use Rattle.zr_base.proofs.Made.{Made}
use Rattle.zr_mix.proofs.claims.write_left.Given as goal

abbrev pub invariant-loop-v : goal.invariant-loop-v
invariant-loop-v l =
    Made (pos 0) (λ v. negated_over l.fn.m (item_of l.slope v))
    (λ v x. IsNegatedOver l.fn.m (item_of l.slope v) x) l.v l.out
