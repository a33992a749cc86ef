use Rattle.std.proofs.Common.{ℕ, ◌+◌, ◌*◌, ◌%◌, ◌^◌, ap, sym, ◌∙◌, arith}
use Rattle.zr_gen.proofs.Heads.{heads_count, heads_pushed, heads_whole, state_more, state_none}
use Rattle.zr_gen.proofs.draws.Draws.new.Goals as goal

pub loop-init : goal.loop-init
loop-init c = record { state = state_none c.args.number; heads = c.new-heads.ensures.items }

pub loop-preserved : goal.loop-preserved
loop-preserved c =
    let number = c.args.number in
    let k = c.loop.counter in
    let step = λ (s : ℕ). (s * 6364136223846793005 + 1442695040888963407) % (2 ^ 64) in
    let at = c.next-state.ensures ∙ ap step c.loop.invariant.state ∙ sym (state_more number k) in
    record {
      state = at;
      heads = heads_pushed number k c.without_low_digits.result c.next-state.result
          c.loop.heads.items c.push.new.self.items c.loop.invariant.heads
          c.in_ok-push.ensures.items c.without_low_digits.ensures at;
    }

pub invariant_of-result : goal.invariant_of-result
invariant_of-result c = record {
  drawn = heads_whole c.args.number c.loop.counter c.loop.heads.items c.loop.invariant.heads;
}

pub returns-clause-count : goal.returns-clause-count
returns-clause-count c =
    let count = heads_count c.args.number c.loop.counter c.loop.heads.items c.loop.invariant.heads in
    omega (arith, count)
