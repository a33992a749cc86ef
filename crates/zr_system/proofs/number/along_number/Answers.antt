use Rattle.std.proofs.Common.{rules, ℕ, ℤ, sym, ◌∙◌, FitsSigned}
use Rattle.std.specs.Int.{w128}
use Rattle.std.proofs.lemmas.Int.{to_z-of_z}
use Rattle.zr_game.specs.Games.{game_of}
use Rattle.zr_game.specs.Named.{named_of}
use Rattle.zr_system.specs.Values.{slope_value}
use Rattle.zr_system.specs.Asked.{direction}
use Rattle.zr_system.proofs.Firsts.{firsts_step, firsts_wide}
use Rattle.zr_system.proofs.number.along_number.Goals as goal

pub loop-v-preserved : goal.loop-v-preserved
loop-v-preserved c =
    let f : ℕ → ℤ × ℤ = λ v. (
      slope_value (game_of c.args.game.now) c.args.i v c.args.u,
      direction
          (named_of c.args.item.now) v,
    ) in
    let fits : FitsSigned w128 c.in-Ok.next = search rules in
    let step = c.in-Ok.ensures.step in
    simp to_z-of_z (record {
      sum = firsts_step f c.loop-v.v _ c.loop-v.invariant.sum ∙ sym step;
      narrow = c.in-Ok.ensures.narrow;
    })

pub returns-in-Err-clause-steps : goal.returns-in-Err-clause-steps
returns-in-Err-clause-steps c =
    let f : ℕ → ℤ × ℤ = λ v. (
      slope_value (game_of c.args.game.now) c.args.i v c.args.u,
      direction
          (named_of c.args.item.now) v,
    ) in
    let step = c.in-Err.ensures.step in
    sym (firsts_wide f c.loop-v.v c.args.vars _ c.in-Err.wide c.loop-v-test.true
    c.loop-v.invariant.sum (sym step))
