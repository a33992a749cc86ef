use Rattle.std.proofs.Common.{arith, ◌≡◌, ◌∙◌, sym, map, length}
use Rattle.std.proofs.lemmas.List.{length-map}
use Rattle.zr_game.specs.Games.{game_of}
use Rattle.zr_game.proofs.Items.{at_number}
use Rattle.zr_cert.specs.Certs.{MixtureOf, mixture_of}
use Rattle.zr_costs.proofs.MeansLists.{means_len}
use Rattle.zr_costs.proofs.MeansSteps.{done, form_at, halted, more, strategy_at}
use Rattle.zr_costs.proofs.means.means_of.Goals as goal
use Rattle.zr_costs.proofs.means.means_of.Goals.{At-loop-i}

module _ (c : At-loop-i) where
  as_many : length c.args.strategies.now ≡ length (game_of c.args.game.now)
  as_many =
      sym (length-map c.args.strategies.now mixture_of)
      ∙ sym (length-map (map mixture_of c.args.strategies.now) (λ (m : MixtureOf). m.parts))
      ∙ c.requires.valid.len

pub strategy_means-requires-clause-form : goal.strategy_means-requires-clause-form
strategy_means-requires-clause-form c =
    form_at (game_of c.args.game.now) c.args.strategies.now c.requires c.loop-i.i
    c.index-strategies-i.result
    c.loop-i-test.true c.index-strategies-i.is

pub strategy_means-requires-clause-strategy : goal.strategy_means-requires-clause-strategy
strategy_means-requires-clause-strategy c =
    strategy_at (game_of c.args.game.now) c.args.strategies.now c.requires c.loop-i.i
    c.index-strategies-i.result
    c.loop-i-test.true c.index-strategies-i.is

pub returns-in-Err-clause-err : goal.returns-in-Err-clause-err
returns-in-Err-clause-err c =
    let n = as_many (goal.at.returns-in-Err-clause-err c).At-loop-i in
    let who = at_number (game_of c.args.game.now) c.loop-i.i
    (omega (arith, c.loop-i-test.true, n)) in
    halted (game_of c.args.game.now) c.args.strategies.now c.requires c.loop-i.i
    c.index-strategies-i.result
    c.loop-i-test.true c.index-strategies-i.is c.loop-i.all.items who.0 who.1 c.in-Err.halt
    (c.in-Err.ensures.err who.0 who.1) c.loop-i.invariant

pub loop-i-preserved : goal.loop-i-preserved
loop-i-preserved c =
    let n = as_many (goal.at.loop-i-preserved c).At-loop-i in
    let who = at_number (game_of c.args.game.now) c.loop-i.i
    (omega (arith, c.loop-i-test.true, n)) in
    rw (c.in-Ok-extend_from_slice.ensures.items, c.deref.ensures.value)
    (more (game_of c.args.game.now) c.args.strategies.now c.requires c.loop-i.i
    c.index-strategies-i.result
    c.loop-i-test.true c.index-strategies-i.is c.loop-i.all.items c.in-Ok.own.items who.0 who.1
    (c.in-Ok.ensures.ok who.0 who.1) c.loop-i.invariant)

pub returns-clause-len : goal.returns-clause-len
returns-clause-len c =
    let n = as_many (goal.at.returns-clause-len c).At-loop-i in
    let m = length-map c.args.strategies.now mixture_of in
    means_len (game_of c.args.game.now) (map mixture_of c.args.strategies.now) (omega (arith, m, n))
    c.loop-i.all.items
    (done (game_of c.args.game.now) (map mixture_of c.args.strategies.now) c.loop-i.i
    c.loop-i.all.items
    (omega (arith, c.loop-i-test.false, n)) c.loop-i.invariant)
