use Rattle.std.proofs.Common.{arith, ◌∙◌, sym, ap, subst, ℤ, List, All, length, FitsSigned}
use Rattle.std.specs.Int.{w128}
use Rattle.std.proofs.lemmas.Int.{ints, to_z-of_z}
use Rattle.zr_base.specs.Steps.{IsNarrow}
use Rattle.zr_game.specs.Games.{game_of}
use Rattle.zr_game.proofs.Items.{at_number}
use Rattle.zr_bnb.specs.Answers.{IsLeastAnswer}
use Rattle.zr_bnb.specs.Causes.{IsBnbCause}
use Rattle.zr_best.proofs.AimSteps.{aim_len}
use Rattle.zr_best.proofs.Answering.{cause_of, not_empty, settled}
use Rattle.zr_best.proofs.answer.answer_of.Goals as goal

fits : (z : ℤ) → IsNarrow z → FitsSigned w128 z
fits z h = omega (arith, ints, h)

pub least-requires-clause-aim : goal.least-requires-clause-aim
least-requires-clause-aim c player is =
    let made = (c.in-Ok.ensures.ok player is).made in
    ap length c.deref.ensures.value
    ∙ aim_len (game_of c.args.game.now) player c.args.means.now c.in-Ok.aim.by c.in-Ok.aim.numbers.items made

pub least-requires-clause-narrow : goal.least-requires-clause-narrow
least-requires-clause-narrow c =
    let who = at_number (game_of c.args.game.now) c.args.i c.requires.number in
    subst (All IsNarrow) (sym c.deref.ensures.value) (c.in-Ok.ensures.ok who.0 who.1).narrow

pub returns-in-Err-clause-cause : goal.returns-in-Err-clause-cause
returns-in-Err-clause-cause c mixtures played are player is =
    let made = (c.in-Ok.ensures.ok player is).made in
    let cause = subst (λ (xs : List ℤ). IsBnbCause c.args.i player xs c.args.purse.now c.least.new.purse c.in-Err.stop)
    c.deref.ensures.value (c.in-Err.ensures.cause player is) in
    rw c.stop_of.ensures
    (cause_of (game_of c.args.game.now) c.args.game.now.sound mixtures played c.args.means.now are c.args.i player is
    c.in-Ok.aim.by c.in-Ok.aim.numbers.items made c.args.purse.now c.least.new.purse c.in-Err.stop cause)

pub told-requires-clause-positive : goal.told-requires-clause-positive
told-requires-clause-positive c =
    let who = at_number (game_of c.args.game.now) c.args.i c.requires.number in
    let aim = c.in-Ok.ensures.ok who.0 who.1 in
    let f = fits c.in-Ok.aim.by aim.by_narrow in
    simp to_z-of_z aim.made.claim.common.positive

pub told-requires-clause-narrow : goal.told-requires-clause-narrow
told-requires-clause-narrow c =
    let who = at_number (game_of c.args.game.now) c.args.i c.requires.number in
    let aim = c.in-Ok.ensures.ok who.0 who.1 in
    let f = fits c.in-Ok.aim.by aim.by_narrow in
    simp to_z-of_z aim.by_narrow

pub told-requires-clause-some : goal.told-requires-clause-some
told-requires-clause-some c tree e =
    let who = at_number (game_of c.args.game.now) c.args.i c.requires.number in
    let some = c.requires.some who.0 who.1 in
    not_empty (game_of c.args.game.now) c.args.game.now.sound c.args.i who.0 who.1 c.deref.result.now
    c.args.purse.now c.least.new.purse c.in-Ok-least.found (c.in-Ok-least.ensures.answer who.0 who.1)
    some.0 some.1 tree e

pub returns-clause-answer : goal.returns-clause-answer
returns-clause-answer c mixtures played are player is =
    let made = (c.in-Ok.ensures.ok player is).made in
    let answer = subst (λ (xs : List ℤ). IsLeastAnswer player xs c.args.purse.now c.least.new.purse c.in-Ok-least.found)
    c.deref.ensures.value (c.in-Ok-least.ensures.answer player is) in
    let some = c.requires.some player is in
    let f = fits c.in-Ok.aim.by (c.in-Ok.ensures.ok player is).by_narrow in
    let told = simp to_z-of_z at (c.told.ensures player is) in
    (settled (game_of c.args.game.now) c.args.game.now.sound mixtures played c.args.means.now are c.args.i player is
    c.in-Ok.aim.by c.in-Ok.aim.numbers.items made c.args.purse.now c.least.new.purse c.told.result
    c.in-Ok-least.found answer
    (not_empty (game_of c.args.game.now) c.args.game.now.sound c.args.i player is c.in-Ok.aim.numbers.items
    c.args.purse.now c.least.new.purse c.in-Ok-least.found answer some.0 some.1)
    told).0

pub returns-clause-cause : goal.returns-clause-cause
returns-clause-cause c mixtures played are player is =
    let made = (c.in-Ok.ensures.ok player is).made in
    let answer = subst (λ (xs : List ℤ). IsLeastAnswer player xs c.args.purse.now c.least.new.purse c.in-Ok-least.found)
    c.deref.ensures.value (c.in-Ok-least.ensures.answer player is) in
    let some = c.requires.some player is in
    let f = fits c.in-Ok.aim.by (c.in-Ok.ensures.ok player is).by_narrow in
    let told = simp to_z-of_z at (c.told.ensures player is) in
    (settled (game_of c.args.game.now) c.args.game.now.sound mixtures played c.args.means.now are c.args.i player is
    c.in-Ok.aim.by c.in-Ok.aim.numbers.items made c.args.purse.now c.least.new.purse c.told.result
    c.in-Ok-least.found answer
    (not_empty (game_of c.args.game.now) c.args.game.now.sound c.args.i player is c.in-Ok.aim.numbers.items
    c.args.purse.now c.least.new.purse c.in-Ok-least.found answer some.0 some.1)
    told).1
