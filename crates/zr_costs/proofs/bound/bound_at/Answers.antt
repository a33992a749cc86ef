use Rattle.std.proofs.Common.{◌∙◌, sym, ap, subst, ℤ, neg_ℤ, List, All, map, length}
use Rattle.zr_base.specs.Steps.{IsNarrow}
use Rattle.zr_game.specs.Games.{game_of}
use Rattle.zr_game.proofs.Items.{at_number}
use Rattle.zr_bnb.specs.Answers.{IsLeastAnswer}
use Rattle.zr_bnb.specs.Causes.{IsBnbCause}
use Rattle.zr_costs.proofs.Bounding.{aim_len, bound_made, cause_of, has_least, plain}
use Rattle.zr_costs.proofs.Narrow.{all_turned_narrow, left_narrow}
use Rattle.zr_costs.proofs.bound.bound_at.Goals as goal

pub turned-requires : goal.turned-requires
turned-requires c =
    let who = at_number (game_of c.args.game.now) c.args.i c.requires.number in
    let made = c.in-Ok.ensures.ok who.0 who.1 in
    subst (All IsNarrow) (sym c.deref.ensures.value)
    (left_narrow (game_of c.args.game.now) who.0 c.args.i c.args.means.now c.in-Ok.paid.cost
    c.in-Ok.paid.left.items made.0 made.1)

pub least-requires-clause-aim : goal.least-requires-clause-aim
least-requires-clause-aim c player is =
    let aim = c.deref-2.ensures.value ∙ c.in-Ok-turned.ensures
    ∙ ap (map neg_ℤ) c.deref.ensures.value in
    ap length aim
    ∙ aim_len (game_of c.args.game.now) c.args.game.now.sound c.requires.stable.0 c.args.means.now
    c.requires.stable.1 c.args.i player is c.in-Ok.paid (c.in-Ok.ensures.ok player is)

pub least-requires-clause-narrow : goal.least-requires-clause-narrow
least-requires-clause-narrow c =
    let aim = c.deref-2.ensures.value ∙ c.in-Ok-turned.ensures
    ∙ ap (map neg_ℤ) c.deref.ensures.value in
    let who = at_number (game_of c.args.game.now) c.args.i c.requires.number in
    let made = c.in-Ok.ensures.ok who.0 who.1 in
    subst (All IsNarrow) (sym aim)
    (all_turned_narrow c.in-Ok.paid.left.items
    (left_narrow (game_of c.args.game.now) who.0 c.args.i c.args.means.now c.in-Ok.paid.cost
    c.in-Ok.paid.left.items made.0 made.1))

pub bound_by-requires : goal.bound_by-requires
bound_by-requires c =
    let aim = c.deref-2.ensures.value ∙ c.in-Ok-turned.ensures
    ∙ ap (map neg_ℤ) c.deref.ensures.value in
    let who = at_number (game_of c.args.game.now) c.args.i c.requires.number in
    has_least (game_of c.args.game.now) c.args.game.now.sound c.requires.stable.0 c.args.means.now
    c.requires.stable.1 c.args.i who.0 who.1 c.in-Ok.paid (c.in-Ok.ensures.ok who.0 who.1)
    c.args.purse.now c.least.new.purse c.in-Ok-least.found
    (subst (λ (xs : List ℤ). IsLeastAnswer who.0 xs c.args.purse.now c.least.new.purse
    c.in-Ok-least.found)
    aim (c.in-Ok-least.ensures.answer who.0 who.1))

pub returns-in-Ok-least-clause-bound : goal.returns-in-Ok-least-clause-bound
returns-in-Ok-least-clause-bound c mixtures stable player is =
    let aim = c.deref-2.ensures.value ∙ c.in-Ok-turned.ensures
    ∙ ap (map neg_ℤ) c.deref.ensures.value in
    bound_made (game_of c.args.game.now) c.args.game.now.sound mixtures c.args.means.now stable
    c.args.i player is c.in-Ok.paid (c.in-Ok.ensures.ok player is) c.args.purse.now
    c.least.new.purse c.in-Ok-least.found
    (subst (λ (xs : List ℤ). IsLeastAnswer player xs c.args.purse.now c.least.new.purse
    c.in-Ok-least.found)
    aim (c.in-Ok-least.ensures.answer player is)) c.in-Ok-least.ensures.few c.bound_by.result
    c.bound_by.ensures

pub stop_of-requires : goal.stop_of-requires
stop_of-requires c =
    let aim = c.deref-2.ensures.value ∙ c.in-Ok-turned.ensures
    ∙ ap (map neg_ℤ) c.deref.ensures.value in
    let who = at_number (game_of c.args.game.now) c.args.i c.requires.number in
    plain (game_of c.args.game.now) c.args.game.now.sound c.requires.stable.0 c.args.means.now
    c.requires.stable.1 c.args.i who.0 who.1 c.in-Ok.paid (c.in-Ok.ensures.ok who.0 who.1)
    c.args.purse.now c.least.new.purse c.in-Err.stop
    (subst (λ (xs : List ℤ). IsBnbCause c.args.i who.0 xs c.args.purse.now c.least.new.purse
    c.in-Err.stop)
    aim (c.in-Err.ensures.cause who.0 who.1))

pub returns-clause-cause : goal.returns-clause-cause
returns-clause-cause c mixtures stable player is =
    let aim = c.deref-2.ensures.value ∙ c.in-Ok-turned.ensures
    ∙ ap (map neg_ℤ) c.deref.ensures.value in
    cause_of (game_of c.args.game.now) c.args.game.now.sound mixtures c.args.means.now stable
    c.args.i player is c.in-Ok.paid (c.in-Ok.ensures.ok player is) c.args.purse.now
    c.least.new.purse c.in-Err.stop
    (subst (λ (xs : List ℤ). IsBnbCause c.args.i player xs c.args.purse.now c.least.new.purse
    c.in-Err.stop)
    aim (c.in-Err.ensures.cause player is)) c.stop_of.result c.stop_of.ensures
