use Rattle.std.proofs.Common.{rules, ◌≡◌, pos, subst, ◌∙◌, Ok, FitsSigned}
use Rattle.std.specs.Int.{w128}
use Rattle.std.proofs.lemmas.Int.{to_z-of_z}
use Rattle.zr_base.specs.Sums.{sum_steps}
use Rattle.zr_game.specs.Games.{game_of}
use Rattle.zr_game.specs.Named.{named_of}
use Rattle.zr_system.specs.declared.unknown.Unknown.{Unknown}
use Rattle.zr_system.specs.Values.{along_products}
use Rattle.zr_system.proofs.NamedRows.{named_made, wide_made, wide_back, worth_none}
use Rattle.zr_system.proofs.number.named_number.Goals as goal

pub own_part-requires-clause-none : goal.own_part-requires-clause-none
own_part-requires-clause-none c = λ e.
    let fits : FitsSigned w128 c.in-Ok.sum = search rules in
    let steps = subst (λ (u : Unknown). Ok c.in-Ok.sum ≡ sum_steps (pos 0)
    (along_products (game_of c.args.game.now) c.args.i (named_of c.args.item.now) u
    c.args.vars)) e c.in-Ok.ensures.steps in
    simp to_z-of_z (worth_none (game_of c.args.game.now) c.args.i c.args.i c.args.vars
    (named_of c.args.item.now) c.in-Ok.sum steps)

pub returns-in-Err-clause-wide : goal.returns-in-Err-clause-wide
returns-in-Err-clause-wide c = λ leaves is.
    wide_made (game_of c.args.game.now) leaves c.args.i (named_of c.args.item.now) c.args.u is
    c.in-Err.wide (rw c.requires.vars at c.in-Err.ensures.steps)

pub returns-in-Ok-clause-exact : goal.returns-in-Ok-clause-exact
returns-in-Ok-clause-exact c = λ leaves is.
    let fits : FitsSigned w128 c.in-Ok.sum = search rules in
    let out : FitsSigned w128 c.own_part.result = search rules in
    let value = simp to_z-of_z at c.own_part.ensures.value in
    simp to_z-of_z (value ∙ named_made (game_of c.args.game.now) leaves c.args.i
    (named_of c.args.item.now) c.args.u is c.in-Ok.sum
    (rw c.requires.vars at c.in-Ok.ensures.steps))

pub returns-in-Ok-clause-wide_ends : goal.returns-in-Ok-clause-wide_ends
returns-in-Ok-clause-wide_ends c = λ leaves w is e.
    let back = wide_back (game_of c.args.game.now) leaves c.args.i (named_of c.args.item.now)
    c.args.u is w e in
    let made = rw c.requires.vars at c.in-Ok.ensures.steps in
    absurd (cc (back, made))
