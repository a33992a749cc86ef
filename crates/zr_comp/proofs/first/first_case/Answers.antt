use Rattle.std.proofs.Common.{rules, ◌≡◌, sym, subst, None}
use Rattle.zr_game.specs.declared.kind.Kind.{Kind}
use Rattle.zr_game.specs.Games.{game_of}
use Rattle.zr_system.specs.Choices.{IsComplete}
use Rattle.zr_system.specs.Regions.{leaves_of}
use Rattle.zr_comp.proofs.Paths.{complete_mixed, complete_pure}
use Rattle.zr_comp.proofs.first.first_case.Goals as goal

pub returns-else-is_some-2-clause-none : goal.returns-else-is_some-2-clause-none
returns-else-is_some-2-clause-none c = λ e.
    let game = game_of c.args.game.now in
    let leaves = leaves_of c.args.leaves.now in
    let none : c.players_case-case.result ≡ None = search rules in
    subst (λ (k : Kind). IsComplete game leaves k c.args.path.now) (sym c.in-Pure.is)
    (complete_pure game leaves c.args.path.now (c.all_slots_case-in-Pure.ensures.none e)
    (c.players_case-case.ensures.none none))

pub returns-else-is_some-clause-none : goal.returns-else-is_some-clause-none
returns-else-is_some-clause-none c = λ e.
    let game = game_of c.args.game.now in
    let leaves = leaves_of c.args.leaves.now in
    let none : c.sides_case-case.result ≡ None = search rules in
    subst (λ (k : Kind). IsComplete game leaves k c.args.path.now) (sym c.in-Mixed.is)
    (complete_mixed game leaves c.args.path.now (c.all_slots_case.ensures.none e)
    (c.sides_case-case.ensures.none none))
