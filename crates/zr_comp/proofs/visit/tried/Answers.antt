use Rattle.std.proofs.Common.{◌∙◌, sym, subst, All}
use Rattle.zr_game.specs.Games.{game_of}
use Rattle.zr_system.specs.Asked.{IsUnknown}
use Rattle.zr_system.specs.Regions.{leaves_of}
use Rattle.zr_system.proofs.Existence.{columns_exist}
use Rattle.zr_comp.proofs.visit.tried.Goals as goal

pub guess-requires-clause-order : goal.guess-requires-clause-order
guess-requires-clause-order c =
    let game = game_of c.args.game.now in
    let leaves = leaves_of c.args.leaves.now in
    subst (All (IsUnknown game leaves)) (sym (c.deref.ensures.value ∙ c.in-Ok.ensures))
    (columns_exist game leaves)

pub confirmed-requires-clause-order : goal.confirmed-requires-clause-order
confirmed-requires-clause-order c =
    let game = game_of c.args.game.now in
    let leaves = leaves_of c.args.leaves.now in
    subst (All (IsUnknown game leaves)) (sym (c.deref-in-Ok-Some.ensures.value ∙ c.in-Ok.ensures))
    (columns_exist game leaves)
