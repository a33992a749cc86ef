use Rattle.std.proofs.Common.{subst}
use Rattle.zr_game.specs.Games.{game_of}
use Rattle.zr_game.specs.declared.kind.Kind.TheVariants.{Pure}
use Rattle.zr_system.specs.Regions.{leaves_of}
use Rattle.zr_comp.specs.Cases.{IsCase}
use Rattle.zr_comp.specs.declared.case.Case.{Case}
use Rattle.zr_comp.proofs.meeting.settle_player.Goals as goal

pub player_case-requires-clause-exist : goal.player_case-requires-clause-exist
player_case-requires-clause-exist c = rw c.deref.ensures.value c.requires.list.exist

pub player_case-requires-clause-path : goal.player_case-requires-clause-path
player_case-requires-clause-path c = rw c.deref.ensures.value c.requires.list.suits

pub push_which-requires-clause-player : goal.push_which-requires-clause-player
push_which-requires-clause-player c =
    let game = game_of c.args.game.now in
    let leaves = leaves_of c.args.leaves.now in
    subst (λ (case : Case). IsCase game leaves Pure c.args.list.now.items case)
    c.in-Some.ensures.same (rw c.deref.ensures.value at c.in-Some.ensures.some)
