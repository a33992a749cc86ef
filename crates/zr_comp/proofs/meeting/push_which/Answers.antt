use Rattle.std.proofs.Common.{refl, sym, subst}
use Rattle.zr_game.specs.Games.{game_of}
use Rattle.zr_game.specs.declared.choice.Choice.TheVariants.{Which}
use Rattle.zr_game.specs.declared.kind.Kind.TheVariants.{Pure}
use Rattle.zr_system.specs.Regions.{leaves_of}
use Rattle.zr_comp.specs.Cases.{IsChoiceList}
use Rattle.zr_comp.proofs.Paths.{list_more}
use Rattle.zr_comp.proofs.Suiting.{which_suits}
use Rattle.zr_comp.proofs.meeting.push_which.Goals as goal

pub returns : goal.returns
returns c =
    let game = game_of c.args.game.now in
    let leaves = leaves_of c.args.leaves.now in
    subst (IsChoiceList game leaves Pure) (sym c.in_ok-push.ensures.items)
    (list_more game leaves Pure c.args.list.now.items (Which c.args.i c.args.k) c.requires.list
    (c.requires.player, c.requires.leaf.1) (which_suits Pure c.args.i c.args.k refl))
