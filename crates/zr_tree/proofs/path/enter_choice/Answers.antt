use Rattle.std.proofs.Common.{arith, refl, inr, length-set}
use Rattle.zr_game.specs.declared.leaf.Side.{Side}
use Rattle.zr_game.specs.declared.leaf.Side.TheVariants.{VarZero}
use Rattle.zr_game.specs.Players.{player_of}
use Rattle.zr_tree.specs.declared.path.Frame.{Frame}
use Rattle.zr_tree.specs.declared.path.Frame.TheVariants.{FirstOfChoice}
use Rattle.zr_tree.proofs.PathLaws.{choice_entered, frames_more}
use Rattle.zr_tree.proofs.path.enter_choice.Goals as goal

pub returns : goal.returns
returns c =
    let path = c.args.path.now in
    let sides = length-set {A = Side} path.leaf.sides.items c.args.pair VarZero in
    let frames = length-set {A = Frame} path.frames.items path.depth (FirstOfChoice c.args.pair) in
    let places = c.requires.path.places in
    record {
      due = inr (choice_entered path.leaf.low.items path.leaf.high.items path.leaf.sides.items path.frames.items path.depth c.args.pair (omega (arith, places.sides, c.requires.pair)) c.requires.place c.requires.undecided);
      path = record {
        places = record { lows = places.lows; highs = places.highs; sides = omega (arith, places.sides, sides) };
        frames = frames_more (player_of c.args.player.now) path.frames.items path.depth (FirstOfChoice c.args.pair) c.requires.place c.requires.pair c.requires.path.frames;
        depth = omega (arith, frames, c.requires.place);
      };
      size = record { lows = refl; highs = refl; sides = sides; frames = frames };
      depth = omega arith;
    }
