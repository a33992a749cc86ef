use Rattle.std.proofs.Common.{◌≡◌, rules, arith, refl, ◌∙◌, inr, ℤ, Option, Some, None, length-set, get_or, FitsSigned}
use Rattle.std.specs.Int.{w64}
use Rattle.std.proofs.lemmas.Int.{to_z-of_z}
use Rattle.zr_base.proofs.SumSteps.{get_or_default}
use Rattle.zr_game.specs.Players.{player_of}
use Rattle.zr_tree.specs.declared.path.Frame.{Frame}
use Rattle.zr_tree.specs.declared.path.Frame.TheVariants.{FirstOfSplit}
use Rattle.zr_tree.proofs.PathLaws.{split_entered, frames_more}
use Rattle.zr_tree.proofs.path.enter_split.Goals as goal

pub returns : goal.returns
returns c =
    let a : FitsSigned w64 c.args.at = search rules in
    let l : FitsSigned w64 c.lesser_of.result = search rules in
    let path = c.args.path.now in
    let places = c.requires.path.places in
    let below = c.requires.var in
    let high : c.index-high.result.now ≡ get_or path.leaf.high.items c.args.var None = c.index-high.ensures ∙ get_or_default path.leaf.high.items c.args.var c.index-high.result.now None (omega (arith, below, places.highs)) in
    let made = simp to_z-of_z at c.lesser_of.ensures in
    let highs = length-set {A = Option ℤ} path.leaf.high.items c.args.var (Some c.lesser_of.result) in
    let frames = length-set {A = Frame} path.frames.items path.depth (FirstOfSplit c.args.var c.args.at c.index-high.result.now) in
    simp to_z-of_z (record {
      due = inr (split_entered path.leaf.low.items path.leaf.high.items path.leaf.sides.items path.frames.items path.depth c.args.var c.args.at c.index-high.result.now c.lesser_of.result high made (omega (arith, below, places.highs)) c.requires.place);
      path = record {
        places = record { lows = places.lows; highs = omega (arith, places.highs, highs); sides = places.sides };
        frames = frames_more (player_of c.args.player.now) path.frames.items path.depth (FirstOfSplit c.args.var c.args.at c.index-high.result.now) c.requires.place (c.requires.var, c.requires.at) c.requires.path.frames;
        depth = omega (arith, frames, c.requires.place);
      };
      size = record { lows = refl; highs = highs; sides = refl; frames = frames };
      depth = omega arith;
    })
