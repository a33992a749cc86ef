use Rattle.std.proofs.Common.{◌≡◌, ◌<◌, rules, arith, ◌-◌, sym, ◌∙◌, length, length-set, ℤ, Option, Some, None, FitsSigned, get_or}
use Rattle.std.specs.Int.{w64}
use Rattle.std.proofs.lemmas.Int.{to_z-of_z}
use Rattle.zr_base.proofs.SumSteps.{get_or_default}
use Rattle.zr_game.specs.declared.leaf.Side.{Side}
use Rattle.zr_game.specs.declared.leaf.Side.TheVariants.{RowZero}
use Rattle.zr_game.specs.Players.{player_of}
use Rattle.zr_tree.specs.declared.path.Frame.{Frame}
use Rattle.zr_tree.specs.declared.path.Frame.TheVariants.{FirstOfSplit, SecondOfSplit, FirstOfChoice, SecondOfChoice}
use Rattle.zr_tree.proofs.PathLaws.{split_left, choice_left, frames_turned, is_frame}
use Rattle.zr_tree.proofs.path.leave.Goals as goal
use Rattle.zr_tree.proofs.path.leave.Goals.{After-index}

nearest_is : (c : After-index) → get_or c.args.path.now.frames.items (c.args.path.now.depth - 1) (SecondOfChoice 0) ≡ c.index.result.now
nearest_is c =
    let h : c.args.path.now.depth - 1 < length c.args.path.now.frames.items = omega (arith, c.requires.depth, c.requires.path.depth) in
    get_or_default c.args.path.now.frames.items (c.args.path.now.depth - 1) (SecondOfChoice 0) c.index.result.now h ∙ sym c.index.ensures

pub returns-in-FirstOfSplit-clause-second : goal.returns-in-FirstOfSplit-clause-second
returns-in-FirstOfSplit-clause-second c told =
    let path = c.args.path.now in
    let places = c.requires.path.places in
    let e = nearest_is ((goal.at.returns-in-FirstOfSplit-clause-second c).After-index) ∙ c.in-FirstOfSplit.is in
    let f = is_frame (player_of c.args.player.now) path.frames.items path.depth (FirstOfSplit c.in-FirstOfSplit.var c.in-FirstOfSplit.at c.in-FirstOfSplit.high) c.requires.depth e c.requires.path.frames in
    let g : FitsSigned w64 c.greater_of.result = search rules in
    let a : FitsSigned w64 c.in-FirstOfSplit.at = search rules in
    let low : c.index-low.result.now ≡ get_or path.leaf.low.items c.in-FirstOfSplit.var None = c.index-low.ensures ∙ get_or_default path.leaf.low.items c.in-FirstOfSplit.var c.index-low.result.now None (omega (arith, f.0, places.lows)) in
    let made = simp to_z-of_z at c.greater_of.ensures in
    simp to_z-of_z (split_left path.leaf.low.items path.leaf.high.items path.leaf.sides.items path.frames.items path.depth c.requires.depth c.requires.path.depth c.in-FirstOfSplit.var c.in-FirstOfSplit.at c.in-FirstOfSplit.high c.index-low.result.now c.greater_of.result low made (omega (arith, f.0, places.lows)) (omega (arith, f.0, places.highs)) e)

pub returns-in-FirstOfSplit-clause-path : goal.returns-in-FirstOfSplit-clause-path
returns-in-FirstOfSplit-clause-path c =
    let path = c.args.path.now in
    let places = c.requires.path.places in
    let e = nearest_is ((goal.at.returns-in-FirstOfSplit-clause-path c).After-index) ∙ c.in-FirstOfSplit.is in
    let f = is_frame (player_of c.args.player.now) path.frames.items path.depth (FirstOfSplit c.in-FirstOfSplit.var c.in-FirstOfSplit.at c.in-FirstOfSplit.high) c.requires.depth e c.requires.path.frames in
    let g : FitsSigned w64 c.greater_of.result = search rules in
    let lows = length-set {A = Option ℤ} path.leaf.low.items c.in-FirstOfSplit.var (Some c.greater_of.result) in
    let highs = length-set {A = Option ℤ} path.leaf.high.items c.in-FirstOfSplit.var c.in-FirstOfSplit.high in
    let frames = length-set {A = Frame} path.frames.items (path.depth - 1) (SecondOfSplit c.in-FirstOfSplit.var c.index-low.result.now) in
    simp to_z-of_z (record {
      places = record { lows = omega (arith, places.lows, lows); highs = omega (arith, places.highs, highs); sides = places.sides };
      frames = frames_turned (player_of c.args.player.now) path.frames.items path.depth (SecondOfSplit c.in-FirstOfSplit.var c.index-low.result.now) c.requires.depth c.requires.path.depth f.0 c.requires.path.frames;
      depth = omega (arith, frames, c.requires.path.depth);
    })

pub returns-in-FirstOfChoice-clause-second : goal.returns-in-FirstOfChoice-clause-second
returns-in-FirstOfChoice-clause-second c told =
    let path = c.args.path.now in
    let e = nearest_is ((goal.at.returns-in-FirstOfChoice-clause-second c).After-index) ∙ c.in-FirstOfChoice.is in
    let f = is_frame (player_of c.args.player.now) path.frames.items path.depth (FirstOfChoice c.in-FirstOfChoice.pair) c.requires.depth e c.requires.path.frames in
    choice_left path.leaf.low.items path.leaf.high.items path.leaf.sides.items path.frames.items path.depth c.requires.depth c.requires.path.depth c.in-FirstOfChoice.pair (omega (arith, f, c.requires.path.places.sides)) e

pub returns-in-FirstOfChoice-clause-path : goal.returns-in-FirstOfChoice-clause-path
returns-in-FirstOfChoice-clause-path c =
    let path = c.args.path.now in
    let places = c.requires.path.places in
    let e = nearest_is ((goal.at.returns-in-FirstOfChoice-clause-path c).After-index) ∙ c.in-FirstOfChoice.is in
    let f = is_frame (player_of c.args.player.now) path.frames.items path.depth (FirstOfChoice c.in-FirstOfChoice.pair) c.requires.depth e c.requires.path.frames in
    let sides = length-set {A = Side} path.leaf.sides.items c.in-FirstOfChoice.pair RowZero in
    let frames = length-set {A = Frame} path.frames.items (path.depth - 1) (SecondOfChoice c.in-FirstOfChoice.pair) in
    record {
      places = record { lows = places.lows; highs = places.highs; sides = omega (arith, places.sides, sides) };
      frames = frames_turned (player_of c.args.player.now) path.frames.items path.depth (SecondOfChoice c.in-FirstOfChoice.pair) c.requires.depth c.requires.path.depth f c.requires.path.frames;
      depth = omega (arith, frames, c.requires.path.depth);
    }
