use Rattle.std.proofs.Common.{rules, arith, subst, ◌∙◌, inr, ◌<◌, length, length-set, FitsSigned}
use Rattle.std.specs.Int.{w64}
use Rattle.std.proofs.lemmas.Int.{to_z-of_z}
use Rattle.std.proofs.lemmas.Option.{slice_get_within}
use Rattle.zr_game.specs.Forms.{IsPlayer}
use Rattle.zr_game.specs.Games.{game_of}
use Rattle.zr_game.specs.Leaves.{IsLeafOf}
use Rattle.zr_game.specs.Players.{PlayerOf, player_of}
use Rattle.zr_game.proofs.Items.{found, one, read_below}
use Rattle.zr_boxes.specs.declared.path.Frame.{Frame}
use Rattle.zr_boxes.specs.declared.path.Frame.TheVariants.{First}
use Rattle.zr_boxes.proofs.BoxLists.{is_leaf_of, leaf_below, one_size, sizes_kept}
use Rattle.zr_boxes.proofs.PathLaws.{frames_more, split_entered}
use Rattle.zr_boxes.proofs.path.enter_split.Goals as goal
use Rattle.zr_boxes.proofs.path.enter_split.Goals.{After-index-own, After-index_mut}

is_player : (c : After-index-own)
    → IsPlayer (game_of c.args.game.now) c.args.i (player_of c.index-own.result.now)
is_player c =
    found player_of c.args.game.now.players.items c.args.i c.index-own.result.now
    (read_below player_of c.args.game.now.players.items c.args.i
    (slice_get_within (game_of c.args.game.now) c.args.i c.requires.var.0 c.requires.var.1))
    c.index-own.ensures

has_var : (c : After-index-own) → c.args.var < length (player_of c.index-own.result.now).vars
has_var c =
    subst (λ (p : PlayerOf). c.args.var < length p.vars)
    (one (game_of c.args.game.now) c.args.i c.requires.var.0 (player_of c.index-own.result.now)
    c.requires.var.1 (is_player c)) c.requires.var.2

is_leaf : (c : After-index_mut) → IsLeafOf (player_of c.index-own.result.now) c.index_mut.result.now
is_leaf c =
    is_leaf_of (game_of c.args.game.now) c.args.path.now.leaves.items c.requires.path.fits c.args.i
    (player_of c.index-own.result.now)
    (is_player ((goal.at.to_first-high-requires-clause-leaf c).After-index-own))
    c.index_mut.result.now c.index_mut.ensures.value

pub to_first-high-requires-clause-leaf : goal.to_first-high-requires-clause-leaf
to_first-high-requires-clause-leaf c = is_leaf c

pub to_first-high-requires-clause-var : goal.to_first-high-requires-clause-var
to_first-high-requires-clause-var c =
    has_var ((goal.at.to_first-high-requires-clause-var c).After-index-own)

pub returns : goal.returns
returns c =
    let own = (goal.at.returns c).After-index-own in
    let mut = (goal.at.returns c).After-index_mut in
    let a : FitsSigned w64 c.args.at = search rules in
    let game = game_of c.args.game.now in
    let path = c.args.path.now in
    let player = player_of c.index-own.result.now in
    let is = is_player own in
    let leaf = c.index_mut.result.now in
    let new = c.to_first-high.new.leaf in
    let inside = leaf_below game path.leaves.items c.requires.path.fits c.args.i player is in
    let frame = First c.args.i c.args.var c.args.at c.to_first-high.result in
    let frames = length-set {A = Frame} path.frames.items path.depth frame in
    let made = simp to_z-of_z at c.to_first-high.ensures.leaf in
    let sizes = sizes_kept path.leaves.items c.args.i leaf new inside c.index_mut.ensures.value
    (one_size player new leaf c.to_first-high.ensures.size (is_leaf mut)) in
    simp to_z-of_z (record {
      due = inr (split_entered path.leaves.items path.frames.items path.depth c.args.i c.args.var
          leaf new inside c.index_mut.ensures.value c.args.at c.to_first-high.result
          c.requires.place made c.to_first-high.ensures.high);
      path = record {
        fits = sizes ∙ c.requires.path.fits;
        frames = frames_more game path.frames.items path.depth frame c.requires.place
            ((player, is, has_var own), c.requires.at) c.requires.path.frames;
        depth = omega (arith, frames, c.requires.place);
      };
      places = λ j. record { nodes = frames j; leaves = sizes j };
      depth = omega arith;
    })
