use Rattle.std.proofs.Common.{◌≡◌, ◌<◌, ◌-◌, rules, arith, sym, subst, ◌∙◌, length, length-set, get_or, None, FitsSigned}
use Rattle.std.specs.Int.{w64}
use Rattle.std.proofs.lemmas.Int.{to_z-of_z}
use Rattle.std.proofs.lemmas.Option.{slice_get_within}
use Rattle.zr_base.proofs.SumSteps.{get_or_default}
use Rattle.zr_game.specs.Forms.{IsPlayer}
use Rattle.zr_game.specs.Games.{game_of}
use Rattle.zr_game.specs.Leaves.{IsLeafOf}
use Rattle.zr_game.specs.Players.{PlayerOf, player_of}
use Rattle.zr_game.proofs.Items.{found, one, read_below}
use Rattle.zr_boxes.specs.declared.path.Frame.{Frame}
use Rattle.zr_boxes.specs.declared.path.Frame.TheVariants.{First, Second}
use Rattle.zr_boxes.specs.Paths.{HasOwnVar, IsFrame}
use Rattle.zr_boxes.proofs.BoxLists.{is_leaf_of, leaf_below, one_size, sizes_kept}
use Rattle.zr_boxes.proofs.PathLaws.{first_left, frames_less, frames_turned, is_frame, second_left}
use Rattle.zr_boxes.proofs.path.leave.Goals as goal
use Rattle.zr_boxes.proofs.path.leave.Goals.{After-index, After-index-own, After-index_mut-leaf}

nearest_is : (c : After-index)
    → get_or c.args.path.now.frames.items (c.args.path.now.depth - 1) (Second 0 0 None) ≡ c.index.result.now
nearest_is c =
    let h : c.args.path.now.depth - 1 < length c.args.path.now.frames.items = omega
    (arith, c.requires.depth, c.requires.path.depth) in
    get_or_default c.args.path.now.frames.items (c.args.path.now.depth - 1) (Second 0 0 None)
    c.index.result.now h ∙ sym c.index.ensures

top_frame : (c : After-index) (frame : Frame) → c.index.result.now ≡ frame
    → IsFrame (game_of c.args.game.now) frame
top_frame c frame is =
    is_frame (game_of c.args.game.now) c.args.path.now.frames.items c.args.path.now.depth frame
    c.requires.depth (nearest_is c ∙ is) c.requires.path.frames

-- ---- from the first child to the second

is_player : (c : After-index-own)
    → HasOwnVar (game_of c.args.game.now) c.in-First.player c.in-First.var
    → IsPlayer (game_of c.args.game.now) c.in-First.player (player_of c.index-own.result.now)
is_player c f =
    found player_of c.args.game.now.players.items c.in-First.player c.index-own.result.now
    (read_below player_of c.args.game.now.players.items c.in-First.player
    (slice_get_within (game_of c.args.game.now) c.in-First.player f.0 f.1)) c.index-own.ensures

is_leaf : (c : After-index_mut-leaf)
    → IsPlayer (game_of c.args.game.now) c.in-First.player (player_of c.index-own.result.now)
    → IsLeafOf (player_of c.index-own.result.now) c.index_mut-leaf.result.now
is_leaf c is =
    is_leaf_of (game_of c.args.game.now) c.args.path.now.leaves.items c.requires.path.fits
    c.in-First.player (player_of c.index-own.result.now) is c.index_mut-leaf.result.now
    c.index_mut-leaf.ensures.value

pub to_second-low-requires-clause-leaf : goal.to_second-low-requires-clause-leaf
to_second-low-requires-clause-leaf c =
    let at = goal.at.to_second-low-requires-clause-leaf c in
    let f = top_frame at.After-index
    (First c.in-First.player c.in-First.var c.in-First.at c.in-First.high) c.in-First.is in
    is_leaf at.After-index_mut-leaf (is_player at.After-index-own f.0)

pub to_second-low-requires-clause-var : goal.to_second-low-requires-clause-var
to_second-low-requires-clause-var c =
    let at = goal.at.to_second-low-requires-clause-var c in
    let f = top_frame at.After-index
    (First c.in-First.player c.in-First.var c.in-First.at c.in-First.high) c.in-First.is in
    let is = is_player at.After-index-own f.0 in
    subst (λ (p : PlayerOf). c.in-First.var < length p.vars)
    (one (game_of c.args.game.now) c.in-First.player f.0.0 (player_of c.index-own.result.now) f.0.1
    is) f.0.2

pub returns-in-First-clause-second : goal.returns-in-First-clause-second
returns-in-First-clause-second c told =
    let at = goal.at.returns-in-First-clause-second c in
    let f = top_frame at.After-index
    (First c.in-First.player c.in-First.var c.in-First.at c.in-First.high) c.in-First.is in
    let is = is_player at.After-index-own f.0 in
    let a : FitsSigned w64 c.in-First.at = search rules in
    let path = c.args.path.now in
    let inside = leaf_below (game_of c.args.game.now) path.leaves.items c.requires.path.fits
    c.in-First.player (player_of c.index-own.result.now) is in
    let made = simp to_z-of_z at c.to_second-low.ensures.leaf in
    first_left path.leaves.items path.frames.items path.depth c.in-First.player
    c.in-First.var c.index_mut-leaf.result.now c.to_second-low.new.leaf inside
    c.index_mut-leaf.ensures.value c.requires.depth c.requires.path.depth c.in-First.at
    c.in-First.high c.to_second-low.result made c.to_second-low.ensures.low
    (nearest_is at.After-index ∙ c.in-First.is)

pub returns-in-First-clause-path : goal.returns-in-First-clause-path
returns-in-First-clause-path c =
    let at = goal.at.returns-in-First-clause-path c in
    let f = top_frame at.After-index
    (First c.in-First.player c.in-First.var c.in-First.at c.in-First.high) c.in-First.is in
    let is = is_player at.After-index-own f.0 in
    let game = game_of c.args.game.now in
    let path = c.args.path.now in
    let player = player_of c.index-own.result.now in
    let leaf = c.index_mut-leaf.result.now in
    let new = c.to_second-low.new.leaf in
    let inside = leaf_below game path.leaves.items c.requires.path.fits c.in-First.player player is in
    let frame = Second c.in-First.player c.in-First.var c.to_second-low.result in
    let frames = length-set {A = Frame} path.frames.items (path.depth - 1) frame in
    let sizes = sizes_kept path.leaves.items c.in-First.player leaf new inside
    c.index_mut-leaf.ensures.value (one_size player new leaf c.to_second-low.ensures.size
    (is_leaf at.After-index_mut-leaf is)) in
    record {
      fits = sizes ∙ c.requires.path.fits;
      frames = frames_turned game path.frames.items path.depth frame c.requires.depth
          c.requires.path.depth f.0 c.requires.path.frames;
      depth = omega (arith, frames, c.requires.path.depth);
    }

pub returns-in-First-clause-places : goal.returns-in-First-clause-places
returns-in-First-clause-places c =
    let at = goal.at.returns-in-First-clause-places c in
    let f = top_frame at.After-index
    (First c.in-First.player c.in-First.var c.in-First.at c.in-First.high) c.in-First.is in
    let is = is_player at.After-index-own f.0 in
    let path = c.args.path.now in
    let player = player_of c.index-own.result.now in
    let leaf = c.index_mut-leaf.result.now in
    let new = c.to_second-low.new.leaf in
    let inside = leaf_below (game_of c.args.game.now) path.leaves.items c.requires.path.fits
    c.in-First.player player is in
    let frame = Second c.in-First.player c.in-First.var c.to_second-low.result in
    let frames = length-set {A = Frame} path.frames.items (path.depth - 1) frame in
    let sizes = sizes_kept path.leaves.items c.in-First.player leaf new inside
    c.index_mut-leaf.ensures.value (one_size player new leaf c.to_second-low.ensures.size
    (is_leaf at.After-index_mut-leaf is)) in
    λ j. record { nodes = frames j; leaves = sizes j }

-- ---- from the second child back to the node

pub index_mut-requires-in-Second : goal.index_mut-requires-in-Second
index_mut-requires-in-Second c =
    let at = goal.at.index_mut-requires-in-Second c in
    let f = top_frame at.After-index (Second c.in-Second.player c.in-Second.var c.in-Second.low)
    c.in-Second.is in
    let b = leaf_below (game_of c.args.game.now) c.args.path.now.leaves.items c.requires.path.fits
    c.in-Second.player f.0 f.1 in
    omega (arith, b, c.args.path.now.leaves.ok.0)

pub to_both-requires : goal.to_both-requires
to_both-requires c =
    let at = goal.at.to_both-requires c in
    let f = top_frame at.After-index (Second c.in-Second.player c.in-Second.var c.in-Second.low)
    c.in-Second.is in
    let l = is_leaf_of (game_of c.args.game.now) c.args.path.now.leaves.items c.requires.path.fits
    c.in-Second.player f.0 f.1 c.index_mut-in-Second.result.now
    c.index_mut-in-Second.ensures.value in
    omega (arith, l.lows, f.2)

pub returns-in-Second-clause-back : goal.returns-in-Second-clause-back
returns-in-Second-clause-back c told =
    let at = goal.at.returns-in-Second-clause-back c in
    let f = top_frame at.After-index (Second c.in-Second.player c.in-Second.var c.in-Second.low)
    c.in-Second.is in
    let path = c.args.path.now in
    let inside = leaf_below (game_of c.args.game.now) path.leaves.items c.requires.path.fits
    c.in-Second.player f.0 f.1 in (
      second_left path.leaves.items path.frames.items path.depth c.in-Second.player c.in-Second.var
          c.index_mut-in-Second.result.now c.to_both.new.leaf inside
          c.index_mut-in-Second.ensures.value c.requires.depth c.requires.path.depth
          c.in-Second.low c.to_both.ensures.leaf (nearest_is at.After-index ∙ c.in-Second.is),
      omega (arith, c.requires.depth),
    )

pub returns-in-Second-clause-path : goal.returns-in-Second-clause-path
returns-in-Second-clause-path c =
    let at = goal.at.returns-in-Second-clause-path c in
    let f = top_frame at.After-index (Second c.in-Second.player c.in-Second.var c.in-Second.low)
    c.in-Second.is in
    let path = c.args.path.now in
    let inside = leaf_below (game_of c.args.game.now) path.leaves.items c.requires.path.fits
    c.in-Second.player f.0 f.1 in
    let sizes = sizes_kept path.leaves.items c.in-Second.player c.index_mut-in-Second.result.now
    c.to_both.new.leaf inside c.index_mut-in-Second.ensures.value c.to_both.ensures.size in
    record {
      fits = sizes ∙ c.requires.path.fits;
      frames = frames_less (game_of c.args.game.now) path.frames.items path.depth c.requires.depth
          c.requires.path.frames;
      depth = omega (arith, c.requires.path.depth);
    }

pub returns-in-Second-clause-places : goal.returns-in-Second-clause-places
returns-in-Second-clause-places c =
    let at = goal.at.returns-in-Second-clause-places c in
    let f = top_frame at.After-index (Second c.in-Second.player c.in-Second.var c.in-Second.low)
    c.in-Second.is in
    let path = c.args.path.now in
    let inside = leaf_below (game_of c.args.game.now) path.leaves.items c.requires.path.fits
    c.in-Second.player f.0 f.1 in
    let sizes = sizes_kept path.leaves.items c.in-Second.player c.index_mut-in-Second.result.now
    c.to_both.new.leaf inside c.index_mut-in-Second.ensures.value c.to_both.ensures.size in
    λ j. record { nodes = length path.frames.items; leaves = sizes j }
