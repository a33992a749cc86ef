use Rattle.std.proofs.Common.{◌≡◌, ◌<◌, ◌∙◌, arith, ap, sym, subst, length, Vec, List}
use Rattle.std.specs.declared.alloc.Global.{Global}
use Rattle.std.proofs.lemmas.List.{length-map}
use Rattle.zr_game.specs.Games.{game_of}
use Rattle.zr_game.specs.Players.{PlayerOf, player_of}
use Rattle.zr_game.specs.Forms.{IsPlayer}
use Rattle.zr_game.specs.Leaves.{HasPoint, IsLeafOf, leaf_of}
use Rattle.zr_game.proofs.Items.{found}
use Rattle.zr_asked.specs.declared.question.Move.{Move}
use Rattle.zr_asked.specs.Paths.{IsOpenPath, branch}
use Rattle.zr_bnb.proofs.Firsts.{all_found, more_found}
use Rattle.zr_box_search.specs.Dues.{box_by, moves_of, path_at}
use Rattle.zr_box_search.specs.Fates.{IsRefutedLeaf}
use Rattle.zr_box_search.proofs.Ends.{empty_end}
use Rattle.zr_box_search.proofs.Fating.{pivots_on}
use Rattle.zr_box_search.proofs.Growing.{box_at}
use Rattle.zr_box_search.proofs.PathLists.{leaf_at_index, path_is}
use Rattle.zr_box_search.proofs.empty.empty_node.Goals as goal
use Rattle.zr_box_search.proofs.empty.empty_node.Goals.{After-refutation-arg-1}

module _ (c : After-refutation-arg-1) where
  abbrev player : PlayerOf
  player = player_of c.player-item.result

  below : c.loop-i.i < length c.args.game.now.players.items
  below = rw c.deref-player-items.ensures.value at c.loop-i-test.true

  within : c.loop-i.i < length (game_of c.args.game.now)
  within =
      let m = length-map c.args.game.now.players.items player_of in
      let b = below in
      omega (arith, m, b)

  pub is_player : IsPlayer (game_of c.args.game.now) c.loop-i.i player
  is_player =
      found player_of c.args.game.now.players.items c.loop-i.i c.player-item.result below
      (rw c.deref-player-items.ensures.value at c.player-item.is)

  pub own_path : path_at (moves_of c.args.paths.now) c.loop-i.i ≡ c.deref.result.now
  own_path =
      let l = c.requires.due.len in
      let n = length-map c.args.paths.now (λ (p : Vec Move Global). p.items) in
      let w = within in
      path_is c.args.paths.now c.loop-i.i c.index-paths-i.result (omega (arith, l, n, w))
      ∙ ap (λ (p : Vec Move Global). p.items) (sym c.index-paths-i.is) ∙ sym c.deref.ensures.value

  pub own_leaf : IsLeafOf player c.index-leaves-i.result
      × (leaf_of c.index-leaves-i.result ≡ branch player c.deref.result.now)
  own_leaf =
      let l = leaf_at_index (game_of c.args.game.now) (moves_of c.args.paths.now)
      (length (game_of c.args.game.now)) c.args.leaves.now c.requires.leaves c.loop-i.i player
      is_player within c.index-leaves-i.result in
      let e = sym c.index-leaves-i.is in (
        subst (IsLeafOf player) e l.0,
        ap leaf_of c.index-leaves-i.is ∙ l.1 ∙ ap (branch player) own_path,
      )

pub refutation-requires-clause-player : goal.refutation-requires-clause-player
refutation-requires-clause-player c =
    is_player (goal.at.refutation-requires-clause-player c).After-refutation-arg-1

pub refutation-requires-clause-whole : goal.refutation-requires-clause-whole
refutation-requires-clause-whole c =
    let at = (goal.at.refutation-requires-clause-whole c).After-refutation-arg-1 in
    c.requires.whole c.loop-i.i (player at) (is_player at)

pub refutation-requires-clause-path : goal.refutation-requires-clause-path
refutation-requires-clause-path c =
    subst (IsOpenPath (player c)) (own_path c)
    (c.requires.due.open_is c.loop-i.i (player c) (is_player c))

pub refutation-requires-clause-lengths : goal.refutation-requires-clause-lengths
refutation-requires-clause-lengths c = (own_leaf c).0

pub refutation-requires-clause-leaf : goal.refutation-requires-clause-leaf
refutation-requires-clause-leaf c = (own_leaf c).1

pub returns-in-Err-clause-cause : goal.returns-in-Err-clause-cause
returns-in-Err-clause-cause c old new =
    let at = (goal.at.returns-in-Err-clause-cause c).After-refutation-arg-1 in
    c.stop_of.ensures (game_of c.args.game.now)
    (box_by (game_of c.args.game.now) (moves_of c.args.paths.now)) c.loop-i.i (player at)
    (is_player at) c.in-Err.ensures.cause old new

pub returns-in-Ok-Some-clause-found : goal.returns-in-Ok-Some-clause-found
returns-in-Ok-Some-clause-found c =
    let at = (goal.at.returns-in-Ok-Some-clause-found c).After-refutation-arg-1 in
    empty_end (game_of c.args.game.now) (moves_of c.args.paths.now) c.loop-i.i (player at)
    (is_player at) c.in-Ok-Some.mult.items
    (subst (λ (ms : List Move). IsRefutedLeaf (player at) (branch (player at) ms)
    c.in-Ok-Some.mult.items) (sym (own_path at))
    (rw c.in-Ok-Some.field-0-is at c.in-Ok-Some.ensures.found))

pub loop-i-preserved : goal.loop-i-preserved
loop-i-preserved c =
    let at = (goal.at.loop-i-preserved c).After-refutation-arg-1 in
    let game = game_of c.args.game.now in
    let paths = moves_of c.args.paths.now in
    let f = rw c.in-Ok-None.field-0-is at c.in-Ok-None.ensures.found in
    let here = subst (HasPoint (player at))
    (sym (box_at game paths c.loop-i.i (player at) (is_player at)
    ∙ ap (branch (player at)) (own_path at))) f in
    record {
      points = λ k p h e. more_found player_of (λ j q. HasPoint q (box_by game paths j))
          c.args.game.now.players.items c.loop-i.i c.player-item.result
          (rw c.deref-player-items.ensures.value at c.loop-i-test.true)
          (rw c.deref-player-items.ensures.value at c.player-item.is)
          (λ j q l g. c.loop-i.invariant.points j q l g) here k p h e;
      counts = pivots_on c.args.purse.now c.loop-i.purse c.refutation.new.purse
          c.loop-i.invariant.counts c.in-Ok-None.ensures.purse;
    }

pub returns-clause-found : goal.returns-clause-found
returns-clause-found c k p e =
    all_found player_of
    (λ j q. HasPoint q (box_by (game_of c.args.game.now) (moves_of c.args.paths.now) j))
    c.args.game.now.players.items c.loop-i.i
    (rw c.deref-player-items.ensures.value at c.loop-i-test.false)
    (λ j q l g. c.loop-i.invariant.points j q l g) k p e
