use Rattle.std.proofs.Common.{◌≡◌, ◌<◌, ◌∙◌, arith, ap, sym, subst, length, Vec, All}
use Rattle.std.specs.declared.alloc.Global.{Global}
use Rattle.std.proofs.lemmas.List.{length-map}
use Rattle.zr_game.specs.Games.{game_of}
use Rattle.zr_game.specs.Players.{PlayerOf, player_of}
use Rattle.zr_game.specs.Forms.{IsPlayer}
use Rattle.zr_game.proofs.Items.{found}
use Rattle.zr_asked.specs.declared.question.Move.{Move}
use Rattle.zr_asked.specs.Paths.{IsOpenPath, branch}
use Rattle.zr_branch.specs.Replies.{IsMoveForm}
use Rattle.zr_box_search.specs.Dues.{moves_of, path_at}
use Rattle.zr_box_search.proofs.PathLists.{leaves_more, path_is}
use Rattle.zr_box_search.proofs.boxes.leaves_by.Goals as goal
use Rattle.zr_box_search.proofs.boxes.leaves_by.Goals.{After-deref}

module _ (c : After-deref) where
  abbrev player : PlayerOf
  player = player_of c.player-item.result

  below : c.loop-k.k < length c.args.game.now.players.items
  below = rw c.deref-player-items.ensures.value at c.loop-k-test.true

  pub is_player : IsPlayer (game_of c.args.game.now) c.loop-k.k player
  is_player =
      found player_of c.args.game.now.players.items c.loop-k.k c.player-item.result below
      (rw c.deref-player-items.ensures.value at c.player-item.is)

  pub own_path : path_at (moves_of c.args.paths.now) c.loop-k.k ≡ c.deref.result.now
  own_path =
      let l = c.requires.len in
      let n = length-map c.args.paths.now (λ (p : Vec Move Global). p.items) in
      let m = length-map c.args.game.now.players.items player_of in
      let b = below in
      path_is c.args.paths.now c.loop-k.k c.index-paths-k.result (omega (arith, l, n, m, b))
      ∙ ap (λ (p : Vec Move Global). p.items) (sym c.index-paths-k.is) ∙ sym c.deref.ensures.value

pub leaf_at-requires-clause-path : goal.leaf_at-requires-clause-path
leaf_at-requires-clause-path c =
    subst (IsOpenPath (player c)) (own_path c) (c.requires.open_is c.loop-k.k (player c) (is_player c))

pub leaf_at-requires-clause-forms : goal.leaf_at-requires-clause-forms
leaf_at-requires-clause-forms c =
    subst (All IsMoveForm) (own_path c) (c.requires.forms c.loop-k.k (player c) (is_player c))

pub loop-k-preserved : goal.loop-k-preserved
loop-k-preserved c =
    let at = (goal.at.loop-k-preserved c).After-deref in
    rw c.in-Ok.ensures.items (leaves_more (game_of c.args.game.now) (moves_of c.args.paths.now)
    c.loop-k.k c.loop-k.leaves.items (player at) c.in_ok-leaf.leaf c.loop-k.invariant (is_player at)
    c.in_ok-leaf.ensures.lengths
    (c.in_ok-leaf.ensures.leaf ∙ sym (ap (branch (player at)) (own_path at))))
