use Rattle.std.proofs.Common.{◌≡◌, ◌∙◌, ap, length, pos, ◌<ℤ◌, ◌≤ℤ◌}
use Rattle.std.specs.Prelude.{MatchOption}
use Rattle.std.proofs.lemmas.Result.{IfErr-weaker, IfOk-weaker}
use Rattle.zr_base.specs.Fractions.{Fraction}
use Rattle.zr_base.specs.Points.{PointOf}
use Rattle.zr_game.specs.Feasible.{IsFeasible}
use Rattle.zr_game.proofs.WholePoints.{whole_of}
use Rattle.zr_bnb.specs.Answers.{IsLeastAnswer}
use Rattle.zr_bnb.specs.Values.{IsLeastAt}
use Rattle.zr_boxes.specs.Boxes.{BoxOf}
use Rattle.zr_boxes.specs.Gains.{least_gain}
use Rattle.zr_box_search.specs.declared.answer.BoxStop.TheVariants as AStop
use Rattle.zr_box_search.specs.Fates.{IsBestReply, IsLeastPoint, IsReplyCause, SpendsTree}
use Rattle.zr_game.specs.Games.{game_of}
use Rattle.zr_game.specs.Players.{GameOf, PlayerOf, player_of}
use Rattle.zr_game.specs.Forms.{IsPlayerForm, IsVarForm}
use Rattle.zr_game.proofs.Items.{one}
use Rattle.zr_bnb.proofs.Directions.{all_get}
use Rattle.zr_boxes.specs.Paths.{box_of}
use Rattle.zr_box_search.proofs.Bounding.{near_player}
use Rattle.zr_box_search.proofs.Single.{low_point, own_feasible}
use Rattle.zr_box_search.proofs.Replies.{best_reply, has_point, may_ask, memory_cause, near_point, plain_stop, point_facts, search_spends, tree_facts}
use Rattle.zr_box_search.proofs.better.better_point.Goals as goal
use Rattle.zr_box_search.proofs.better.better_point.Goals.{In-Ok-least}

pub slopes-requires : goal.slopes-requires
slopes-requires c = (
  c.args.i,
  near_player (game_of c.args.game.now) c.args.game.now.sound
      (box_of c.args.leaves.now) c.requires.ranged c.args.i (player_of c.args.player.now)
      c.requires.player,
)

pub least-requires-clause-aim : goal.least-requires-clause-aim
least-requires-clause-aim c player is =
    let same = one (game_of c.args.game.now) c.args.i (player_of c.args.player.now) player
    c.requires.player is in
    rw c.deref.ensures.value (c.in-Ok.ensures.len ∙ ap (λ (p : PlayerOf). length p.vars) same)

pub least-requires-clause-narrow : goal.least-requires-clause-narrow
least-requires-clause-narrow c = rw c.deref.ensures.value c.in-Ok.ensures.narrow

pub stop_of-requires : goal.stop_of-requires
stop_of-requires c =
    plain_stop (game_of c.args.game.now) c.args.game.now.sound c.requires.whole
    (box_of c.args.leaves.now) c.requires.single c.requires.keeps c.args.i
    (player_of c.args.player.now) c.requires.player c.in-Ok.aim.items c.in-Ok.ensures.len
    c.in-Ok.ensures.values c.in-Ok.ensures.narrow c.args.purse.now c.least.new.purse c.in-Err.stop
    (rw c.deref.ensures.value at
    (c.in-Err.ensures.cause (player_of c.args.player.now) c.requires.player))

pub returns-in-Err-clause-cause : goal.returns-in-Err-clause-cause
returns-in-Err-clause-cause c =
    c.stop_of.ensures (game_of c.args.game.now) c.args.i (player_of c.args.player.now)
    c.in-Ok.aim.items c.requires.player
    (may_ask (game_of c.args.game.now) c.args.game.now.sound c.requires.whole
    (box_of c.args.leaves.now) c.requires.single c.requires.keeps c.args.i
    (player_of c.args.player.now) c.requires.player c.in-Ok.aim.items c.in-Ok.ensures.len
    c.in-Ok.ensures.values) c.args.purse.now c.least.new.purse
    (rw c.deref.ensures.value at
    (c.in-Err.ensures.cause (player_of c.args.player.now) c.requires.player))

pub if_better-requires-clause-player : goal.if_better-requires-clause-player
if_better-requires-clause-player c =
    near_player (game_of c.args.game.now) c.args.game.now.sound (box_of c.args.leaves.now)
    c.requires.ranged c.args.i (player_of c.args.player.now) c.requires.player

module _ (c : In-Ok-least) where
  abbrev player : PlayerOf
  player = player_of c.args.player.now

  abbrev game : GameOf
  game = game_of c.args.game.now

  abbrev box : BoxOf
  box = box_of c.args.leaves.now

  pub answer_is : IsLeastAnswer player c.in-Ok.aim.items c.args.purse.now c.least.new.purse
      c.in-Ok-least.answer
  answer_is = rw c.deref.ensures.value at (c.in-Ok-least.ensures.answer player c.requires.player)

  pub form : IsPlayerForm game c.args.i player
  form = c.args.game.now.sound.players c.args.i player c.requires.player

  pub own_is : IsFeasible player (low_point box c.args.i player)
  own_is =
      own_feasible game c.args.game.now.sound c.requires.whole box c.requires.single
      c.requires.keeps c.args.i player c.requires.player

  pub facts : (x : PointOf) → IsLeastPoint c.in-Ok-least.answer x
      → (f : Fraction) × IsLeastAt player c.in-Ok.aim.items f x
  facts x e =
      point_facts game c.args.i player form (c.requires.whole c.args.i player c.requires.player)
      (low_point box c.args.i player) own_is c.in-Ok.aim.items c.args.purse.now
      c.least.new.purse c.in-Ok-least.answer x answer_is e

  pub tree_spent : SpendsTree player c.args.purse.now c.least.new.purse
  tree_spent =
      let t = tree_facts game c.args.i player form
      (c.requires.whole c.args.i player c.requires.player)
      (low_point box c.args.i player) own_is c.in-Ok.aim.items c.args.purse.now
      c.least.new.purse c.in-Ok-least.answer answer_is in
      search_spends player c.in-Ok.aim.items c.args.purse.now c.least.new.purse t.0 t.1
      (c.in-Ok-least.ensures.spends player c.requires.player)

pub least_point-point-requires : goal.least_point-point-requires
least_point-point-requires c =
    let at = (goal.at.least_point-point-requires c).In-Ok-least in
    has_point (game at) c.args.i (player at) (form at)
    (c.requires.whole c.args.i (player at) c.requires.player)
    (low_point (box at) c.args.i (player at)) (own_is at) c.in-Ok.aim.items c.args.purse.now
    c.least.new.purse c.in-Ok-least.answer (answer_is at)

pub if_better-requires-clause-point : goal.if_better-requires-clause-point
if_better-requires-clause-point c =
    let at = (goal.at.if_better-requires-clause-point c).In-Ok-least in
    near_point (player at) (c.requires.whole c.args.i (player at) c.requires.player)
    (λ v var e. all_get IsVarForm (player at).vars v var (form at).vars e)
    c.least_point-point.result
    (facts at c.least_point-point.result c.least_point-point.ensures).1.feasible

pub returns-clause-reply : goal.returns-clause-reply
returns-clause-reply c =
    let at = (goal.at.returns-clause-reply c).In-Ok-least in
    let x = c.least_point-point.result in
    let l = facts at x c.least_point-point.ensures in
    IfOk-weaker c.if_better.result (λ better. MatchOption better
    (least_gain (player at) c.args.i (box at) (whole_of x) ≤ℤ (pos 0))
    (λ y. (y ≡ whole_of x) × ((pos 0) <ℤ least_gain (player at) c.args.i (box at) y)))
    (IsBestReply (player at) c.args.i (box at))
    (best_reply (game at) c.args.game.now.sound c.requires.whole (box at) c.requires.single
    c.requires.keeps c.args.i (player at) c.requires.player c.in-Ok.aim.items c.in-Ok.ensures.len
    c.in-Ok.ensures.values c.requires.ranged l.0 x l.1) c.if_better.ensures.better

pub returns-clause-tree : goal.returns-clause-tree
returns-clause-tree c =
    let at = (goal.at.returns-clause-tree c).In-Ok-least in
    IfOk-weaker c.if_better.result _ (λ better. SpendsTree (player at) c.args.purse.now
    c.least.new.purse) (λ better h. tree_spent at) c.if_better.ensures.better

pub returns-clause-cause : goal.returns-clause-cause
returns-clause-cause c =
    let at = (goal.at.returns-clause-cause c).In-Ok-least in
    IfErr-weaker c.if_better.result (λ stop. stop ≡ AStop.NoMemory)
    (IsReplyCause (game at) (player at) c.args.purse.now c.least.new.purse)
    (memory_cause (game at) (player at) c.args.purse.now c.least.new.purse)
    c.if_better.ensures.memory

pub returns-in-Err-clause-spends : goal.returns-in-Err-clause-spends
returns-in-Err-clause-spends c =
    c.in-Err.ensures.spends (player_of c.args.player.now) c.requires.player

pub returns-clause-spends : goal.returns-clause-spends
returns-clause-spends c =
    c.in-Ok-least.ensures.spends (player_of c.args.player.now) c.requires.player
