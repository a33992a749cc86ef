use Rattle.std.proofs.Common.{◌≡◌, ◌-◌, arith, refl, ℕ, add-one}
use Rattle.std.proofs.lemmas.Option.{slice_get_within}
use Rattle.zr_game.specs.Games.{game_of}
use Rattle.zr_game.specs.Players.{PlayerOf, player_of}
use Rattle.zr_game.specs.Forms.{IsPlayer}
use Rattle.zr_game.proofs.Items.{found}
use Rattle.zr_bnb.proofs.Firsts.{all_found, more_found}
use Rattle.zr_boxes.specs.Paths.{box_of}
use Rattle.zr_box_search.specs.Fates.{HasNoBetter}
use Rattle.zr_box_search.proofs.Single.{is_equilibrium}
use Rattle.zr_box_search.proofs.Spending.{spent_is, spent_nothing}
use Rattle.zr_box_search.proofs.Units.{end_of_all, end_spends, end_with, reply_cause, spends_end, step_spends, units_step}
use Rattle.zr_box_search.proofs.profile.deviation.Goals as goal
use Rattle.zr_box_search.proofs.profile.deviation.Goals.{After-better_point-arg-1}

module _ (c : After-better_point-arg-1) where
  abbrev player : PlayerOf
  player = player_of c.player-item.result

  abbrev spent : ℕ
  spent = c.loop-i.purse.branches - c.args.purse.now.branches

  pub is_player : IsPlayer (game_of c.args.game.now) c.loop-i.i player
  is_player =
      found player_of c.args.game.now.players.items c.loop-i.i c.player-item.result
      (rw c.deref-player-items.ensures.value at c.loop-i-test.true)
      (rw c.deref-player-items.ensures.value at c.player-item.is)

pub better_point-requires-clause-player : goal.better_point-requires-clause-player
better_point-requires-clause-player c =
    is_player (goal.at.better_point-requires-clause-player c).After-better_point-arg-1

pub better_point-requires-clause-limit : goal.better_point-requires-clause-limit
better_point-requires-clause-limit c =
    let l = c.loop-i.invariant.spends.limit in
    let r = c.requires.limit in
    omega (arith, l, r)

pub loop-i-init : goal.loop-i-init
loop-i-init c =
    let z : c.args.purse.now.branches - c.args.purse.now.branches ≡ 0 = omega arith in
    record {
      none = λ k p h. absurd (omega (arith, h));
      units = rw z refl;
      spends = rw z (spent_nothing c.args.purse.now);
    }

pub returns-in-Err-clause-cause : goal.returns-in-Err-clause-cause
returns-in-Err-clause-cause c =
    let at = (goal.at.returns-in-Err-clause-cause c).After-better_point-arg-1 in
    reply_cause (game_of c.args.game.now) (box_of c.args.leaves.now) c.requires.single c.loop-i.i
    (player at) (is_player at) c.args.purse.now c.loop-i.purse c.better_point.new.purse (spent at)
    c.loop-i.invariant.units c.loop-i.invariant.spends c.in-Err.stop c.in-Err.ensures.cause

pub returns-in-Err-clause-spends : goal.returns-in-Err-clause-spends
returns-in-Err-clause-spends c =
    let at = (goal.at.returns-in-Err-clause-spends c).After-better_point-arg-1 in
    spends_end (game_of c.args.game.now) (box_of c.args.leaves.now) c.requires.single c.loop-i.i
    (player at) (is_player at) c.args.purse.now c.loop-i.purse c.better_point.new.purse (spent at)
    c.loop-i.invariant.units c.loop-i.invariant.spends c.in-Err.ensures.spends

pub returns-in-Ok-Some-clause-node : goal.returns-in-Ok-Some-clause-node
returns-in-Ok-Some-clause-node c =
    let at = (goal.at.returns-in-Ok-Some-clause-node c).After-better_point-arg-1 in
    let r = rw c.in-Ok-Some.field-0-is at c.in-Ok-Some.ensures.reply in
    ((player at, is_player at, r.0), r.1)

pub returns-in-Ok-Some-clause-form : goal.returns-in-Ok-Some-clause-form
returns-in-Ok-Some-clause-form c =
    let at = (goal.at.returns-in-Ok-Some-clause-form c).After-better_point-arg-1 in
    let r = rw c.in-Ok-Some.field-0-is at c.in-Ok-Some.ensures.reply in
    let k = rw c.in-Ok-Some.field-0-is at c.in-Ok-Some.ensures.kept in
    let len = r.0.feasible.len in
    let some = (c.args.game.now.sound.players c.loop-i.i (player at) (is_player at)).some_var in
    let few = c.args.game.now.sound.player_count in
    let w = slice_get_within (game_of c.args.game.now) c.loop-i.i (player at) (is_player at) in
    (omega (arith, w, few), (omega (arith, len, some), k))

pub returns-in-Ok-Some-clause-spent : goal.returns-in-Ok-Some-clause-spent
returns-in-Ok-Some-clause-spent c =
    let at = (goal.at.returns-in-Ok-Some-clause-spent c).After-better_point-arg-1 in
    let t = c.in-Ok-Some.ensures.tree in (
      _,
      end_with (game_of c.args.game.now) (box_of c.args.leaves.now) c.requires.single c.loop-i.i
          (player at) (is_player at) c.args.purse.now c.loop-i.purse c.better_point.new.purse (spent at)
          c.loop-i.invariant.units c.loop-i.invariant.spends t.0,
      step_spends c.args.purse.now c.loop-i.purse c.better_point.new.purse (spent at) (player at)
          c.loop-i.invariant.spends t,
    )

pub returns-in-Ok-Some-clause-spends : goal.returns-in-Ok-Some-clause-spends
returns-in-Ok-Some-clause-spends c =
    let at = (goal.at.returns-in-Ok-Some-clause-spends c).After-better_point-arg-1 in
    spends_end (game_of c.args.game.now) (box_of c.args.leaves.now) c.requires.single c.loop-i.i
    (player at) (is_player at) c.args.purse.now c.loop-i.purse c.better_point.new.purse (spent at)
    c.loop-i.invariant.units c.loop-i.invariant.spends c.in-Ok-Some.ensures.spends

pub loop-i-preserved : goal.loop-i-preserved
loop-i-preserved c =
    let at = (goal.at.loop-i-preserved c).After-better_point-arg-1 in
    let t = c.in-Ok-None.ensures.tree in
    let r = rw c.in-Ok-None.field-0-is at c.in-Ok-None.ensures.reply in
    let p = step_spends c.args.purse.now c.loop-i.purse c.better_point.new.purse (spent at)
    (player at) c.loop-i.invariant.spends t in
    let e = spent_is c.args.purse.now c.better_point.new.purse _ p in
    record {
      none = λ k p h f. more_found player_of (λ j q. HasNoBetter q j (box_of c.args.leaves.now))
          c.args.game.now.players.items c.loop-i.i c.player-item.result
          (rw c.deref-player-items.ensures.value at c.loop-i-test.true)
          (rw c.deref-player-items.ensures.value at c.player-item.is)
          (λ j q l g. c.loop-i.invariant.none j q l g) r k p h f;
      units = rw (e, add-one c.loop-i.i) (units_step (game_of c.args.game.now) c.loop-i.i (spent at)
          (player at) (is_player at) c.loop-i.invariant.units t.0);
      spends = rw e p;
    }

pub returns-clause-none : goal.returns-clause-none
returns-clause-none c =
    is_equilibrium (game_of c.args.game.now) c.args.game.now.sound c.requires.whole
    (box_of c.args.leaves.now) c.requires.single c.requires.keeps
    (λ k p f. all_found player_of (λ j q. HasNoBetter q j (box_of c.args.leaves.now))
    c.args.game.now.players.items c.loop-i.i
    (rw c.deref-player-items.ensures.value at c.loop-i-test.false)
    (λ j q l g. c.loop-i.invariant.none j q l g) k p f)

pub returns-clause-spent : goal.returns-clause-spent
returns-clause-spent c = (
  _,
  end_of_all (game_of c.args.game.now) (box_of c.args.leaves.now) c.requires.single c.loop-i.i
      _ c.loop-i.invariant.units,
  c.loop-i.invariant.spends,
)

pub returns-clause-spends : goal.returns-clause-spends
returns-clause-spends c =
    end_spends (game_of c.args.game.now) (box_of c.args.leaves.now) c.requires.single
    c.args.purse.now c.loop-i.purse (
      _,
      end_of_all (game_of c.args.game.now) (box_of c.args.leaves.now) c.requires.single c.loop-i.i
          _ c.loop-i.invariant.units,
      c.loop-i.invariant.spends,
    )
