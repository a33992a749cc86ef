use Rattle.std.proofs.Common.{arith}
use Rattle.std.proofs.lemmas.List.{length-map}
use Rattle.zr_game.specs.Games.{game_of}
use Rattle.zr_game.specs.Forms.{IsPlayer}
use Rattle.zr_game.specs.Players.{PlayerOf, player_of}
use Rattle.zr_game.proofs.Items.{at_number}
use Rattle.zr_cert.specs.Certs.{mixtures_of, profile_with}
use Rattle.zr_costs.proofs.Stopping.{stop_cause, stop_work}
use Rattle.zr_costs.proofs.Working.{drawn_bounds, more_bounds}
use Rattle.zr_costs.proofs.players.bounds_at.Goals as goal
use Rattle.zr_costs.proofs.players.bounds_at.Goals.{In-loop-i}

module _ (c : In-loop-i) where
  who : (player : PlayerOf) × IsPlayer (game_of c.args.game.now) c.loop-i.i player
  who =
      let m = length-map c.args.game.now.players.items player_of in
      at_number (game_of c.args.game.now) c.loop-i.i
      (omega (arith, c.loop-i-test.true, c.len-i-end.ensures, c.args.game.now.players.ok.0, m))

pub bound_at-requires-clause-stable : goal.bound_at-requires-clause-stable
bound_at-requires-clause-stable c = (mixtures_of c.args.profile.now, c.requires.stable)

pub returns-in-Err-clause-cause : goal.returns-in-Err-clause-cause
returns-in-Err-clause-cause c =
    let here = who (goal.at.returns-in-Err-clause-cause c).In-loop-i in
    stop_cause (game_of c.args.game.now) (mixtures_of c.args.profile.now) c.args.means.now
    c.requires.stable c.loop-i.i here.0 here.1 c.args.purse.now c.loop-i.purse c.bound_at.new.purse
    c.loop-i.invariant.so_far.work c.in-Err.stop
    (c.in-Err.ensures.cause (mixtures_of c.args.profile.now) c.requires.stable here.0 here.1)

pub returns-in-Err-clause-spends : goal.returns-in-Err-clause-spends
returns-in-Err-clause-spends c =
    let here = who (goal.at.returns-in-Err-clause-spends c).In-loop-i in
    stop_work (game_of c.args.game.now) (mixtures_of c.args.profile.now) c.args.means.now
    c.requires.stable c.loop-i.i here.0 here.1 c.args.purse.now c.loop-i.purse c.bound_at.new.purse
    c.loop-i.invariant.so_far.work (c.in-Err.ensures.spends here.0 here.1)

pub returns-in_default-clause-spends : goal.returns-in_default-clause-spends
returns-in_default-clause-spends c =
    let here = who (goal.at.returns-in_default-clause-spends c).In-loop-i in
    stop_work (game_of c.args.game.now) (mixtures_of c.args.profile.now) c.args.means.now
    c.requires.stable c.loop-i.i here.0 here.1 c.args.purse.now c.loop-i.purse c.bound_at.new.purse
    c.loop-i.invariant.so_far.work (c.in-Ok.ensures.spends here.0 here.1)

pub loop-i-preserved : goal.loop-i-preserved
loop-i-preserved c =
    let here = who (goal.at.loop-i-preserved c).In-loop-i in
    let m = length-map c.args.game.now.players.items player_of in
    record {
      so_far = rw c.in-Ok-push.ensures.items
          (more_bounds (game_of c.args.game.now) (profile_with (mixtures_of c.args.profile.now))
          c.loop-i.i here.0 here.1 c.loop-i.bounds.items c.args.purse.now c.loop-i.purse
          c.bound_at.new.purse c.loop-i.invariant.so_far c.in-Ok.bound
          (c.in-Ok.ensures.bound (mixtures_of c.args.profile.now) c.requires.stable here.0 here.1)
          (c.in-Ok.ensures.spends here.0 here.1));
      within =
          omega (arith, c.loop-i-test.true, c.len-i-end.ensures, c.args.game.now.players.ok.0, m);
    }

pub returns-clause-drawn : goal.returns-clause-drawn
returns-clause-drawn c =
    let m = length-map c.args.game.now.players.items player_of in
    let within = c.loop-i.invariant.within in
    drawn_bounds (game_of c.args.game.now) (profile_with (mixtures_of c.args.profile.now))
    c.loop-i.i c.loop-i.bounds.items c.args.purse.now c.loop-i.purse
    (omega (arith, c.loop-i-test.false, c.len-i-end.ensures, c.args.game.now.players.ok.0, m, within))
    c.loop-i.invariant.so_far
