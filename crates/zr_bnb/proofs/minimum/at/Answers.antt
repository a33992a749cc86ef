use Rattle.std.proofs.Common.{rules, ◌≡◌, ◌∙◌, ap, sym, subst, List, ℤ, ◌*ℤ◌, map, FitsSigned}
use Rattle.std.specs.Int.{w128}
use Rattle.std.proofs.lemmas.Int.{to_z-of_z}
use Rattle.zr_game.specs.Players.{player_of}
use Rattle.zr_bnb.specs.Found.{AreProved}
use Rattle.zr_bnb.specs.Values.{scaled_aim}
use Rattle.zr_bnb.proofs.Leasts.{at_answer, may_scaled, plans_scaled, scaled_whole}
use Rattle.zr_bnb.proofs.minimum.at.Goals as goal
use Rattle.zr_bnb.proofs.minimum.at.Goals.{In-Ok}

module _ (c : In-Ok) where
  -- the aim that is asked for the proofs
  pub scaled_is : c.in-Ok.scaled.items ≡ scaled_aim c.args.best.value c.args.aim.now
  scaled_is =
      let d : FitsSigned w128 c.den.result = search rules in
      (simp to_z-of_z at c.in-Ok.ensures.value) ∙
      ap (λ (k : ℤ). map (λ z. k *ℤ z) c.args.aim.now) c.den.ensures.value

pub prove-requires-clause-closed : goal.prove-requires-clause-closed
prove-requires-clause-closed c =
    let at = (goal.at.prove-requires-clause-closed c).In-Ok in
    let n : FitsSigned w128 c.num.result = search rules in
    simp to_z-of_z (rw (c.deref.ensures.value, scaled_is at, c.num.ensures.value)
    (plans_scaled (player_of c.args.player.now) c.args.aim.now c.args.best.value c.args.plans.now
    c.requires.grown.1.closed))

pub prove-requires-clause-kept : goal.prove-requires-clause-kept
prove-requires-clause-kept c whole =
    let at = (goal.at.prove-requires-clause-kept c).In-Ok in
    let player = player_of c.args.player.now in
    rw (c.deref.ensures.value, scaled_is at)
    (subst (λ (a : List ℤ). AreProved player a c.args.plans.now)
    (sym (scaled_whole c.args.aim.now c.args.best.value (c.is_whole.ensures whole)))
    c.requires.grown.1.proved)

pub returns-in-Err-clause-cause : goal.returns-in-Err-clause-cause
returns-in-Err-clause-cause c old new =
    let at = (goal.at.returns-in-Err-clause-cause c).In-Ok in
    c.in-Err.ensures.cause c.args.aim.now (rw (c.deref.ensures.value, scaled_is at)
    (may_scaled (player_of c.args.player.now) c.args.aim.now c.requires.grown.0 c.args.best
    c.args.plans.now c.requires.grown.1)) old new

pub returns-in-Ok-prove-clause-answer : goal.returns-in-Ok-prove-clause-answer
returns-in-Ok-prove-clause-answer c old spent e g =
    let at = (goal.at.returns-in-Ok-prove-clause-answer c).In-Ok in
    let n : FitsSigned w128 c.num.result = search rules in
    let made = rw (c.deref.ensures.value, scaled_is at, c.num.ensures.value) at
    (simp to_z-of_z at (c.in-Ok-prove.ensures.tree spent g.tree)) in
    at_answer (player_of c.args.player.now) c.args.aim.now old c.prove.new.purse spent c.args.best
    c.args.plans.now c.in-Ok-prove.tree g (c.in-Ok-prove.ensures.purse.branches ∙ e) made
