use Rattle.std.proofs.Common.{◌≡◌, arith, inl, inr, ⊎_elim, length, subst, ◌⊎◌, ℤ, List, pos, negsuc, FitsSigned}
use Rattle.std.specs.Int.{w128}
use Rattle.std.proofs.lemmas.Int.{to_z-of_z}
use Rattle.std.proofs.lemmas.List.{length-map}
use Rattle.zr_game.specs.Players.{PlayerOf, player_of, var_of}
use Rattle.zr_asked.specs.Stuck.{IsVariableAim, IsPlainAim}
use Rattle.zr_bnb.proofs.Visiting.{changes}
use Rattle.zr_bnb.proofs.endless.falls_not.Goals as goal
use Rattle.zr_bnb.proofs.endless.falls_not.Goals.{After-deref}

aim_is : (c : After-deref) → IsVariableAim (player_of c.args.player.now) c.args.v c.args.z c.in-Ok.aim.items
aim_is c =
    let player = player_of c.args.player.now in
    let z : FitsSigned w128 c.args.z = c.ranges.z in
    let count : length player.vars ≡ c.len.result = omega (arith, c.len.ensures, c.args.player.now.vars.ok.0, length-map c.args.player.now.vars.items var_of) in
    simp to_z-of_z at (c.in-Ok.ensures.aim player count)

plain : (player : PlayerOf) (v : _) (z : ℤ) (a : List ℤ) → (z ≡ pos 1) ⊎ (z ≡ negsuc 0)
    → IsVariableAim player v z a → IsPlainAim player a
plain player v z a sign is =
    ⊎_elim (λ (e : z ≡ pos 1). inr (v, inl (subst (λ (y : ℤ). IsVariableAim player v y a) e is)))
    (λ (e : z ≡ negsuc 0). inr (v, inr (subst (λ (y : ℤ). IsVariableAim player v y a) e is))) sign

pub ask-requires-clause-aim : goal.ask-requires-clause-aim
ask-requires-clause-aim c =
    let at = (goal.at.ask-requires-clause-aim c).After-deref in
    rw c.deref.ensures.value (aim_is at).1

pub returns-in-Ok-Unbounded-clause-cause : goal.returns-in-Ok-Unbounded-clause-cause
returns-in-Ok-Unbounded-clause-cause c main still old new =
    let at = (goal.at.returns-in-Ok-Unbounded-clause-cause c).After-deref in
    let player = player_of c.args.player.now in
    let reply = rw (c.in-Ok-Unbounded.field-0-is, c.deref.ensures.value) at c.in-Ok-Unbounded.ensures.reply in (
      changes player (c.args.i, c.requires.player) c.args.v c.args.z c.requires.whole c.requires.sign
          c.in-Ok.aim.items (aim_is at) c.in-Ok-Unbounded.field-0-0 c.in-Ok-Unbounded.ray.items reply,
      still,
    )

pub returns-clause-cause : goal.returns-clause-cause
returns-clause-cause c main still old new =
    let at = (goal.at.returns-clause-cause c).After-deref in
    let player = player_of c.args.player.now in
    let cause = rw c.deref.ensures.value at c.in-Err.ensures.cause in
    c.stop_of.ensures c.args.i player _ c.in-Ok.aim.items main
    (inr (inr (plain player c.args.v c.args.z c.in-Ok.aim.items c.requires.sign (aim_is at)))) cause old new
