use Rattle.std.proofs.Common.{◌≡◌, arith, sym, subst, inl, length}
use Rattle.std.specs.Prelude.{IfOk}
use Rattle.std.proofs.lemmas.List.{length-map}
use Rattle.zr_game.specs.Players.{player_of, var_of}
use Rattle.zr_game.specs.Leaves.{LeafOf}
use Rattle.zr_simplex.specs.Programs.{numbers}
use Rattle.zr_asked.specs.Drawn.{IsBranchSolution}
use Rattle.zr_asked.specs.Paths.{branch}
use Rattle.zr_asked.specs.Stuck.{IsZeroAim}
use Rattle.zr_bnb.specs.Splits.{AreNear}
use Rattle.zr_cover.specs.Fates.{IsFate}
use Rattle.zr_cover.proofs.ExactEnds.{empty_end}
use Rattle.zr_cover.proofs.Rays.{zero_falls_not}
use Rattle.zr_cover.proofs.visit.visit.Goals as goal
use Rattle.zr_cover.proofs.visit.visit.Goals.{After-deref}

aim_is : (c : After-deref) → IsZeroAim (player_of c.args.player.now) c.in-Ok-zero_aim.aim.items
aim_is c =
    let player = player_of c.args.player.now in
    let count : length player.vars ≡ c.len.result =
    omega (
      arith,
      c.len.ensures,
      c.args.player.now.vars.ok.0,
      length-map c.args.player.now.vars.items var_of,
    ) in
    c.in-Ok-zero_aim.ensures.aim player count

pub ask-requires-clause-aim : goal.ask-requires-clause-aim
ask-requires-clause-aim c =
    let at = (goal.at.ask-requires-clause-aim c).After-deref in
    rw c.deref.ensures.value (aim_is at).0

pub returns-in-Err-clause-cause : goal.returns-in-Err-clause-cause
returns-in-Err-clause-cause c old new =
    let at = (goal.at.returns-in-Err-clause-cause c).After-deref in
    c.stop_of.ensures c.args.i (player_of c.args.player.now) c.args.path.now
    c.in-Ok-zero_aim.aim.items (inl (aim_is at)) (rw c.deref.ensures.value at c.in-Err.ensures.cause) old new

pub returns-in-Ok-Empty-clause-fate : goal.returns-in-Ok-Empty-clause-fate
returns-in-Ok-Empty-clause-fate c more near =
    let at = (goal.at.returns-in-Ok-Empty-clause-fate c).After-deref in
    let player = player_of c.args.player.now in
    empty_end player (branch player c.args.path.now) c.in-Ok-zero_aim.aim.items (inl (aim_is at))
    c.in-Ok-Empty.mult.items
    (rw (c.in-Ok-Empty.field-0-is, c.deref.ensures.value) at c.in-Ok-Empty.ensures.reply)

pub at_point-requires-clause-near : goal.at_point-requires-clause-near
at_point-requires-clause-near c =
    subst (λ (l : LeafOf). AreNear l 1000000000) (sym c.in-Ok.ensures.leaf) c.requires.near

pub at_point-requires-clause-drawn : goal.at_point-requires-clause-drawn
at_point-requires-clause-drawn c =
    let at = (goal.at.at_point-requires-clause-drawn c).After-deref in
    let player = player_of c.args.player.now in
    let aim = c.in-Ok-zero_aim.aim.items in
    let reply = rw (c.in-Ok-Best.field-0-is, c.deref.ensures.value) at
    c.in-Ok-Best.ensures.reply in (
      aim,
      inl (aim_is at),
      subst (λ (l : LeafOf). IsBranchSolution player l (numbers aim) c.in-Ok-Best.point)
          (sym c.in-Ok.ensures.leaf) reply.solution,
    )

pub returns-in-Ok-Best-clause-fate : goal.returns-in-Ok-Best-clause-fate
returns-in-Ok-Best-clause-fate c more near =
    let player = player_of c.args.player.now in
    let same = c.in-Ok.ensures.leaf in
    subst (λ (l : LeafOf). IfOk c.at_point.result (IsFate player l more)) same
    (c.at_point.ensures.fate more (subst (λ (l : LeafOf). AreNear l more) (sym same) near))

pub unreachable-requires : goal.unreachable-requires
unreachable-requires c =
    let at = (goal.at.unreachable-requires c).After-deref in
    let player = player_of c.args.player.now in
    zero_falls_not player (c.args.i, c.requires.some) c.args.path.now c.requires.path
    c.in-Ok-zero_aim.aim.items c.in-Ok-Unbounded.field-0-0 c.in-Ok-Unbounded.field-0-1.items
    (rw (c.in-Ok-Unbounded.field-0-is, c.deref.ensures.value) at c.in-Ok-Unbounded.ensures.reply)
    (aim_is at)
