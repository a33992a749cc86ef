use Rattle.std.proofs.Common.{◌≡◌, ◌-◌, ◌<◌, arith, ◌∙◌, sym, length, length-set, get_or}
use Rattle.zr_base.proofs.SumSteps.{get_or_default}
use Rattle.zr_game.specs.Games.{game_of}
use Rattle.zr_game.specs.declared.choice.Choice.{Choice}
use Rattle.zr_game.specs.declared.choice.Choice.TheVariants.{On}
use Rattle.zr_system.specs.Asked.{ChoiceExists}
use Rattle.zr_system.specs.Regions.{leaves_of}
use Rattle.zr_refute.proofs.PathMoves.{all_fewer, all_turned, next_due}
use Rattle.zr_refute.proofs.path.turn.Goals as goal
use Rattle.zr_refute.proofs.path.turn.Goals.{After-index}

nearest_is : (c : After-index)
    → get_or c.args.path.now.choices.items (c.args.path.now.depth - 1) (On 0 0) ≡ c.index.result.now
nearest_is c =
    let h : c.args.path.now.depth - 1 < length c.args.path.now.choices.items = omega
    (arith, c.requires.depth, c.requires.path.depth) in
    get_or_default c.args.path.now.choices.items (c.args.path.now.depth - 1) (On 0 0)
    c.index.result.now h ∙ sym c.index.ensures

pub returns-in-Some-clause-next : goal.returns-in-Some-clause-next
returns-in-Some-clause-next c told =
    let path = c.args.path.now in
    next_due (leaves_of c.args.leaves.now) path.choices.items path.depth c.index.result.now
    c.in-Some.choice c.requires.depth c.requires.path.depth
    (nearest_is ((goal.at.returns-in-Some-clause-next c).After-index)) (c.in-Some.ensures.some _)

pub returns-in-Some-clause-path : goal.returns-in-Some-clause-path
returns-in-Some-clause-path c =
    let path = c.args.path.now in
    let l = length-set {A = Choice} path.choices.items (path.depth - 1) c.in-Some.choice in
    record {
      exist = all_turned (ChoiceExists (game_of c.args.game.now) (leaves_of c.args.leaves.now))
          path.choices.items path.depth c.in-Some.choice c.requires.depth c.requires.path.depth
          c.requires.path.exist c.in-Some.ensures.exists;
      depth = omega (arith, l, c.requires.path.depth);
    }

pub returns-in-None-clause-path : goal.returns-in-None-clause-path
returns-in-None-clause-path c =
    let path = c.args.path.now in
    record {
      exist = all_fewer (ChoiceExists (game_of c.args.game.now) (leaves_of c.args.leaves.now))
          path.choices.items (path.depth - 1) path.depth (omega arith) c.requires.path.exist;
      depth = omega (arith, c.requires.path.depth);
    }
