use Rattle.std.proofs.Common.{sym, ap, subst, ◌∙◌, add-one, pos, take, get_or}
use Rattle.std.proofs.Math.Seq.{take-suc}
use Rattle.zr_game.specs.Players.{player_of}
use Rattle.zr_game.specs.Leaves.{LeafOf, root_leaf}
use Rattle.zr_asked.specs.declared.question.Move.TheVariants.{Low}
use Rattle.zr_asked.specs.Paths.{IsMove, branch, child_by}
use Rattle.zr_branch.proofs.Paths.{after_more, move_at}
use Rattle.zr_branch.proofs.leaf.leaf_at.Goals as goal

pub loop-step-init : goal.loop-step-init
loop-step-init c =
    let player = player_of c.args.player.now in
    record {
      lengths = c.in_ok-leaf.ensures.lengths player c.requires.player;
      leaf = c.in_ok-leaf.ensures.root player c.requires.player;
    }

pub enter-requires-clause-step : goal.enter-requires-clause-step
enter-requires-clause-step c =
    let player = player_of c.args.player.now in
    let m = get_or c.args.path.now c.loop-step.step-index (Low 0 (pos 0)) in
    subst (λ (l : LeafOf). IsMove player l m) (sym c.loop-step.invariant.leaf)
    (move_at player (root_leaf player) c.args.path.now c.loop-step.step-index (Low 0 (pos 0))
    c.loop-step-test.true c.requires.path)

pub loop-step-preserved : goal.loop-step-preserved
loop-step-preserved c =
    let i = c.loop-step.step-index in
    let path = c.args.path.now in
    let player = player_of c.args.player.now in
    let m = get_or path i (Low 0 (pos 0)) in
    record {
      lengths = c.enter.ensures.lengths;
      leaf = c.enter.ensures.leaf ∙ ap (λ (l : LeafOf). child_by l m) c.loop-step.invariant.leaf ∙
          sym (rw (add-one i, take-suc path i (Low 0 (pos 0)) c.loop-step-test.true)
          (after_more (root_leaf player) (take i path) m));
    }
