use Rattle.std.proofs.Common.{◌≡◌, ◌↔◌, ℕ, arith, sym, subst, IsTrue, Some, slice_get}
use Rattle.zr_game.specs.Players.{GameOf, PlayerOf}
use Rattle.zr_game.specs.Forms.{IsPlayerForm}
use Rattle.zr_game.proofs.Checks.{all_checked, each_mapped, more_checked, none_checked}
use Rattle.zr_source.proofs.FormTests.{base_of, bases_are}
use Rattle.zr_source.specs.Sources.{bases, leaders_of}
use Rattle.zr_source.proofs.form.are_bases.Goals as goal

pub loop-i-init : goal.loop-i-init
loop-i-init c = none_checked (λ i leader. IsPlayerForm (bases (leaders_of c.args.leaders.now)) i
    (base_of leader)) c.args.leaders.now

pub loop-i-preserved : goal.loop-i-preserved
loop-i-preserved c =
    more_checked (λ i leader. IsPlayerForm (bases (leaders_of c.args.leaders.now)) i
    (base_of leader)) c.args.leaders.now c.loop-i.i c.index-leaders-i.result c.loop-i-test.true
    c.index-leaders-i.is c.loop-i.all c.loop-i.invariant c.is_player-all.result
    (c.is_player-all.ensures (bases (leaders_of c.args.leaders.now)) (sym c.requires))

pub returns : goal.returns
returns c =
    let game = bases (leaders_of c.args.leaders.now) in
    subst (λ (ps : GameOf). IsTrue c.loop-i.all
    ↔ ((i : ℕ) (player : PlayerOf) → slice_get ps i ≡ Some player → IsPlayerForm game i player))
    (sym (bases_are c.args.leaders.now)) (each_mapped base_of (IsPlayerForm game)
    c.args.leaders.now c.loop-i.all (all_checked
    (λ i leader. IsPlayerForm game i (base_of leader)) c.args.leaders.now c.loop-i.i
    c.loop-i.all (omega arith) (omega arith) c.loop-i.invariant))
