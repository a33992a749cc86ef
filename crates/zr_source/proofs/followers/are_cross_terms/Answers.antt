use Rattle.std.proofs.Common.{rules, get_or, pos, FitsSigned}
use Rattle.std.specs.Int.{w64}
use Rattle.std.proofs.lemmas.Int.{to_z-of_z}
use Rattle.zr_base.proofs.SumSteps.{get_or_default}
use Rattle.zr_game.proofs.Checks.{more_checked}
use Rattle.zr_source.specs.SourceForms.{IsFollowerCross}
use Rattle.zr_source.specs.Sources.{follower_of}
use Rattle.zr_source.proofs.followers.are_cross_terms.Goals as goal

pub loop-own-preserved : goal.loop-own-preserved
loop-own-preserved c =
    let t = get_or c.args.cross.now c.loop-own.own-index (0, 0, pos 0) in
    let n : FitsSigned w64 t.2 = search rules in
    more_checked (λ v t. IsFollowerCross (follower_of c.args.follower.now) c.args.columns t)
    c.args.cross.now c.loop-own.own-index t c.loop-own-test.true
    (get_or_default c.args.cross.now c.loop-own.own-index (0, 0, pos 0) t c.loop-own-test.true)
    c.loop-own.all c.loop-own.invariant c.is_cross_term-all.result
    (simp to_z-of_z at c.is_cross_term-all.ensures)
