use Rattle.std.proofs.Common.{rules, arith, pos, get_or, FitsSigned}
use Rattle.std.specs.Int.{w128}
use Rattle.std.proofs.lemmas.Int.{to_z-of_z}
use Rattle.zr_game.specs.Players.{var_of}
use Rattle.zr_game.specs.Rays.{KeepsBounds, change_of}
use Rattle.zr_game.proofs.Checks.{all_checked, each_mapped, more_checked}
use Rattle.zr_game.proofs.ray.bounds_keep.Goals as goal

pub loop-v-preserved : goal.loop-v-preserved
loop-v-preserved c =
    let f : FitsSigned w128 (get_or c.args.dir.now c.loop-v.v (pos 0)) = search rules in
    let told = simp to_z-of_z at c.keeps_bounds-all.ensures in
    more_checked (λ v var. KeepsBounds (var_of var) (change_of c.args.dir.now v)) c.args.vars.now
    c.loop-v.v c.index-vars-v.result c.loop-v-test.true c.index-vars-v.is c.loop-v.all
    c.loop-v.invariant c.keeps_bounds-all.result told

pub returns : goal.returns
returns c =
    each_mapped var_of (λ v var. KeepsBounds var (change_of (c.args.dir.now) v)) c.args.vars.now
    c.loop-v.all (all_checked (λ v var. KeepsBounds (var_of var) (change_of c.args.dir.now v))
    c.args.vars.now c.loop-v.v c.loop-v.all (omega arith) (omega arith) c.loop-v.invariant)
