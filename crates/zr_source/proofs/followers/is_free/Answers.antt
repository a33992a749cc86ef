use Rattle.std.proofs.Common.{◌≡◌, arith, sym, subst, Some, List, slice_get}
use Rattle.zr_game.proofs.Checks.{all_checked, each_mapped, more_checked}
use Rattle.zr_game.specs.Players.{VarOf, var_of}
use Rattle.zr_source.proofs.FormTests.{IsFreeAt}
use Rattle.zr_source.specs.Sources.{follower_of}
use Rattle.zr_source.proofs.followers.is_free.Goals as goal

pub loop-v-preserved : goal.loop-v-preserved
loop-v-preserved c =
    let f = follower_of c.args.follower.now in
    more_checked (λ v var. IsFreeAt f v (var_of var)) c.args.vars.now c.loop-v.v
    c.index-vars-v.result c.loop-v-test.true c.index-vars-v.is c.loop-v.all c.loop-v.invariant
    c.is_free_var-all.result c.is_free_var-all.ensures

pub returns : goal.returns
returns c base e =
    let f = follower_of c.args.follower.now in
    let vars = c.args.vars.now in
    let all = all_checked (λ v var. IsFreeAt f v (var_of var)) vars c.loop-v.v c.loop-v.all
    (omega arith) (omega arith) c.loop-v.invariant in
    let told = each_mapped var_of (IsFreeAt f) vars c.loop-v.all all in (
      λ h v var o s. told.0 h v var (subst (λ (l : List VarOf). slice_get l v ≡ Some var) e s) o,
      λ h. told.1
          (λ v var s o. h v var o (subst (λ (l : List VarOf). slice_get l v ≡ Some var) (sym e) s)),
    )
