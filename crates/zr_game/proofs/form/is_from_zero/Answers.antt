use Rattle.std.proofs.Common.{◌≡◌, ◌↔◌, ℕ, ◌<◌, subst, ap, ℤ, pos, int_eq, Bool, IsTrue, Option, None, Some, List, length, map, get_or, slice_get}
use Rattle.std.specs.Option.{option_eq}
use Rattle.std.proofs.lemmas.Bool.Decides.{Decides-int_eq}
use Rattle.zr_game.specs.declared.player.Var.{Var}
use Rattle.zr_game.specs.Players.{VarOf, var_of}
use Rattle.zr_game.specs.Forms.{IsFromZero}
use Rattle.zr_game.proofs.Items.{found, one}
use Rattle.zr_game.proofs.form.is_from_zero.Goals as goal

-- the test of a bound against a number
equal_told : (low : Option ℤ) (z : ℤ) → IsTrue (option_eq int_eq low (Some z)) ↔ (low ≡ Some z)
equal_told None z = (λ h. absurd cc, λ h. absurd cc)
equal_told (Some x) z =
    let told = Decides-int_eq x z in
    (λ h. ap Some (told.0 h), λ h. told.1 (inner h))
  where
    inner : Some x ≡ Some z → x ≡ z
    inner h = cc

from_zero : (vars : List Var) (v : ℕ) (x : Var) → v < length vars → x ≡ get_or vars v x →
    (b : Bool) → b ≡ option_eq int_eq (get_or vars v x).low (Some (pos 0)) →
    IsTrue b ↔ IsFromZero (map var_of vars) v
from_zero vars v x below is b e =
    let here : slice_get (map var_of vars) v ≡ Some (var_of x) = found var_of vars v x below is in
    let told = rw (← is) at (rw (← e) at (equal_told (get_or vars v x).low (pos 0))) in (
      λ h var p.
          let same = one (map var_of vars) v (var_of x) var here p in
          subst (λ (y : VarOf). y.low ≡ Some (pos 0)) same (told.0 h),
      λ h. told.1 (h (var_of x) here),
    )

pub returns-else-v-vars : goal.returns-else-v-vars
returns-else-v-vars c =
    let x = c.index-vars-v in
    from_zero c.args.vars.now c.args.v x.result c.if-v-vars.false x.is c.eq.result c.eq.ensures
