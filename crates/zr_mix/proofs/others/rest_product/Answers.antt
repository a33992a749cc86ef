use Rattle.std.proofs.Common.{rules, ◌≡◌, ◌∙◌, Ok, Err, ap, ap₂, sym, subst, IfOk, FitsSigned}
use Rattle.std.specs.Int.{w64}
use Rattle.std.proofs.lemmas.Int.{to_z-of_z}
use Rattle.std.proofs.lemmas.Result.{err_from_is_err_and}
use Rattle.zr_base.specs.Fractions.{Fraction, IsSame, times, whole}
use Rattle.zr_base.specs.Lowest.{mul_of}
use Rattle.zr_game.specs.Games.{game_of}
use Rattle.zr_game.proofs.CostSums.{other_exact}
use Rattle.zr_mix.specs.Steps.{mean_in}
use Rattle.zr_mix.proofs.Rests.{first_wide, second_made}
use Rattle.zr_mix.proofs.others.rest_product.Goals as goal

pub returns-in_err-first-clause-steps : goal.returns-in_err-first-clause-steps
returns-in_err-first-clause-steps c =
    let t = c.args.t.now in
    let n : FitsSigned w64 t.coef = search rules in
    let number : c.from.result ≡ whole t.coef = simp to_z-of_z at c.from.ensures.0 in
    let p = err_from_is_err_and c.from_residual.result c.from_residual.ensures.1 in
    let wide = sym (c.in_err-first.ensures.steps ∙ ap₂ mul_of number c.mean_of.ensures) in
    rw (p.1, p.2) (first_wide (game_of c.args.game.now) c.args.means.now t c.in_err-first.field-0.0
    wide)

pub returns-in-Some-clause-steps : goal.returns-in-Some-clause-steps
returns-in-Some-clause-steps c =
    let t = c.args.t.now in
    let n : FitsSigned w64 t.coef = search rules in
    let first = c.in_ok-first.first in
    let number : c.from.result ≡ whole t.coef = simp to_z-of_z at c.from.ensures.0 in
    let one = sym (c.in_ok-first.ensures.steps ∙ ap₂ mul_of number c.mean_of.ensures) in
    let two = c.mul-in-Some.ensures.steps ∙ ap (mul_of first) c.mean_of-in-Some.ensures in
    two ∙ second_made (game_of c.args.game.now) c.args.means.now t c.in-Some.at c.in-Some.is first
    one

pub returns-in-Some-clause-exact : goal.returns-in-Some-clause-exact
returns-in-Some-clause-exact c =
    let t = c.args.t.now in
    let n : FitsSigned w64 t.coef = search rules in
    let first = c.in_ok-first.first in
    let value = mean_in (game_of c.args.game.now) c.args.means.now in
    let number : c.from.result ≡ whole t.coef = simp to_z-of_z at c.from.ensures.0 in
    let one = subst (λ (x : Fraction). IsSame first x) (ap₂ times number c.mean_of.ensures)
    c.in_ok-first.ensures.exact in
    let r = c.mul-in-Some.result in
    let two = subst (λ (x : Fraction). IfOk r (λ f. IsSame f (times first x)))
    c.mean_of-in-Some.ensures c.mul-in-Some.ensures.exact in
    other_exact t c.in-Some.at first c.in-Some.is value r one two
