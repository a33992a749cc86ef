use Rattle.std.proofs.Common.{rules, ◌≡◌, ◌==◌, ◌∙◌, ℕ, arith, ap₂, subst, sym, cond, true, [], ◌∷◌, FitsSigned}
use Rattle.std.specs.Int.{w64}
use Rattle.std.proofs.lemmas.Int.{to_z-of_z}
use Rattle.std.proofs.lemmas.Bool.Decides.{nat_tests}
use Rattle.zr_base.specs.Fractions.{Fraction, IsSame, plus, sum_over, times, whole}
use Rattle.zr_base.specs.Lowest.{mul_of}
use Rattle.zr_game.specs.Games.{game_of}
use Rattle.zr_game.proofs.CostSums.{if_made, plus_last}
use Rattle.zr_mix.specs.Steps.{slope_term}
use Rattle.zr_mix.specs.Values.{term_at}
use Rattle.zr_mix.proofs.Places.{only_made, only_term}
use Rattle.zr_mix.proofs.slopes.with_term.Goals as goal

passes : (a b : ℕ) → a ≡ b → (a == b) ≡ true
passes a b e = grind (arith, nat_tests)

pub returns-clause-exact : goal.returns-clause-exact
returns-clause-exact c =
    let t = c.args.t.now in
    let n : FitsSigned w64 t.coef = search rules in
    let term = term_at (game_of c.args.game.now) c.args.means.now in
    let made = c.in_ok-term.term in
    let number : c.from.result ≡ whole t.coef = simp to_z-of_z at c.from.ensures.0 in
    let same = subst (λ (x : Fraction). IsSame made x) (ap₂ times number c.mean_of.ensures)
    c.in_ok-term.ensures.exact in
    let own : (t.own == c.args.v) ≡ true = (let e = c.if-t-v.false in passes t.own c.args.v e) in
    let sum = c.args.sum in
    let all = plus sum (sum_over (cond (t.own == c.args.v) (t ∷ []) []) term) in
    if_made c.add.result (plus sum made) all (λ f e. only_term (t.own == c.args.v) own term t f sum
    (plus_last f sum made (term t) e same)) c.add.ensures.exact

pub returns-clause-steps : goal.returns-clause-steps
returns-clause-steps c =
    let t = c.args.t.now in
    let n : FitsSigned w64 t.coef = search rules in
    let game = game_of c.args.game.now in
    let make = slope_term game c.args.means.now in
    let number : c.from.result ≡ whole t.coef = simp to_z-of_z at c.from.ensures.0 in
    let made = sym (c.in_ok-term.ensures.steps ∙ ap₂ mul_of number c.mean_of.ensures) in
    let own : (t.own == c.args.v) ≡ true = (let e = c.if-t-v.false in passes t.own c.args.v e) in
    c.add.ensures.steps ∙ only_made make (t.own == c.args.v) own t c.args.sum c.in_ok-term.term made
