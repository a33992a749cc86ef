use Rattle.std.proofs.Common.{rules, ◌≡◌, ◌∙◌, ap, FitsSigned}
use Rattle.std.specs.Int.{w64}
use Rattle.std.proofs.lemmas.Int.{to_z-of_z}
use Rattle.zr_base.specs.Fractions.{whole}
use Rattle.zr_base.specs.Terms.{coef_at}
use Rattle.zr_game.specs.Games.{game_of}
use Rattle.zr_game.specs.Players.{player_of}
use Rattle.zr_mix.specs.Values.{slope_at}
use Rattle.zr_mix.proofs.Places.{reduced_if}
use Rattle.zr_mix.proofs.slopes.slope_of_var.Goals as goal
use Rattle.zr_mix.proofs.slopes.slope_of_var.Goals.{After-with_terms}

pub with_terms-requires : goal.with_terms-requires
with_terms-requires c = record {
  means = rw c.deref.ensures.value c.requires;
  lowest = c.from-own.ensures.1;
}

own_is : (c : After-with_terms)
    → c.from-own.result ≡ whole (coef_at c.args.player.now.cost.items c.args.v)
own_is c =
    let n : FitsSigned w64 c.number_at.result = search rules in
    let e = rw c.as_slice.ensures at c.number_at.ensures in
    simp to_z-of_z at c.from-own.ensures.0 ∙ ap whole e

pub returns-clause-steps : goal.returns-clause-steps
returns-clause-steps c =
    let own = own_is ((goal.at.returns-clause-steps c).After-with_terms) in
    rw (own, c.deref.ensures.value) at c.with_terms.ensures.steps

pub returns-clause-at : goal.returns-clause-at
returns-clause-at c =
    let own = own_is ((goal.at.returns-clause-at c).After-with_terms) in
    let exact = rw (own, c.deref.ensures.value) at c.with_terms.ensures.exact in
    reduced_if c.with_terms.result (slope_at (game_of c.args.game.now) (player_of c.args.player.now)
    c.args.means.now c.args.v) exact c.with_terms.ensures.lowest
