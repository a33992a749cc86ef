use Rattle.zr_game.proofs.MeanLaws.{at_deviation, at_mean}
use Rattle.zr_mix.proofs.Checking.{made_cost}
use Rattle.zr_mix.proofs.laws.law_of_costs_by_means.Goals as goal

pub returns-clause-played : goal.returns-clause-played
returns-clause-played c game form profile valid i player is = at_mean game profile valid i player is
    (form.players i player is)

pub returns-clause-made : goal.returns-clause-made
returns-clause-made c = made_cost

pub returns-clause-deviated : goal.returns-clause-deviated
returns-clause-deviated c game form profile valid i player is x feasible =
    at_deviation game profile valid i player is x feasible (form.players i player is)
