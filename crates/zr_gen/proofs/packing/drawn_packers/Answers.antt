use Rattle.std.proofs.Common.{◌≡◌, subst}
use Rattle.std.specs.Prelude.{IfOk}
use Rattle.zr_source.specs.Sources.{SourceOf, leaders_of}
use Rattle.zr_gen.proofs.PackingForms.{same_knapsack}
use Rattle.zr_gen.proofs.packing.drawn_packers.Goals as goal

pub returns : goal.returns
returns c =
    let d = c.in_ok-drawn.drawn in
    let is = c.in_ok-drawn.ensures in
    subst (λ (game : SourceOf). IfOk c.packers.result (λ list. leaders_of list.items ≡ game))
    (same_knapsack d.players c.args.players d.items c.args.items d.draws.number c.args.number
    is.players is.items is.number) c.packers.ensures
