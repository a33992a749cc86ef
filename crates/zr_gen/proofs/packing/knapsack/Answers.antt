use Rattle.std.proofs.Common.{subst, sym}
use Rattle.zr_source.specs.SourceForms.{IsSource}
use Rattle.zr_gen.proofs.PackingForms.{are_source}
use Rattle.zr_gen.proofs.packing.knapsack.Goals as goal

pub invariant_of-result : goal.invariant_of-result
invariant_of-result c =
    let form = are_source c.args.players c.args.items c.args.number c.requires.some_player
    c.requires.players c.requires.some_item c.requires.items in
    record { sound = subst IsSource (sym c.in-Ok.ensures) form }
