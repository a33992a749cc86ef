use Rattle.std.proofs.Common.{rules, FitsSigned, refl, ◌∙◌, pos, get_or, slice_index}
use Rattle.std.specs.Int.{w128}
use Rattle.std.proofs.lemmas.Int.{to_z-of_z}
use Rattle.zr_branch.proofs.Merging.{at_entry, renamed_more}
use Rattle.zr_branch.proofs.multipliers.renamed.Goals as goal

pub bounds-names-k : goal.bounds-names-k
bounds-names-k c =
    (at_entry 0 _ c.args.mult.now c.loop-k.k-index (0, pos 0) c.requires c.loop-k-test.true).3

pub loop-k-preserved : goal.loop-k-preserved
loop-k-preserved c =
    let f : FitsSigned w128 (get_or c.args.mult.now c.loop-k.k-index (0, pos 0)).1 = search rules in
    (simp to_z-of_z at c.in_ok-push.ensures.items) ∙
    renamed_more (λ r. slice_index c.args.names.now r) c.args.mult.now c.loop-k.k-index
    c.loop-k.list.items (get_or c.args.mult.now c.loop-k.k-index (0, pos 0)) c.loop-k-test.true refl
    c.loop-k.invariant
