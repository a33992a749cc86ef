use Rattle.std.proofs.Common.{◌≡◌, arith, sym, ap, subst, ◌∙◌, ℤ, pos, ◌+ℤ◌, [], map, take}
use Rattle.std.proofs.lemmas.Int.{ints}
use Rattle.std.proofs.lemmas.List.{take-map}
use Rattle.zr_base.specs.Steps.{IsNarrow}
use Rattle.zr_base.proofs.Members.{all_found, each_of_all}
use Rattle.zr_game.specs.Profiles.{Strategy, total}
use Rattle.zr_game.proofs.Items.{found}
use Rattle.zr_mix.specs.Mixtures.{part_of}
use Rattle.zr_tidy.specs.Merges.{AreMerged}
use Rattle.zr_tidy.specs.Tidy.{width}
use Rattle.zr_tidy.proofs.Kept.{first_each, first_more, kept_all}
use Rattle.zr_tidy.proofs.Printed.{HasLength, lengths_merged}
use Rattle.zr_tidy.proofs.Puts.{merged_more}
use Rattle.zr_tidy.proofs.Tidying.{HasWeight, weight_merged}
use Rattle.zr_tidy.proofs.Totals.{next_narrow}
use Rattle.zr_tidy.proofs.Weighing.{total_merged}
use Rattle.zr_tidy.proofs.merge.merged.Goals as goal

pub put_lowest-requires-clause-lengths : goal.put_lowest-requires-clause-lengths
put_lowest-requires-clause-lengths c =
    let raw = c.args.raw.now in
    let i = c.loop-part.part-index in
    let items = c.loop-part.parts.items in
    let n = width (map part_of raw) in
    let item = c.part-item.result in
    let own = all_found (λ p. HasLength n p.point) (map part_of raw) i (part_of item)
    c.requires.lengths (found part_of raw i item c.loop-part-test.true c.part-item.is) in
    let each = each_of_all (λ p. HasLength n p.point) (map part_of raw) c.requires.lengths in
    let all = kept_all (λ p. HasLength n p.point) items
    (lengths_merged n (map part_of (take i raw)) (map part_of items)
    (first_each (λ p. HasLength n p.point) raw i each) c.loop-part.invariant.merged) in
    λ k d h. all k d h ∙ sym own

pub put_lowest-requires-clause-weights : goal.put_lowest-requires-clause-weights
put_lowest-requires-clause-weights c =
    let raw = c.args.raw.now in
    let i = c.loop-part.part-index in
    let items = c.loop-part.parts.items in
    let each = each_of_all HasWeight (map part_of raw) c.requires.weights in
    kept_all HasWeight items
    (weight_merged [] (map part_of (take i raw)) (map part_of items) c.loop-part.invariant.merged tt
    (first_each HasWeight raw i each))

pub put_lowest-requires-clause-weight : goal.put_lowest-requires-clause-weight
put_lowest-requires-clause-weight c =
    let raw = c.args.raw.now in
    let i = c.loop-part.part-index in
    let item = c.part-item.result in
    all_found HasWeight (map part_of raw) i (part_of item) c.requires.weights
    (found part_of raw i item c.loop-part-test.true c.part-item.is)

zero_plus : (a : ℤ) → pos 0 +ℤ a ≡ a
zero_plus a = omega (arith, ints)

pub put_lowest-requires-clause-narrow : goal.put_lowest-requires-clause-narrow
put_lowest-requires-clause-narrow c =
    let raw = c.args.raw.now in
    let i = c.loop-part.part-index in
    let items = c.loop-part.parts.items in
    let item = c.part-item.result in
    let first = map part_of (take i raw) in
    let same : total (map part_of items) ≡ total (take i (map part_of raw)) =
    total_merged [] first (map part_of items) c.loop-part.invariant.merged
    ∙ (zero_plus (total first) ∙ ap total (sym (take-map part_of i raw))) in
    subst (λ (t : ℤ). IsNarrow (t +ℤ item.weight)) (sym same)
    (next_narrow (map part_of raw) i (part_of item)
    (found part_of raw i item c.loop-part-test.true c.part-item.is)
    (each_of_all HasWeight (map part_of raw) c.requires.weights) c.requires.narrow)

pub loop-part-preserved : goal.loop-part-preserved
loop-part-preserved c =
    let raw = c.args.raw.now in
    let i = c.loop-part.part-index in
    let items = c.loop-part.parts.items in
    let new = c.put_lowest.new.parts.items in
    let item = c.part-item.result in
    record {
      merged = subst (λ (xs : Strategy). AreMerged [] xs (map part_of new))
          (sym (first_more raw i item c.loop-part-test.true c.part-item.is))
          (merged_more [] (map part_of (take i raw)) (map part_of items) (map part_of new)
          (part_of item) c.loop-part.invariant.merged c.in_ok-put_lowest.ensures.put);
      points = c.in_ok-put_lowest.ensures.points;
    }
