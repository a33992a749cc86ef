use Rattle.std.proofs.Common.{◌≡◌, rules, refl, sym, ap, subst, ◌∙◌, List, map, set, get_or, unsigned_abs, FitsSigned}
use Rattle.std.specs.Int.{w128}
use Rattle.std.proofs.lemmas.Int.{to_z-of_z}
use Rattle.std.proofs.lemmas.List.Edits.{map_over_more}
use Rattle.zr_base.proofs.Members.{each_of_all}
use Rattle.zr_mix.specs.Mixtures.{part_of}
use Rattle.zr_mix.specs.declared.mixture.Part.{Part as KeptPart}
use Rattle.zr_tidy.specs.Merges.{AreDivided}
use Rattle.zr_tidy.proofs.Kept.{all_divided, divided_one, kept_all, kept_without, not_yet, whole_list}
use Rattle.zr_tidy.proofs.Tidying.{Divides}
use Rattle.zr_tidy.proofs.strategy.divide.Goals as goal

pub loop-part-init : goal.loop-part-init
loop-part-init c = refl

pub divided-part-requires-clause-divides : goal.divided-part-requires-clause-divides
divided-part-requires-clause-divides c =
    let b : FitsSigned w128 c.args.by = c.ranges.by in
    let xs = c.args.parts.now in
    let i = c.loop-part.part-index in
    let d = c.part-item.result in
    let by = c.args.by in
    let w : FitsSigned w128 (get_or c.loop-part.parts i d).weight = search rules in
    let before = simp to_z-of_z at c.loop-part.invariant in
    let e : get_or c.loop-part.parts i d ≡ get_or xs i d =
    ap (λ (ys : List KeptPart). get_or ys i d) before ∙ not_yet (kept_without by) xs i d in
    let each = each_of_all (Divides (unsigned_abs by)) (map part_of xs) c.requires.divides in
    simp to_z-of_z
    (rw e (kept_all (Divides (unsigned_abs by)) xs each i d c.loop-part-test.true))

pub loop-part-preserved : goal.loop-part-preserved
loop-part-preserved c =
    let b : FitsSigned w128 c.args.by = c.ranges.by in
    let xs = c.args.parts.now in
    let ys = c.loop-part.parts in
    let i = c.loop-part.part-index in
    let d = c.part-item.result in
    let by = c.args.by in
    let w : FitsSigned w128 (get_or ys i d).weight = search rules in
    let r : FitsSigned w128 c.divided-part.result = search rules in
    let before = simp to_z-of_z at c.loop-part.invariant in
    let value = simp to_z-of_z at c.divided-part.ensures.value in
    let one = divided_one by d (get_or ys i d) c.divided-part.result c.part-item.is value in
    simp to_z-of_z
    (ap (λ (x : KeptPart). set ys i x) one
    ∙ map_over_more (kept_without by) xs ys i d c.loop-part-test.true before c.part-item.is)

pub returns : goal.returns
returns c =
    let b : FitsSigned w128 c.args.by = c.ranges.by in
    let xs = c.args.parts.now in
    let by = c.args.by in
    let before = simp to_z-of_z at c.loop-part.invariant in
    let each = each_of_all (Divides (unsigned_abs by)) (map part_of xs) c.requires.divides in
    let all = whole_list (kept_without by) xs c.loop-part.parts c.loop-part.part-index
    c.loop-part-test.false before in
    subst (λ (zs : List KeptPart). AreDivided by (map part_of xs) (map part_of zs)) (sym all)
    (all_divided by xs each)
