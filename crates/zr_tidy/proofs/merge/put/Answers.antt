use Rattle.std.proofs.Common.{◌≡◌, arith, sym, ap, subst, ◌∙◌, ◌+ℤ◌, ◌≤ℤ◌, Some, List, ◌∷◌, ◌++◌, map, take, drop, slice_get, FitsSigned}
use Rattle.std.specs.Int.{w128}
use Rattle.std.proofs.lemmas.Int.{to_z-of_z}
use Rattle.std.proofs.lemmas.List.{length-map, map-set}
use Rattle.std.proofs.lemmas.Option.{slice_get_within}
use Rattle.zr_base.specs.Points.{IsSamePoint}
use Rattle.zr_game.specs.Profiles.{Part, Strategy, total}
use Rattle.zr_game.proofs.Items.{found, one}
use Rattle.zr_mix.specs.Mixtures.{part_of}
use Rattle.zr_mix.specs.declared.mixture.Part.{Part as KeptPart}
use Rattle.zr_tidy.specs.declared.merge.Place.TheVariants.{Before, Met}
use Rattle.zr_tidy.specs.Merges.{HasPut}
use Rattle.zr_tidy.specs.Places.{IsPlace}
use Rattle.zr_tidy.proofs.Kept.{inserted, of_kept}
use Rattle.zr_tidy.proofs.Puts.{put_before, put_met}
use Rattle.zr_tidy.proofs.Tidying.{HasWeight}
use Rattle.zr_tidy.proofs.Totals.{both_fit, other_fits, own_fits, weight_at_most}
use Rattle.zr_tidy.proofs.merge.put.Goals as goal
use Rattle.zr_tidy.proofs.merge.put.Goals.{After-index_mut}

met : (c : After-index_mut)
    → IsPlace (map part_of c.args.parts.now.items) c.args.part.point (Met c.in-Met.k)
met c =
    subst (λ (xs : List KeptPart). IsPlace (map part_of xs) c.args.part.point (Met c.in-Met.k))
    c.deref.ensures.value c.in-Met.ensures

found_there : (c : After-index_mut) → slice_get (map part_of c.args.parts.now.items) c.in-Met.k
    ≡ Some (part_of c.index_mut.result.now)
found_there c =
    let xs = c.args.parts.now.items in
    let n = length-map xs part_of in
    let w = slice_get_within (map part_of xs) c.in-Met.k (met c).0 (met c).1 in
    found part_of xs c.in-Met.k c.index_mut.result.now (omega (arith, n, w))
    c.index_mut.ensures.value

bounds : (c : After-index_mut)
    → (c.index_mut.result.now.weight ≤ℤ total (map part_of c.args.parts.now.items))
    × HasWeight (part_of c.index_mut.result.now)
bounds c =
    weight_at_most (map part_of c.args.parts.now.items) c.in-Met.k
    (part_of c.index_mut.result.now) (found_there c)
    (of_kept HasWeight c.args.parts.now.items c.requires.weights)

pub overflow_add-index_mut : goal.overflow_add-index_mut
overflow_add-index_mut c =
    let at = (goal.at.overflow_add-index_mut c).After-index_mut in
    let t = total (map part_of c.args.parts.now.items) in
    let q = c.index_mut.result.now.weight in
    let w = c.args.part.weight in
    let b = bounds at in
    let f : FitsSigned w128 q = own_fits t q w b.1 c.requires.weight b.0 c.requires.narrow in
    let g : FitsSigned w128 w = other_fits t q w b.1 c.requires.weight b.0 c.requires.narrow in
    simp to_z-of_z (both_fit t q w b.1 c.requires.weight b.0 c.requires.narrow)

pub returns-in-Met : goal.returns-in-Met
returns-in-Met c =
    let at = (goal.at.returns-in-Met c).After-index_mut in
    let xs = c.args.parts.now.items in
    let t = total (map part_of xs) in
    let x = c.index_mut.result.now in
    let q = x.weight in
    let w = c.args.part.weight in
    let b = bounds at in
    let f : FitsSigned w128 q = own_fits t q w b.1 c.requires.weight b.0 c.requires.narrow in
    let g : FitsSigned w128 w = other_fits t q w b.1 c.requires.weight b.0 c.requires.narrow in
    let h : FitsSigned w128 (q +ℤ w) = both_fit t q w b.1 c.requires.weight b.0 c.requires.narrow in
    let p = part_of c.args.part in
    let m = met at in
    let there = found_there at in
    let same : IsSamePoint x.point c.args.part.point =
    subst (λ (y : Part). IsSamePoint y.point c.args.part.point)
    (one (map part_of xs) c.in-Met.k m.0 (part_of x) m.1 there) m.2 in
    let new : KeptPart = record { weight = q +ℤ w; point = x.point } in
    simp to_z-of_z
    (subst (λ (ys : Strategy). HasPut p (map part_of xs) ys)
    (sym (map-set part_of xs c.in-Met.k new))
    (put_met p (map part_of xs) c.in-Met.k (part_of x) there same m.3))

pub returns-in-Ok : goal.returns-in-Ok
returns-in-Ok c =
    let xs = c.args.parts.now.items in
    let k = c.in-Before.k in
    let place : IsPlace (map part_of xs) c.args.part.point (Before k) =
    subst (λ (zs : List KeptPart). IsPlace (map part_of zs) c.args.part.point (Before k))
    c.deref.ensures.value c.in-Before.ensures in
    let items : c.insert.new.self.items ≡ take k xs ++ c.args.part ∷ drop k xs =
    c.in-Ok.ensures.items in
    subst (λ (ys : Strategy). HasPut (part_of c.args.part) (map part_of xs) ys)
    (sym (ap (λ (ys : List KeptPart). map part_of ys) items ∙ inserted c.args.part xs k))
    (put_before (part_of c.args.part) (map part_of xs) k place.0 place.1 place.2)
