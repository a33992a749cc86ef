use Rattle.std.proofs.Common.{◌≡◌, rules, arith, sym, ap, subst, ◌∙◌, ℤ, List, length, map, Vec, Global, FitsSigned}
use Rattle.std.specs.Int.{w128}
use Rattle.std.specs.Vec.{with_items}
use Rattle.std.proofs.lemmas.Int.{to_z-of_z}
use Rattle.std.proofs.lemmas.List.{length-map, with_items_is}
use Rattle.zr_game.specs.Profiles.{Strategy, total}
use Rattle.zr_mix.specs.Mixtures.{part_of}
use Rattle.zr_mix.specs.declared.mixture.Part.{Part as KeptPart}
use Rattle.zr_tidy.specs.Merges.{AreDivided}
use Rattle.zr_tidy.specs.Tidy.{IsGreatestWeight, IsTidied}
use Rattle.zr_tidy.proofs.Kept.{kept_all, of_kept}
use Rattle.zr_tidy.proofs.Printed.{HasForm, merged_some, merged_weights, tidied, tidied_narrow, tidied_weights}
use Rattle.zr_tidy.proofs.Tidying.{EachPoint, HasWeight}
use Rattle.zr_tidy.proofs.strategy.tidy.Goals as goal
use Rattle.zr_tidy.proofs.strategy.tidy.Goals.{After-deref-2}

pub greatest_divisor-shared-requires-clause-some : goal.greatest_divisor-shared-requires-clause-some
greatest_divisor-shared-requires-clause-some c =
    let parts = c.in_ok-parts.parts.items in
    let n = length-map parts part_of in
    let s = merged_some (map part_of c.args.raw.now) (map part_of parts) c.requires
    c.in_ok-parts.ensures.merged in
    rw c.deref.ensures.value (omega (arith, n, s))

pub greatest_divisor-shared-requires-clause-weights : goal.greatest_divisor-shared-requires-clause-weights
greatest_divisor-shared-requires-clause-weights c =
    let parts = c.in_ok-parts.parts.items in
    rw c.deref.ensures.value
    (kept_all HasWeight parts
    (merged_weights (map part_of c.args.raw.now) (map part_of parts) c.requires
    c.in_ok-parts.ensures.merged))

pub divide-requires-clause-divides : goal.divide-requires-clause-divides
divide-requires-clause-divides c =
    let z = c.greatest_divisor-shared.result in
    let f : FitsSigned w128 z = search rules in
    let g : IsGreatestWeight z (map part_of c.in_ok-parts.parts.items) =
    subst (λ (xs : List KeptPart). IsGreatestWeight z (map part_of xs)) c.deref.ensures.value
    c.greatest_divisor-shared.ensures in
    simp to_z-of_z (rw c.deref_mut.ensures.value g.divides)

made : (v : Vec KeptPart Global) (ws : List KeptPart) → length ws ≡ v.len
    → (with_items v ws).items ≡ ws
made v ws e = with_items_is v ws e

same_length : (c : After-deref-2) → length c.divide.new.parts ≡ c.in_ok-parts.parts.len
same_length c =
    let a = c.divide.auto.parts in
    let b = c.deref_mut.ensures.len in
    omega (arith, a, b)

after : (c : After-deref-2) → c.deref-2.result.now ≡ c.divide.new.parts
after c =
    c.deref-2.ensures.value ∙ made c.in_ok-parts.parts c.divide.new.parts (same_length c)

abbrev RawOf : After-deref-2 → Strategy
RawOf c = map part_of c.args.raw.now

abbrev MergedOf : After-deref-2 → Strategy
MergedOf c = map part_of c.in_ok-parts.parts.items

abbrev MadeOf : After-deref-2 → Strategy
MadeOf c = map part_of c.divide.new.parts

abbrev SharedOf : After-deref-2 → ℤ
SharedOf c = c.greatest_divisor-shared.result

greatest : (c : After-deref-2) → IsGreatestWeight (SharedOf c) (MergedOf c)
greatest c =
    subst (λ (xs : List KeptPart). IsGreatestWeight (SharedOf c) (map part_of xs))
    c.deref.ensures.value c.greatest_divisor-shared.ensures

divided : (c : After-deref-2) → AreDivided (SharedOf c) (MergedOf c) (MadeOf c)
divided c =
    let f : FitsSigned w128 c.greatest_divisor-shared.result = search rules in
    subst (λ (xs : List KeptPart). AreDivided (SharedOf c) (map part_of xs) (MadeOf c))
    c.deref_mut.ensures.value (simp to_z-of_z at c.divide.ensures)

forms : (c : After-deref-2) → EachPoint HasForm (MergedOf c)
forms c =
    of_kept (λ p. HasForm p.point) c.in_ok-parts.parts.items c.in_ok-parts.ensures.points

pub total-total-requires-clause-weights : goal.total-total-requires-clause-weights
total-total-requires-clause-weights c =
    rw (after c)
    (kept_all HasWeight c.divide.new.parts
    (tidied_weights (RawOf c) (MergedOf c) (MadeOf c) (SharedOf c) c.requires
    c.in_ok-parts.ensures.merged (greatest c) (divided c) (forms c)))

pub total-total-requires-clause-narrow : goal.total-total-requires-clause-narrow
total-total-requires-clause-narrow c =
    rw (after c)
    (tidied_narrow (RawOf c) (MergedOf c) (MadeOf c) (SharedOf c) c.requires
    c.in_ok-parts.ensures.merged (greatest c) (divided c) (forms c))

pub returns : goal.returns
returns c =
    let at = (goal.at.returns c).After-deref-2 in
    let new = c.divide.new.parts in
    let f : FitsSigned w128 c.total-total.result = search rules in
    let sum : c.total-total.result ≡ total (map part_of new) =
    c.total-total.ensures ∙ ap (λ (ys : List KeptPart). total (map part_of ys)) (after at) in
    let all = tidied (RawOf at) (MergedOf at) (MadeOf at) (SharedOf at) c.requires
    c.in_ok-parts.ensures.merged (greatest at) (divided at) (forms at) in
    simp to_z-of_z
    (subst (λ (ys : List KeptPart). IsTidied (map part_of c.args.raw.now)
    (record { total = c.total-total.result; parts = map part_of ys }))
    (sym (made c.in_ok-parts.parts new (same_length at)))
    (subst (λ (t : ℤ). IsTidied (map part_of c.args.raw.now)
    (record { total = t; parts = map part_of new })) (sym sum) all))
