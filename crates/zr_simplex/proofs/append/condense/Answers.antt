use Rattle.std.proofs.Common.{rules, ◌≡◌, ◌≢◌, ◌+◌, ◌-◌, ◌<◌, ℕ, arith, refl, ◌∙◌, pos, set, length, length-set, get_or, get_or-set_same, get_or-set_other, ⊎_elim, slice_index, FitsSigned}
use Rattle.std.proofs.lemmas.Bool.{cases_eq}
use Rattle.std.proofs.lemmas.Int.{to_z-of_z}
use Rattle.std.specs.Int.{w128}
use Rattle.zr_simplex.specs.Programs.{numbers}
use Rattle.zr_simplex.proofs.Divide.{narrow_more}
use Rattle.zr_simplex.proofs.Subtract.{greatest_set}
use Rattle.zr_simplex.proofs.append.condense.Goals as goal

pub loop-place-preserved : goal.loop-place-preserved
loop-place-preserved c =
    let i = c.loop-place.place in
    let places = c.loop-place.places in
    let inv = c.loop-place.invariant in
    let made = c.args.made.now in
    let column = slice_index c.args.free.now i in
    let v = numbers made column in
    let x : FitsSigned w128 (get_or made column (pos 0)) = search rules in
    let below : i < length places = omega (arith, c.loop-place.auto.places, c.loop-place-test.true, c.requires.len) in
    let room = c.requires.columns i c.loop-place-test.true in
    let narrow = c.requires.narrow column (pos 0) (omega (arith, room)) in
    let off : (k : ℕ) → k < i + 1 → numbers (set places i v) k ≡ numbers made (slice_index c.args.free.now k) = λ k h. ⊎_elim (λ (e : k ≡ i). rw (e, get_or-set_same places i v (pos 0) below) refl) (λ (a : k ≢ i). rw (get_or-set_other places i k v (pos 0) a) (inv.off k (omega arith))) (cases_eq k i) in
    simp to_z-of_z (record {
      off = off;
      narrow = narrow_more places i v below inv.narrow narrow;
      greatest = greatest_set places i c.loop-place.common c.with_number-common.result v below inv.greatest (simp to_z-of_z at c.with_number-common.ensures);
    })

pub returns-clause-greatest : goal.returns-clause-greatest
returns-clause-greatest c =
    let places = c.loop-place.places in
    let made = c.args.made.now in
    let own = length c.args.free.now in
    let home = length made - 1 in
    let v = numbers made home in
    let x : FitsSigned w128 (get_or made home (pos 0)) = search rules in
    let long : length places ≡ own + 1 = c.loop-place.auto.places ∙ c.requires.len in
    let at : c.loop-place.place ≡ own = omega (arith, c.loop-place-test.false, c.loop-place.auto.place-end) in
    let greatest = greatest_set places own c.loop-place.common c.with_number.result v (omega (arith, long)) (rw at at c.loop-place.invariant.greatest) (simp to_z-of_z at c.with_number.ensures) in
    simp to_z-of_z (rw (length-set places own v, long) greatest)
