use Rattle.std.proofs.Common.{◌≡◌, arith, refl, pos, ◌≤ℤ◌, [], ◌∷◌, length}
use Rattle.std.proofs.lemmas.Int.{ints}
use Rattle.zr_game.specs.Profiles.{Part}
use Rattle.zr_mix.specs.Mixtures.{part_of}
use Rattle.zr_system.proofs.Joined.{all_of_each}
use Rattle.zr_tidy.specs.Tidy.{AreParts}
use Rattle.zr_tidy.proofs.Printed.{HasLength}
use Rattle.zr_tidy.proofs.Tidying.{HasWeight}
use Rattle.zr_tidy.proofs.tests.printed.Goals as goal

-- a part with a small weight and two numbers
record IsSmall (p : Part) : Type 0 where
  some : HasWeight p
  few : p.weight ≤ℤ pos 100
  len : length p.point.num ≡ 2

three : (p q r : Part) → IsSmall p → IsSmall q → IsSmall r → AreParts (p ∷ q ∷ r ∷ [])
three p q r a b c =
    let x = a.some in
    let y = b.some in
    let z = c.some in
    let l = a.len in
    let m = b.len in
    let n = c.len in
    record {
      some = omega arith;
      weights = all_of_each HasWeight (p ∷ q ∷ r ∷ []) (a.some, (b.some, (c.some, tt)));
      narrow = let u = a.few in
          let v = b.few in
          let w = c.few in
          omega (arith, ints, x, y, z, u, v, w);
      numbers = omega (arith, l);
      lengths = all_of_each (λ s. HasLength (length p.point.num) s.point) (p ∷ q ∷ r ∷ [])
          (refl, (omega (arith, l, m), (omega (arith, l, n), tt)));
    }

pub tidy-requires : goal.tidy-requires
tidy-requires c =
    rw (c.deref.ensures.value, c.in_ok-parts.ensures.items)
    (three (part_of c.args.first) (part_of c.args.second) (part_of c.args.third)
    (record { some = c.requires.some_first; few = c.requires.few_first; len = c.requires.len_first })
    (record { some = c.requires.some_second; few = c.requires.few_second; len = c.requires.len_second })
    (record { some = c.requires.some_third; few = c.requires.few_third; len = c.requires.len_third }))
