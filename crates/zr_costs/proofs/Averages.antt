-- Sums over the parts of a strategy, and sums over variables.
use Rattle.std.proofs.Common.{◌≡◌, ℕ, arith, refl, ap₂, ◌∙◌, ℤ, pos, ◌+ℤ◌, ◌*ℤ◌, ◌≤ℤ◌, [], ◌∷◌}
use Rattle.std.proofs.lemmas.Int.{ints}
use Rattle.zr_base.specs.Points.{PointOf}
use Rattle.zr_base.specs.Sums.{sum_to}
use Rattle.zr_base.proofs.Dense.{sum_to-add, sum_to-mul, sum_to_same, sum_to_zero}
use Rattle.zr_base.proofs.Ring.{spread}
use Rattle.zr_base.proofs.Worth.{Each, le_times}
use Rattle.zr_game.specs.Profiles.{Part, Strategy}
use Rattle.zr_game.proofs.Tuples.{weigh}

one_more : (c w n r : ℤ) → c *ℤ (w *ℤ n +ℤ r) ≡ w *ℤ (c *ℤ n) +ℤ c *ℤ r
one_more c w n r = simp spread refl

-- the sum over the variables of a number times the parts' sum is the parts' sum of the sums
pub exchanged : (vars : ℕ) (c : ℕ → ℤ) (parts : Strategy) (n : PointOf → ℕ → ℤ)
    → sum_to vars (λ v. c v *ℤ weigh parts (λ x. n x v))
    ≡ weigh parts (λ x. sum_to vars (λ v. c v *ℤ n x v))
exchanged vars c [] n =
    sum_to_same vars (λ v. c v *ℤ pos 0) (λ v. pos 0) (λ v h. omega (arith, ints))
    ∙ sum_to_zero vars
exchanged vars c (part ∷ parts) n =
    sum_to_same vars (λ v. c v *ℤ (part.weight *ℤ n part.point v +ℤ weigh parts (λ x. n x v)))
    (λ v. part.weight *ℤ (c v *ℤ n part.point v) +ℤ c v *ℤ weigh parts (λ x. n x v))
    (λ v h. one_more (c v) part.weight (n part.point v) (weigh parts (λ x. n x v)))
    ∙ sum_to-add vars (λ v. part.weight *ℤ (c v *ℤ n part.point v))
    (λ v. c v *ℤ weigh parts (λ x. n x v))
    ∙ ap₂ ◌+ℤ◌ (sum_to-mul vars part.weight (λ v. c v *ℤ n part.point v)) (exchanged vars c parts n)

scaled : (a b w : ℤ) → (pos 1) ≤ℤ w → a ≤ℤ b → (w *ℤ a) ≤ℤ (w *ℤ b)
scaled a b w positive h =
    let l = le_times a b w (omega (arith, ints, positive)) h in
    simp spread l

-- what is at most as great at each part is so in the sum
pub weigh_le : (P : Part → Type 0) (parts : Strategy) (f g : PointOf → ℤ)
    → ((part : Part) → P part → ((pos 1) ≤ℤ part.weight) × (f part.point ≤ℤ g part.point))
    → Each P parts → weigh parts f ≤ℤ weigh parts g
weigh_le P [] f g h all = omega (arith, ints)
weigh_le P (part ∷ parts) f g h all =
    let here = h part all.0 in
    let s = scaled (f part.point) (g part.point) part.weight here.0 here.1 in
    let r = weigh_le P parts f g h all.1 in
    omega (arith, ints, s, r)
