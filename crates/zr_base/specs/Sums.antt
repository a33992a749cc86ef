-- Sums of products, exactly and by steps from the left.
use Rattle.std.specs.Prelude.{ℕ, zero, suc, ℤ, pos, neg_ℤ, ◌+ℤ◌, ◌*ℤ◌, List, [], ◌∷◌, Result, Ok}
use Rattle.zr_base.specs.declared.step.Wide.{Wide}
use Rattle.zr_base.specs.Steps.{cross_of, ◌>>=◌}

-- the sum of the products
abbrev pub sum_products : List (ℤ × ℤ) → ℤ
sum_products [] = pos 0
sum_products (t ∷ ts) = t.0 *ℤ t.1 +ℤ sum_products ts

-- f 0 + .. + f (n - 1)
abbrev pub sum_to : ℕ → (ℕ → ℤ) → ℤ
sum_to zero f = pos 0
sum_to (suc n) f = sum_to n f +ℤ f n

-- s and one product more
abbrev pub sum_step : ℤ → ℤ × ℤ → Result ℤ Wide
sum_step s t = cross_of t (neg_ℤ s, pos 1)

-- the sum of the products from s on, or its first step that is too wide
abbrev pub sum_steps : ℤ → List (ℤ × ℤ) → Result ℤ Wide
sum_steps s [] = Ok s
sum_steps s (t ∷ ts) = sum_step s t >>= λ r. sum_steps r ts
