-- One product more in the sum of a row at a point.
use Rattle.std.proofs.Common.{◌≡◌, ℕ, suc, ◌+◌, ◌<◌, ap, ◌∙◌, ℤ, pos, List, [], ◌∷◌, length, get_or, take, drop, Ok, Err}
use Rattle.std.proofs.lemmas.List.{take_more, map-append}
use Rattle.zr_base.specs.declared.step.Wide.{Wide}
use Rattle.zr_base.specs.Sums.{sum_step, sum_steps}
use Rattle.zr_base.proofs.SumSteps.{one_more, wide_within, split_at}
use Rattle.zr_base.specs.Rows.{products}

module _ (coef : List (ℕ × ℤ)) (num : List ℤ) (i : ℕ) (s : ℤ) (below : i < length coef) (sum : sum_steps (pos 0) (products (take i coef) num) ≡ Ok s) where
  pub product_more : (v : ℤ) → sum_step s ((get_or coef i (0, pos 0)).1, get_or num (get_or coef i (0, pos 0)).0 (pos 0)) ≡ Ok v → sum_steps (pos 0) (products (take (i + 1) coef) num) ≡ Ok v
  product_more v e =
      let t = (get_or coef i (0, pos 0)) in
      ap (λ ts. sum_steps (pos 0) (products ts num)) (take_more coef i (0, pos 0) below) ∙ ap (sum_steps (pos 0)) (map-append (λ t. (t.1, get_or num t.0 (pos 0))) (take i coef) (get_or coef i (0, pos 0) ∷ [])) ∙ one_more (products (take i coef) num) _ s sum ∙ e

  pub product_wide : (w : Wide) → sum_step s ((get_or coef i (0, pos 0)).1, get_or num (get_or coef i (0, pos 0)).0 (pos 0)) ≡ Err w → sum_steps (pos 0) (products coef num) ≡ Err w
  product_wide w e =
      ap (λ ts. sum_steps (pos 0) (products ts num)) (split_at coef i (0, pos 0) below) ∙ ap (sum_steps (pos 0)) (map-append (λ t. (t.1, get_or num t.0 (pos 0))) (take i coef) (get_or coef i (0, pos 0) ∷ drop (suc i) coef)) ∙ wide_within (products (take i coef) num) _ _ s w sum e
