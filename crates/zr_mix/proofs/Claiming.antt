-- A claim, step by step.
use Rattle.std.proofs.Common.{◌≡◌, ℕ, ◌<◌, refl, ap, ◌∙◌, ℤ, pos, Result, Ok, Err, IfOk, List, [], ◌∷◌, ◌++◌, length, get_or}
use Rattle.zr_base.specs.declared.step.Wide.{Wide}
use Rattle.zr_base.specs.Steps.{◌>>=◌}
use Rattle.zr_base.specs.Fractions.{Fraction}
use Rattle.zr_mix.specs.Claims.{IsClaim, IsLeastMultiple}
use Rattle.zr_mix.specs.Multiples.{IsNegatedOver}
use Rattle.zr_mix.specs.Steps.{GivesClaim, all_negated, claim_steps, multiple_steps, negated_over}
use Rattle.zr_mix.specs.Values.{item_of}
use Rattle.zr_mix.proofs.Multiples.{multiple_steps-append}

pub gives_wide : (r : Result (List ℤ × ℤ) Wide) (w : Wide) (out : List ℤ) → r ≡ Err w
    → GivesClaim r (Err w) out
gives_wide r w out e = rw e refl

module _ (slope : List Fraction) (value : Fraction) where
  joined : (x : Result ℤ Wide) → multiple_steps (pos 1) slope ≡ x
      → multiple_steps (pos 1) (slope ++ value ∷ []) ≡ (x >>= λ r. multiple_steps r (value ∷ []))
  joined x e = multiple_steps-append (pos 1) slope (value ∷ []) ∙
      ap (λ (y : Result ℤ Wide). y >>= λ r. multiple_steps r (value ∷ [])) e

  pub slope_wide : (w : Wide) → multiple_steps (pos 1) slope ≡ Err w
      → claim_steps slope value ≡ Err w
  slope_wide w e = let j = joined (Err w) e in rw j refl

  module _ (m : ℤ) (of_slope : multiple_steps (pos 1) slope ≡ Ok m) where
    pub value_wide : (w : Wide) → multiple_steps m (value ∷ []) ≡ Err w
        → claim_steps slope value ≡ Err w
    value_wide w e = let j = joined (Ok m) of_slope ∙ e in rw j refl

    module _ (r : ℤ) (of_both : multiple_steps m (value ∷ []) ≡ Ok r) where
      pub left_wide : (w : Wide) → all_negated r slope ≡ Err w → claim_steps slope value ≡ Err w
      left_wide w e = let j = joined (Ok m) of_slope ∙ of_both in rw (j, e) refl

      pub made : (left : List ℤ) → all_negated r slope ≡ Ok left → (x : Result ℤ Wide)
          → x ≡ negated_over r value → GivesClaim (claim_steps slope value) x left
      made left e x is =
          let j = joined (Ok m) of_slope ∙ of_both in
          rw (j, e) (onward (negated_over r value) x is)
        where
          onward : (y x : Result ℤ Wide) → x ≡ y
              → GivesClaim (y >>= λ right. Ok (left, right)) x left
          onward (Ok right) x is = (is, refl)
          onward (Err w) x is = is

  pub claimed : (m : ℤ) → IsLeastMultiple m slope value → (left : List ℤ)
      → length left ≡ length slope → ((v : ℕ) → v < length slope
      → IsNegatedOver m (item_of slope v) (get_or left v (pos 0))) → (x : Result ℤ Wide)
      → IfOk x (IsNegatedOver m value)
      → IfOk x (λ right. (n : ℤ) × IsClaim slope value n left right)
  claimed m least left len each (Ok right) h = (
    m,
    record { common = least; len = len; lefts = each; rights = h },
  )
  claimed m least left len each (Err w) h = tt
