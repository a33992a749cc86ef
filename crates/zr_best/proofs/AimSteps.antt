-- The aim that is made of a claim with 1.
use Rattle.std.proofs.Common.{◌≡◌, ℕ, ◌^◌, ◌<◌, arith, refl, sym, ap, subst, ◌∙◌, ℤ, pos, neg_ℤ, ◌*ℤ◌, unsigned_abs, Result, Ok, Err, List, map, length, All}
use Rattle.std.proofs.lemmas.Int.{ints}
use Rattle.std.proofs.lemmas.List.{length-map}
use Rattle.std.proofs.lemmas.List.Elements.{All-map}
use Rattle.zr_base.specs.declared.step.Wide.{Wide}
use Rattle.zr_base.specs.Fractions.{Fraction, whole}
use Rattle.zr_base.specs.Made.{Writes}
use Rattle.zr_base.specs.Steps.{IsNarrow, ◌>>=◌}
use Rattle.zr_base.specs.Made.{made_from}
use Rattle.zr_base.proofs.Made.{made_items, were_ok, were_wide}
use Rattle.zr_game.specs.Players.{GameOf, PlayerOf}
use Rattle.zr_mix.specs.Claims.{IsClaim}
use Rattle.zr_mix.specs.Steps.{GivesClaim, claim_steps, slope_steps}
use Rattle.zr_best.specs.Aims.{IsAimMade, slope_claim, slope_list}
use Rattle.zr_best.proofs.ClaimSteps.{WithZero, multiple_is, wide_with_zero, with_zero, zero_claim}

pub given : (s : Result (List ℤ × ℤ) Wide) (left : List ℤ) (right : ℤ) → GivesClaim s (Ok right) left
    → s ≡ Ok (left, right)
given (Ok (l, r)) left right h =
    let a : right ≡ r = ok_value right r h.0 in
    rw (h.1, a) refl
  where
    ok_value : (a b : ℤ) → ◌≡◌ {A = Result ℤ Wide} (Ok a) (Ok b) → a ≡ b
    ok_value a b e = cc
given (Err w) left right h = absurd cc

pub given_wide : (s : Result (List ℤ × ℤ) Wide) (left : List ℤ) (w : Wide) → GivesClaim s (Err w) left → s ≡ Err w
given_wide (Ok (l, r)) left w h = let e = h.0 in absurd cc
given_wide (Err u) left w h = let e : u ≡ w = err_value u w h in ap Err e
  where
    err_value : (a b : Wide) → ◌≡◌ {A = Result ℤ Wide} (Err b) (Err a) → a ≡ b
    err_value a b e = cc

turned_narrow : (z : ℤ) → IsNarrow z → IsNarrow (neg_ℤ z)
turned_narrow z h = omega (arith, ints, h)

pub all_turned_narrow : (left : List ℤ) → All IsNarrow left → All IsNarrow (map neg_ℤ left)
all_turned_narrow left h = All-map IsNarrow neg_ℤ left (λ k d below. turned_narrow _ (h k d below))

module _ (game : GameOf) (player : PlayerOf) (means : List Fraction) where
  pub aim_made : (slopes : List Fraction) (left numbers : List ℤ) (right : ℤ)
      → slope_list game player means ≡ Ok slopes → claim_steps slopes (whole (pos 1)) ≡ Ok (left, right)
      → ((m : ℤ) × IsClaim slopes (whole (pos 1)) m left right) → numbers ≡ map neg_ℤ left
      → IsAimMade game player means (neg_ℤ right) numbers
  aim_made slopes left numbers right are made claim e = record {
    slopes = slopes;
    are_slopes = are;
    left = left;
    right = neg_ℤ (pos 0) *ℤ neg_ℤ right;
    made = (with_zero slopes left right made).made;
    claim = subst (λ (m : ℤ). IsClaim slopes (whole (pos 0)) m left (neg_ℤ (pos 0) *ℤ neg_ℤ right))
        (multiple_is slopes claim.0 left right claim.1) (zero_claim slopes claim.0 left right claim.1);
    aim_is = e;
  }

  pub slope_wide : (w : Wide) → slope_list game player means ≡ Err w → slope_claim game player means ≡ Err w
  slope_wide w e = rw e refl

  pub claim_wide : (slopes : List Fraction) (w : Wide) → slope_list game player means ≡ Ok slopes
      → claim_steps slopes (whole (pos 1)) ≡ Err w → slope_claim game player means ≡ Err w
  claim_wide slopes w are e = rw are (wide_with_zero slopes w e)

  pub slope_made : (n : ℕ) (out : List Fraction) → n ≡ length player.vars
      → Writes (made_from (slope_steps game player means) 0 n) (Ok tt) out → slope_list game player means ≡ Ok out
  slope_made n out e h =
      were_ok (slope_list game player means) out
      (subst (λ k. Writes (made_from (slope_steps game player means) 0 k) (Ok tt) out) e h)

  pub slope_broke : (n : ℕ) (w : Wide) (out : List Fraction) → n ≡ length player.vars
      → Writes (made_from (slope_steps game player means) 0 n) (Err w) out → slope_claim game player means ≡ Err w
  slope_broke n w out e h =
      slope_wide w (were_wide (slope_list game player means) w out
      (subst (λ k. Writes (made_from (slope_steps game player means) 0 k) (Err w) out) e h))

  pub aim_len : (by : ℤ) (aim : List ℤ) → IsAimMade game player means by aim → length aim ≡ length player.vars
  aim_len by aim made =
      ap length made.aim_is ∙ length-map made.left neg_ℤ ∙ made.claim.len
      ∙ (made_items (slope_steps game player means) 0 (length player.vars) made.slopes made.are_slopes).0
