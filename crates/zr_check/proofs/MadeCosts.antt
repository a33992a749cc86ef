-- Costs and claims that were made in whole.
use Rattle.std.proofs.Common.{◌≡◌, ℕ, sym, ap, subst, ◌∙◌, ℤ, Result, Ok, IsErr, List, length, All}
use Rattle.zr_base.specs.declared.step.Wide.{Wide}
use Rattle.zr_base.specs.Steps.{◌>>=◌}
use Rattle.zr_base.specs.Fractions.{Fraction}
use Rattle.zr_base.specs.Lowest.{add_of}
use Rattle.zr_base.specs.Made.{made_from}
use Rattle.zr_base.proofs.CrossLaws.{then_ok}
use Rattle.zr_game.specs.Forms.{IsGame, IsPlayer}
use Rattle.zr_game.specs.Means.{along_slope, mean, slope}
use Rattle.zr_game.specs.Players.{GameOf, PlayerOf}
use Rattle.zr_game.specs.Profiles.{IsProfile, expected_cost, strategy_of, total}
use Rattle.zr_mix.specs.Checks.{IsClaimOf}
use Rattle.zr_mix.specs.Steps.{claim_steps, rest_steps, slope_steps, value_steps}
use Rattle.zr_mix.specs.Values.{IsReduced}
use Rattle.zr_mix.proofs.Checking.{made_cost}
use Rattle.zr_cert.specs.Certs.{MixtureOf, profile_with}
use Rattle.zr_cert.specs.Forms.{IsMixtureForm}
use Rattle.zr_check.specs.Bounds.{IsCostMade, IsWideCost, cost_steps, own_means}
use Rattle.zr_check.proofs.MadeSums.{dens_if, rest_exact, value_exact}
use Rattle.zr_check.proofs.MadeLists.{are_means, own_are, slope_reduced}
use Rattle.zr_check.proofs.MadeClaims.{all_in_lowest, claim_made, in_lowest, ok_pair}

ok_same : (a b : List Fraction) → ◌≡◌ {A = Result (List Fraction) Wide} (Ok a) (Ok b) → a ≡ b
ok_same a b e = cc

-- the sums of a cost line have one result
pub one_made : (game : GameOf) (mixtures : List MixtureOf) (i : ℕ) (player : PlayerOf) (value value' : Fraction) (left left' : List ℤ) (right right' : ℤ) → IsCostMade game mixtures i player value left right → IsCostMade game mixtures i player value' left' right' → (value ≡ value') × (left ≡ left') × (right ≡ right')
one_made game mixtures i player value value' left left' right right' p q =
    let means : p.means ≡ q.means = ok_same p.means q.means (sym p.are_means ∙ q.are_means) in
    let made = sym p.made ∙ ap (cost_steps game player i) means ∙ q.made in
    let parts = ok_pair value value' (left, right) (left', right') made in
    (parts.0, ap (λ (x : List ℤ × ℤ). x.0) parts.1, ap (λ (x : List ℤ × ℤ). x.1) parts.1)

-- a result and a step that is too wide exclude each other
pub made_or_wide : (game : GameOf) (mixtures : List MixtureOf) (i : ℕ) (player : PlayerOf) (value : Fraction) (left : List ℤ) (right : ℤ) → IsCostMade game mixtures i player value left right → IsWideCost game mixtures i player → ⊥
made_or_wide game mixtures i player value left right p w =
    let means : w.0 ≡ p.means = ok_same w.0 p.means (sym w.1 ∙ p.are_means) in
    let err = subst (λ (r : Result (Fraction × (List ℤ × ℤ)) Wide). IsErr r) (ap (cost_steps game player i) means ∙ p.made) w.2 in
    absurd cc

-- a step that gave an equal item
ok_moved : {A : Type 0} (r : Result A Wide) (a b : A) → a ≡ b → r ≡ Ok a → r ≡ Ok b
ok_moved r a b e h = h ∙ ap Ok e

-- the slope, and what was made of it
record CostParts (slopes_made : Result (List Fraction) Wide) (rest_made : Result Fraction Wide) (own : List Fraction) (cost : Fraction) (left : List ℤ) (right : ℤ) : Type 0 where
  pub slopes : List Fraction
  pub are_slopes : slopes_made ≡ Ok slopes
  pub value : Fraction
  pub is_value : value_steps slopes own ≡ Ok value
  pub others : Fraction
  pub is_rest : rest_made ≡ Ok others
  pub is_cost : add_of value others ≡ Ok cost
  pub claim : claim_steps slopes value ≡ Ok (left, right)

abbrev with_claim : List Fraction → Fraction → Fraction → Result (Fraction × (List ℤ × ℤ)) Wide
with_claim slopes value cost = claim_steps slopes value >>= λ claim. Ok (cost, claim)

abbrev with_cost : Result Fraction Wide → List Fraction → Fraction → Result (Fraction × (List ℤ × ℤ)) Wide
with_cost rest_made slopes value = rest_made >>= λ others. add_of value others >>= with_claim slopes value

cost_parts : (slopes_made : Result (List Fraction) Wide) (rest_made : Result Fraction Wide) (own : List Fraction) (cost : Fraction) (left : List ℤ) (right : ℤ) → (slopes_made >>= λ slopes. value_steps slopes own >>= with_cost rest_made slopes) ≡ Ok (cost, (left, right)) → CostParts slopes_made rest_made own cost left right
cost_parts slopes_made rest_made own cost left right e =
    let made : Fraction × (List ℤ × ℤ) = (cost, (left, right)) in
    let s = then_ok slopes_made (λ slopes. value_steps slopes own >>= with_cost rest_made slopes) made e in
    let t = then_ok (value_steps s.0 own) (with_cost rest_made s.0) made s.2 in
    let r = then_ok rest_made (λ others. add_of t.0 others >>= with_claim s.0 t.0) made t.2 in
    let a = then_ok (add_of t.0 r.0) (with_claim s.0 t.0) made r.2 in
    let u = then_ok (claim_steps s.0 t.0) (λ claim. Ok (a.0, claim)) made a.2 in
    let parts = ok_pair a.0 cost u.0 (left, right) u.2 in
    record {
      slopes = s.0;
      are_slopes = s.1;
      value = t.0;
      is_value = t.1;
      others = r.0;
      is_rest = r.1;
      is_cost = ok_moved (add_of t.0 r.0) a.0 cost parts.0 a.1;
      claim = ok_moved (claim_steps s.0 t.0) u.0 (left, right) parts.1 u.1;
    }

module _ (game : GameOf) (form : IsGame game) (mixtures : List MixtureOf) (len : length mixtures ≡ length game) (forms : All IsMixtureForm mixtures) (totals : All (λ m. m.total ≡ total m.parts) mixtures) (valid : IsProfile game (profile_with mixtures)) (i : ℕ) (player : PlayerOf) (is : IsPlayer game i player) where
  -- what was made is the claim, and the expected cost
  pub claim_of_cost : (cost : Fraction) (left : List ℤ) (right : ℤ) → IsCostMade game mixtures i player cost left right → IsClaimOf player i (profile_with mixtures) left right × IsReduced cost (expected_cost player i (profile_with mixtures))
  claim_of_cost cost left right p =
      let profile = profile_with mixtures in
      let n = length player.vars in
      let own = own_means game player i p.means in
      let slopes_made = made_from (slope_steps game player p.means) 0 n in
      let parts = cost_parts slopes_made (rest_steps game player p.means) own cost left right p.made in
      let slopes = slope_reduced game mixtures len forms totals p.means p.are_means form i player is parts.slopes parts.are_slopes in
      let owns = own_are game mixtures len forms totals p.means p.are_means i player is in
      let along = value_exact n parts.slopes own (slope player profile) (mean (strategy_of profile i)) slopes owns parts.value parts.is_value in
      let means = are_means game mixtures len forms totals p.means p.are_means in
      let others = rest_exact game form i player is profile p.means means parts.others parts.is_rest in
      let dens = dens_if n parts.slopes (slope player profile) slopes in
      let claim = claim_made parts.slopes parts.value left right dens along.lowest.ratio.positive parts.claim in (
        record {
          slopes = parts.slopes;
          value = parts.value;
          by = claim.0;
          are_slopes = all_in_lowest parts.slopes n (slope player profile) slopes;
          is_value = in_lowest parts.value (along_slope player profile (mean (strategy_of profile i))) along;
          claim = claim.1;
        },
        made_cost game form profile valid i player is parts.value parts.others cost along others parts.is_cost,
      )
