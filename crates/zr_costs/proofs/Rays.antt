-- At an equilibrium a player's aim falls along no ray.
use Rattle.std.proofs.Common.{◌≡◌, ℕ, zero, suc, ◌+◌, arith, refl, sym, ap, ◌∙◌, ℤ, pos, negsuc, neg_ℤ, ◌+ℤ◌, ◌-ℤ◌, ◌*ℤ◌, ◌<ℤ◌, ◌≤ℤ◌, unsigned_abs, List, [], ◌∷◌, map, length, slice_index_or}
use Rattle.std.specs.List.{zip}
use Rattle.std.proofs.Math.IntN.{*ℤ_comm}
use Rattle.std.proofs.lemmas.Int.{ints}
use Rattle.zr_base.specs.Points.{PointOf, num_of}
use Rattle.zr_base.specs.Sums.{sum_to}
use Rattle.zr_base.proofs.Dense.{sum_to-add, sum_to-mul, sum_to_same}
use Rattle.zr_base.proofs.Divisors.{mul_positive}
use Rattle.zr_base.proofs.Ring.{spread}
use Rattle.zr_base.proofs.Worth.{le_times}
use Rattle.zr_game.specs.Equilibria.{IsEquilibrium}
use Rattle.zr_game.specs.Forms.{IsGame, IsPlayer}
use Rattle.zr_game.specs.Players.{GameOf, PlayerOf}
use Rattle.zr_game.specs.Profiles.{Profile}
use Rattle.zr_game.specs.Rays.{Direction, IsRay, StaysFeasible, change_of, moved}
use Rattle.zr_game.proofs.RayLaws.{leads}
use Rattle.zr_simplex.specs.Programs.{numbers}
use Rattle.zr_branch.specs.Values.{aim_value}
use Rattle.zr_mix.specs.Checks.{IsClaimOf}
use Rattle.zr_mix.proofs.Checking.{needed}
use Rattle.zr_costs.proofs.Leasts.{aim_is}

moved_at : (m : ℤ) (xs ys : List ℤ) (v : ℕ) → length xs ≡ length ys
    → slice_index_or (map (λ p. p.0 +ℤ m *ℤ p.1) (zip xs ys)) v (pos 0)
    ≡ slice_index_or xs v (pos 0) +ℤ m *ℤ slice_index_or ys v (pos 0)
moved_at m [] [] v e = omega (arith, ints)
moved_at m [] (y ∷ ys) v e = absurd (omega arith)
moved_at m (x ∷ xs) [] v e = absurd (omega arith)
moved_at m (x ∷ xs) (y ∷ ys) zero e = refl
moved_at m (x ∷ xs) (y ∷ ys) (suc v) e = moved_at m xs ys v (omega arith)

-- the aim's value at a moved point
moved_value : (player : PlayerOf) (aim : List ℤ) (base : PointOf) (dir : Direction)
    → length base.num ≡ length dir → (t : ℕ)
    → aim_value player aim (num_of (moved base dir t))
    ≡ aim_value player aim (num_of base)
    +ℤ (pos t *ℤ base.den) *ℤ aim_value player aim (change_of dir)
moved_value player aim base dir len t =
    let m = pos t *ℤ base.den in
    let n = length player.vars in
    sum_to_same n (λ j. numbers aim j *ℤ num_of (moved base dir t) j)
    (λ j. numbers aim j *ℤ num_of base j +ℤ m *ℤ (numbers aim j *ℤ change_of dir j))
    (λ j h. ap (λ z. numbers aim j *ℤ z) (moved_at m base.num dir j len)
    ∙ spreads (numbers aim j) (num_of base j) m (change_of dir j))
    ∙ sum_to-add n (λ j. numbers aim j *ℤ num_of base j)
    (λ j. m *ℤ (numbers aim j *ℤ change_of dir j))
    ∙ ap (λ z. aim_value player aim (num_of base) +ℤ z)
    (sum_to-mul n m (λ j. numbers aim j *ℤ change_of dir j))
  where
    spreads : (a x m c : ℤ) → a *ℤ (x +ℤ m *ℤ c) ≡ a *ℤ x +ℤ m *ℤ (a *ℤ c)
    spreads a x m c = simp spread (omega (arith, ints))

-- what falls with each step is below each number in the end
falls_below : (a b c : ℤ) → b <ℤ (pos 0) → ((t : ℕ) → c ≤ℤ (a +ℤ pos t *ℤ b)) → ⊥
falls_below a b c falls h =
    far (unsigned_abs (a -ℤ c) + 1) (omega (arith, ints)) (h (unsigned_abs (a -ℤ c) + 1))
  where
    far : (t : ℕ) → (a -ℤ c) <ℤ pos t → c ≤ℤ (a +ℤ pos t *ℤ b) → ⊥
    far t less within =
        let above : (pos 0) ≤ℤ pos t = omega (arith, ints) in
        let l = times_negative (pos t) above in
        omega (arith, ints, l, less, within)
      where
        times_negative : (k : ℤ) → (pos 0) ≤ℤ k → (k *ℤ b) ≤ℤ neg_ℤ k
        times_negative (pos zero) positive = omega (arith, ints)
        times_negative (pos (suc n)) positive =
            let l = le_times b (negsuc 0) (pos (suc n)) (omega (arith, ints))
            (omega (arith, ints, falls)) in
            let e = *ℤ_comm b (pos (suc n)) in
            omega (arith, ints, l, e)
        times_negative (negsuc n) positive = absurd (omega (arith, ints, positive))

module _ (game : GameOf) (form : IsGame game) (profile : Profile)
    (equilibrium : IsEquilibrium game profile) (i : ℕ) (player : PlayerOf)
    (is : IsPlayer game i player) (left : List ℤ) (right : ℤ)
    (claim : IsClaimOf player i profile left right) (base : PointOf) (dir : Direction)
    (ray : IsRay player base dir)
    (falls : aim_value player (map neg_ℤ left) (change_of dir) <ℤ (pos 0)) where
  len : length base.num ≡ length dir
  len = ray.base_is.len ∙ sym ray.len

  stays : StaysFeasible player base dir
  stays t =
      let rules = form.players i player is in
      leads base dir len t player ray rules.pairs rules.from_zero

  within : (t : ℕ) → neg_ℤ (right *ℤ base.den) ≤ℤ (aim_value player (map neg_ℤ left) (num_of base)
      +ℤ pos t *ℤ (base.den *ℤ aim_value player (map neg_ℤ left) (change_of dir)))
  within t =
      let x = moved base dir t in
      let holds = needed game form profile equilibrium i player is left right claim x (stays t) in
      let s = sum_to (length player.vars) (λ j. slice_index_or left j (pos 0) *ℤ num_of x j) in
      turn (aim_value player (map neg_ℤ left) (num_of base)) (pos t) base.den
      (aim_value player (map neg_ℤ left) (change_of dir)) s (right *ℤ base.den)
      (sym (moved_value player (map neg_ℤ left) base dir len t)
      ∙ aim_is game form profile equilibrium i player is left right claim x) holds
    where
      turn : (a t d c s r : ℤ) → a +ℤ (t *ℤ d) *ℤ c ≡ negsuc 0 *ℤ s → s ≤ℤ r
          → neg_ℤ r ≤ℤ (a +ℤ t *ℤ (d *ℤ c))
      turn a t d c s r e h =
          let m : (t *ℤ d) *ℤ c ≡ t *ℤ (d *ℤ c) = simp spread refl in
          let n : negsuc 0 *ℤ s ≡ neg_ℤ s = omega (arith, ints) in
          omega (arith, ints, e, h, m, n)

  pub never_falls : ⊥
  never_falls =
      let c = aim_value player (map neg_ℤ left) (change_of dir) in
      let k = mul_positive base.den (neg_ℤ c) ray.base_is.point (omega (arith, ints, falls)) in
      falls_below (aim_value player (map neg_ℤ left) (num_of base)) (base.den *ℤ c)
      (neg_ℤ (right *ℤ base.den)) (below base.den c k) within
    where
      below : (d c : ℤ) → (pos 0) <ℤ (d *ℤ neg_ℤ c) → (d *ℤ c) <ℤ (pos 0)
      below d c h = let e : d *ℤ neg_ℤ c ≡ neg_ℤ (d *ℤ c) = simp spread (omega (arith, ints)) in
          omega (arith, ints, h, e)
