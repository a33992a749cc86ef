-- Matching pennies: two halves are an equilibrium, and no pure profile is one.
use Rattle.std.proofs.Common.{◌≡◌, ◌≢◌, ℕ, zero, suc, ◌<◌, arith, refl, sym, subst, ◌∙◌, ℤ, pos, negsuc, ◌+ℤ◌, ◌*ℤ◌, ◌≤ℤ◌, ◌<ℤ◌, true, List, [], ◌∷◌, length, get_or, slice_get, Some, All, ◌⊎◌, inl, inr, ⊎_elim}
use Rattle.std.proofs.lemmas.Int.{ints}
use Rattle.std.proofs.lemmas.List.Elements.{All-cons, All-nil}
use Rattle.zr_base.proofs.SameLaws.{same_point_refl}
use Rattle.zr_base.specs.Fractions.{Fraction, IsAtMost, HaveSameCross}
use Rattle.zr_base.specs.Points.{IsSamePoint, PointOf, num_of, value_of}
use Rattle.zr_base.specs.Rows.{RowHolds}
use Rattle.zr_game.specs.declared.player.CrossTerm.{CrossTerm}
use Rattle.zr_game.specs.Players.{PairOf, PlayerOf, VarOf}
use Rattle.zr_game.specs.Forms.{HasVar, IsCoefficient, IsCrossForm, IsFromZero, IsGame, IsOtherForm, IsPairForm, IsPlayer, IsPlayerForm, IsRowForm, IsVarForm}
use Rattle.zr_game.specs.Feasible.{IsFeasible, IsWithin, PairHolds}
use Rattle.zr_game.specs.Costs.{cost_of, point_of}
use Rattle.zr_game.specs.Profiles.{IsProfile, IsStrategy, Part, Profile, strategy_of}
use Rattle.zr_game.specs.Equilibria.{IsEquilibrium}
use Rattle.zr_game.specs.Means.{IsBestAlongSlope, along_slope, mean, slope}
use Rattle.zr_game.specs.PureProfiles.{IsStableAt, first_point}
use Rattle.zr_game.specs.Pennies.{half_half, pennies, penny, penny_player}
use Rattle.zr_game.proofs.MeanLaws.{equilibria}
use Rattle.zr_game.proofs.PureEquilibria.{AreSame, costs_ordered, pure_equilibria}
use Rattle.zr_game.proofs.PureLaws.{IsOne}
use Rattle.zr_game.proofs.PurePoints.{first_feasible}
use Rattle.zr_game.proofs.WholePoints.{IsWholeValue, whole_value}

abbrev a_term : CrossTerm
a_term = record { own = 0; player = 1; var = 0; coef = pos 4 }

abbrev b_term : CrossTerm
b_term = record { own = 0; player = 0; var = 0; coef = negsuc 3 }

abbrev a : PlayerOf
a = penny_player (negsuc 1) a_term

abbrev b : PlayerOf
b = penny_player (pos 2) b_term

-- the variable of a penny
abbrev coin : VarOf
coin = record { name = []; whole = true; low = Some (pos 0); up = Some (pos 1) }

one_of : (P : ℕ → PlayerOf → Type 0) → P 0 a → P 1 b → (i : ℕ) (player : PlayerOf)
    → IsPlayer pennies i player → P i player
one_of P first second zero player e = let s : a ≡ player = cc in subst (P 0) s first
one_of P first second (suc zero) player e = let s : b ≡ player = cc in subst (P 1) s second
one_of P first second (suc (suc i)) player e = absurd cc

one_var : (v : ℕ) (found : VarOf) → slice_get (coin ∷ []) v ≡ Some found → (v ≡ 0) × (found ≡ coin)
one_var zero found e = (refl, cc)
one_var (suc v) found e = absurd cc

module _ (number : ℤ) (term : CrossTerm) where
  penny_feasible : (z : ℤ) → (pos 0) ≤ℤ z → z ≤ℤ (pos 1)
      → IsFeasible (penny_player number term) (penny z)
  penny_feasible z low high = record {
    point = omega (arith, ints);
    len = refl;
    bounds = λ v found e. let o = one_var v found e in
        subst (λ w. IsWithin w (num_of (penny z) v) (pos 1)) (sym o.1)
        (subst (λ k. IsWithin coin (num_of (penny z) k) (pos 1)) (sym o.0)
        (record {
          low = omega (arith, ints, low);
          high = omega (arith, ints, high);
          whole = λ h. (z, omega (arith, ints));
        }));
    rows = All-nil (RowHolds (penny z));
    pairs = All-nil (PairHolds (penny z));
  }

  half_valid : IsStrategy (penny_player number term) half_half
  half_valid =
      let zero_point : Part = record { weight = pos 1; point = penny (pos 0) } in
      let one_point : Part = record { weight = pos 1; point = penny (pos 1) } in
      let W = λ (part : Part). (pos 1) ≤ℤ part.weight in
      let F = λ (part : Part). IsFeasible (penny_player number term) part.point in
      record {
        some = omega arith;
        weights = All-cons W zero_point (one_point ∷ []) (omega (arith, ints))
            (All-cons W one_point [] (omega (arith, ints)) (All-nil W));
        points = All-cons F zero_point (one_point ∷ [])
            (penny_feasible (pos 0) (omega (arith, ints)) (omega (arith, ints)))
            (All-cons F one_point []
            (penny_feasible (pos 1) (omega (arith, ints)) (omega (arith, ints))) (All-nil F));
      }

  penny_form : (i : ℕ) → term.own ≡ 0 → term.player < 2 → term.player ≢ i
      → HasVar pennies term.player term.var → IsCoefficient number → IsCoefficient term.coef
      → IsPlayerForm pennies i (penny_player number term)
  penny_form i own there apart has number_form coef_form = record {
    some_var = omega arith;
    var_count = omega arith;
    row_count = omega arith;
    pair_count = omega arith;
    cross_count = omega arith;
    other_count = omega arith;
    vars = All-cons IsVarForm coin [] coin_form (All-nil IsVarForm);
    rows = All-nil (IsRowForm 1);
    pairs = All-nil (IsPairForm 1);
    from_zero = All-nil (λ (pair : PairOf). IsFromZero (coin ∷ []) pair.var);
    cost = (omega arith, omega arith, number_form, tt);
    cross = All-cons (IsCrossForm pennies i 1) term []
        (record { own = omega arith; player = there; other = apart; var = has; coef = coef_form })
        (All-nil (IsCrossForm pennies i 1));
    cross_ascends = λ k j d below within. absurd (omega arith);
    others = All-nil (IsOtherForm pennies i);
    others_ascend = λ k j d below within. absurd (omega arith);
  }
    where
      coin_form : IsVarForm coin
      coin_form = record {
        low = λ z e. let s : pos 0 ≡ z = cc in rw (← s) (omega (arith, ints), omega (arith, ints));
        up = λ z e. let s : pos 1 ≡ z = cc in rw (← s) (omega (arith, ints), omega (arith, ints));
        ordered = λ l e u f. let s : pos 0 ≡ l = cc in let t : pos 1 ≡ u = cc in
            rw (← s, ← t) (omega (arith, ints));
      }

has_first : (k : ℕ) → HasVar pennies k 0
has_first k player e = one_of (λ i p. 0 < length p.vars) (omega arith) (omega arith) k player e

form : IsGame pennies
form = record {
  some_player = omega arith;
  player_count = omega arith;
  players = one_of (IsPlayerForm pennies) (penny_form (negsuc 1) a_term 0 refl (omega arith)
      (λ e. absurd (omega arith)) (has_first 1) coef_a coef_at_a)
      (penny_form (pos 2) b_term 1 refl (omega arith) (λ e. absurd (omega arith)) (has_first 0)
      coef_b coef_at_b);
}
  where
    coef_a : IsCoefficient (negsuc 1)
    coef_a = ((omega (arith, ints), omega (arith, ints)), λ e. omega (arith, ints))

    coef_at_a : IsCoefficient (pos 4)
    coef_at_a = ((omega (arith, ints), omega (arith, ints)), λ e. omega (arith, ints))

    coef_b : IsCoefficient (pos 2)
    coef_b = ((omega (arith, ints), omega (arith, ints)), λ e. omega (arith, ints))

    coef_at_b : IsCoefficient (negsuc 3)
    coef_at_b = ((omega (arith, ints), omega (arith, ints)), λ e. omega (arith, ints))

abbrev halves : Profile
halves = half_half ∷ half_half ∷ []

valid : IsProfile pennies halves
valid = record {
  len = refl;
  strategies = one_of (λ i player. IsStrategy player (strategy_of halves i))
      (half_valid (negsuc 1) a_term) (half_valid (pos 2) b_term);
}

flat : (s n q : ℤ) → s ≡ pos 0 → pos 0 *ℤ q +ℤ (s *ℤ n) *ℤ pos 1 ≡ pos 0
flat s n q e = rw e (omega (arith, ints))

level : (f g : Fraction) → f.num ≡ pos 0 → g.num ≡ pos 0 → IsAtMost f g
level f g e h = rw (e, h) (omega (arith, ints))

a_flat : (f : ℕ → Fraction) → (along_slope a halves f).num ≡ pos 0
a_flat f = flat (slope a halves 0).num (f 0).num ((slope a halves 0).den *ℤ (f 0).den) refl

b_flat : (f : ℕ → Fraction) → (along_slope b halves f).num ≡ pos 0
b_flat f = flat (slope b halves 0).num (f 0).num ((slope b halves 0).den *ℤ (f 0).den) refl

best : IsBestAlongSlope pennies halves
best =
    one_of (λ i player. (x : PointOf) → IsFeasible player x
    → IsAtMost (along_slope player halves (mean (strategy_of halves i)))
    (along_slope player halves (value_of x)))
    (λ x f. level (along_slope a halves (mean half_half)) (along_slope a halves (value_of x))
    (a_flat (mean half_half)) (a_flat (value_of x)))
    (λ x f. level (along_slope b halves (mean half_half)) (along_slope b halves (value_of x))
    (b_flat (mean half_half)) (b_flat (value_of x)))

pub pennies_stable : IsEquilibrium pennies halves
pennies_stable = (equilibria pennies form halves valid).1 best

-- a feasible point of a penny is that of 0 or of 1
module _ (number : ℤ) (term : CrossTerm) (x : PointOf)
    (feasible : IsFeasible (penny_player number term) x) where
  coin_value : IsWholeValue (num_of x 0) x.den (pos 0) (pos 1)
  coin_value = whole_value (penny_player number term) x feasible 0 coin refl refl (pos 0) (pos 1)
      refl refl

  is_penny : (k : ℤ) → num_of x 0 ≡ k *ℤ x.den → IsSamePoint x (penny k)
  is_penny k e = record {
    left = feasible.point;
    right = omega (arith, ints);
    len = feasible.len;
    values = each;
  }
    where
      each : (v : ℕ) → HaveSameCross (value_of x v) (value_of (penny k) v)
      each zero = let one : num_of x 0 *ℤ pos 1 ≡ num_of x 0 = omega (arith, ints) in one ∙ e
      each (suc v) = let z = only_one x.num feasible.len v in rw z (omega (arith, ints))
        where
          only_one : (xs : List ℤ) → length xs ≡ 1 → (v : ℕ) → get_or xs (suc v) (pos 0) ≡ pos 0
          only_one [] len v = refl
          only_one (y ∷ []) len v = refl
          only_one (y ∷ z ∷ xs) len v = absurd (omega arith)

  either : IsSamePoint x (penny (pos 0)) ⊎ IsSamePoint x (penny (pos 1))
  either = ⊎_elim (λ (e : coin_value.k ≡ pos 0). inl (is_penny (pos 0) (rw e at coin_value.is)))
      (λ (e : coin_value.k ≡ pos 1). inr (is_penny (pos 1) (rw e at coin_value.is)))
      (bit coin_value.k coin_value.low coin_value.high)
    where
      bit : (k : ℤ) → (pos 0) ≤ℤ k → k ≤ℤ (pos 1) → (k ≡ pos 0) ⊎ (k ≡ pos 1)
      bit (pos zero) low high = inl refl
      bit (pos (suc zero)) low high = inr refl
      bit (pos (suc (suc n))) low high = absurd (omega (arith, ints, high))
      bit (negsuc n) low high = absurd (omega (arith, ints, low))

two_same : (x y p q : PointOf) → IsSamePoint x p → IsSamePoint y q
    → AreSame (x ∷ y ∷ []) (p ∷ q ∷ [])
two_same x y p q first second = record { dens = dens; other_dens = other_dens; values = values }
  where
    dens : (k : ℕ) → (pos 0) <ℤ (point_of (x ∷ y ∷ []) k).den
    dens zero = first.left
    dens (suc zero) = second.left
    dens (suc (suc k)) = omega (arith, ints)

    other_dens : (k : ℕ) → (pos 0) <ℤ (point_of (p ∷ q ∷ []) k).den
    other_dens zero = first.right
    other_dens (suc zero) = second.right
    other_dens (suc (suc k)) = omega (arith, ints)

    values : (k v : ℕ)
        → HaveSameCross (value_of (point_of (x ∷ y ∷ []) k) v)
        (value_of (point_of (p ∷ q ∷ []) k) v)
    values zero v = first.values v
    values (suc zero) v = second.values v
    values (suc (suc k)) v = refl

module _ (x y : PointOf) (x_feasible : IsFeasible a x) (y_feasible : IsFeasible b y)
    (stable : IsStableAt pennies (x ∷ y ∷ [])) where
  a_stays : (k l z : ℤ) → IsSamePoint x (penny k) → IsSamePoint y (penny l) → (pos 0) ≤ℤ z
      → z ≤ℤ (pos 1)
      → IsAtMost (cost_of a 0 (penny k ∷ penny l ∷ [])) (cost_of a 0 (penny z ∷ penny l ∷ []))
  a_stays k l z first second low high =
      let other = same_point_refl (penny z) (omega (arith, ints)) in
      let before = two_same x y (penny k) (penny l) first second in
      let after = two_same (penny z) y (penny z) (penny l) other second in
      let stays = stable 0 a refl (penny z) (penny_feasible (negsuc 1) a_term z low high) in
      costs_ordered a 0 (x ∷ y ∷ []) (penny z ∷ y ∷ []) (penny k ∷ penny l ∷ [])
      (penny z ∷ penny l ∷ []) before after stays

  b_stays : (k l z : ℤ) → IsSamePoint x (penny k) → IsSamePoint y (penny l) → (pos 0) ≤ℤ z
      → z ≤ℤ (pos 1)
      → IsAtMost (cost_of b 1 (penny k ∷ penny l ∷ [])) (cost_of b 1 (penny k ∷ penny z ∷ []))
  b_stays k l z first second low high =
      let other = same_point_refl (penny z) (omega (arith, ints)) in
      let before = two_same x y (penny k) (penny l) first second in
      let after = two_same x (penny z) (penny k) (penny z) first other in
      let stays = stable 1 b refl (penny z) (penny_feasible (pos 2) b_term z low high) in
      costs_ordered b 1 (x ∷ y ∷ []) (x ∷ penny z ∷ []) (penny k ∷ penny l ∷ [])
      (penny k ∷ penny z ∷ []) before after stays

  zero_zero : IsSamePoint x (penny (pos 0)) → IsSamePoint y (penny (pos 0)) → ⊥
  zero_zero p q = let h = a_stays (pos 0) (pos 0) (pos 1) p q (omega (arith, ints))
      (omega (arith, ints)) in omega (arith, ints, h)

  zero_one : IsSamePoint x (penny (pos 0)) → IsSamePoint y (penny (pos 1)) → ⊥
  zero_one p q = let h = b_stays (pos 0) (pos 1) (pos 0) p q (omega (arith, ints))
      (omega (arith, ints)) in omega (arith, ints, h)

  one_zero : IsSamePoint x (penny (pos 1)) → IsSamePoint y (penny (pos 0)) → ⊥
  one_zero p q = let h = b_stays (pos 1) (pos 0) (pos 1) p q (omega (arith, ints))
      (omega (arith, ints)) in omega (arith, ints, h)

  one_one : IsSamePoint x (penny (pos 1)) → IsSamePoint y (penny (pos 1)) → ⊥
  one_one p q = let h = a_stays (pos 1) (pos 1) (pos 0) p q (omega (arith, ints))
      (omega (arith, ints)) in omega (arith, ints, h)

  never_stable : ⊥
  never_stable =
      let other = either (pos 2) b_term y y_feasible in
      ⊎_elim (λ (p : IsSamePoint x (penny (pos 0))). ⊎_elim
      (λ (q : IsSamePoint y (penny (pos 0))). zero_zero p q)
      (λ (q : IsSamePoint y (penny (pos 1))). zero_one p q) other)
      (λ (p : IsSamePoint x (penny (pos 1))). ⊎_elim
      (λ (q : IsSamePoint y (penny (pos 0))). one_zero p q)
      (λ (q : IsSamePoint y (penny (pos 1))). one_one p q) other)
      (either (negsuc 1) a_term x x_feasible)

pub no_pure : (profile : Profile) → All IsOne profile → IsEquilibrium pennies profile → ⊥
no_pure [] pure e = let len = e.valid.len in omega arith
no_pure (s ∷ []) pure e = let len = e.valid.len in omega arith
no_pure (s ∷ t ∷ []) pure e =
    never_stable (first_point s) (first_point t) (first_feasible a s (e.valid.strategies 0 a refl))
    (first_feasible b t (e.valid.strategies 1 b refl))
    ((pure_equilibria pennies (s ∷ t ∷ []) e.valid pure).0 e)
no_pure (s ∷ t ∷ u ∷ rest) pure e = let len = e.valid.len in omega arith
