-- What is asked of a player's aim at an equilibrium.
use Rattle.std.proofs.Common.{◌≡◌, ℕ, zero, suc, arith, refl, sym, ap, ap₂, subst, ◌∙◌, ℤ, pos, neg_ℤ, ◌*ℤ◌, ◌-ℤ◌, Ok, Err, Result, List, [], ◌∷◌, map, inl, inr, All}
use Rattle.std.proofs.lemmas.Int.{ints}
use Rattle.std.proofs.lemmas.List.Elements.{All-head, All-tail}
use Rattle.zr_base.specs.declared.step.Wide.{Wide}
use Rattle.zr_base.specs.Fractions.{Fraction}
use Rattle.zr_base.specs.Steps.{IsNarrow, cross_of}
use Rattle.zr_base.proofs.CrossLaws.{cross_is}
use Rattle.zr_io.specs.declared.purse.Purse.{Purse}
use Rattle.zr_game.specs.Equilibria.{IsEquilibrium}
use Rattle.zr_game.specs.Forms.{IsGame, IsPlayer}
use Rattle.zr_game.specs.Players.{GameOf, PlayerOf}
use Rattle.zr_game.specs.Profiles.{Profile}
use Rattle.zr_asked.specs.declared.question.Asked.{Asked}
use Rattle.zr_asked.specs.declared.question.Asked.TheVariants.{Branch, Choices}
use Rattle.zr_asked.specs.declared.question.AskedLp.{AskedLp}
use Rattle.zr_asked.specs.Stuck.{Aims, IsStuckAsked, IsStuckQuestion}
use Rattle.zr_lin.specs.declared.stuck.Stuck.{Stuck}
use Rattle.zr_simplex.specs.Programs.{numbers}
use Rattle.zr_bnb.specs.declared.answer.BnbStop.{BnbStop}
use Rattle.zr_bnb.specs.declared.answer.BnbStop.TheVariants as ABnb
use Rattle.zr_bnb.specs.Answers.{MayAsk}
use Rattle.zr_bnb.specs.Causes.{IsBnbCause}
use Rattle.zr_bnb.specs.Values.{IsLeastValue}
use Rattle.zr_mix.specs.Checks.{IsClaimOf}
use Rattle.zr_costs.specs.Causes.{IsOwnAim, MayAskOwn}
use Rattle.zr_costs.specs.Halts.{IsPlainStop}
use Rattle.zr_costs.proofs.Leasts.{whole_least}

times_one : (m : ℤ) (xs : List ℤ) → m ≡ pos 1 → map (λ z. m *ℤ z) xs ≡ xs
times_one m [] e = refl
times_one m (x ∷ xs) e = ap₂ ◌∷◌ (turn x) (times_one m xs e)
  where
    turn : (x : ℤ) → m *ℤ x ≡ x
    turn x = rw e (omega (arith, ints))

-- a stuck question is one with other aims that may be asked
asked_also : (i : ℕ) (player : PlayerOf) (May Also : Aims)
    → ((aim : List ℤ) → May aim → Also aim)
    → (asked : AskedLp) → IsStuckAsked i player May asked → IsStuckAsked i player Also asked
asked_also i player May Also also asked h = question asked.question asked.stuck h
  where
    question : (q : Asked) (stuck : Stuck) → IsStuckQuestion i player May q stuck
        → IsStuckQuestion i player Also q stuck
    question (Branch p path aim) stuck h = (h.0, also aim.items h.1, h.2)
    question (Choices path) stuck h = absurd h

number_narrow : (xs : List ℤ) (v : ℕ) → All IsNarrow xs → IsNarrow (numbers xs v)
number_narrow [] v all = omega arith
number_narrow (x ∷ xs) zero all = All-head IsNarrow x xs all
number_narrow (x ∷ xs) (suc v) all = number_narrow xs v (All-tail IsNarrow x xs all)

-- a narrow number times 1 is no step too wide
never_wide : (m z : ℤ) (w : Wide) → m ≡ pos 1 → IsNarrow z → cross_of (m, z) (pos 0, pos 0) ≡ Err w
    → ⊥
never_wide m z w one h e =
    let a : m *ℤ z ≡ z = rw one (omega (arith, ints)) in
    let b : m *ℤ z -ℤ pos 0 *ℤ pos 0 ≡ z = omega (arith, ints, a) in
    apart (sym (cross_is (m, z) (pos 0, pos 0) (subst IsNarrow (sym a) h) (omega (arith, ints))
    (subst IsNarrow (sym b) h)) ∙ e)
  where
    apart : {v : ℤ} → ◌≡◌ {A = Result ℤ Wide} (Ok v) (Err w) → ⊥
    apart e = cc

module _ (game : GameOf) (form : IsGame game) (profile : Profile)
    (equilibrium : IsEquilibrium game profile) (i : ℕ) (player : PlayerOf)
    (is : IsPlayer game i player) (left : List ℤ) (right : ℤ)
    (claim : IsClaimOf player i profile left right) where
  pub own_aim : IsOwnAim i player profile (map neg_ℤ left)
  own_aim = (
    claim.value,
    claim.is_value,
    record {
      slopes = claim.slopes;
      by = claim.by;
      left = left;
      right = right;
      are_slopes = claim.are_slopes;
      claim = claim.claim;
      aim_is = refl;
    },
  )

  den_is : (f : Fraction) → IsLeastValue player (map neg_ℤ left) f → f.den ≡ pos 1
  den_is f least =
      ap (λ (g : Fraction). g.den)
      (whole_least game form profile equilibrium i player is left right claim f least.0 least.1)

  pub may_own : (aim : List ℤ) → MayAsk player (map neg_ℤ left) aim → MayAskOwn i player profile aim
  may_own aim (inl e) = inl (subst (IsOwnAim i player profile) (sym e) own_aim)
  may_own aim (inr (inl (f, least, e))) =
      inl (subst (IsOwnAim i player profile)
      (sym (e ∙ times_one f.den (map neg_ℤ left) (den_is f least))) own_aim)
  may_own aim (inr (inr h)) = inr h

  pub stuck_own : (asked : AskedLp) → IsStuckAsked i player (MayAsk player (map neg_ℤ left)) asked
      → IsStuckAsked i player (MayAskOwn i player profile) asked
  stuck_own asked h =
      asked_also i player (MayAsk player (map neg_ℤ left))
      (MayAskOwn i player profile) may_own asked h

  -- no product of the aim is too wide
  pub plain_stop : (old new : Purse) (stop : BnbStop) → All IsNarrow (map neg_ℤ left)
      → IsBnbCause i player (map neg_ℤ left) old new stop → IsPlainStop stop
  plain_stop old new ABnb.Spent narrow h = tt
  plain_stop old new (ABnb.Wide asked) narrow h = tt
  plain_stop old new (ABnb.WideAim wide) narrow (f, v, least, below, e) =
      never_wide f.den (numbers (map neg_ℤ left) v) wide (den_is f least)
      (number_narrow (map neg_ℤ left) v narrow) e
  plain_stop old new (ABnb.Endless var dir) narrow h = tt
  plain_stop old new ABnb.NoMemory narrow h = tt
