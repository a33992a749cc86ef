-- From the least value of a player's aim to its answer, and from why there is none to the cause.
use Rattle.std.proofs.Common.{◌≡◌, ℕ, refl, sym, ap, subst, ◌∙◌, ℤ, pos, neg_ℤ, Result, Ok, Err, IfOk, IfErr, List, map, length, inl, inr}
use Rattle.std.proofs.lemmas.List.{length-map}
use Rattle.zr_base.specs.declared.step.Wide.{Wide}
use Rattle.zr_base.specs.Fractions.{Fraction, whole}
use Rattle.zr_base.specs.Lowest.{add_of, div_of}
use Rattle.zr_base.specs.Points.{PointOf}
use Rattle.zr_base.specs.Steps.{◌>>=◌}
use Rattle.zr_base.proofs.CrossLaws.{then_ok}
use Rattle.zr_io.specs.declared.purse.Purse.{Purse}
use Rattle.zr_game.specs.Forms.{IsGame, IsPlayer}
use Rattle.zr_game.specs.Means.{rest, slope}
use Rattle.zr_game.specs.Players.{GameOf, PlayerOf}
use Rattle.zr_game.specs.Profiles.{Profile}
use Rattle.zr_game.specs.Rays.{change_of}
use Rattle.zr_tree.specs.declared.tree.Tree.{Tree}
use Rattle.zr_bnb.specs.declared.answer.BnbStop.{BnbStop}
use Rattle.zr_bnb.specs.declared.answer.BnbStop.TheVariants as ABnb
use Rattle.zr_bnb.specs.declared.answer.LeastAnswer.TheVariants.{At, Below, Empty}
use Rattle.zr_bnb.specs.declared.answer.LeastAnswer.{LeastAnswer}
use Rattle.zr_bnb.specs.Answers.{IsLeastAnswer, MayAsk}
use Rattle.zr_bnb.specs.Causes.{IsBnbCause, IsLeastOpen}
use Rattle.zr_cert.specs.Certs.{MixtureOf, nodes_of, profile_with}
use Rattle.zr_check.specs.Bounds.{all_means}
use Rattle.zr_check.proofs.MadeClaims.{all_in_lowest}
use Rattle.zr_check.proofs.MadeLists.{are_means, slope_reduced}
use Rattle.zr_check.proofs.MadeSums.{rest_exact}
use Rattle.zr_mix.specs.Steps.{rest_steps}
use Rattle.zr_mix.specs.Values.{AreInLowestTerms, IsReduced}
use Rattle.zr_report.specs.declared.answer.Answer.{Answer}
use Rattle.zr_report.specs.declared.answer.Answer.TheVariants as AnAnswer
use Rattle.zr_game.specs.Feasible.{IsFeasible}
use Rattle.zr_tree.proofs.Descent.{none_at_root}
use Rattle.zr_best.specs.declared.stop.BestStop.{BestStop}
use Rattle.zr_best.specs.declared.stop.BestStop.TheVariants as AStop
use Rattle.zr_best.specs.Tellings.{IsTold, least_told}
use Rattle.zr_best.specs.Aims.{IsAimMade, IsWideLeastCost, MayAskAlong, least_cost}
use Rattle.zr_best.specs.Best.{ArePlayed, IsBestAnswer}
use Rattle.zr_best.specs.Causes.{IsAnswerCause}
use Rattle.zr_best.specs.Halts.{stop_for}
use Rattle.zr_best.proofs.Asking.{asked_also, first_aim, may_along}
use Rattle.zr_best.proofs.Falls.{falls_without_end}
use Rattle.zr_best.proofs.Leasts.{cost_made, least_proved}

module _ (game : GameOf) (form : IsGame game) (mixtures : List MixtureOf) (played : ArePlayed game mixtures)
    (means : List Fraction) (are : all_means game mixtures ≡ Ok means) (i : ℕ) (player : PlayerOf)
    (is : IsPlayer game i player) where
  len : length mixtures ≡ length game
  len = sym (length-map mixtures (λ m. m.parts)) ∙ played.valid.len

  module _ (by : ℤ) (aim : List ℤ) (made : IsAimMade game player means by aim) where
    lowest : AreInLowestTerms made.slopes (length player.vars) (slope player (profile_with mixtures))
    lowest =
        all_in_lowest made.slopes (length player.vars) (slope player (profile_with mixtures))
        (slope_reduced game mixtures len played.forms played.totals means are form i player is made.slopes made.are_slopes)

    others_are : (others : Fraction) → rest_steps game player means ≡ Ok others
        → IsReduced others (rest player (profile_with mixtures))
    others_are others e =
        rest_exact game form i player is (profile_with mixtures) means
        (are_means game mixtures len played.forms played.totals means are) others e

    pub best_at : (old new : Purse) (point : PointOf) (value cost : Fraction) (tree : Tree)
        → IsLeastAnswer player aim old new (At point value tree)
        → least_cost game player means by value ≡ Ok cost
        → IsBestAnswer player i (profile_with mixtures) (AnAnswer.Least cost tree)
    best_at old new point value cost tree answer e =
        let a = subst (λ (xs : List ℤ). IsLeastAnswer player xs old new (At point value tree)) made.aim_is answer in
        let s = then_ok (div_of value (whole by)) (λ v. rest_steps game player means >>= λ others. add_of v others) cost e in
        let t = then_ok (rest_steps game player means) (λ others. add_of s.0 others) cost s.2 in (
          point,
          cost_made game form (profile_with mixtures) played.valid i player is made.slopes by made.left made.right
              lowest made.claim value point a.1 s.0 t.0 cost s.1 (others_are t.0 t.1) t.2,
          least_proved game form (profile_with mixtures) played.valid i player is made.slopes by made.left made.right
              lowest made.claim value point a.1 s.0 s.1 (nodes_of tree) a.0 a.3 a.4,
        )

    pub best_below : (old new : Purse) (base : PointOf) (dir : _)
        → IsLeastAnswer player aim old new (Below base dir)
        → IsBestAnswer player i (profile_with mixtures) (AnAnswer.Below base dir)
    best_below old new base dir answer =
        let a = subst (λ (xs : List ℤ). IsLeastAnswer player xs old new (Below base dir)) made.aim_is answer in
        falls_without_end game form (profile_with mixtures) played.valid i player is made.slopes (whole (pos 0)) by
        made.left made.right lowest made.claim base dir.items a.0 a.1

    pub cause_of : (old new : Purse) (stop : BnbStop) → IsBnbCause i player aim old new stop
        → IsAnswerCause game mixtures means i player old new (stop_for i stop)
    cause_of old new ABnb.Spent h = h
    cause_of old new (ABnb.Wide asked) h =
        asked_also i player (MayAsk player aim) (MayAskAlong player (profile_with mixtures))
        (λ xs may. may_along game form (profile_with mixtures) played.valid i player is made.slopes by made.left
        made.right lowest made.claim xs (subst (λ (ys : List ℤ). MayAsk player ys xs) made.aim_is may)) asked h
    cause_of old new (ABnb.WideAim wide) h =
        inr (record {
          by = by;
          aim = aim;
          made = made;
          least = h.0;
          is_least = h.2;
          wide = inl (h.1, h.3, h.4);
        })
    cause_of old new (ABnb.Endless var dir) h = (
      refl,
      record {
        changes = h.0;
        aim = map neg_ℤ made.left;
        is_aim = first_aim game form (profile_with mixtures) played.valid i player is made.slopes by made.left made.right lowest made.claim;
        least_open = subst (λ (ys : List ℤ). IsLeastOpen player ys) made.aim_is h.1;
      },
    )
    cause_of old new ABnb.NoMemory h = tt

    -- a step of the cost that is too wide
    pub wide_cost : (old new : Purse) (point : PointOf) (value : Fraction) (tree : Tree) (w : Wide)
        → IsLeastAnswer player aim old new (At point value tree)
        → least_cost game player means by value ≡ Err w → IsWideLeastCost game player means w
    wide_cost old new point value tree w answer e = record {
      by = by;
      aim = aim;
      made = made;
      least = value;
      is_least = (point, answer.1);
      wide = inr e;
    }

    -- what was told is the answer, or why there is none
    module _ (old new : Purse) (result : Result Answer BestStop) where
      least_settled : (point : PointOf) (value : Fraction) (tree : Tree)
          → IsLeastAnswer player aim old new (At point value tree) → (r : Result Fraction Wide)
          → least_cost game player means by value ≡ r → result ≡ least_told tree r
          → IfOk result (IsBestAnswer player i (profile_with mixtures))
          × IfErr result (IsAnswerCause game mixtures means i player old new)
      least_settled point value tree answer (Ok cost) is e = (
        subst (λ (r : Result Answer BestStop). IfOk r (IsBestAnswer player i (profile_with mixtures))) (sym e)
            (best_at old new point value cost tree answer is),
        subst (λ (r : Result Answer BestStop). IfErr r (IsAnswerCause game mixtures means i player old new)) (sym e) tt,
      )
      least_settled point value tree answer (Err w) is e = (
        subst (λ (r : Result Answer BestStop). IfOk r (IsBestAnswer player i (profile_with mixtures))) (sym e) tt,
        subst (λ (r : Result Answer BestStop). IfErr r (IsAnswerCause game mixtures means i player old new)) (sym e)
            (inr (wide_cost old new point value tree w answer is)),
      )

      pub settled : (found : LeastAnswer) → IsLeastAnswer player aim old new found
          → ((tree : Tree) → found ≡ Empty tree → ⊥) → IsTold game player means by found result
          → IfOk result (IsBestAnswer player i (profile_with mixtures))
          × IfErr result (IsAnswerCause game mixtures means i player old new)
      settled (At point value tree) answer some told =
          least_settled point value tree answer (least_cost game player means by value) refl told
      settled (Empty tree) answer some told = absurd (some tree refl)
      settled (Below base dir) answer some told = (
        subst (λ (r : Result Answer BestStop). IfOk r (IsBestAnswer player i (profile_with mixtures))) (sym told)
            (best_below old new base dir answer),
        subst (λ (r : Result Answer BestStop). IfErr r (IsAnswerCause game mixtures means i player old new)) (sym told) tt,
      )

-- where the player has a point, the answer is not that it has none
pub not_empty : (game : GameOf) → IsGame game → (i : ℕ) (player : PlayerOf) → IsPlayer game i player
    → (aim : List ℤ) (old new : Purse) (found : LeastAnswer) → IsLeastAnswer player aim old new found
    → (x : PointOf) → IsFeasible player x → (tree : Tree) → found ≡ Empty tree → ⊥
not_empty game form i player is aim old new found answer x feasible tree e =
    let a = subst (IsLeastAnswer player aim old new) e answer in
    let g = form.players i player is in
    none_at_root player x feasible g.rows g.pairs a.0 a.2
