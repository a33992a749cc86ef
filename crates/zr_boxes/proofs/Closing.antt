-- What the tests of a node without children say of its box.
use Rattle.std.proofs.Common.{◌≡◌, ◌↔◌, ℕ, ℤ, refl, subst, pos, ◌<ℤ◌, Bool, ◌&&◌, IsTrue, IsErr, IsSome, Option, Some, None, Result, Ok, Err, length, sym, ⊎_elim, inl, inr}
use Rattle.zr_base.specs.declared.step.Wide.{Wide}
use Rattle.zr_base.specs.Points.{PointOf}
use Rattle.zr_base.specs.Tests.{Tells}
use Rattle.zr_base.proofs.Telling.{both_true, true_both}
use Rattle.zr_game.specs.Players.{GameOf, PlayerOf}
use Rattle.zr_game.specs.Forms.{IsPlayer}
use Rattle.zr_game.specs.Feasible.{IsFeasible}
use Rattle.zr_game.specs.FeasibleSteps.{feasible_wide}
use Rattle.zr_game.proofs.Items.{one}
use Rattle.zr_tree.specs.Nodes.{Multipliers}
use Rattle.zr_tree.specs.Right.{IsRefutation}
use Rattle.zr_cases.specs.Cases.{DeviateNode, EmptyNode}
use Rattle.zr_boxes.specs.Boxes.{BoxOf}
use Rattle.zr_boxes.specs.Gains.{IsBounded, least_gain}
use Rattle.zr_boxes.specs.GainSteps.{gain_steps}
use Rattle.zr_boxes.specs.Right.{IsBetter}
use Rattle.zr_boxes.specs.Steps.{HasWideGain, HasWideRows}
use Rattle.zr_boxes.specs.Visits.{EndTells, RowsTell}
use Rattle.zr_boxes.proofs.GainSums.{gain_exact}

ok_err : {A : Type 0} (r : Result A Wide) (a : A) → r ≡ Ok a → IsErr r → ⊥
ok_err (Ok x) a e h = cc
ok_err (Err w) a e h = cc

is_err : {A : Type 0} (r : Result A Wide) (w : Wide) → r ≡ Err w → IsErr r
is_err r w e = subst (λ s. IsErr s) (sym e) refl

none_some : (o : Option Wide) → o ≡ None → IsSome o → ⊥
none_some None e h = cc
none_some (Some w) e h = cc

is_some : (o : Option Wide) (w : Wide) → o ≡ Some w → IsSome o
is_some o w e = subst (λ p. IsSome p) (sym e) refl

module _ (game : GameOf) (box : BoxOf) (i : ℕ) (player : PlayerOf) (is : IsPlayer game i player)
  where
    module _ (x : PointOf) (len : length x.num ≡ length player.vars)
        (bounded : IsBounded player i box) where
      pub wide_point : (w : Wide) → feasible_wide player x ≡ Some w
          → EndTells (Err w) game box (DeviateNode i x)
      wide_point w e = (
        player,
        is,
        record { len = len; bounded = bounded; wide = inl (is_some (feasible_wide player x) w e) },
      )

      pub wide_gain : (w : Wide)
          → gain_steps player i box x (pos 0) 0 (length player.vars) ≡ Err w
          → EndTells (Err w) game box (DeviateNode i x)
      wide_gain w e = (
        player,
        is,
        record { len = len; bounded = bounded; wide = inr (is_err _ w e) },
      )

      pub better_tells : (feasible above : Bool) (gain : ℤ)
          → Tells (Ok feasible) (IsFeasible player x) (feasible_wide player x)
          → gain_steps player i box x (pos 0) 0 (length player.vars) ≡ Ok gain
          → (IsTrue above ↔ ((pos 0) <ℤ gain))
          → EndTells (Ok (feasible && above)) game box (DeviateNode i x)
      better_tells feasible above gain tells made is_above = (
        λ w. narrow (subst (λ (p : PlayerOf). HasWideGain p i box x)
            (one game i w.0 player w.1 is) w.2),
        (
          λ h. let b = both_true feasible above h in (
            player,
            is,
            record {
              feasible = tells.1.0 b.0;
              bounded = bounded;
              gain = subst (λ z. (pos 0) <ℤ z) value (is_above.0 b.1);
            },
          ),
          λ p. back (subst (λ (q : PlayerOf). IsBetter q i box x) (one game i p.0 player p.1 is)
              p.2),
        ),
      )
        where
          value : gain ≡ least_gain player i box x
          value = gain_exact player i box x gain made

          narrow : HasWideGain player i box x → ⊥
          narrow w =
              ⊎_elim (none_some (feasible_wide player x) tells.0)
              (ok_err (gain_steps player i box x (pos 0) 0 (length player.vars)) gain made) w.wide

          back : IsBetter player i box x → IsTrue (feasible && above)
          back b =
              true_both feasible above (tells.1.1 b.feasible)
              (is_above.1 (subst (λ z. (pos 0) <ℤ z) (sym value) b.gain))

    module _ (mult : Multipliers) where
      pub rows_tell : (result : Result Bool Wide) → RowsTell result player (box i) mult
          → EndTells result game box (EmptyNode i mult)
      rows_tell (Err w) h = (player, is, h)
      rows_tell (Ok refutes) h = (
        λ w. h.0 (subst (λ (p : PlayerOf). HasWideRows p (box i) mult) (one game i w.0 player w.1 is)
            w.2),
        (
          λ r. (player, is, h.1.0 r),
          λ p. h.1.1 (subst (λ (q : PlayerOf). IsRefutation q (box i) (pos 0) mult)
              (one game i p.0 player p.1 is) p.2),
        ),
      )
