-- Points of the same values are feasible for a leader alike.
use Rattle.std.proofs.Common.{◌≡◌, ◌↔◌, ℕ, ◌+◌, refl, sym, ap, subst, ◌∙◌, ℤ, pos, ◌*ℤ◌, ◌<ℤ◌, length, get_or}
use Rattle.zr_base.proofs.Dense.{sum_to_same}
use Rattle.zr_base.proofs.Divisors.{mul_positive, same_value}
use Rattle.zr_base.proofs.Ring.{spread, mul_assoc}
use Rattle.zr_base.proofs.RowLaws.{row_holds_same}
use Rattle.zr_base.proofs.Worth.{Worth, worth-same, worth-wider}
use Rattle.zr_base.specs.Fractions.{HaveSameCross}
use Rattle.zr_base.specs.Points.{IsSamePoint, PointOf, num_of}
use Rattle.zr_base.proofs.SameLaws.{is_same, order_same, same_refl}
use Rattle.zr_game.proofs.SamePoints.{feasible_same}
use Rattle.zr_game.specs.Feasible.{IsFeasible}
use Rattle.zr_game.specs.Forms.{IsPlayerForm}
use Rattle.zr_game.specs.Players.{GameOf, PlayerOf}
use Rattle.zr_follow.proofs.Expanded.{expanded_feasible, leader_feasible}
use Rattle.zr_follow.proofs.Programs.{aim_of, own, program_of, worth_cost}
use Rattle.zr_follow.proofs.Sums.{sum_times}
use Rattle.zr_follow.proofs.Relations.{IsExpanded}
use Rattle.zr_source.specs.Optimal.{IsChoice, IsLeaderFeasible, IsOptimal, follower_cost}
use Rattle.zr_follow.specs.Programs.{along}
use Rattle.zr_follow.specs.BaseParts.{base_part}
use Rattle.zr_source.specs.SourceForms.{IsFollowerForm, IsLeaderForm}
use Rattle.zr_source.specs.Sources.{FollowerOf, LeaderOf}

module _ (x y : PointOf) (same : IsSamePoint x y) where
  x_positive : (pos 0) <ℤ x.den
  x_positive = same.left

  y_positive : (pos 0) <ℤ y.den
  y_positive = same.right

  module _ (f : FollowerOf) (columns : ℕ) (form : IsFollowerForm columns f) where
    abbrev aim : (ℕ → ℤ) → ℤ
    aim z = along (program_of f (num_of x) x.den) (aim_of f (num_of x) x.den) (own f z)

    worth_x : Worth (x.den *ℤ x.den) (follower_cost f x) (aim (num_of x))
    worth_x = worth_cost f columns form (num_of x) x.den x x_positive (λ v o. refl)

    worth_y : Worth (x.den *ℤ y.den) (follower_cost f y) (aim (num_of y))
    worth_y = worth_cost f columns form (num_of x) x.den y y_positive (λ v o. sym (same.values v))

    aim_same : aim (num_of x) *ℤ y.den ≡ aim (num_of y) *ℤ x.den
    aim_same =
        sum_times f.count (λ j. aim_of f (num_of x) x.den j *ℤ own f (num_of x) j) y.den ∙ sum_to_same f.count (λ j. (aim_of f (num_of x) x.den j *ℤ own f (num_of x) j) *ℤ y.den) (λ j. (aim_of f (num_of x) x.den j *ℤ own f (num_of y) j) *ℤ x.den) (λ j h. mul_assoc (aim_of f (num_of x) x.den j) (own f (num_of x) j) y.den ∙ ap (λ (n : ℤ). aim_of f (num_of x) x.den j *ℤ n) (same.values (f.first + j)) ∙ sym (mul_assoc (aim_of f (num_of x) x.den j) (own f (num_of y) j) x.den)) ∙ sym (sum_times f.count (λ j. aim_of f (num_of x) x.den j *ℤ own f (num_of y) j) x.den)

    cost_cross : HaveSameCross (follower_cost f x) (follower_cost f y)
    cost_cross =
        let d = (x.den *ℤ x.den) *ℤ y.den in
        let p = worth-wider (x.den *ℤ x.den) y.den (follower_cost f x) (aim (num_of x)) worth_x in
        let q = worth-wider (x.den *ℤ y.den) x.den (follower_cost f y) (aim (num_of y)) worth_y in
        worth-same d (follower_cost f x) (follower_cost f y) (aim (num_of x) *ℤ y.den) (mul_positive (x.den *ℤ x.den) y.den (mul_positive x.den x.den x_positive x_positive) y_positive) p (subst (λ (n : ℤ). Worth d (follower_cost f y) n) (sym aim_same) (subst (λ (e : ℤ). Worth e (follower_cost f y) (aim (num_of y) *ℤ x.den)) (turn x.den y.den) q))
      where
        turn : (a b : ℤ) → (a *ℤ b) *ℤ a ≡ (a *ℤ a) *ℤ b
        turn a b = simp spread

    choice_same : (w : PointOf) → IsChoice f y w → IsChoice f x w
    choice_same w is = record {
      point = is.point;
      len = is.len ∙ sym same.len;
      others = λ v o. record { left = is.point; right = x_positive; cross = same_value (num_of w v) w.den (num_of y v) y.den (num_of x v) x.den y_positive (is.others v o).cross (sym (same.values v)) };
      low = is.low;
      rows = is.rows;
    }

    pub optimal_same : IsOptimal f x → IsOptimal f y
    optimal_same optimal = record {
      point = y_positive;
      rows = λ k d h. row_holds_same x y (get_or f.rows k d) same (optimal.rows k d h);
      least = λ w is. let w_cost = worth_cost f columns form (num_of w) w.den w is.point (λ v o. refl) in order_same (follower_cost f x) (follower_cost f w) (follower_cost f y) (follower_cost f w) (is_same (follower_cost f x) (follower_cost f y) worth_x.below worth_y.below cost_cross) (same_refl (follower_cost f w) w_cost.below) (optimal.least w (choice_same w is));
    }

  pub leader_same : (leader : LeaderOf) → IsLeaderForm leader → IsLeaderFeasible leader x → IsLeaderFeasible leader y
  leader_same leader form feasible = record {
    base = feasible_same x y same leader.base feasible.base;
    answers = λ k d h. optimal_same (get_or leader.followers k d) (length leader.base.vars) (form.followers k d h) (feasible.answers k d h);
  }

-- both directions
pub feasible_exactly : (game : GameOf) (i : ℕ) (leader : LeaderOf) (player : PlayerOf) → IsPlayerForm game i leader.base → IsLeaderForm leader → IsExpanded leader player → (x : PointOf) → (pos 0) <ℤ x.den → (IsLeaderFeasible leader x ↔ ((z : PointOf) × IsSamePoint (base_part leader z) x × IsFeasible player z))
feasible_exactly game i leader player base_form form expanded x positive =
    (expanded_feasible game i leader player base_form form expanded x, λ found. leader_same (base_part leader found.0) x found.1 leader form (leader_feasible game i leader player base_form form expanded found.0 found.2))
