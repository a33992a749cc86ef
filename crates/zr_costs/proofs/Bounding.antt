-- From the least value of a player's aim to its bound, and from a stop to the cause.
use Rattle.std.proofs.Common.{◌≡◌, ℕ, arith, refl, sym, ap, subst, ◌∙◌, neg_ℤ, ◌≤◌, ◌+◌, ◌-◌, ◌*◌, List, [], ◌∷◌, map, length, All}
use Rattle.std.proofs.lemmas.List.{length-map}
use Rattle.zr_base.specs.Fractions.{Fraction, whole}
use Rattle.zr_base.specs.Points.{PointOf}
use Rattle.zr_base.proofs.Members.{each_of_all}
use Rattle.zr_io.specs.declared.purse.Purse.{Purse}
use Rattle.zr_game.specs.Feasible.{IsFeasible}
use Rattle.zr_game.specs.Forms.{IsGame, IsPlayer}
use Rattle.zr_game.specs.Leaves.{Bound as RowBound, bound_with, root_leaf}
use Rattle.zr_game.specs.Players.{GameOf, PlayerOf}
use Rattle.zr_game.specs.Profiles.{IsStrategy, Strategy, expected_cost, strategy_of}
use Rattle.zr_tree.specs.declared.tree.Tree.{Tree}
use Rattle.zr_tree.specs.Form.{IsNodeForm}
use Rattle.zr_tree.specs.Nodes.{node_of}
use Rattle.zr_tree.specs.Right.{IsRight}
use Rattle.zr_tree.specs.Trees.{TreeOf, preorder}
use Rattle.zr_tree.proofs.Descent.{none_at_root}
use Rattle.zr_bnb.specs.declared.answer.BnbStop.{BnbStop}
use Rattle.zr_bnb.specs.declared.answer.BnbStop.TheVariants as ABnb
use Rattle.zr_bnb.specs.declared.answer.LeastAnswer.{LeastAnswer}
use Rattle.zr_bnb.specs.declared.answer.LeastAnswer.TheVariants.{At, Below, Empty}
use Rattle.zr_bnb.specs.Answers.{HasFewNodes, IsLeastAnswer, MayAsk}
use Rattle.zr_bnb.specs.Causes.{IsBnbCause}
use Rattle.zr_bnb.specs.Values.{least_row}
use Rattle.zr_mix.specs.Checks.{IsClaimOf}
use Rattle.zr_mix.specs.Values.{IsReduced}
use Rattle.zr_cert.specs.declared.cert.Bound.{Bound}
use Rattle.zr_cert.specs.Certs.{MixtureOf, nodes_of, profile_with}
use Rattle.zr_cert.specs.Forms.{IsBoundNode}
use Rattle.zr_check.specs.Bounds.{IsCostMade}
use Rattle.zr_check.proofs.MadeCosts.{claim_of_cost}
use Rattle.zr_costs.specs.declared.claim.Paid.{Paid}
use Rattle.zr_costs.specs.declared.stop.CostStop.{CostStop}
use Rattle.zr_costs.specs.Causes.{IsBoundCause, MayAskOwn}
use Rattle.zr_costs.specs.Costs.{AreStableMeans}
use Rattle.zr_costs.specs.Drawn.{IsDrawnTree}
use Rattle.zr_costs.specs.Halts.{HasLeast, IsBoundBy, IsBoundMade, IsPaid, IsPlainStop, IsStopFor}
use Rattle.zr_costs.proofs.Asking.{may_own, own_aim, plain_stop, stuck_own}
use Rattle.zr_costs.proofs.DrawnEnds.{drawn_also}
use Rattle.zr_costs.proofs.Forms.{bound_nodes}
use Rattle.zr_costs.proofs.Leasts.{row_is, whole_least}
use Rattle.zr_costs.proofs.Narrow.{all_turned_narrow, left_narrow}
use Rattle.zr_costs.proofs.Rays.{never_falls}

-- a strategy has a feasible point
first_point : (player : PlayerOf) (parts : Strategy) → IsStrategy player parts
    → (x : PointOf) × IsFeasible player x
first_point player [] s = absurd (let p = s.some in omega (arith, p))
first_point player (part ∷ parts) s = (part.point, s.points 0 part (omega arith))

module _ (game : GameOf) (form : IsGame game) (mixtures : List MixtureOf) (means : List Fraction)
    (stable : AreStableMeans game mixtures means) (i : ℕ) (player : PlayerOf)
    (is : IsPlayer game i player) (paid : Paid) (made : IsPaid game i player means paid) where
  as_many : length mixtures ≡ length game
  as_many = sym (length-map mixtures (λ m. m.parts)) ∙ stable.played.valid.len

  cost_made : IsCostMade game mixtures i player paid.cost paid.left.items made.0
  cost_made = record { means = means; are_means = stable.are_means; made = made.1 }

  claimed : IsClaimOf player i (profile_with mixtures) paid.left.items made.0
      × IsReduced paid.cost (expected_cost player i (profile_with mixtures))
  claimed =
      claim_of_cost game form mixtures as_many stable.played.forms stable.played.totals
      stable.played.valid i player is paid.cost paid.left.items made.0 cost_made

  pub aim_len : length (map neg_ℤ paid.left.items) ≡ length player.vars
  aim_len =
      length-map paid.left.items neg_ℤ ∙ claimed.0.claim.len ∙ claimed.0.are_slopes.len

  -- a point with the least value is found
  pub has_least : (old new : Purse) (found : LeastAnswer)
      → IsLeastAnswer player (map neg_ℤ paid.left.items) old new found → HasLeast found
  has_least old new (At point value tree) answer = tt
  has_least old new (Empty tree) answer =
      let g = form.players i player is in
      let x = first_point player (strategy_of (profile_with mixtures) i)
      (stable.played.valid.strategies i player is) in
      none_at_root player x.0 x.1 g.rows g.pairs answer.0 answer.2
  has_least old new (Below base dir) answer =
      never_falls game form (profile_with mixtures) stable.equilibrium i player is paid.left.items
      made.0 claimed.0 base dir.items answer.0 answer.1

  -- the tree of the least value proves the claim
  proved : (f : Fraction) (t : TreeOf) → f ≡ whole (neg_ℤ made.0)
      → IsRight player (least_row (map neg_ℤ paid.left.items) f) (root_leaf player) t
      → IsRight player (bound_with paid.left.items made.0) (root_leaf player) t
  proved f t e right =
      subst (λ (row : RowBound). IsRight player row (root_leaf player) t)
      (ap (least_row (map neg_ℤ paid.left.items)) e ∙ row_is paid.left.items made.0) right

  module _ (old new : Purse) (point : PointOf) (value : Fraction) (tree : Tree)
      (answer : IsLeastAnswer player (map neg_ℤ paid.left.items) old new (At point value tree))
    where
      right_tree : IsRight player (bound_with paid.left.items made.0) (root_leaf player) answer.0
      right_tree =
          proved value answer.0
          (whole_least game form (profile_with mixtures) stable.equilibrium i player is
          paid.left.items made.0 claimed.0 value point answer.1) answer.4

      nodes_are : All IsBoundNode (nodes_of tree)
      nodes_are =
          subst (All IsBoundNode) answer.3
          (bound_nodes game i player (form.players i player is) (bound_with paid.left.items made.0)
          answer.0 (root_leaf player) right_tree
          (each_of_all IsNodeForm (preorder answer.0)
          (subst (All IsNodeForm) (sym answer.3) tree.whole.forms)))

      -- the tree of the least value is drawn from questions with aims of the player's cost
      drawn_tree : IsDrawnTree player (MayAskOwn i player (profile_with mixtures)) (nodes_of tree)
      drawn_tree = record {
        tree = answer.0;
        listed = answer.3;
        open_is = answer.5.open_is;
        drawn = drawn_also player (MayAsk player (map neg_ℤ paid.left.items))
            (MayAskOwn i player (profile_with mixtures))
            (may_own game form (profile_with mixtures) stable.equilibrium i player is
            paid.left.items made.0 claimed.0) answer.0 (root_leaf player) answer.5.drawn;
      }

      bound_with_tree : HasFewNodes old new (At point value tree)
          → IsBoundMade player i (profile_with mixtures) old new
          (record { cost = paid.cost; tree = tree })
      bound_with_tree few = record {
        right = record {
          cost = claimed.1.same;
          left = paid.left.items;
          right = made.0;
          claim = claimed.0;
          proof = record { tree = answer.0; listed = answer.3; right = right_tree };
        };
        form = record {
          cost = claimed.1.lowest;
          tree = record { whole = tree.whole; each = nodes_are };
        };
        drawn = drawn_tree;
        few = subst (λ k. k ≤ 1 + 2 * (new.branches - old.branches))
            (sym (length-map tree.nodes.items node_of)) few;
      }

  pub bound_made : (old new : Purse) (found : LeastAnswer)
      → IsLeastAnswer player (map neg_ℤ paid.left.items) old new found → HasFewNodes old new found
      → (bound : Bound) → IsBoundBy paid.cost found bound
      → IsBoundMade player i (profile_with mixtures) old new bound
  bound_made old new (At point value tree) answer few bound by =
      let e : record { cost = paid.cost; tree = tree } ≡ bound =
      λ k. record { cost = sym by.0 k; tree = sym by.1 k } in
      subst (IsBoundMade player i (profile_with mixtures) old new) e
      (bound_with_tree old new point value tree answer few)
  bound_made old new (Empty tree) answer few bound by = absurd by
  bound_made old new (Below base dir) answer few bound by = absurd by

  -- why the search stopped is why there is no bound
  pub plain : (old new : Purse) (stop : BnbStop)
      → IsBnbCause i player (map neg_ℤ paid.left.items) old new stop → IsPlainStop stop
  plain old new stop h =
      plain_stop game form (profile_with mixtures) stable.equilibrium i player is paid.left.items
      made.0 claimed.0 old new stop
      (all_turned_narrow paid.left.items
      (left_narrow game player i means paid.cost paid.left.items made.0 made.1)) h

  pub cause_of : (old new : Purse) (stop : BnbStop)
      → IsBnbCause i player (map neg_ℤ paid.left.items) old new stop → (result : CostStop)
      → IsStopFor i stop result → IsBoundCause game mixtures means i player old new result
  cause_of old new ABnb.Spent h result e =
      subst (IsBoundCause game mixtures means i player old new) (sym e) h
  cause_of old new (ABnb.Wide asked) h result e =
      subst (IsBoundCause game mixtures means i player old new) (sym e)
      (stuck_own game form (profile_with mixtures) stable.equilibrium i player is paid.left.items
      made.0 claimed.0 asked h)
  cause_of old new (ABnb.WideAim wide) h result e = absurd e
  cause_of old new (ABnb.Endless var dir) h result e =
      subst (IsBoundCause game mixtures means i player old new) (sym e) (
        refl,
        record {
          changes = h.0;
          aim = map neg_ℤ paid.left.items;
          is_aim = own_aim game form (profile_with mixtures) stable.equilibrium i player is
              paid.left.items made.0 claimed.0;
          least_open = h.1;
        },
      )
  cause_of old new ABnb.NoMemory h result e =
      subst (IsBoundCause game mixtures means i player old new) (sym e) tt
