-- What a right certificate claims is true.
use Rattle.std.proofs.Common.{ℕ, arith, subst, sym, List, [], ◌∷◌}
use Rattle.std.proofs.lemmas.List.Elements.{All-head}
use Rattle.zr_base.specs.Points.{PointOf}
use Rattle.zr_game.specs.declared.kind.Kind.{Kind}
use Rattle.zr_game.specs.Equilibria.{HasNoEquilibrium}
use Rattle.zr_game.specs.Feasible.{IsFeasible}
use Rattle.zr_game.specs.Forms.{IsGame, IsPlayer}
use Rattle.zr_game.specs.Leaves.{Bound, BoundHolds, bound_with, root_leaf}
use Rattle.zr_game.specs.Players.{GameOf, PlayerOf}
use Rattle.zr_game.specs.Profiles.{IsStrategy, Strategy, strategy_of}
use Rattle.zr_tree.specs.Nodes.{NodeOf}
use Rattle.zr_tree.specs.Right.{IsRight}
use Rattle.zr_tree.specs.Trees.{TreeOf}
use Rattle.zr_tree.proofs.Descent.{holds_at_root, none_at_root}
use Rattle.zr_mix.specs.Checks.{HasClaims}
use Rattle.zr_mix.proofs.Checking.{enough}
use Rattle.zr_boxes.proofs.Descent.{no_equilibrium}
use Rattle.zr_refute.specs.Covered.{covered}
use Rattle.zr_refute.proofs.CoveredLeaves.{are_covers}
use Rattle.zr_convex.proofs.Refuted.{has_none}
use Rattle.zr_cert.specs.Certs.{BoundOf, BoxVerdict, CertOf, CoverVerdict, EmptyVerdict, MixtureOf, ProfileVerdict, VerdictOf, profile_with}
use Rattle.zr_check.specs.Right.{IsRightCert, IsRightProfile, IsRightVerdict, IsEmptyTree}
use Rattle.zr_check.specs.Truth.{IsTrueVerdict}

-- a strategy has a feasible point
feasible_point : (player : PlayerOf) (parts : Strategy) → IsStrategy player parts → (x : PointOf) × IsFeasible player x
feasible_point player [] s = absurd (let h = s.some in omega (arith, h))
feasible_point player (part ∷ parts) s = (part.point, All-head (λ other. IsFeasible player other.point) part parts s.points)

module _ (game : GameOf) (form : IsGame game) where
  -- the row that a right tree proves holds at each feasible point
  pub row_holds : (i : ℕ) (player : PlayerOf) → IsPlayer game i player → (row : Bound) (t : TreeOf) → IsRight player row (root_leaf player) t → (x : PointOf) → IsFeasible player x → BoundHolds player x row
  row_holds i player is row t right x feasible =
      let g = form.players i player is in
      holds_at_root player x feasible g.rows g.pairs row t right

  claims : (kind : Kind) (mixtures : List MixtureOf) (bounds : List BoundOf) → IsRightProfile game kind mixtures bounds → HasClaims game (profile_with mixtures)
  claims kind mixtures bounds right i player is =
      let b = (right.bounds_of i player is).2 in
      let p = b.proof in
      (b.left, b.right, (b.claim, λ x feasible. row_holds i player is (bound_with b.left b.right) p.tree p.right x feasible))

  none_feasible : (i : ℕ) (player : PlayerOf) → IsPlayer game i player → (nodes : List NodeOf) → IsEmptyTree player nodes → (x : PointOf) → IsFeasible player x → ⊥
  none_feasible i player is nodes p x feasible =
      let g = form.players i player is in
      none_at_root player x feasible g.rows g.pairs p.tree p.refuted

  pub none_if_empty : (kind : Kind) (i : ℕ) (player : PlayerOf) → IsPlayer game i player → (nodes : List NodeOf) → IsEmptyTree player nodes → HasNoEquilibrium game kind
  none_if_empty kind i player is nodes p profile of_kind equilibrium =
      let f = feasible_point player (strategy_of profile i) (equilibrium.valid.strategies i player is) in
      none_feasible i player is nodes p f.0 f.1

  pub true_if_right : (kind : Kind) (verdict : VerdictOf) → IsRightVerdict game kind verdict → IsTrueVerdict game kind verdict
  true_if_right kind (ProfileVerdict mixtures bounds) right =
      (right.strategies.of_kind, enough game form (profile_with mixtures) right.strategies.valid (claims kind mixtures bounds right))
  true_if_right kind (CoverVerdict covers named proof) right =
      let covers_are = are_covers game form right.trees named right.shows.covers in
      has_none game form (covered game right.trees named) covers_are kind right.cases
      right.shows.refutes
  true_if_right kind (BoxVerdict nodes) right =
      subst (HasNoEquilibrium game) (sym right.0) (no_equilibrium game form right.1.tree right.1.right)
  true_if_right kind (EmptyVerdict i nodes) right = none_if_empty kind i right.0 right.1 nodes right.2

  -- a right certificate's verdict is true
  pub true_of_right : (c : CertOf) → IsRightCert game c → IsTrueVerdict game c.kind c.verdict
  true_of_right c right = true_if_right c.kind c.verdict right.verdict
