-- Each pure profile is in one of a box tree's boxes; so a right box tree leaves no pure
-- equilibrium.
use Rattle.std.proofs.Common.{◌≡◌, ◌≢◌, ℕ, arith, sym, subst, pos, List, set, All, ⊎_elim}
use Rattle.std.specs.Option.{option_map_or}
use Rattle.std.proofs.lemmas.Bool.{cases_eq}
use Rattle.std.proofs.lemmas.Int.{ints}
use Rattle.zr_base.specs.Fractions.{Fraction, IsAtMost, IsLess}
use Rattle.zr_base.specs.Points.{PointOf}
use Rattle.zr_game.specs.Players.{GameOf, PlayerOf}
use Rattle.zr_game.specs.Forms.{IsGame, IsPlayer}
use Rattle.zr_game.specs.Costs.{cost_of, point_of}
use Rattle.zr_game.specs.Equilibria.{IsEquilibrium}
use Rattle.zr_game.specs.Leaves.{LeafOf, above, below, root_leaf}
use Rattle.zr_game.specs.Profiles.{Profile}
use Rattle.zr_game.specs.PureProfiles.{IsStableAt, points_of}
use Rattle.zr_game.proofs.Holding.{Inside, in_root}
use Rattle.zr_game.proofs.Items.{one}
use Rattle.zr_game.proofs.PureEquilibria.{pure_equilibria}
use Rattle.zr_game.proofs.PureLaws.{IsOne}
use Rattle.zr_game.proofs.PurePoints.{AreFeasible, profile_points}
use Rattle.zr_tree.specs.Nodes.{ProofNode}
use Rattle.zr_tree.proofs.Descent.{end_refutes, one_side}
use Rattle.zr_tree.proofs.LeafRows.{high_reads, low_reads}
use Rattle.zr_cases.specs.Trees.{BoxTreeOf, Cut, Empty, Deviate}
use Rattle.zr_boxes.specs.Boxes.{BoxOf, IsInBox, cut_above, cut_below, no_leaf, root_box, with_leaf}
use Rattle.zr_boxes.specs.Right.{IsBetter, IsRightBox}
use Rattle.zr_boxes.proofs.BoxLists.{at_other, at_same}
use Rattle.zr_boxes.proofs.Deviating.{AreWithin, pays_less}

not_less : (a b : Fraction) → IsLess b a → IsAtMost a b → ⊥
not_less a b h k = omega (arith, ints, h, k)

-- the points are inside the box
abbrev AllInside : GameOf → BoxOf → List PointOf → Type 0
AllInside game box points = (k : ℕ) (player : PlayerOf) → IsPlayer game k player
    → Inside player (box k) (point_of points k)

within_of : (game : GameOf) (box : BoxOf) (points : List PointOf) → AllInside game box points
    → AreWithin game box points
within_of game box points inside = record {
  lows = λ k player is v l below e. (inside k player is).lows v l below e;
  highs = λ k player is v h below e. (inside k player is).highs v h below e;
}

module _ (game : GameOf) (form : IsGame game) (points : List PointOf)
    (are : AreFeasible game points) (stable : IsStableAt game points) where
  -- one leaf of the box is another one, in which the player's point is
  with_inside : (box : BoxOf) → AllInside game box points → (i : ℕ) (player : PlayerOf)
      → IsPlayer game i player → (leaf : LeafOf) → Inside player leaf (point_of points i)
      → AllInside game (with_leaf box i leaf) points
  with_inside box all i player is leaf inside k other is_other =
      ⊎_elim (λ (e : i ≡ k). here k e other is_other)
      (λ (n : i ≢ k). subst (λ (l : LeafOf). Inside other l (point_of points k))
      (sym (at_other leaf (box k) i k n)) (all k other is_other)) (cases_eq i k)
    where
      here : (k : ℕ) → i ≡ k → (other : PlayerOf) → IsPlayer game k other
          → Inside other (with_leaf box i leaf k) (point_of points k)
      here k e =
          subst (λ n. (other : PlayerOf) → IsPlayer game n other
          → Inside other (with_leaf box i leaf n) (point_of points n)) e
          (λ other is_other. subst (λ (l : LeafOf). Inside other l (point_of points i))
          (sym (at_same leaf (box i) i))
          (subst (λ (p : PlayerOf). Inside p leaf (point_of points i))
          (one game i player other is is_other) inside))

  none_in : (t : BoxTreeOf) (box : BoxOf) → AllInside game box points → IsRightBox game box t → ⊥
  none_in (Cut i v at first second) box all right =
      let player = right.0.0 in
      let is = right.0.1 in
      let x = point_of points i in
      ⊎_elim (λ (s : Inside player (below (box i) v at) x). none_in first (cut_below box i v at)
      (with_inside box all i player is (below (box i) v at) s) right.1)
      (λ (s : Inside player (above (box i) v at) x). none_in second (cut_above box i v at)
      (with_inside box all i player is (above (box i) v at) s) right.2)
      (one_side player x (are.feasible i player is) (box i) (all i player is) v at right.0.2)
  none_in (Empty i mult) box all right =
      let player = right.0 in
      let is = right.1 in
      let f = form.players i player is in
      end_refutes player (point_of points i) (are.feasible i player is) f.rows f.pairs (box i)
      (ProofNode (pos 0) mult) (all i player is) right.2
  none_in (Deviate i x) box all right =
      let player = right.0 in
      let is = right.1 in
      not_less (cost_of player i points) (cost_of player i (set points i x))
      (pays_less game form box points are (within_of game box points all) i player is x right.2)
      (stable i player is x right.2.feasible)

in_root_box : (game : GameOf) (points : List PointOf) → AreFeasible game points
    → AllInside game (root_box game) points
in_root_box game points are k player is =
    subst (λ o. Inside player (option_map_or root_leaf o no_leaf) (point_of points k)) (sym is)
    (in_root player (point_of points k) (are.feasible k player is))

pub no_equilibrium : (game : GameOf) → IsGame game → (t : BoxTreeOf)
    → IsRightBox game (root_box game) t → (profile : Profile) → All IsOne profile
    → IsEquilibrium game profile → ⊥
no_equilibrium game form t right profile pure e =
    let points = points_of profile in
    let are = profile_points game profile e.valid in
    none_in game form points are ((pure_equilibria game profile e.valid pure).0 e) t (root_box game)
    (in_root_box game points are) right

-- the same of the points that meet the box's rows
pub better_pays_less : (game : GameOf) → IsGame game → (box : BoxOf) (points : List PointOf)
    → IsInBox game box points → (i : ℕ) (player : PlayerOf) → IsPlayer game i player
    → (x : PointOf) → IsBetter player i box x
    → IsLess (cost_of player i (set points i x)) (cost_of player i points)
better_pays_less game form box points inside i player is x better =
    pays_less game form box points
    (record { len = inside.len; feasible = inside.feasible })
    (record {
      lows = λ k other is_other v l below e. low_reads other (point_of points k) (box k)
          (inside.inside k other is_other) v l below e;
      highs = λ k other is_other v h below e. high_reads other (point_of points k) (box k)
          (inside.inside k other is_other) v h below e;
    }) i player is x better
