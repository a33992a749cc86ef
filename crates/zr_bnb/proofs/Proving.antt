-- The ends of a tree, and the tree of its nodes.
use Rattle.std.proofs.Common.{rules, ◌≡◌, ℕ, zero, suc, ◌+◌, ◌<◌, arith, refl, sym, ap, ◌∙◌, subst, ℤ, pos, neg_ℤ, ◌*ℤ◌, ◌<ℤ◌, ◌≤ℤ◌, true, Option, Some, None, option_map, List, [], ◌∷◌, ◌++◌, length, get_or, append_assoc, inl, inr}
use Rattle.std.proofs.lemmas.Int.{ints}
use Rattle.std.proofs.lemmas.List.{append-nil}
use Rattle.std.proofs.Math.IntN.{*ℤ_comm}
use Rattle.zr_base.specs.Fractions.{Fraction, whole}
use Rattle.zr_base.specs.Points.{PointOf, num_of}
use Rattle.zr_base.specs.Steps.{IsNarrow}
use Rattle.zr_base.proofs.Ring.{mul_assoc, neg-mul_left, neg-mul_right}
use Rattle.zr_base.proofs.Worth.{le_times, le_of_times}
use Rattle.zr_game.specs.Players.{PlayerOf}
use Rattle.zr_game.specs.Leaves.{LeafOf, slots}
use Rattle.zr_simplex.specs.Programs.{numbers}
use Rattle.zr_tree.specs.Nodes.{Multipliers, NodeOf, ProofNode}
use Rattle.zr_tree.specs.Form.{is_forest}
use Rattle.zr_tree.specs.Trees.{TreeOf, Split, Choose, Proof, Known, Loose, preorder}
use Rattle.zr_tree.specs.Right.{right_of}
use Rattle.zr_tree.proofs.Combinations.{positive_if}
use Rattle.zr_branch.specs.Replies.{IsBestAt, ProvesEmpty}
use Rattle.zr_branch.specs.Values.{aim_value}
use Rattle.zr_bnb.specs.declared.plan.EndProof.{EndProof}
use Rattle.zr_bnb.specs.declared.plan.Plan.{Plan}
use Rattle.zr_bnb.specs.Fates.{IsClosed}
use Rattle.zr_bnb.specs.Found.{AreClosed, AreForms, AreNodesOf, AreProved, IsClosedPlan, IsEnd, IsEndProof, IsNodeOf, IsPlanForm, IsProvedPlan, Proofs, proofs_for}

-- a whole number that is no more than a value over the point
at_least : (n vn vd xd a : ℤ) → (pos 0) <ℤ xd → vn *ℤ xd ≡ vd *ℤ a → (pos 0) <ℤ vd → (n *ℤ xd) ≤ℤ (pos 1 *ℤ a) → (n *ℤ vd) ≤ℤ vn
at_least n vn vd xd a x same v below =
    let h = le_times (n *ℤ xd) (pos 1 *ℤ a) vd v below in
    let p : (n *ℤ xd) *ℤ vd ≡ (n *ℤ vd) *ℤ xd = mul_assoc n xd vd ∙ ap (λ z. n *ℤ z) (*ℤ_comm xd vd) ∙ sym (mul_assoc n vd xd) in
    let o : pos 1 *ℤ a ≡ a = omega (arith, ints) in
    let q : (pos 1 *ℤ a) *ℤ vd ≡ vn *ℤ xd = ap (λ z. z *ℤ vd) o ∙ *ℤ_comm a vd ∙ sym same in
    le_of_times (n *ℤ vd) vn xd x (omega (arith, ints, h, p, q))

right_fits : (r s n vn vd : ℤ) → (pos 0) <ℤ vd → (pos 1) ≤ℤ s → (r *ℤ vd) ≤ℤ neg_ℤ (s *ℤ vn) → (n *ℤ vd) ≤ℤ vn → r ≤ℤ (s *ℤ neg_ℤ n)
right_fits r s n vn vd v one below least =
    let h = le_times (n *ℤ vd) vn s (omega (arith, ints, one)) least in
    let p : (s *ℤ neg_ℤ n) *ℤ vd ≡ neg_ℤ ((n *ℤ vd) *ℤ s) = ap (λ z. z *ℤ vd) (neg-mul_right s n) ∙ neg-mul_left (s *ℤ n) vd ∙ ap (λ z. neg_ℤ z) (ap (λ z. z *ℤ vd) (*ℤ_comm s n) ∙ mul_assoc n s vd ∙ ap (λ z. n *ℤ z) (*ℤ_comm s vd) ∙ sym (mul_assoc n vd s)) in
    let q = *ℤ_comm s vn in
    le_of_times r (s *ℤ neg_ℤ n) vd v (omega (arith, ints, h, p, q, below))

module _ (player : PlayerOf) (aim : List ℤ) (leaf : LeafOf) where
  pub best_end : (least : Option ℤ) (x : PointOf) (value : Fraction) (scale : ℤ) (mult : Multipliers)
      → IsBestAt player leaf aim x value scale mult
      → IsClosed player aim (option_map whole least) leaf
      → IsEnd player (proofs_for aim least) leaf (ProofNode scale mult)
  best_end None x value scale mult b closed = absurd (closed x b.meets)
  best_end (Some n) x value scale mult b closed =
      let c = closed x b.meets in
      let l = at_least n value.num value.den x.den (aim_value player aim (num_of x)) b.meets.point
      b.value_is b.lowest.ratio.positive c in (
        (
          b.proof.multipliers.present,
          positive_if 0 mult b.proof.multipliers.form,
          inl (record {
            positive = b.proof.positive;
            left = λ j h. b.proof.left j h ∙ sym (neg-mul_right scale (numbers aim j));
            right = right_fits (right_of (slots player leaf) mult) scale n value.num value.den
                b.lowest.ratio.positive b.proof.positive b.proof.right l;
          }),
        ),
        b.drawn,
      )

  pub empty_end : (least : Option ℤ) (mult : Multipliers) → ProvesEmpty player leaf aim mult
      → IsEnd player (proofs_for aim least) leaf (ProofNode (pos 0) mult)
  empty_end None mult e =
      ((e.multipliers.present, positive_if 0 mult e.multipliers.form, e.refuting), e.drawn)
  empty_end (Some n) mult e =
      ((e.multipliers.present, positive_if 0 mult e.multipliers.form, inr e.refuting), e.drawn)

  pub best_proof : (x : PointOf) (value : Fraction) (end : EndProof)
      → IsBestAt player leaf aim x value end.scale end.mult.items → IsEndProof player aim leaf end
  best_proof x value end b =
      let s = b.proof.positive in (
        (omega (arith, ints, s), b.proof.narrow, b.proof.multipliers.form),
        λ least closed. best_end least x value end.scale end.mult.items b closed,
      )

  pub empty_proof : (end : EndProof) → end.scale ≡ pos 0 → ProvesEmpty player leaf aim end.mult.items
      → IsEndProof player aim leaf end
  empty_proof end e p =
      let narrow : IsNarrow (pos 0) = search rules in
      rw e ((omega (arith, ints), narrow, p.multipliers.form), λ least closed. empty_end least end.mult.items p)

pub whole_above : (least : Option ℤ) (f : Fraction) → option_map whole least ≡ Some f → (pos 0) <ℤ f.den
whole_above None f e = absurd cc
whole_above (Some n) f e = let h : whole n ≡ f = cc in subst (λ (g : Fraction). (pos 0) <ℤ g.den) h (omega (arith, ints))

-- the nodes of a tree are one tree
forest_of : (t : TreeOf) (due : ℕ) (rest : List NodeOf) → is_forest (suc due) (preorder t ++ rest) ≡ is_forest due rest
forest_of (Split v at first second) due rest =
    let e : 2 + due ≡ suc (suc due) = omega arith in
    ap (λ (n : ℕ). is_forest n ((preorder first ++ preorder second) ++ rest)) e ∙ ap (is_forest (suc (suc due))) (append_assoc (preorder first) (preorder second) rest) ∙ forest_of first (suc due) (preorder second ++ rest) ∙ forest_of second due rest
forest_of (Choose p first second) due rest =
    let e : 2 + due ≡ suc (suc due) = omega arith in
    ap (λ (n : ℕ). is_forest n ((preorder first ++ preorder second) ++ rest)) e ∙ ap (is_forest (suc (suc due))) (append_assoc (preorder first) (preorder second) rest) ∙ forest_of first (suc due) (preorder second ++ rest) ∙ forest_of second due rest
forest_of (Proof scale mult) due rest =
    let e : 0 + due ≡ due = omega arith in ap (λ (n : ℕ). is_forest n rest) e
forest_of (Known x) due rest =
    let e : 0 + due ≡ due = omega arith in ap (λ (n : ℕ). is_forest n rest) e
forest_of Loose due rest =
    let e : 0 + due ≡ due = omega arith in ap (λ (n : ℕ). is_forest n rest) e

pub one_forest : (t : TreeOf) → is_forest 1 (preorder t) ≡ true
one_forest t = ap (is_forest 1) (sym (append-nil (preorder t))) ∙ forest_of t 0 []

pub as_many : (player : PlayerOf) (wanted : Option Proofs) (plans : List Plan) (nodes : List NodeOf) → AreNodesOf player wanted plans nodes → length nodes ≡ length plans
as_many player wanted [] [] h = refl
as_many player wanted [] (n ∷ nodes) h = absurd h
as_many player wanted (p ∷ plans) [] h = absurd h
as_many player wanted (p ∷ plans) (n ∷ nodes) h = ap suc (as_many player wanted plans nodes h.1)

pub nodes_push : (player : PlayerOf) (wanted : Option Proofs) (plans : List Plan) (nodes : List NodeOf) (plan : Plan) (node : NodeOf) → AreNodesOf player wanted plans nodes → IsNodeOf player wanted plan node → AreNodesOf player wanted (plans ++ plan ∷ []) (nodes ++ node ∷ [])
nodes_push player wanted [] [] plan node h one = (one, tt)
nodes_push player wanted [] (n ∷ nodes) plan node h one = absurd h
nodes_push player wanted (p ∷ plans) [] plan node h one = absurd h
nodes_push player wanted (p ∷ plans) (n ∷ nodes) plan node h one =
    (h.0, nodes_push player wanted plans nodes plan node h.1 one)

pub closed_at : (player : PlayerOf) (aim : List ℤ) (best : Option Fraction) (plans : List Plan) (i : ℕ) (d : Plan) → i < length plans → AreClosed player aim best plans → IsClosedPlan player aim best (get_or plans i d)
closed_at player aim best [] i d h all = absurd (omega (arith, h))
closed_at player aim best (p ∷ plans) zero d h all = all.0
closed_at player aim best (p ∷ plans) (suc i) d h all =
    closed_at player aim best plans i d (omega (arith, h)) all.1

pub proved_at : (player : PlayerOf) (aim : List ℤ) (plans : List Plan) (i : ℕ) (d : Plan) → i < length plans → AreProved player aim plans → IsProvedPlan player aim (get_or plans i d)
proved_at player aim [] i d h all = absurd (omega (arith, h))
proved_at player aim (p ∷ plans) zero d h all = all.0
proved_at player aim (p ∷ plans) (suc i) d h all =
    proved_at player aim plans i d (omega (arith, h)) all.1

pub form_at : (plans : List Plan) (i : ℕ) (d : Plan) → i < length plans → AreForms plans → IsPlanForm (get_or plans i d)
form_at [] i d h all = absurd (omega (arith, h))
form_at (p ∷ plans) zero d h all = all.0
form_at (p ∷ plans) (suc i) d h all = form_at plans i d (omega (arith, h)) all.1
