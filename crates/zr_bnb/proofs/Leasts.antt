-- From the tree of a search to the answer.
use Rattle.std.proofs.Common.{◌≡◌, ℕ, zero, suc, ◌+◌, arith, refl, ap, ◌∙◌, ℤ, pos, neg_ℤ, ◌*ℤ◌, Option, Some, None, List, [], ◌∷◌, map, length, subst, sym, inl, inr}
use Rattle.std.proofs.lemmas.Int.{ints}
use Rattle.zr_base.specs.Fractions.{Fraction, whole}
use Rattle.zr_base.specs.Points.{num_of}
use Rattle.zr_base.proofs.Ring.{mul_assoc}
use Rattle.zr_base.proofs.Dense.{sum_to_same, sum_to-mul}
use Rattle.zr_io.specs.declared.purse.Purse.{Purse}
use Rattle.zr_game.specs.Players.{PlayerOf}
use Rattle.zr_game.specs.Leaves.{Bound, LeafOf, above, below, decided, root_leaf}
use Rattle.zr_game.specs.declared.leaf.Side.TheVariants.{VarZero, RowZero}
use Rattle.zr_simplex.specs.Programs.{numbers}
use Rattle.zr_tree.specs.declared.tree.Tree.{Tree}
use Rattle.zr_tree.specs.Trees.{TreeOf, Split, Choose, Proof, Known, Loose}
use Rattle.zr_tree.specs.Right.{IsRefuted, IsRight, IsRightBy}
use Rattle.zr_asked.specs.Drawn.{IsDrawnEnd}
use Rattle.zr_asked.specs.OpenTrees.{units}
use Rattle.zr_asked.specs.Paths.{branch}
use Rattle.zr_asked.specs.Stuck.{Aims}
use Rattle.zr_branch.specs.Replies.{CountsPivotsAlone}
use Rattle.zr_branch.specs.Values.{aim_value}
use Rattle.zr_bnb.specs.declared.answer.LeastAnswer.TheVariants.{At, Empty}
use Rattle.zr_bnb.specs.declared.plan.Plan.{Plan}
use Rattle.zr_bnb.specs.declared.plan.Plan.TheVariants.{SplitAt, ChooseOf, Close}
use Rattle.zr_bnb.specs.declared.search.Best.{Best}
use Rattle.zr_bnb.specs.Answers.{IsLeastAnswer, IsSearchTree, MayAsk}
use Rattle.zr_bnb.specs.Causes.{SpendsWork}
use Rattle.zr_bnb.specs.Fates.{IsClosed}
use Rattle.zr_bnb.specs.Found.{AreClosed, IsClosedPlan, IsGrown, IsTreeFor, Shows, end_row, proofs_for}
use Rattle.zr_bnb.specs.Values.{IsLeastAt, least_row, scaled_aim}
use Rattle.zr_bnb.proofs.Growing.{shows_open}

module _ (player : PlayerOf) (aim : List ℤ) where
  pub shows_right : (bound : Bound) (leaf : LeafOf) (t : TreeOf)
      → Shows player (Some (record { row = Some bound; aim = aim })) leaf t
      → IsRight player bound leaf t
  shows_right bound leaf (Split v at first second) h =
      (h.1.whole, shows_right bound (below leaf v at) first h.2, shows_right bound (above leaf v at) second h.3)
  shows_right bound leaf (Choose p first second) h = (
    h.1,
    shows_right bound (decided leaf p VarZero) first h.2,
    shows_right bound (decided leaf p RowZero) second h.3,
  )
  shows_right bound leaf (Proof scale mult) h = h.0
  shows_right bound leaf (Known x) h = absurd h
  shows_right bound leaf Loose h = absurd h

  pub shows_refuted : (leaf : LeafOf) (t : TreeOf)
      → Shows player (Some (record { row = None; aim = aim })) leaf t → IsRefuted player leaf t
  shows_refuted leaf (Split v at first second) h =
      (h.1.whole, shows_refuted (below leaf v at) first h.2, shows_refuted (above leaf v at) second h.3)
  shows_refuted leaf (Choose p first second) h = (
    h.1,
    shows_refuted (decided leaf p VarZero) first h.2,
    shows_refuted (decided leaf p RowZero) second h.3,
  )
  shows_refuted leaf (Proof scale mult) h = h.0
  shows_refuted leaf (Known x) h = absurd h
  shows_refuted leaf Loose h = absurd h

  pub shows_drawn : (Asks : Aims) → Asks aim → (row : Option Bound) (leaf : LeafOf) (t : TreeOf)
      → Shows player (Some (record { row = row; aim = aim })) leaf t
      → IsRightBy (IsDrawnEnd player Asks) player leaf t
  shows_drawn Asks may row leaf (Split v at first second) h = (
    h.1.whole,
    shows_drawn Asks may row (below leaf v at) first h.2,
    shows_drawn Asks may row (above leaf v at) second h.3,
  )
  shows_drawn Asks may row leaf (Choose p first second) h = (
    h.1,
    shows_drawn Asks may row (decided leaf p VarZero) first h.2,
    shows_drawn Asks may row (decided leaf p RowZero) second h.3,
  )
  shows_drawn Asks may row leaf (Proof scale mult) h = (aim, may, h.1)
  shows_drawn Asks may row leaf (Known x) h = absurd h
  shows_drawn Asks may row leaf Loose h = absurd h

numbers_scaled : (k : ℤ) (xs : List ℤ) (j : ℕ) → numbers (map (λ z. k *ℤ z) xs) j ≡ k *ℤ numbers xs j
numbers_scaled k [] j = omega (arith, ints)
numbers_scaled k (x ∷ xs) zero = refl
numbers_scaled k (x ∷ xs) (suc j) = numbers_scaled k xs j

scaled_by_one : (xs : List ℤ) → map (λ z. pos 1 *ℤ z) xs ≡ xs
scaled_by_one [] = refl
scaled_by_one (x ∷ xs) =
    let o : pos 1 *ℤ x ≡ x = omega (arith, ints) in
    ap (λ (y : ℤ). y ∷ map (λ z. pos 1 *ℤ z) xs) o ∙ ap (λ (ys : List ℤ). x ∷ ys) (scaled_by_one xs)

-- a least value that is whole leaves the aim as it is
pub scaled_whole : (aim : List ℤ) (f : Fraction) → f.den ≡ pos 1 → scaled_aim f aim ≡ aim
scaled_whole aim f e = ap (λ (k : ℤ). map (λ z. k *ℤ z) aim) e ∙ scaled_by_one aim

pub row_same : (aim : List ℤ) (f : Fraction) → end_row (scaled_aim f aim) f.num ≡ least_row aim f
row_same aim f = λ i. record { coef = λ j. neg_ℤ (numbers_scaled f.den aim j i); le = neg_ℤ f.num }

module _ (player : PlayerOf) (aim : List ℤ) (f : Fraction) where
  value_scaled : (p : ℕ → ℤ)
      → aim_value player (scaled_aim f aim) p ≡ f.den *ℤ aim_value player aim p
  value_scaled p =
      sum_to_same (length player.vars) (λ j. numbers (scaled_aim f aim) j *ℤ p j)
      (λ j. f.den *ℤ (numbers aim j *ℤ p j))
      (λ j h. ap (λ z. z *ℤ p j) (numbers_scaled f.den aim j) ∙ mul_assoc f.den (numbers aim j) (p j))
      ∙ sum_to-mul (length player.vars) f.den (λ j. numbers aim j *ℤ p j)

  closed_scaled : (leaf : LeafOf) → IsClosed player aim (Some f) leaf
      → IsClosed player (scaled_aim f aim) (Some (whole f.num)) leaf
  closed_scaled leaf closed x meets =
      let c = closed x meets in
      let v = value_scaled (num_of x) in
      let o : pos 1 *ℤ aim_value player (scaled_aim f aim) (num_of x)
      ≡ aim_value player (scaled_aim f aim) (num_of x) = omega (arith, ints) in
      omega (arith, ints, c, v, o)

  plan_scaled : (plan : Plan) → IsClosedPlan player aim (Some f) plan
      → IsClosedPlan player (scaled_aim f aim) (Some (whole f.num)) plan
  plan_scaled (SplitAt v at) h = tt
  plan_scaled (ChooseOf p) h = tt
  plan_scaled (Close path end) h = (h.0, closed_scaled (branch player path.items) h.1)

  pub plans_scaled : (plans : List Plan) → AreClosed player aim (Some f) plans
      → AreClosed player (scaled_aim f aim) (Some (whole f.num)) plans
  plans_scaled [] h = tt
  plans_scaled (p ∷ plans) h = (plan_scaled p h.0, plans_scaled plans h.1)

module _ (player : PlayerOf) (aim : List ℤ) (spent : ℕ) (best : Best) (plans : List Plan)
    (g : IsGrown player aim spent (Some best) plans) where
  pub least_at : IsLeastAt player aim best.value best.point
  least_at = record {
    lowest = g.best_is.lowest;
    feasible = g.best_is.feasible;
    value = g.best_is.value_is;
    least = g.least;
  }

  pub may_scaled : MayAsk player aim (scaled_aim best.value aim)
  may_scaled = inr (inl (best.value, (best.point, least_at), refl))

search_tree : (player : PlayerOf) (aim asked : List ℤ) (old new : Purse) (spent : ℕ)
    (row : Option Bound) (t : TreeOf) → MayAsk player aim asked
    → Shows player (Some (record { row = row; aim = asked })) (root_leaf player) t
    → units t ≡ spent → new.branches ≡ old.branches + spent → IsSearchTree player aim old new t
search_tree player aim asked old new spent row t may h n e = record {
  open_is = shows_open player (Some (record { row = row; aim = asked })) (root_leaf player) t h;
  spent = e ∙ ap (λ (k : ℕ). old.branches + k) (sym n);
  drawn = shows_drawn player asked (MayAsk player aim) may row (root_leaf player) t h;
}

pub empty_answer : (player : PlayerOf) (aim : List ℤ) (old new : Purse) (spent : ℕ) (tree : Tree)
    → new.branches ≡ old.branches + spent → IsTreeFor player (proofs_for aim None) spent tree
    → IsLeastAnswer player aim old new (Empty tree)
empty_answer player aim old new spent tree e made = (
  made.0,
  made.1,
  shows_refuted player aim (root_leaf player) made.0 made.2,
  search_tree player aim aim old new spent None made.0 (inl refl) made.2 made.3 e,
)

pub at_answer : (player : PlayerOf) (aim : List ℤ) (old new : Purse) (spent : ℕ) (best : Best)
    (plans : List Plan) (tree : Tree) → IsGrown player aim spent (Some best) plans
    → new.branches ≡ old.branches + spent
    → IsTreeFor player (proofs_for (scaled_aim best.value aim) (Some best.value.num)) spent tree
    → IsLeastAnswer player aim old new (At best.point best.value tree)
at_answer player aim old new spent best plans tree g e made = (
  made.0,
  least_at player aim spent best plans g,
  g.best_is.drawn,
  made.1,
  shows_right player (scaled_aim best.value aim) (least_row aim best.value) (root_leaf player) made.0
      (subst (λ (b : Bound). Shows player (Some (record { row = Some b; aim = scaled_aim best.value aim }))
      (root_leaf player) made.0) (row_same aim best.value) made.2),
  search_tree player aim (scaled_aim best.value aim) old new spent
      (Some (end_row (scaled_aim best.value aim) best.value.num)) made.0
      (may_scaled player aim spent best plans g) made.2 made.3 e,
)

-- pivots don't count
pub spends_on : (player : PlayerOf) (a b c : Purse) → SpendsWork player a b → CountsPivotsAlone b c
    → SpendsWork player a c
spends_on player a b c p q = record {
  pivots = (let x = p.pivots in let y = q.pivots in omega (arith, x, y));
  limit = q.limit ∙ p.limit;
  cuts = q.cuts ∙ p.cuts;
  branches = (let x = p.branches in let y = q.branches in omega (arith, x, y));
  work = p.work;
  units_are = (let x = p.units_are in let y = q.branches in omega (arith, x, y));
}
