-- What a search keeps from branch to branch.
use Rattle.std.proofs.Common.{◌≡◌, ℕ, ◌+◌, ◌*◌, ◌<◌, ◌≤◌, ◌==◌, arith, refl, sym, ap, ◌∙◌, subst, ℤ, pos, negsuc, ◌+ℤ◌, ◌<ℤ◌, ◌≤ℤ◌, int_le, Bool, true, false, cond, Option, Some, None, Vec, List, [], ◌∷◌, ◌++◌, length, length-append, append_assoc, All, inl, inr, ◌⊎◌, ⊎_elim, slice_get, option_and_then}
use Rattle.std.specs.Option.{ForSome}
use Rattle.std.specs.declared.alloc.Global.{Global}
use Rattle.std.proofs.lemmas.Int.{ints}
use Rattle.std.proofs.lemmas.List.{append-nil}
use Rattle.std.proofs.lemmas.List.Elements.{All-push}
use Rattle.zr_base.specs.Fractions.{Fraction}
use Rattle.zr_base.specs.Points.{PointOf, num_of}
use Rattle.zr_io.specs.declared.purse.Purse.{Purse}
use Rattle.zr_io.specs.Purses.{counted}
use Rattle.zr_game.specs.Players.{PlayerOf, VarOf}
use Rattle.zr_game.specs.Feasible.{IsFeasible}
use Rattle.zr_game.specs.Forms.{IsNumber, IsVarForm}
use Rattle.zr_game.specs.Leaves.{HasPoint, LeafOf, MeetsLeaf, greater, lesser, root_leaf}
use Rattle.zr_game.proofs.Holding.{Inside, in_root}
use Rattle.zr_tree.specs.Nodes.{NodeOf, SplitNode, ChooseNode, ProofNode, KnownNode, LooseNode}
use Rattle.zr_tree.specs.Trees.{TreeOf, Split, Choose, Proof, Known, Loose, preorder}
use Rattle.zr_tree.proofs.CoverLaws.{inside_meets}
use Rattle.zr_tree.proofs.Descent.{one_choice, one_side}
use Rattle.zr_tree.proofs.Forests.{forest}
use Rattle.zr_asked.specs.declared.question.Move.{Move}
use Rattle.zr_asked.specs.declared.question.Move.TheVariants as AMove
use Rattle.zr_asked.specs.OpenTrees.{IsOpenTree, Work, units}
use Rattle.zr_asked.specs.Paths.{IsOpenPath, branch, child_by}
use Rattle.zr_branch.specs.Replies.{IsMoveForm, IsSomePlayer}
use Rattle.zr_branch.specs.Values.{IsNotBelow, aim_value}
use Rattle.zr_branch.proofs.Paths.{after_more, moves_more}
use Rattle.zr_bnb.specs.declared.plan.EndProof.{EndProof}
use Rattle.zr_bnb.specs.declared.plan.Plan.{Plan}
use Rattle.zr_bnb.specs.declared.plan.Plan.TheVariants.{SplitAt, ChooseOf, Close}
use Rattle.zr_bnb.specs.declared.split.Split.{Split as ASplit}
use Rattle.zr_bnb.specs.declared.split.Split.TheVariants as SplitIs
use Rattle.zr_bnb.specs.declared.search.Best.{Best}
use Rattle.zr_bnb.specs.Causes.{HasMoreWork, SpendsWork}
use Rattle.zr_bnb.specs.Fates.{IsClosed, IsNoHigher}
use Rattle.zr_bnb.specs.Found.{AreClosed, AreForms, AreNodesOf, AreProved, IsBestSoFar, IsClosedPlan, IsEnd, IsEndProof, IsGrown, IsLeastOf, IsNodeOf, IsPlanForm, IsProvedPlan, Proofs, Shows, best_value, plan_of}
use Rattle.zr_bnb.specs.Splits.{AreNear, IsDivision, IsNear, first_side, second_side}
use Rattle.zr_bnb.proofs.Directions.{all_get}
use Rattle.zr_bnb.proofs.Visiting.{at_most_not_below}

-- branches alone were spent
pub record SpendsBranches (old new : Purse) : Type 0 where
  pub pivots : old.pivots ≤ new.pivots
  pub limit : new.limit ≡ old.limit
  pub cuts : new.cuts ≡ old.cuts
  pub branches : old.branches ≤ new.branches

-- ---- bounds that are near

near_further : (a b : ℕ) (z : ℤ) → a ≤ b → IsNear a z → IsNear b z
near_further a b z h near =
    let l = near.0 in
    let u = near.1 in (omega (arith, ints, h, l), omega (arith, ints, h, u))

pub are_nearer : (leaf : LeafOf) (a b : ℕ) → a ≤ b → AreNear leaf a → AreNear leaf b
are_nearer leaf a b h near v bound is = near_further a b bound h (near v bound is)

lesser_near : (o : Option ℤ) (at b : ℤ) (more : ℕ) → ((a : ℤ) → o ≡ Some a → IsNear more a)
    → IsNear more at → lesser o at ≡ b → IsNear more b
lesser_near None at b more old new e = subst (IsNear more) e new
lesser_near (Some a) at b more old new e = which (int_le a at) e
  where
    which : (t : Bool) → cond t a at ≡ b → IsNear more b
    which true f = subst (IsNear more) f (old a refl)
    which false f = subst (IsNear more) f new

greater_near : (o : Option ℤ) (at b : ℤ) (more : ℕ) → ((a : ℤ) → o ≡ Some a → IsNear more a)
    → IsNear more at → greater o at ≡ b → IsNear more b
greater_near None at b more old new e = subst (IsNear more) e new
greater_near (Some a) at b more old new e = which (int_le a at) e
  where
    which : (t : Bool) → cond t at a ≡ b → IsNear more b
    which true f = subst (IsNear more) f new
    which false f = subst (IsNear more) f (old a refl)

first_near : (player : PlayerOf) (leaf : LeafOf) (more : ℕ) (split : ASplit) → AreNear leaf more
    → IsDivision player leaf more split → AreNear (child_by leaf (first_side split)) (more + 1)
first_near player leaf more (SplitIs.Var w at) near is v bound which =
    ⊎_elim (λ (e : leaf.low v ≡ Some bound). near_further more (more + 1) bound (omega arith) (near v bound (inl e)))
    (λ (e : cond (w == v) (Some (lesser (leaf.high v) at)) (leaf.high v) ≡ Some bound). at_high (w == v) e) which
  where
    at_high : (t : Bool) → cond t (Some (lesser (leaf.high v) at)) (leaf.high v) ≡ Some bound
        → IsNear (more + 1) bound
    at_high true e =
        let f : lesser (leaf.high v) at ≡ bound = cc in
        let l = is.1 in
        let u = is.2 in
        lesser_near (leaf.high v) at bound (more + 1)
        (λ a k. near_further more (more + 1) a (omega arith) (near v a (inr k)))
        (omega (arith, ints, l), omega (arith, ints, u)) f
    at_high false e = near_further more (more + 1) bound (omega arith) (near v bound (inr e))
first_near player leaf more (SplitIs.Pair p) near is v bound which =
    near_further more (more + 1) bound (omega arith) (near v bound which)

second_near : (player : PlayerOf) (leaf : LeafOf) (more : ℕ) (split : ASplit) → AreNear leaf more
    → IsDivision player leaf more split → AreNear (child_by leaf (second_side split)) (more + 1)
second_near player leaf more (SplitIs.Var w at) near is v bound which =
    ⊎_elim (λ (e : cond (w == v) (Some (greater (leaf.low v) (at +ℤ pos 1))) (leaf.low v) ≡ Some bound).
    at_low (w == v) e)
    (λ (e : leaf.high v ≡ Some bound). near_further more (more + 1) bound (omega arith) (near v bound (inr e))) which
  where
    at_low : (t : Bool) → cond t (Some (greater (leaf.low v) (at +ℤ pos 1))) (leaf.low v) ≡ Some bound
        → IsNear (more + 1) bound
    at_low true e =
        let f : greater (leaf.low v) (at +ℤ pos 1) ≡ bound = cc in
        let l = is.1 in
        let u = is.2 in
        greater_near (leaf.low v) (at +ℤ pos 1) bound (more + 1)
        (λ a k. near_further more (more + 1) a (omega arith) (near v a (inl k)))
        (omega (arith, ints, l), omega (arith, ints, u)) f
    at_low false e = near_further more (more + 1) bound (omega arith) (near v bound (inl e))
second_near player leaf more (SplitIs.Pair p) near is v bound which =
    near_further more (more + 1) bound (omega arith) (near v bound which)

-- the bounds of a game's variables are near
root_near : (player : PlayerOf) → (i : ℕ) × IsSomePlayer i player → AreNear (root_leaf player) 0
root_near player some v bound which =
    ⊎_elim (λ (e : option_and_then (λ (u : VarOf). u.low) (slice_get player.vars v) ≡ Some bound).
    near (slice_get player.vars v) refl (λ u. u.low) (λ u f. f.low) e)
    (λ (e : option_and_then (λ (u : VarOf). u.up) (slice_get player.vars v) ≡ Some bound).
    near (slice_get player.vars v) refl (λ u. u.up) (λ u f. f.up) e) which
  where
    number : (o : Option ℤ) → ForSome o IsNumber → o ≡ Some bound → IsNear 0 bound
    number None f e = absurd cc
    number (Some a) f e =
        let g : a ≡ bound = cc in
        let n = f a refl in
        let l = n.0 in
        let u = n.1 in
        subst (IsNear 0) g (omega (arith, ints, l), omega (arith, ints, u))

    near : (o : Option VarOf) → slice_get player.vars v ≡ o → (pick : VarOf → Option ℤ)
        → ((u : VarOf) → IsVarForm u → ForSome (pick u) IsNumber)
        → option_and_then pick o ≡ Some bound → IsNear 0 bound
    near None e pick form f = absurd cc
    near (Some u) e pick form f =
        number (pick u) (form u (all_get IsVarForm player.vars v u some.1.1.vars e)) f

-- ---- plans

-- the last of nodes and those before it
nodes_last : (player : PlayerOf) (wanted : Option Proofs) (plans : List Plan) (plan : Plan)
    (nodes : List NodeOf) → AreNodesOf player wanted (plans ++ plan ∷ []) nodes
    → (front : List NodeOf) × (node : NodeOf) × (nodes ≡ front ++ node ∷ [])
    × AreNodesOf player wanted plans front × IsNodeOf player wanted plan node
nodes_last player wanted [] plan [] h = absurd h
nodes_last player wanted [] plan (n ∷ []) h = ([], n, refl, tt, h.0)
nodes_last player wanted [] plan (n ∷ m ∷ ns) h = absurd h.1
nodes_last player wanted (p ∷ plans) plan [] h = absurd h
nodes_last player wanted (p ∷ plans) plan (n ∷ ns) h =
    let r = nodes_last player wanted plans plan ns h.1 in
    (n ∷ r.0, r.1, ap (λ (xs : List NodeOf). n ∷ xs) r.2, (h.0, r.3), r.4)

closed_more : (player : PlayerOf) (aim : List ℤ) (best : Option Fraction) (plans : List Plan)
    (plan : Plan) → AreClosed player aim best plans → IsClosedPlan player aim best plan
    → AreClosed player aim best (plans ++ plan ∷ [])
closed_more player aim best [] plan all one = (one, tt)
closed_more player aim best (p ∷ plans) plan all one =
    (all.0, closed_more player aim best plans plan all.1 one)

proved_more : (player : PlayerOf) (aim : List ℤ) (plans : List Plan) (plan : Plan)
    → AreProved player aim plans → IsProvedPlan player aim plan → AreProved player aim (plans ++ plan ∷ [])
proved_more player aim [] plan all one = (one, tt)
proved_more player aim (p ∷ plans) plan all one = (all.0, proved_more player aim plans plan all.1 one)

forms_more : (plans : List Plan) (plan : Plan) → AreForms plans → IsPlanForm plan
    → AreForms (plans ++ plan ∷ [])
forms_more [] plan all one = (one, tt)
forms_more (p ∷ plans) plan all one = (all.0, forms_more plans plan all.1 one)

-- an end is a tree by itself
end_tree : (player : PlayerOf) (wanted : Option Proofs) (leaf : LeafOf) (node : NodeOf)
    → IsEnd player wanted leaf node
    → (t : TreeOf) × Shows player wanted leaf t × (preorder t ≡ node ∷ []) × (units t ≡ 0)
end_tree player None leaf (SplitNode v at) h = absurd h
end_tree player None leaf (ChooseNode p) h = absurd h
end_tree player None leaf (ProofNode scale mult) h = absurd h
end_tree player None leaf (KnownNode x) h = absurd h
end_tree player None leaf LooseNode h = (Loose, h, refl, refl)
end_tree player (Some w) leaf (SplitNode v at) h = absurd h
end_tree player (Some w) leaf (ChooseNode p) h = absurd h
end_tree player (Some w) leaf (ProofNode scale mult) h = (Proof scale mult, h, refl, refl)
end_tree player (Some w) leaf (KnownNode x) h = absurd h
end_tree player (Some w) leaf LooseNode h = absurd h

pub shows_open : (player : PlayerOf) (wanted : Option Proofs) (leaf : LeafOf) (t : TreeOf)
    → Shows player wanted leaf t → IsOpenTree player leaf t
shows_open player wanted leaf (Split v at first second) h = (
  h.0,
  h.1,
  shows_open player wanted (child_by leaf (AMove.Low v at)) first h.2,
  shows_open player wanted (child_by leaf (AMove.High v at)) second h.3,
)
shows_open player wanted leaf (Choose p first second) h = (
  h.0,
  h.1,
  shows_open player wanted (child_by leaf (AMove.VarZero p)) first h.2,
  shows_open player wanted (child_by leaf (AMove.RowZero p)) second h.3,
)
shows_open player wanted leaf (Proof scale mult) h = tt
shows_open player wanted leaf (Known x) h = tt
shows_open player wanted leaf Loose h = tt

abbrev pub units_all : List TreeOf → ℕ
units_all [] = 0
units_all (t ∷ ts) = units t + units_all ts

module _ (player : PlayerOf) (aim : List ℤ) where
  -- the path is one of an open tree, at numbers that a tree may have, and its bounds are near
  abbrev pub IsDue : ℕ → List Move → Type 0
  IsDue more path =
      IsOpenPath player path × All IsMoveForm path × AreNear (branch player path) more

  abbrev pub AreDue : ℕ → List (List Move) → Type 0
  AreDue more [] = Unit {0}
  AreDue more (path ∷ paths) = IsDue more path × AreDue more paths

  abbrev pub AllShow : Option Proofs → List (List Move) → List TreeOf → Type 0
  AllShow wanted [] [] = Unit {0}
  AllShow wanted [] (t ∷ ts) = ⊥
  AllShow wanted (path ∷ paths) [] = ⊥
  AllShow wanted (path ∷ paths) (t ∷ ts) =
      Shows player wanted (branch player path) t × AllShow wanted paths ts

  -- the point is inside one of the branches
  abbrev pub InSome : List (List Move) → PointOf → Type 0
  InSome [] x = ⊥
  InSome (path ∷ paths) x = Inside player (branch player path) x ⊎ InSome paths x

  -- the point isn't below the value
  abbrev pub IsCovered : Option Fraction → PointOf → Type 0
  IsCovered None x = ⊥
  IsCovered (Some f) x = IsNotBelow player aim f x

  -- with trees for the branches that are due, the nodes are those of one tree, with so many inner
  -- nodes besides the trees'
  abbrev pub IsPlanned : ℕ → List Plan → List (List Move) → Type 0
  IsPlanned spent plans paths =
      (wanted : Option Proofs) (nodes : List NodeOf) (ts : List TreeOf)
      → AreNodesOf player wanted plans nodes → AllShow wanted paths ts
      → (t : TreeOf) × Shows player wanted (root_leaf player) t × (preorder t ≡ nodes ++ forest ts)
      × (units t ≡ spent + units_all ts)

  pub record IsGrowing (best : Option Best) (plans : List Plan) (paths : List (List Move))
      (spent : ℕ) : Type 0 where
    pub best_is : IsBestSoFar player aim best
    pub closed : AreClosed player aim (best_value best) plans
    pub proved : AreProved player aim plans
    pub due : AreDue spent paths
    pub planned : IsPlanned spent plans paths
    pub covers : (x : PointOf) → IsFeasible player x
        → InSome paths x ⊎ IsCovered (best_value best) x
    pub forms : AreForms plans
    pub count : length plans + length paths ≤ 2 * spent + 1

  pub growing_at_start : (i : ℕ) × IsSomePlayer i player → IsGrowing None [] ([] ∷ []) 0
  growing_at_start some = record {
    best_is = tt;
    closed = tt;
    proved = tt;
    due = ((tt, (λ k d h. absurd (omega (arith, h))), root_near player some), tt);
    planned = λ wanted nodes ts none all. first wanted nodes ts none all;
    covers = λ x feasible. inl (inl (in_root player x feasible));
    forms = tt;
    count = omega arith;
  }
    where
      first : (wanted : Option Proofs) (nodes : List NodeOf) (ts : List TreeOf)
          → AreNodesOf player wanted [] nodes → AllShow wanted ([] ∷ []) ts
          → (t : TreeOf) × Shows player wanted (root_leaf player) t
          × (preorder t ≡ nodes ++ forest ts) × (units t ≡ 0 + units_all ts)
      first wanted [] [] none all = absurd all
      first wanted [] (t ∷ []) none all =
          (t, all.0, sym (append-nil (preorder t)), omega arith)
      first wanted [] (t ∷ u ∷ ts) none all = absurd all.1
      first wanted (n ∷ nodes) ts none all = absurd none

  pub grown_at_end : (best : Option Best) (plans : List Plan) (spent : ℕ) → spent ≤ 1000000000
      → IsGrowing best plans [] spent → IsGrown player aim spent best plans
  grown_at_end best plans spent few g = record {
    best_is = g.best_is;
    closed = g.closed;
    proved = g.proved;
    tree = λ wanted nodes h. (let t = g.planned wanted nodes [] h tt in
        let u = t.3 in (t.0, t.1, t.2 ∙ append-nil nodes, omega (arith, u)));
    least = least (best_value best) g.covers;
    forms = g.forms;
    few = (let c = g.count in omega (arith, c, few));
  }
    where
      least : (o : Option Fraction)
          → ((x : PointOf) → IsFeasible player x → ⊥ ⊎ IsCovered o x) → IsLeastOf player aim o
      least None covers = λ x feasible.
          ⊎_elim (λ (h : ⊥). h) (λ (h : ⊥). h) (covers x feasible)
      least (Some f) covers = λ x feasible.
          ⊎_elim (λ (h : ⊥). absurd h) (λ (h : IsNotBelow player aim f x). h) (covers x feasible)

  -- the next value is no higher: what is closed stays so
  abbrev pub IsBetter : Option Fraction → Option Fraction → Type 0
  IsBetter old new =
      ((leaf : LeafOf) → IsClosed player aim old leaf → IsClosed player aim new leaf)
      × ((x : PointOf) → IsFeasible player x → IsCovered old x → IsCovered new x)

  pub same_better : (o : Option Fraction) → IsBetter o o
  same_better o = (λ leaf h. h, λ x f h. h)

  pub lower_better : (old : Option Best) (f : Fraction) → IsBestSoFar player aim old
      → (pos 0) <ℤ f.den → IsNoHigher (best_value old) f → IsBetter (best_value old) (Some f)
  lower_better None f is low h = (λ leaf closed x meets. absurd (closed x meets), λ x g c. absurd c)
  lower_better (Some b) f is low h = (
    λ leaf closed x meets. at_most_not_below f.num f.den b.value.num b.value.den
        (aim_value player aim (num_of x)) x.den low is.lowest.ratio.positive meets.point h
        (closed x meets),
    λ x g c. at_most_not_below f.num f.den b.value.num b.value.den
        (aim_value player aim (num_of x)) x.den low is.lowest.ratio.positive g.point h c,
  )

  better_plan : (old new : Option Fraction) → IsBetter old new → (plan : Plan)
      → IsClosedPlan player aim old plan → IsClosedPlan player aim new plan
  better_plan old new b (SplitAt v at) h = tt
  better_plan old new b (ChooseOf p) h = tt
  better_plan old new b (Close path end) h = (h.0, b.0 (branch player path.items) h.1)

  better_plans : (old new : Option Fraction) → IsBetter old new → (plans : List Plan)
      → AreClosed player aim old plans → AreClosed player aim new plans
  better_plans old new b [] h = tt
  better_plans old new b (p ∷ plans) h =
      (better_plan old new b p h.0, better_plans old new b plans h.1)

  covered_if_closed : (o : Option Fraction) (leaf : LeafOf) (x : PointOf) → MeetsLeaf player leaf x
      → IsClosed player aim o leaf → IsCovered o x
  covered_if_closed None leaf x meets closed = closed x meets
  covered_if_closed (Some f) leaf x meets closed = closed x meets

  still_due : (spent : ℕ) (ps : List (List Move)) → AreDue spent ps → AreDue (spent + 1) ps
  still_due spent [] all = tt
  still_due spent (p ∷ ps) all = (
    (all.0.0, all.0.1, are_nearer (branch player p) spent (spent + 1) (omega arith) all.0.2),
    still_due spent ps all.1,
  )

  module _ (some : (i : ℕ) × IsSomePlayer i player) (best : Option Best) (plans : List Plan)
      (path : Vec Move Global) (paths : List (List Move)) (spent : ℕ)
      (g : IsGrowing best plans (path.items ∷ paths) spent) where
    abbrev leaf : LeafOf
    leaf = branch player path.items

    -- a branch is closed
    pub close_one : (new : Option Best) (end : EndProof) → IsBetter (best_value best) (best_value new)
        → IsBestSoFar player aim new → IsClosed player aim (best_value new) leaf
        → IsEndProof player aim leaf end
        → IsGrowing new (plans ++ Close path end ∷ []) paths spent
    close_one new end better is closed proof = record {
      best_is = is;
      closed = closed_more player aim (best_value new) plans (Close path end)
          (better_plans (best_value best) (best_value new) better plans g.closed)
          (g.due.0.0, closed);
      proved = proved_more player aim plans (Close path end) g.proved proof;
      due = g.due.1;
      planned = λ wanted nodes ts h all. planned_ wanted nodes ts h all;
      covers = λ x feasible. ⊎_elim (λ (h : Inside player leaf x ⊎ InSome paths x).
          ⊎_elim (λ (i : Inside player leaf x). inr (covered_if_closed (best_value new) leaf x
          (inside_meets player some.1.1.rows some.1.1.pairs some.1.1.from_zero x feasible leaf i) closed))
          (λ (i : InSome paths x). inl i) h)
          (λ (h : IsCovered (best_value best) x). inr (better.1 x feasible h)) (g.covers x feasible);
      forms = forms_more plans (Close path end) g.forms g.due.0.1;
      count = (let c = g.count in let l = length-append plans (Close path end ∷ []) in omega (arith, c, l));
    }
      where
        planned_ : (wanted : Option Proofs) (nodes : List NodeOf) (ts : List TreeOf)
            → AreNodesOf player wanted (plans ++ Close path end ∷ []) nodes → AllShow wanted paths ts
            → (t : TreeOf) × Shows player wanted (root_leaf player) t
            × (preorder t ≡ nodes ++ forest ts) × (units t ≡ spent + units_all ts)
        planned_ wanted nodes ts h all =
            let l = nodes_last player wanted plans (Close path end) nodes h in
            let one = end_tree player wanted leaf l.1 l.4 in
            let t = g.planned wanted l.0 (one.0 ∷ ts) l.3 (one.1, all) in
            let u = t.3 in
            let e = one.3 in (
              t.0,
              t.1,
              t.2 ∙ sym (ap (λ (ns : List NodeOf). ns ++ forest ts) l.2 ∙
                  append_assoc l.0 (l.1 ∷ []) (forest ts) ∙
                  ap (λ (ns : List NodeOf). l.0 ++ (ns ++ forest ts)) (sym one.2)),
              omega (arith, u, e),
            )

    first_move : (split : ASplit) → HasPoint player leaf → IsDivision player leaf spent split
        → IsOpenPath player (path.items ++ first_side split ∷ [])
    first_move (SplitIs.Var v at) point is =
        moves_more player (root_leaf player) path.items (AMove.Low v at) g.due.0.0 point is.0
    first_move (SplitIs.Pair p) point is =
        moves_more player (root_leaf player) path.items (AMove.VarZero p) g.due.0.0 point is

    second_move : (split : ASplit) → HasPoint player leaf → IsDivision player leaf spent split
        → IsOpenPath player (path.items ++ second_side split ∷ [])
    second_move (SplitIs.Var v at) point is =
        moves_more player (root_leaf player) path.items (AMove.High v at) g.due.0.0 point is.0
    second_move (SplitIs.Pair p) point is =
        moves_more player (root_leaf player) path.items (AMove.RowZero p) g.due.0.0 point is

    forms_of : (split : ASplit) → spent ≤ 1000000000 → IsDivision player leaf spent split
        → IsMoveForm (first_side split) × IsMoveForm (second_side split) × IsPlanForm (plan_of split)
    forms_of (SplitIs.Var v at) few is =
        let l = is.1 in
        let u = is.2 in
        let low : negsuc 4611686018427387903 ≤ℤ at = omega (arith, ints, few, l) in
        let up : at ≤ℤ pos 4611686018427387903 = omega (arith, ints, few, u) in
        ((low, up), (low, up), (low, up))
    forms_of (SplitIs.Pair p) few is = (tt, tt, tt)

    split_proved : (split : ASplit) → IsProvedPlan player aim (plan_of split)
    split_proved (SplitIs.Var v at) = tt
    split_proved (SplitIs.Pair p) = tt

    split_closed : (split : ASplit) → IsClosedPlan player aim (best_value best) (plan_of split)
    split_closed (SplitIs.Var v at) = tt
    split_closed (SplitIs.Pair p) = tt

    split_tree : (split : ASplit) → HasPoint player leaf → IsDivision player leaf spent split
        → (wanted : Option Proofs) (node : NodeOf) (s t : TreeOf)
        → IsNodeOf player wanted (plan_of split) node
        → Shows player wanted (branch player (path.items ++ first_side split ∷ [])) s
        → Shows player wanted (branch player (path.items ++ second_side split ∷ [])) t
        → (u : TreeOf) × Shows player wanted leaf u
        × (preorder u ≡ node ∷ (preorder s ++ preorder t)) × (units u ≡ 1 + units s + units t)
    split_tree (SplitIs.Var v at) point is wanted node s t e a b = (
      Split v at s t,
      (
        point,
        is.0,
        subst (λ (l : LeafOf). Shows player wanted l s)
            (after_more (root_leaf player) path.items (AMove.Low v at)) a,
        subst (λ (l : LeafOf). Shows player wanted l t)
            (after_more (root_leaf player) path.items (AMove.High v at)) b,
      ),
      ap (λ (n : NodeOf). n ∷ (preorder s ++ preorder t)) (sym e),
      refl,
    )
    split_tree (SplitIs.Pair p) point is wanted node s t e a b = (
      Choose p s t,
      (
        point,
        is,
        subst (λ (l : LeafOf). Shows player wanted l s)
            (after_more (root_leaf player) path.items (AMove.VarZero p)) a,
        subst (λ (l : LeafOf). Shows player wanted l t)
            (after_more (root_leaf player) path.items (AMove.RowZero p)) b,
      ),
      ap (λ (n : NodeOf). n ∷ (preorder s ++ preorder t)) (sym e),
      refl,
    )

    one_child : (split : ASplit) → IsDivision player leaf spent split → (x : PointOf)
        → IsFeasible player x → Inside player leaf x
        → Inside player (child_by leaf (first_side split)) x
        ⊎ Inside player (child_by leaf (second_side split)) x
    one_child (SplitIs.Var v at) is x feasible inside =
        one_side player x feasible leaf inside v at is.0.whole
    one_child (SplitIs.Pair p) is x feasible inside =
        one_choice player x feasible leaf inside p is.0

    -- a branch is split
    pub split_one : (split : ASplit) → spent ≤ 1000000000 → HasPoint player leaf
        → IsDivision player leaf spent split
        → IsGrowing best (plans ++ plan_of split ∷ [])
        ((path.items ++ first_side split ∷ []) ∷ (path.items ++ second_side split ∷ []) ∷ paths)
        (spent + 1)
    split_one split few point is = record {
      best_is = g.best_is;
      closed = closed_more player aim (best_value best) plans (plan_of split) g.closed
          (split_closed split);
      proved = proved_more player aim plans (plan_of split) g.proved (split_proved split);
      due = (
        (
          first_move split point is,
          All-push IsMoveForm path.items (first_side split) g.due.0.1 (forms_of split few is).0,
          subst (λ (l : LeafOf). AreNear l (spent + 1))
              (sym (after_more (root_leaf player) path.items (first_side split)))
              (first_near player leaf spent split g.due.0.2 is),
        ),
        (
          (
            second_move split point is,
            All-push IsMoveForm path.items (second_side split) g.due.0.1 (forms_of split few is).1,
            subst (λ (l : LeafOf). AreNear l (spent + 1))
                (sym (after_more (root_leaf player) path.items (second_side split)))
                (second_near player leaf spent split g.due.0.2 is),
          ),
          still_due spent paths g.due.1,
        ),
      );
      planned = λ wanted nodes ts h all. planned_ wanted nodes ts h all;
      covers = λ x feasible. ⊎_elim (λ (h : Inside player leaf x ⊎ InSome paths x).
          inl (⊎_elim (λ (i : Inside player leaf x).
          ⊎_elim (λ (j : Inside player (child_by leaf (first_side split)) x).
          inl (subst (λ (l : LeafOf). Inside player l x)
          (sym (after_more (root_leaf player) path.items (first_side split))) j))
          (λ (j : Inside player (child_by leaf (second_side split)) x).
          inr (inl (subst (λ (l : LeafOf). Inside player l x)
          (sym (after_more (root_leaf player) path.items (second_side split))) j)))
          (one_child split is x feasible i)) (λ (i : InSome paths x). inr (inr i)) h))
          (λ (h : IsCovered (best_value best) x). inr h) (g.covers x feasible);
      forms = forms_more plans (plan_of split) g.forms (forms_of split few is).2;
      count = (let c = g.count in let l = length-append plans (plan_of split ∷ []) in
          omega (arith, c, l));
    }
      where
        planned_ : (wanted : Option Proofs) (nodes : List NodeOf) (ts : List TreeOf)
            → AreNodesOf player wanted (plans ++ plan_of split ∷ []) nodes
            → AllShow wanted ((path.items ++ first_side split ∷ [])
            ∷ (path.items ++ second_side split ∷ []) ∷ paths) ts
            → (t : TreeOf) × Shows player wanted (root_leaf player) t
            × (preorder t ≡ nodes ++ forest ts) × (units t ≡ spent + 1 + units_all ts)
        planned_ wanted nodes [] h all = absurd all
        planned_ wanted nodes (s ∷ []) h all = absurd all.1
        planned_ wanted nodes (s ∷ t ∷ ts) h all =
            let l = nodes_last player wanted plans (plan_of split) nodes h in
            let u = split_tree split point is wanted l.1 s t l.4 all.0 all.1.0 in
            let r = g.planned wanted l.0 (u.0 ∷ ts) l.3 (u.1, all.1.1) in
            let n = r.3 in
            let m = u.3 in (
              r.0,
              r.1,
              r.2 ∙ sym (ap (λ (ns : List NodeOf).
                  ns ++ (preorder s ++ (preorder t ++ forest ts))) l.2 ∙
                  append_assoc l.0 (l.1 ∷ []) (preorder s ++ (preorder t ++ forest ts)) ∙
                  ap (λ (ns : List NodeOf). l.0 ++ l.1 ∷ ns)
                  (sym (append_assoc (preorder s) (preorder t) (forest ts))) ∙
                  ap (λ (ns : List NodeOf). l.0 ++ (ns ++ forest ts)) (sym u.2)),
              omega (arith, n, m),
            )

  -- ---- the work that was done

  abbrev loose_node : Plan → NodeOf
  loose_node (SplitAt v at) = SplitNode v at
  loose_node (ChooseOf p) = ChooseNode p
  loose_node (Close path end) = LooseNode

  abbrev loose_nodes : List Plan → List NodeOf
  loose_nodes [] = []
  loose_nodes (p ∷ ps) = loose_node p ∷ loose_nodes ps

  loose_is : (plan : Plan) → IsNodeOf player None plan (loose_node plan)
  loose_is (SplitAt v at) = refl
  loose_is (ChooseOf p) = refl
  loose_is (Close path end) = tt

  loose_are : (plans : List Plan) → AreNodesOf player None plans (loose_nodes plans)
  loose_are [] = tt
  loose_are (p ∷ ps) = (loose_is p, loose_are ps)

  abbrev loose_trees : List (List Move) → List TreeOf
  loose_trees [] = []
  loose_trees (p ∷ ps) = Loose ∷ loose_trees ps

  loose_show : (paths : List (List Move)) → AllShow None paths (loose_trees paths)
  loose_show [] = tt
  loose_show (p ∷ ps) = (tt, loose_show ps)

  loose_units : (paths : List (List Move)) → units_all (loose_trees paths) ≡ 0
  loose_units [] = refl
  loose_units (p ∷ ps) = let r = loose_units ps in omega (arith, r)

  pub work_of : (best : Option Best) (plans : List Plan) (paths : List (List Move)) (spent : ℕ)
      → IsGrowing best plans paths spent → (work : Work player) × (units work.tree ≡ spent)
  work_of best plans paths spent g =
      let t = g.planned None (loose_nodes plans) (loose_trees paths) (loose_are plans) (loose_show paths) in
      let u = t.3 in
      let z = loose_units paths in
      (record { tree = t.0; open_is = shows_open player None (root_leaf player) t.0 t.1 }, omega (arith, u, z))

  pub spends_work : (best : Option Best) (plans : List Plan) (paths : List (List Move))
      (spent : ℕ) (old new : Purse) → IsGrowing best plans paths spent → SpendsBranches old new
      → new.branches ≤ old.branches + spent → SpendsWork player old new
  spends_work best plans paths spent old new g s few =
      let w = work_of best plans paths spent g in
      let u = w.1 in
      record {
        pivots = s.pivots;
        limit = s.limit;
        cuts = s.cuts;
        branches = s.branches;
        work = w.0;
        units_are = omega (arith, u, few);
      }

  -- the purse was at its limit, and one more branch was due
  pub more_work : (best : Option Best) (plans : List Plan) (paths : List (List Move)) (spent : ℕ)
      (old : Purse) → IsGrowing best plans paths spent → old.limit < counted old + spent
      → HasMoreWork player old
  more_work best plans paths spent old g more =
      let w = work_of best plans paths spent g in
      let u = w.1 in
      (w.0, omega (arith, u, more))
