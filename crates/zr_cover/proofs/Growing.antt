-- What the search for a cover keeps from branch to branch.
use Rattle.std.proofs.Common.{◌≡◌, ℕ, ◌+◌, ◌*◌, ◌<◌, ◌≤◌, arith, refl, sym, ap, ◌∙◌, subst, pos, negsuc, ◌≤ℤ◌, Bool, true, false, List, [], ◌∷◌, ◌++◌, length, length-append, append_assoc, All}
use Rattle.std.proofs.lemmas.Int.{ints}
use Rattle.std.proofs.lemmas.List.{append-nil}
use Rattle.std.proofs.lemmas.List.Elements.{All-push}
use Rattle.zr_io.specs.declared.purse.Purse.{Purse}
use Rattle.zr_io.specs.Purses.{counted}
use Rattle.zr_game.specs.Players.{PlayerOf}
use Rattle.zr_game.specs.Leaves.{HasPoint, LeafOf, root_leaf}
use Rattle.zr_tree.specs.Form.{IsNodeForm}
use Rattle.zr_tree.specs.Nodes.{NodeOf}
use Rattle.zr_tree.specs.Trees.{TreeOf, Split, Choose, Loose, preorder}
use Rattle.zr_tree.proofs.Forests.{forest}
use Rattle.zr_asked.specs.declared.question.Move.{Move}
use Rattle.zr_asked.specs.declared.question.Move.TheVariants as AMove
use Rattle.zr_asked.specs.OpenTrees.{Work, units}
use Rattle.zr_asked.specs.Paths.{IsOpenPath, branch}
use Rattle.zr_branch.specs.Replies.{IsMoveForm, IsSomePlayer}
use Rattle.zr_branch.proofs.Paths.{after_more, moves_more}
use Rattle.zr_bnb.specs.Causes.{HasMoreWork, SpendsWork}
use Rattle.zr_bnb.specs.Splits.{AreNear}
use Rattle.zr_cover.specs.declared.split.Split.{Split as ASplit}
use Rattle.zr_cover.specs.declared.split.Split.TheVariants as SplitIs
use Rattle.zr_cover.specs.Fates.{AreCoverNodes, IsCovering, IsExactEnd}
use Rattle.zr_cover.specs.Splits.{PartsLeaf, first_step, second_step, split_node}
use Rattle.zr_cover.proofs.Coverings.{covering_open, end_tree}
use Rattle.zr_cover.proofs.Near.{are_further, first_near, root_near, second_near}

-- branches alone were spent, and pivots counted
pub record SpendsBranches (old new : Purse) : Type 0 where
  pub limit : new.limit ≡ old.limit
  pub cuts : new.cuts ≡ old.cuts
  pub branches : old.branches ≤ new.branches
  pub pivots : old.pivots ≤ new.pivots

abbrev pub units_all : List TreeOf → ℕ
units_all [] = 0
units_all (t ∷ ts) = units t + units_all ts

module _ (player : PlayerOf) where
  -- the path is one of an open tree, at numbers that a tree may have, and its bounds are near
  abbrev pub IsDue : ℕ → List Move → Type 0
  IsDue more path =
      IsOpenPath player path × All IsMoveForm path × AreNear (branch player path) more

  abbrev pub AreDue : ℕ → List (List Move) → Type 0
  AreDue more [] = Unit {0}
  AreDue more (path ∷ paths) = IsDue more path × AreDue more paths

  abbrev pub AllCover : Bool → List (List Move) → List TreeOf → Type 0
  AllCover loose [] [] = Unit {0}
  AllCover loose [] (t ∷ ts) = ⊥
  AllCover loose (path ∷ paths) [] = ⊥
  AllCover loose (path ∷ paths) (t ∷ ts) =
      IsCovering loose player (branch player path) t × AllCover loose paths ts

  -- with trees for the branches that are due, the nodes are those of one tree, with so many inner
  -- nodes besides the trees'
  abbrev pub IsPlanned : ℕ → List NodeOf → List (List Move) → Type 0
  IsPlanned spent nodes paths =
      (loose : Bool) (ts : List TreeOf) → AllCover loose paths ts
      → (t : TreeOf) × IsCovering loose player (root_leaf player) t
      × (preorder t ≡ nodes ++ forest ts) × (units t ≡ spent + units_all ts)

  pub record IsGrowing (nodes : List NodeOf) (paths : List (List Move)) (spent : ℕ) : Type 0 where
    pub due : AreDue spent paths
    pub planned : IsPlanned spent nodes paths
    pub forms : All IsNodeForm nodes
    pub count : length nodes + length paths ≤ 2 * spent + 1

  pub growing_at_start : (i : ℕ) × IsSomePlayer i player → IsGrowing [] ([] ∷ []) 0
  growing_at_start some = record {
    due = ((tt, (λ k d h. absurd (omega (arith, h))), root_near player some), tt);
    planned = λ loose ts all. first loose ts all;
    forms = λ k d h. absurd (omega (arith, h));
    count = omega arith;
  }
    where
      first : (loose : Bool) (ts : List TreeOf) → AllCover loose ([] ∷ []) ts
          → (t : TreeOf) × IsCovering loose player (root_leaf player) t
          × (preorder t ≡ [] ++ forest ts) × (units t ≡ 0 + units_all ts)
      first loose [] all = absurd all
      first loose (t ∷ []) all = (t, all.0, sym (append-nil (preorder t)), omega arith)
      first loose (t ∷ u ∷ ts) all = absurd all.1

  pub grown_at_end : (nodes : List NodeOf) (spent : ℕ) (old new : Purse)
      → new.branches ≡ old.branches + spent → IsGrowing nodes [] spent
      → AreCoverNodes player old new nodes
  grown_at_end nodes spent old new e g =
      let t = g.planned false [] tt in
      let u = t.3 in (t.0, t.2 ∙ append-nil nodes, t.1, omega (arith, e, u))

  still_due : (spent : ℕ) (ps : List (List Move)) → AreDue spent ps → AreDue (spent + 1) ps
  still_due spent [] all = tt
  still_due spent (p ∷ ps) all = (
    (all.0.0, all.0.1, are_further (branch player p) spent (spent + 1) (omega arith) all.0.2),
    still_due spent ps all.1,
  )

  module _ (nodes : List NodeOf) (path : List Move) (paths : List (List Move)) (spent : ℕ)
      (g : IsGrowing nodes (path ∷ paths) spent) where
    abbrev leaf : LeafOf
    leaf = branch player path

    -- a branch has its end
    pub end_one : (node : NodeOf) → IsExactEnd player leaf node → IsNodeForm node
        → IsGrowing (nodes ++ node ∷ []) paths spent
    end_one node is form = record {
      due = g.due.1;
      planned = λ loose ts all. planned_ loose ts all;
      forms = All-push IsNodeForm nodes node g.forms form;
      count = (let c = g.count in let l = length-append nodes (node ∷ []) in omega (arith, c, l));
    }
      where
        planned_ : (loose : Bool) (ts : List TreeOf) → AllCover loose paths ts
            → (t : TreeOf) × IsCovering loose player (root_leaf player) t
            × (preorder t ≡ (nodes ++ node ∷ []) ++ forest ts) × (units t ≡ spent + units_all ts)
        planned_ loose ts all =
            let end = end_tree player loose leaf node is in
            let t = g.planned loose (end.0 ∷ ts) (end.1, all) in
            let u = t.3 in
            let e = end.3 in (
              t.0,
              t.1,
              t.2 ∙ sym (append_assoc nodes (node ∷ []) (forest ts) ∙
                  ap (λ (ns : List NodeOf). nodes ++ (ns ++ forest ts)) (sym end.2)),
              omega (arith, u, e),
            )

    first_move : (split : ASplit) → HasPoint player leaf → PartsLeaf player leaf spent split
        → IsOpenPath player (path ++ first_step split ∷ [])
    first_move (SplitIs.Var v at) point is =
        moves_more player (root_leaf player) path (AMove.Low v at) g.due.0.0 point is.0
    first_move (SplitIs.Pair p) point is =
        moves_more player (root_leaf player) path (AMove.VarZero p) g.due.0.0 point is

    second_move : (split : ASplit) → HasPoint player leaf → PartsLeaf player leaf spent split
        → IsOpenPath player (path ++ second_step split ∷ [])
    second_move (SplitIs.Var v at) point is =
        moves_more player (root_leaf player) path (AMove.High v at) g.due.0.0 point is.0
    second_move (SplitIs.Pair p) point is =
        moves_more player (root_leaf player) path (AMove.RowZero p) g.due.0.0 point is

    forms_of : (split : ASplit) → spent ≤ 1000000000 → PartsLeaf player leaf spent split
        → IsMoveForm (first_step split) × IsMoveForm (second_step split)
        × IsNodeForm (split_node split)
    forms_of (SplitIs.Var v at) few is =
        let l = is.1.0 in
        let u = is.1.1 in
        let low : negsuc 4611686018427387903 ≤ℤ at = omega (arith, ints, few, l) in
        let up : at ≤ℤ pos 4611686018427387903 = omega (arith, ints, few, u) in
        ((low, up), (low, up), (low, up))
    forms_of (SplitIs.Pair p) few is = (tt, tt, tt)

    split_tree : (split : ASplit) → HasPoint player leaf → PartsLeaf player leaf spent split
        → (loose : Bool) (s t : TreeOf)
        → IsCovering loose player (branch player (path ++ first_step split ∷ [])) s
        → IsCovering loose player (branch player (path ++ second_step split ∷ [])) t
        → (u : TreeOf) × IsCovering loose player leaf u
        × (preorder u ≡ split_node split ∷ (preorder s ++ preorder t))
        × (units u ≡ 1 + units s + units t)
    split_tree (SplitIs.Var v at) point is loose s t a b = (
      Split v at s t,
      (
        point,
        is.0,
        subst (λ (l : LeafOf). IsCovering loose player l s)
            (after_more (root_leaf player) path (AMove.Low v at)) a,
        subst (λ (l : LeafOf). IsCovering loose player l t)
            (after_more (root_leaf player) path (AMove.High v at)) b,
      ),
      refl,
      refl,
    )
    split_tree (SplitIs.Pair p) point is loose s t a b = (
      Choose p s t,
      (
        point,
        is,
        subst (λ (l : LeafOf). IsCovering loose player l s)
            (after_more (root_leaf player) path (AMove.VarZero p)) a,
        subst (λ (l : LeafOf). IsCovering loose player l t)
            (after_more (root_leaf player) path (AMove.RowZero p)) b,
      ),
      refl,
      refl,
    )

    -- a branch is split
    pub split_one : (split : ASplit) → spent ≤ 1000000000 → HasPoint player leaf
        → PartsLeaf player leaf spent split
        → IsGrowing (nodes ++ split_node split ∷ [])
        ((path ++ first_step split ∷ []) ∷ (path ++ second_step split ∷ []) ∷ paths) (spent + 1)
    split_one split few point is = record {
      due = (
        (
          first_move split point is,
          All-push IsMoveForm path (first_step split) g.due.0.1 (forms_of split few is).0,
          subst (λ (l : LeafOf). AreNear l (spent + 1))
              (sym (after_more (root_leaf player) path (first_step split)))
              (first_near player leaf spent g.due.0.2 split is),
        ),
        (
          (
            second_move split point is,
            All-push IsMoveForm path (second_step split) g.due.0.1 (forms_of split few is).1,
            subst (λ (l : LeafOf). AreNear l (spent + 1))
                (sym (after_more (root_leaf player) path (second_step split)))
                (second_near player leaf spent g.due.0.2 split is),
          ),
          still_due spent paths g.due.1,
        ),
      );
      planned = λ loose ts all. planned_ loose ts all;
      forms = All-push IsNodeForm nodes (split_node split) g.forms (forms_of split few is).2;
      count = (let c = g.count in let l = length-append nodes (split_node split ∷ []) in
          omega (arith, c, l));
    }
      where
        planned_ : (loose : Bool) (ts : List TreeOf)
            → AllCover loose ((path ++ first_step split ∷ [])
            ∷ (path ++ second_step split ∷ []) ∷ paths) ts
            → (t : TreeOf) × IsCovering loose player (root_leaf player) t
            × (preorder t ≡ (nodes ++ split_node split ∷ []) ++ forest ts)
            × (units t ≡ spent + 1 + units_all ts)
        planned_ loose [] all = absurd all
        planned_ loose (s ∷ []) all = absurd all.1
        planned_ loose (s ∷ t ∷ ts) all =
            let u = split_tree split point is loose s t all.0 all.1.0 in
            let r = g.planned loose (u.0 ∷ ts) (u.1, all.1.1) in
            let n = r.3 in
            let m = u.3 in
            let node = split_node split in (
              r.0,
              r.1,
              r.2 ∙ sym (append_assoc nodes (node ∷ [])
                  (preorder s ++ (preorder t ++ forest ts)) ∙
                  ap (λ (ns : List NodeOf). nodes ++ node ∷ ns)
                  (sym (append_assoc (preorder s) (preorder t) (forest ts))) ∙
                  ap (λ (ns : List NodeOf). nodes ++ (ns ++ forest ts)) (sym u.2)),
              omega (arith, n, m),
            )

  -- ---- the work that was done

  abbrev loose_trees : List (List Move) → List TreeOf
  loose_trees [] = []
  loose_trees (p ∷ ps) = Loose ∷ loose_trees ps

  loose_cover : (paths : List (List Move)) → AllCover true paths (loose_trees paths)
  loose_cover [] = tt
  loose_cover (p ∷ ps) = (refl, loose_cover ps)

  loose_units : (paths : List (List Move)) → units_all (loose_trees paths) ≡ 0
  loose_units [] = refl
  loose_units (p ∷ ps) = let r = loose_units ps in omega (arith, r)

  work_of : (nodes : List NodeOf) (paths : List (List Move)) (spent : ℕ)
      → IsGrowing nodes paths spent → (work : Work player) × (units work.tree ≡ spent)
  work_of nodes paths spent g =
      let t = g.planned true (loose_trees paths) (loose_cover paths) in
      let u = t.3 in
      let z = loose_units paths in (
        record { tree = t.0; open_is = covering_open player true (root_leaf player) t.0 t.1 },
        omega (arith, u, z),
      )

  pub spends_work : (nodes : List NodeOf) (paths : List (List Move)) (spent : ℕ)
      (old new : Purse) → IsGrowing nodes paths spent → SpendsBranches old new
      → new.branches ≤ old.branches + spent → SpendsWork player old new
  spends_work nodes paths spent old new g s few =
      let w = work_of nodes paths spent g in
      let u = w.1 in
      record {
        limit = s.limit;
        cuts = s.cuts;
        branches = s.branches;
        pivots = s.pivots;
        work = w.0;
        units_are = omega (arith, u, few);
      }

  -- the purse was at its limit, and one more branch was due
  pub more_work : (nodes : List NodeOf) (paths : List (List Move)) (spent : ℕ) (old : Purse)
      → IsGrowing nodes paths spent → old.limit < counted old + spent → HasMoreWork player old
  more_work nodes paths spent old g more =
      let w = work_of nodes paths spent g in
      let u = w.1 in
      (w.0, omega (arith, u, more))
