-- The leaves of a cover hold all feasible points, and no others where they are exact.
use Rattle.std.proofs.Common.{◌≡◌, ℕ, zero, suc, ◌+◌, ◌<◌, arith, refl, sym, subst, ℤ, true, false, All, Some, List, [], ◌∷◌, ◌++◌, length, slice_get, ⊎_elim}
use Rattle.zr_base.specs.Points.{PointOf}
use Rattle.std.proofs.lemmas.Option.{slice_get_within}
use Rattle.zr_base.proofs.Members.{each_join}
use Rattle.zr_base.proofs.Worth.{Each}
use Rattle.zr_game.specs.declared.leaf.Side.{Side}
use Rattle.zr_game.specs.declared.leaf.Side.TheVariants.{VarZero, RowZero}
use Rattle.zr_game.specs.Players.{PlayerOf}
use Rattle.zr_game.specs.Forms.{IsFromZero, IsPairForm, IsRowForm}
use Rattle.zr_game.specs.Feasible.{IsFeasible}
use Rattle.zr_game.specs.Leaves.{HasPoint, LeafOf, MeetsLeaf, above, below, decided, root_leaf, slots}
use Rattle.zr_game.proofs.Holding.{Inside, all_slots, in_root, slot_holds}
use Rattle.zr_tree.specs.Nodes.{ProofNode}
use Rattle.zr_tree.specs.Trees.{TreeOf, Split, Choose, Proof, Known, Loose}
use Rattle.zr_tree.specs.Covers.{HoldPoints, IsCoverTree, CoverLeaf, high_child, low_child, cover_leaves, side_child}
use Rattle.zr_tree.proofs.Descent.{end_refutes, one_choice, one_side}
use Rattle.zr_tree.proofs.Listing.{is_below}
use Rattle.zr_tree.proofs.SettledLeaves.{KeepsRoot, above_keeps, below_keeps, decided_keeps, root_keeps, settled_feasible}

get_front : {A : Type 0} (xs ys : List A) (k : ℕ) (a : A) → slice_get xs k ≡ Some a
    → slice_get (xs ++ ys) k ≡ Some a
get_front [] ys k a e = absurd cc
get_front (x ∷ xs) ys zero a e = e
get_front (x ∷ xs) ys (suc k) a e = get_front xs ys k a e

get_back : {A : Type 0} (xs ys : List A) (k : ℕ) (a : A) → slice_get ys k ≡ Some a
    → slice_get (xs ++ ys) (length xs + k) ≡ Some a
get_back [] ys k a e = let z : 0 + k ≡ k = omega arith in rw z e
get_back (x ∷ xs) ys k a e =
    let z : suc (length xs) + k ≡ suc (length xs + k) = omega arith in
    rw z (get_back xs ys k a e)

get_each : {A : Type 0} (P : A → Type 0) (xs : List A) (k : ℕ) (a : A) → Each P xs
    → slice_get xs k ≡ Some a → P a
get_each P [] k a all e = absurd cc
get_each P (x ∷ xs) zero a all e = let f : x ≡ a = cc in subst P f all.0
get_each P (x ∷ xs) (suc k) a all e = get_each P xs k a all.1 e

module _ (player : PlayerOf) (rows : All (IsRowForm (length player.vars)) player.rows) (pairs : All (IsPairForm (length player.vars)) player.pairs) (zeros : All (λ pair. IsFromZero player.vars pair.var) player.pairs) where
  -- where the variable and the pair exist, the children are those of the tree
  low_is : (leaf : LeafOf) (v : ℕ) (at : ℤ) → v < length player.vars
      → low_child player leaf v at ≡ below leaf v at
  low_is leaf v at h = is_below v (length player.vars) (below leaf v at) leaf h

  high_is : (leaf : LeafOf) (v : ℕ) (at : ℤ) → v < length player.vars
      → high_child player leaf v at ≡ above leaf v at
  high_is leaf v at h = is_below v (length player.vars) (above leaf v at) leaf h

  side_is : (leaf : LeafOf) (p : ℕ) (side : Side) → p < length player.pairs
      → side_child player leaf p side ≡ decided leaf p side
  side_is leaf p side h = is_below p (length player.pairs) (decided leaf p side) leaf h

  -- ---- each exact leaf

  abbrev IsExact : CoverLeaf → Type 0
  IsExact item = item.exact ≡ true
      → ((x : PointOf) → MeetsLeaf player item.leaf x → IsFeasible player x)
      × HasPoint player item.leaf

  all_exact : (t : TreeOf) (leaf : LeafOf) → KeepsRoot player leaf → IsCoverTree player leaf t
      → Each IsExact (cover_leaves player leaf t)
  all_exact (Split v at first second) leaf keeps cover =
      let inside = slice_get_within player.vars v cover.0.0 cover.0.1 in
      each_join IsExact (cover_leaves player (low_child player leaf v at) first)
      (cover_leaves player (high_child player leaf v at) second)
      (subst (λ (l : LeafOf). Each IsExact (cover_leaves player l first))
      (sym (low_is leaf v at inside))
      (all_exact first (below leaf v at) (below_keeps player leaf keeps v at) cover.1))
      (subst (λ (l : LeafOf). Each IsExact (cover_leaves player l second))
      (sym (high_is leaf v at inside))
      (all_exact second (above leaf v at) (above_keeps player leaf keeps v at) cover.2))
  all_exact (Choose p first second) leaf keeps cover =
      each_join IsExact (cover_leaves player (side_child player leaf p VarZero) first)
      (cover_leaves player (side_child player leaf p RowZero) second)
      (subst (λ (l : LeafOf). Each IsExact (cover_leaves player l first))
      (sym (side_is leaf p VarZero cover.0.0))
      (all_exact first (decided leaf p VarZero) (decided_keeps player leaf keeps p VarZero)
      cover.1))
      (subst (λ (l : LeafOf). Each IsExact (cover_leaves player l second))
      (sym (side_is leaf p RowZero cover.0.0))
      (all_exact second (decided leaf p RowZero) (decided_keeps player leaf keeps p RowZero)
      cover.2))
  all_exact (Proof scale mult) leaf keeps cover = tt
  all_exact (Known y) leaf keeps cover = (
    (λ e. (
      λ x meets. settled_feasible player leaf keeps x meets rows pairs zeros cover.0,
      (y, cover.1),
    )),
    tt,
  )
  all_exact Loose leaf keeps cover = ((λ e. absurd cc), tt)

  -- ---- each feasible point

  module _ (x : PointOf) (feasible : IsFeasible player x) where
    pub inside_meets : (leaf : LeafOf) → Inside player leaf x → MeetsLeaf player leaf x
    inside_meets leaf inside =
        let all = all_slots player x leaf inside rows pairs feasible in
        record {
          point = feasible.point;
          len = feasible.len;
          rows = λ k row e. slot_holds player x (slots player leaf) k row all e;
        }

    abbrev IsIn : List CoverLeaf → Type 0
    IsIn leaves = (k : ℕ) × (item : CoverLeaf) × (slice_get leaves k ≡ Some item)
        × MeetsLeaf player item.leaf x

    in_front : (xs ys : List CoverLeaf) → IsIn xs → IsIn (xs ++ ys)
    in_front xs ys h = (h.0, h.1, get_front xs ys h.0 h.1 h.2, h.3)

    in_back : (xs ys : List CoverLeaf) → IsIn ys → IsIn (xs ++ ys)
    in_back xs ys h = (length xs + h.0, h.1, get_back xs ys h.0 h.1 h.2, h.3)

    in_leaves : (t : TreeOf) (leaf : LeafOf) → Inside player leaf x → IsCoverTree player leaf t
        → IsIn (cover_leaves player leaf t)
    in_leaves (Split v at first second) leaf inside cover =
        let below_all = slice_get_within player.vars v cover.0.0 cover.0.1 in
        let xs = cover_leaves player (low_child player leaf v at) first in
        let ys = cover_leaves player (high_child player leaf v at) second in
        ⊎_elim (λ (s : Inside player (below leaf v at) x). in_front xs ys
        (subst (λ (l : LeafOf). IsIn (cover_leaves player l first))
        (sym (low_is leaf v at below_all)) (in_leaves first (below leaf v at) s cover.1)))
        (λ (s : Inside player (above leaf v at) x). in_back xs ys
        (subst (λ (l : LeafOf). IsIn (cover_leaves player l second))
        (sym (high_is leaf v at below_all)) (in_leaves second (above leaf v at) s cover.2)))
        (one_side player x feasible leaf inside v at cover.0)
    in_leaves (Choose p first second) leaf inside cover =
        let xs = cover_leaves player (side_child player leaf p VarZero) first in
        let ys = cover_leaves player (side_child player leaf p RowZero) second in
        ⊎_elim (λ (s : Inside player (decided leaf p VarZero) x). in_front xs ys
        (subst (λ (l : LeafOf). IsIn (cover_leaves player l first))
        (sym (side_is leaf p VarZero cover.0.0))
        (in_leaves first (decided leaf p VarZero) s cover.1)))
        (λ (s : Inside player (decided leaf p RowZero) x). in_back xs ys
        (subst (λ (l : LeafOf). IsIn (cover_leaves player l second))
        (sym (side_is leaf p RowZero cover.0.0))
        (in_leaves second (decided leaf p RowZero) s cover.2)))
        (one_choice player x feasible leaf inside p cover.0.0)
    in_leaves (Proof scale mult) leaf inside cover =
        absurd (end_refutes player x feasible rows pairs leaf (ProofNode scale mult) inside cover)
    in_leaves (Known y) leaf inside cover =
        (0, record { leaf = leaf; exact = true }, refl, inside_meets leaf inside)
    in_leaves Loose leaf inside cover =
        (0, record { leaf = leaf; exact = false }, refl, inside_meets leaf inside)

  pub cover_holds : (t : TreeOf) → IsCoverTree player (root_leaf player) t
      → HoldPoints player (cover_leaves player (root_leaf player) t)
  cover_holds t cover =
      let exact = all_exact t (root_leaf player) (root_keeps player) cover in
      let leaves = cover_leaves player (root_leaf player) t in
      record {
        covers = λ x feasible. in_leaves x feasible t (root_leaf player)
            (in_root player x feasible) cover;
        settled = λ k item e kept. (get_each IsExact leaves k item exact e kept).0;
        has_point = λ k item e kept. (get_each IsExact leaves k item exact e kept).1;
      }
