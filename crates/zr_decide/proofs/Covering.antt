-- The covers of the players, one more at a time.
use Rattle.std.proofs.Common.{◌≡◌, ℕ, zero, suc, ◌+◌, ◌-◌, ◌*◌, ◌<◌, ◌≤◌, arith, refl, sym, ap, ap₂, subst, ◌∙◌, Bool, true, false, IsTrue, Option, Some, None, All, List, [], ◌∷◌, ◌++◌, length, map, slice_get, take, ⊎_elim, inl, inr}
use Rattle.std.proofs.lemmas.List.{length-append, map-append}
use Rattle.std.proofs.lemmas.List.Elements.{All-nil, All-push}
use Rattle.std.proofs.lemmas.Option.{slice_get_within}
use Rattle.zr_io.specs.declared.purse.Purse.{Purse}
use Rattle.zr_game.specs.Forms.{IsGame, IsPlayer}
use Rattle.zr_game.specs.Leaves.{root_leaf}
use Rattle.zr_game.specs.Players.{GameOf, PlayerOf}
use Rattle.zr_tree.specs.declared.tree.Tree.{Tree}
use Rattle.zr_tree.specs.Form.{IsNodeForm, IsTree}
use Rattle.zr_tree.specs.Nodes.{NodeOf, LooseNode}
use Rattle.zr_tree.specs.Right.{IsRefuted}
use Rattle.zr_tree.specs.Trees.{TreeOf, Loose, preorder}
use Rattle.zr_bnb.specs.Causes.{SpendsWork as SpendsOwnWork}
use Rattle.zr_best.specs.Works.{SpendsBestWork}
use Rattle.zr_cert.specs.Certs.{nodes_of}
use Rattle.zr_cert.specs.Forms.{IsCoverNode, IsTreeWith, leaf_count}
use Rattle.zr_cert.specs.Lines.{sum_lines, tree_lines}
use Rattle.zr_cover.specs.Covers.{HasNoLoose, IsExactCoverOf}
use Rattle.zr_decide.specs.declared.covers.WholeRay.{WholeRay}
use Rattle.zr_decide.specs.Coverings.{AreCoversTo, HasPointForm, IsCoverOf, IsFirstOpen, IsOpenCover, ShowsEmpty}
use Rattle.zr_decide.specs.Decided.{IsDecidedCover, IsDrawnWholeRay}
use Rattle.zr_decide.proofs.DrawnCerts.{drawn_cover}
use Rattle.zr_decide.proofs.CoverNodes.{cover_nodes, empty_nodes, refuted_tree}
use Rattle.zr_decide.proofs.Lists.{get_front, get_last, get_old, pushed}
use Rattle.zr_decide.proofs.Working.{more_work, no_work}

-- ---- one player's cover

pub exact_is : (game : GameOf) → IsGame game → (i : ℕ) (player : PlayerOf) → IsPlayer game i player
    → (old new : Purse) (tree : Tree) → IsExactCoverOf player old new tree
    → IsTree (nodes_of tree) → All HasPointForm (nodes_of tree)
    → IsCoverOf player i (nodes_of tree) None
exact_is game sound i player is old new tree cover whole points =
    let t = cover.0 in
    let c = cover.2 in
    record {
      tree = t;
      listed = cover.1;
      made = inl record { cover = c.cover; exact = c.exact; open_is = c.open_is; drawn = c.drawn };
      form = record {
        whole = whole;
        each = subst (All IsCoverNode) cover.1
            (cover_nodes game i player (sound.players i player is) (root_leaf player) t c.cover
            (subst (All IsNodeForm) (sym cover.1) whole.forms)
            (subst (All HasPointForm) (sym cover.1) points));
      };
      open_is = c.exact;
    }

pub loose_is : (i : ℕ) (player : PlayerOf) (ray : WholeRay) → ray.player ≡ i
    → IsDrawnWholeRay player ray.var ray.dir.items → (nodes : List NodeOf) → nodes ≡ LooseNode ∷ []
    → IsTree nodes → IsCoverOf player i nodes (Some ray)
loose_is i player ray is fact nodes e whole = record {
  tree = Loose;
  listed = sym e;
  made = inr (refl, (ray.dir.items, ray.var, fact.0));
  form = record {
    whole = whole;
    each = subst (All IsCoverNode) (sym e) (All-push IsCoverNode [] LooseNode (All-nil IsCoverNode) tt);
  };
  open_is = (refl, is, fact);
}

-- ---- all players' covers

pub record CoversSoFar (game : GameOf) (i : ℕ) (covers : List Tree) (ray : Option WholeRay)
    (old mid : Purse) : Type 0 where
  pub covers_are : AreCoversTo game i covers ray
  pub few : sum_lines tree_lines (map nodes_of covers) ≤ i + 2 * mid.branches
  pub work : SpendsBestWork (take i game) old mid

pub no_covers : (game : GameOf) (purse : Purse) → CoversSoFar game 0 [] None purse purse
no_covers game purse = record {
  covers_are = record {
    trees = [];
    listed = refl;
    len = refl;
    each = λ k player t is e. absurd cc;
    forms = All-nil (IsTreeWith IsCoverNode);
    open_is = λ k t e. absurd cc;
  };
  few = omega arith;
  work = no_work game purse;
}

sum_push : (xs : List (List NodeOf)) (x : List NodeOf)
    → sum_lines tree_lines (xs ++ x ∷ []) ≡ sum_lines tree_lines xs + length x
sum_push [] x = omega arith
sum_push (y ∷ ys) x = let r = sum_push ys x in omega (arith, r)

module _ (game : GameOf) (i : ℕ) (player : PlayerOf) (is : IsPlayer game i player)
    (covers : List Tree) (ray : Option WholeRay) (before : AreCoversTo game i covers ray)
    (cover : Tree) (found : Option WholeRay) (made : IsCoverOf player i (nodes_of cover) found)
    (leaf : 1 ≤ leaf_count (nodes_of cover)) where
  with_leaf : IsDecidedCover player made.tree
  with_leaf =
      ⊎_elim
      (λ s. inl (s, subst (λ (ns : List NodeOf). 1 ≤ leaf_count ns) (sym made.listed) leaf))
      (λ r. inr r) made.made

  abbrev trees : List TreeOf
  trees = before.trees ++ made.tree ∷ []

  same_player : (p : PlayerOf) → IsPlayer game i p → player ≡ p
  same_player p h = let e : Some player ≡ Some p = sym is ∙ h in cc

  decided : (k : ℕ) (t : TreeOf) → slice_get trees k ≡ Some t → (p : PlayerOf)
      → IsPlayer game k p → IsDecidedCover p t
  decided = pushed (λ k t. (p : PlayerOf) → IsPlayer game k p → IsDecidedCover p t) before.trees
      made.tree (λ k t e p h. before.each k p t h e)
      (λ p h. subst (λ (q : PlayerOf). IsDecidedCover q made.tree)
      (same_player p (subst (λ n. IsPlayer game n p) before.len h)) with_leaf)

  below_len : (k : ℕ) (t : TreeOf) → slice_get before.trees k ≡ Some t → k < length before.trees
  below_len k t e = slice_get_within before.trees k t e

  -- the first loose cover stays the first
  still_open : (o : WholeRay) → IsFirstOpen game before.trees (Some o) → IsFirstOpen game trees (Some o)
  still_open o h = (
    record {
      loose = get_front before.trees made.tree o.player Loose h.0.loose;
      first = λ k t l e. h.0.first k t l
          (get_old before.trees made.tree k t
          (let w = below_len o.player Loose h.0.loose in omega (arith, l, w)) e);
    },
    h.1,
    h.2,
    h.3,
  )

  -- or this one is
  now_open : IsFirstOpen game before.trees None → (f : Option WholeRay)
      → IsOpenCover player i made.tree f → IsFirstOpen game trees f
  now_open h None none = pushed (λ k t. HasNoLoose t) before.trees made.tree h none
  now_open h (Some o) some =
      let at : o.player ≡ length before.trees = some.1 ∙ sym before.len in (
        record {
          loose = ap (slice_get trees) at ∙ get_last before.trees made.tree ∙ ap Some some.0;
          first = λ k t l e. h k t
              (get_old before.trees made.tree k t (omega (arith, l, at)) e);
        },
        player,
        subst (λ n. IsPlayer game n player) (sym some.1) is,
        some.2,
      )

  opened : (first result : Option WholeRay) → first ≡ ray
      → ((o : WholeRay) → first ≡ Some o → result ≡ Some o) → (first ≡ None → result ≡ found)
      → IsFirstOpen game trees result
  opened None result e some none =
      subst (IsFirstOpen game trees) (sym (none refl))
      (now_open (subst (IsFirstOpen game before.trees) (sym e) before.open_is) found made.open_is)
  opened (Some o) result e some none =
      subst (IsFirstOpen game trees) (sym (some o refl))
      (still_open o (subst (IsFirstOpen game before.trees) (sym e) before.open_is))

  pub more_covers : (result : Option WholeRay) → ((o : WholeRay) → ray ≡ Some o → result ≡ Some o)
      → (ray ≡ None → result ≡ found) → AreCoversTo game (i + 1) (covers ++ cover ∷ []) result
  more_covers result some none = record {
    trees = trees;
    listed = map-append preorder before.trees (made.tree ∷ [])
        ∙ ap₂ (λ (xs : List (List NodeOf)) (y : List NodeOf). xs ++ y ∷ []) before.listed made.listed
        ∙ sym (map-append nodes_of covers (cover ∷ []));
    len = (let l = length-append before.trees (made.tree ∷ []) in let b = before.len in
        omega (arith, l, b));
    each = λ k p t h e. decided k t e p h;
    forms = subst (All (IsTreeWith IsCoverNode)) (sym (map-append nodes_of covers (cover ∷ [])))
        (All-push (IsTreeWith IsCoverNode) (map nodes_of covers) (nodes_of cover) before.forms
        made.form);
    open_is = opened ray result refl some none;
  }

  pub cover_more : (old mid new : Purse) → sum_lines tree_lines (map nodes_of covers) ≤ i + 2 * mid.branches
      → SpendsBestWork (take i game) old mid → SpendsOwnWork player mid new
      → length (nodes_of cover) ≤ 1 + 2 * (new.branches - mid.branches)
      → (result : Option WholeRay) → ((o : WholeRay) → ray ≡ Some o → result ≡ Some o)
      → (ray ≡ None → result ≡ found) → CoversSoFar game (i + 1) (covers ++ cover ∷ []) result old new
  cover_more old mid new few before_work own short result some none = record {
    covers_are = more_covers result some none;
    few = (
        let e = ap (sum_lines tree_lines) (map-append nodes_of covers (cover ∷ [])) in
        let s = sum_push (map nodes_of covers) (nodes_of cover) in
        let b = own.branches in
        omega (arith, e, s, few, short, b));
    work = more_work game i player is old mid before_work new own;
  }

-- a cover without a leaf shows that the player has no point
pub shows_empty : (game : GameOf) (i : ℕ) (player : PlayerOf) → IsPlayer game i player
    → (nodes : List NodeOf) (found : Option WholeRay) → IsCoverOf player i nodes found
    → leaf_count nodes ≡ 0 → length nodes ≤ 2000000001 → ShowsEmpty game i nodes
shows_empty game i player is nodes found made none few = record {
  player = player;
  is_player = is;
  shown = record { tree = made.tree; listed = made.listed; refuted = refuted };
  drawn = drawn_cover player made.tree nodes made.listed made.made;
  form = record {
    whole = made.form.whole;
    each = empty_nodes nodes made.form.each none;
  };
  few = few;
}
  where
    no_leaf : leaf_count (preorder made.tree) ≡ 0
    no_leaf = ap leaf_count made.listed ∙ none

    refuted : IsRefuted player (root_leaf player) made.tree
    refuted =
        ⊎_elim (λ s. refuted_tree player (root_leaf player) made.tree s.cover no_leaf)
        (λ s. absurd (let e = sym (ap (λ (t : TreeOf). leaf_count (preorder t)) s.0) ∙ no_leaf in
        omega (arith, e)))
        made.made

-- a test that fails tells that there is none
pub none_of : (b : Bool) (n : ℕ) → b ≡ false → (1 ≤ n → IsTrue b) → n ≡ 0
none_of b zero e f = refl
none_of b (suc n) e f = let s : false ≡ true = sym e ∙ f (omega arith) in absurd cc
