-- A refutation over the leaves of covers makes a certificate.
use Rattle.std.proofs.Common.{◌≡◌, ℕ, zero, suc, ◌+◌, ◌*◌, ◌<◌, ◌≤◌, arith, refl, sym, ap, ap₂, subst, ◌∙◌, Option, All, List, [], ◌∷◌, ◌++◌, length, map, get_or, ⊎_elim}
use Rattle.std.specs.Global.{Vec}
use Rattle.std.proofs.lemmas.List.{length-map}
use Rattle.std.proofs.lemmas.Option.{slice_get_within}
use Rattle.std.proofs.lemmas.List.Elements.{All-append, All-cons, All-head, All-nil, All-tail}
use Rattle.zr_game.specs.Leaves.{root_leaf}
use Rattle.zr_game.specs.Named.{NamedOf}
use Rattle.zr_game.specs.Players.{GameOf, PlayerOf}
use Rattle.zr_game.specs.declared.choice.Choice.{Choice}
use Rattle.zr_game.specs.declared.choice.Choice.TheVariants as AChoice
use Rattle.zr_game.specs.declared.kind.Kind.{Kind}
use Rattle.zr_game.specs.declared.named.Named.{Named}
use Rattle.zr_game.proofs.Items.{at_number}
use Rattle.zr_tree.specs.declared.tree.Tree.{Tree}
use Rattle.zr_tree.specs.Covers.{IsCoverTree}
use Rattle.zr_tree.specs.Nodes.{NodeOf}
use Rattle.zr_tree.specs.Trees.{TreeOf, preorder}
use Rattle.zr_cases.specs.Cases.{RNodeOf, OnOffNode, RowNode, WhichNode, CloseNode}
use Rattle.zr_cases.specs.Forms.{AreCases, IsAmong, IsWhole}
use Rattle.zr_cases.specs.Trees.{CasesOf, OnOff, RowSplit, Which, Close, lists_below, preorder as case_preorder}
use Rattle.zr_cases.proofs.Forests.{of_cases}
use Rattle.zr_system.specs.Regions.{LeavesOf}
use Rattle.zr_refute.specs.Covered.{AreRightCovers, covered}
use Rattle.zr_refute.specs.Refuting.{EndRule, RefutesBy, RefutesUnder, leaf_counts, then_choice}
use Rattle.zr_refute.proofs.Walking.{count_is}
use Rattle.zr_cert.specs.Certs.{named_list, nodes_of}
use Rattle.zr_cert.specs.Forms.{IsCoverForm, leaf_count}
use Rattle.zr_cert.specs.Lines.{named_lines, sum_lines, tree_lines}
use Rattle.zr_check.specs.Right.{IsRightCover}
use Rattle.zr_check.proofs.CoverTrees.{counts_are}
use Rattle.zr_decide.specs.declared.covers.WholeRay.{WholeRay}
use Rattle.zr_decide.specs.Coverings.{AreCoversTo}
use Rattle.zr_decide.specs.Decided.{AreDecidedCovers, IsDecidedCover, decided_leaves, no_names}
use Rattle.zr_decide.specs.NamedCovers.{AreItemsOver, AreNamedCovers, IsFull}
use Rattle.zr_decide.proofs.Lists.{all_below}
use Rattle.zr_decide.proofs.Naming.{names_few, names_formed, names_right}

-- ---- nothing is named

pub no_names_at : (game : GameOf) (i : ℕ) → get_or (no_names game) i [] ≡ []
no_names_at [] i = refl
no_names_at (p ∷ ps) zero = refl
no_names_at (p ∷ ps) (suc i) = no_names_at ps i

pub names_are : (game : GameOf) (lists : List (Vec Named)) → length lists ≡ length game
    → All (λ list. list.items ≡ []) lists → map named_list lists ≡ no_names game
names_are [] [] e h = refl
names_are [] (l ∷ ls) e h = absurd cc
names_are (p ∷ ps) [] e h = absurd cc
names_are (p ∷ ps) (l ∷ ls) e h =
    let empty = All-head (λ list. list.items ≡ []) l ls h in
    let rest = names_are ps ls (omega (arith, e)) (All-tail (λ list. list.items ≡ []) l ls h) in
    let here : named_list l ≡ [] = rw empty refl in
    ap₂ (λ (x : List NamedOf) (xs : List (List NamedOf)). x ∷ xs) here rest

pub same_leaves : (game : GameOf) (trees : List TreeOf) (lists : List (Vec Named))
    → length lists ≡ length game → All (λ list. list.items ≡ []) lists → (leaves : LeavesOf)
    → leaves ≡ covered game trees (map named_list lists) → leaves ≡ decided_leaves game trees
same_leaves game trees lists n e leaves h =
    h ∙ ap (λ (xs : List (List NamedOf)). covered game trees xs) (names_are game lists n e)

-- ---- the choices of a refutation name players

module _ (rule : EndRule) (game : GameOf) (leaves : LeavesOf) (kind : Kind) where
  abbrev list : CasesOf → List RNodeOf
  list t = case_preorder (leaf_counts leaves) t

  abbrev P : RNodeOf → Type 0
  P = IsAmong (length game)

  pub among : (path : List Choice) (t : CasesOf) → RefutesBy rule game leaves kind path t
      → All P (list t)
  among path (OnOff i k on off) r =
      All-cons P (OnOffNode i k) (list on ++ list off) tt
      (All-append P (list on) (list off) (among (then_choice path (AChoice.On i k)) on r.1)
      (among (then_choice path (AChoice.Off i k)) off r.2))
  among path (RowSplit i k s at_zero at_tight) r =
      All-cons P (RowNode i k s) (list at_zero ++ list at_tight) tt
      (All-append P (list at_zero) (list at_tight)
      (among (then_choice path (AChoice.Zero i k s)) at_zero r.1)
      (among (then_choice path (AChoice.Tight i k s)) at_tight r.2))
  among path (Which i trees) r =
      let n = get_or (leaf_counts leaves) i 0 in
      let c = count_is leaves.regions i in
      All-cons P (WhichNode i) (lists_below n (λ k. list (trees k))) r.0.1
      (all_below P n (λ k. list (trees k))
      (λ k l. among (then_choice path (AChoice.Which i k)) (trees k) (r.1 k (omega (arith, l, c)))))
  among path (Close mult) r = All-cons P (CloseNode mult) [] tt (All-nil P)

-- ---- the certificate

pub decided_covers : (game : GameOf) (covers : List Tree) (ray : Option WholeRay)
    (c : AreCoversTo game (length game) covers ray) → AreDecidedCovers game c.trees
decided_covers game covers ray c = record { len = c.len; each = c.each }

covers_tree : (player : PlayerOf) (t : TreeOf) → IsDecidedCover player t
    → IsCoverTree player (root_leaf player) t
covers_tree player t h =
    ⊎_elim (λ s. s.0.cover)
    (λ s. subst (λ (u : TreeOf). IsCoverTree player (root_leaf player) u) (sym s.0) tt) h

pub right_covers : (full : Type 0) (game : GameOf) (trees : List TreeOf)
    (named : List (List NamedOf)) → AreDecidedCovers game trees
    → AreItemsOver full game trees named → AreRightCovers game trees named
right_covers full game trees named d items = record {
  covers = λ i player is.
      let n = d.len in
      let w = slice_get_within game i player is in
      let t = at_number trees i (omega (arith, n, w)) in
      (t.0, t.1, covers_tree player t.0 (d.each i player t.0 is t.1));
  named_items = λ i player is. names_right full game trees named d items i player is;
}

pub covers_are_right : (game : GameOf) (trees : List TreeOf) (named : List (List NamedOf))
    → AreNamedCovers game trees named → AreRightCovers game trees named
covers_are_right game trees named over =
    right_covers (IsFull game (covered game trees named)) game trees named over.small.covers
    over.items

module _ (game : GameOf) (kind : Kind) (covers : List Tree) (ray : Option WholeRay)
    (c : AreCoversTo game (length game) covers ray) (named : List (List NamedOf))
    (over : AreNamedCovers game c.trees named) (nodes : List RNodeOf) (form : AreCases nodes)
    (t : CasesOf) (listed : case_preorder (leaf_counts (covered game c.trees named)) t ≡ nodes)
    (refutes : RefutesUnder game (covered game c.trees named) kind [] t) where
  abbrev leaves : LeavesOf
  leaves = covered game c.trees named

  counted : leaf_counts leaves ≡ map leaf_count (map nodes_of covers)
  counted =
      counts_are game c.trees named c.len
      ∙ ap (λ (xs : List (List NodeOf)). map leaf_count xs) c.listed

  count : length (map nodes_of covers) ≡ length game
  count =
      ap (λ (xs : List (List NodeOf)). length xs) (sym c.listed)
      ∙ length-map c.trees preorder ∙ c.len

  whole : IsWhole (map leaf_count (map nodes_of covers)) nodes
  whole = record {
    whole = of_cases (map leaf_count (map nodes_of covers)) nodes
        (t, ap (λ ns. case_preorder ns t) (sym counted) ∙ listed);
    players = subst (λ n. All (IsAmong n) nodes)
        (sym (length-map (map nodes_of covers) leaf_count ∙ count))
        (subst (All (IsAmong (length game))) listed (among _ game leaves kind [] t refutes));
  }

  abbrev full : Type 0
  full = IsFull game (covered game c.trees named)

  pub cover_form : IsCoverForm (length game) (map nodes_of covers) named nodes
  cover_form = record {
    cover_count = count;
    cover_forms = c.forms;
    named_count = over.items.len;
    named_forms = names_formed full game c.trees named over.small.covers over.items;
    cases = form;
    whole = whole;
  }

  pub cover_right : IsRightCover game kind (map nodes_of covers) named nodes
  cover_right = record {
    trees = c.trees;
    listed = c.listed;
    cases = t;
    cases_listed = listed;
    shows = record {
      covers = covers_are_right game c.trees named over;
      refutes = refutes;
    };
  }

  pub cover_few : (branches units : ℕ)
      → sum_lines tree_lines (map nodes_of covers) ≤ length game + 2 * branches
      → length nodes ≤ 1 + 2 * units → branches + units ≤ 1000000000 → length game ≤ 16
      → sum_lines tree_lines (map nodes_of covers)
      + (sum_lines named_lines named + length nodes) < 4294967292
  cover_few branches units a b limit few =
      let e = names_few full game c.trees named over.small.covers over.items in
      omega (arith, a, b, limit, few, e)
