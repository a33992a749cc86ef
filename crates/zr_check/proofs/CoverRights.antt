-- Covers and a refutation that pass are right, and right ones pass where no step is too wide.
use Rattle.std.proofs.Common.{◌≡◌, ℕ, arith, sym, subst, ◌∙◌, ◌⊎◌, ⊎_elim, inl, inr, Some, All, List, [], length, get_or, slice_get, slice_index_or}
use Rattle.std.proofs.lemmas.Option.{get_or_from_slice_get, slice_get-get_or, slice_get_within}
use Rattle.zr_base.proofs.Members.{all_found}
use Rattle.zr_game.specs.Forms.{IsPlayer}
use Rattle.zr_game.specs.Leaves.{root_leaf}
use Rattle.zr_game.specs.Named.{IsNamed, NamedOf}
use Rattle.zr_game.specs.Players.{GameOf, PlayerOf}
use Rattle.zr_game.specs.declared.kind.Kind.{Kind}
use Rattle.zr_game.proofs.Items.{at_number, one}
use Rattle.zr_tree.specs.Covers.{IsCoverTree, KeepsCover}
use Rattle.zr_tree.specs.CoverSteps.{CoverPasses, IsWideCover, IsWideForCover}
use Rattle.zr_tree.specs.Nodes.{NodeOf}
use Rattle.zr_tree.specs.Trees.{TreeOf, preorder}
use Rattle.zr_tree.proofs.Forests.{same_tree}
use Rattle.zr_tree.proofs.PassLaws.{passes_if, right_if}
use Rattle.zr_cases.specs.Cases.{RNodeOf}
use Rattle.zr_cases.specs.Trees.{CasesOf, preorder as case_preorder}
use Rattle.zr_system.specs.Regions.{LeavesOf}
use Rattle.zr_refute.specs.Covered.{covered}
use Rattle.zr_refute.specs.Refuting.{Closes, RefutesUnder, leaf_counts}
use Rattle.zr_refute.specs.Steps.{HasWideCase, IsWideEnd, Passes}
use Rattle.zr_refute.proofs.AlikeCases.{are_alike, wide_alike}
use Rattle.zr_refute.proofs.PassLaws.{passing}
use Rattle.zr_cert.specs.Certs.{CoverVerdict}
use Rattle.zr_cert.specs.Forms.{IsCoverForm}
use Rattle.zr_check.specs.Checks.{VerdictPasses}
use Rattle.zr_check.specs.Covers.{CoversPass}
use Rattle.zr_check.specs.Right.{IsRightCover}
use Rattle.zr_check.specs.WideSteps.{HasWideCover, HasWideNamed, HasWideProofCase, VerdictIsWide}
use Rattle.zr_check.proofs.CoverTrees.{nodes_at, same_trees, tree_at}

-- a refutation passes exactly where it refutes and none of its steps is too wide
module _ (game : GameOf) (leaves : LeavesOf) (kind : Kind) (t : CasesOf) where
  refutes_if : Passes game leaves kind [] t
      → RefutesUnder game leaves kind [] t × (HasWideCase game leaves kind [] t → ⊥)
  refutes_if p = (passing (Closes game leaves) (IsWideEnd game leaves) game leaves kind [] t).0 p

  passes_where : RefutesUnder game leaves kind [] t → (HasWideCase game leaves kind [] t → ⊥)
      → Passes game leaves kind [] t
  passes_where r n =
      (passing (Closes game leaves) (IsWideEnd game leaves) game leaves kind [] t).1 (r, n)

-- a cover that passes is one and has no step that is too wide
cover_if : (player : PlayerOf) (t : TreeOf) → CoverPasses player (root_leaf player) t
    → IsCoverTree player (root_leaf player) t × (IsWideCover player (root_leaf player) t → ⊥)
cover_if player t p =
    right_if (KeepsCover player) (IsWideForCover player) player t (root_leaf player) p

module _ (game : GameOf) (kind : Kind) (covers : List (List NodeOf)) (named : List (List NamedOf))
    (proof : List RNodeOf) where
  -- a step is too wide in the refutation over the leaves of these trees
  abbrev IsWideOver : List TreeOf → Type 0
  IsWideOver trees =
      (t : CasesOf) × (case_preorder (leaf_counts (covered game trees named)) t ≡ proof)
      × HasWideCase game (covered game trees named) kind [] t

  module _ (form : IsCoverForm (length game) covers named proof)
      (pass : VerdictPasses game kind (CoverVerdict covers named proof)) where
    abbrev trees : List TreeOf
    trees = pass.1.0

    module _ (i : ℕ) (player : PlayerOf) (is : IsPlayer game i player) where
      nodes_of : (nodes : List NodeOf) × (slice_get covers i ≡ Some nodes)
      nodes_of =
          let h = slice_get_within game i player is in
          let c = form.cover_count in
          at_number covers i (omega (arith, h, c))

      items_of : (items : List NamedOf) × (slice_get named i ≡ Some items)
      items_of =
          let h = slice_get_within game i player is in
          let c = form.named_count in
          at_number named i (omega (arith, h, c))

      cover_of : (tree : TreeOf) × (slice_get trees i ≡ Some tree)
          × IsCoverTree player (root_leaf player) tree
      cover_of =
          let t = tree_at trees covers pass.1.1 i nodes_of.0 nodes_of.1 in
          let p = (pass.0 i player is nodes_of.0 items_of.0 nodes_of.1 items_of.1).0 in
          let same = same_tree p.0 t.0 (p.1 ∙ sym t.2) in
          let passes = subst (CoverPasses player (root_leaf player)) same p.2 in
          (t.0, t.1, (cover_if player t.0 passes).0)

      names_of : All (IsNamed player) (slice_index_or named i [])
      names_of =
          let p = (pass.0 i player is nodes_of.0 items_of.0 nodes_of.1 items_of.1).1 in
          let e = get_or_from_slice_get named i items_of.0 [] items_of.1 in
          let all : All (IsNamed player) items_of.0 = λ k d h.
          (p k (get_or items_of.0 k d) (slice_get-get_or items_of.0 k d h)).0 in
          subst (All (IsNamed player)) (sym e) all

    pub right_cover : IsRightCover game kind covers named proof
    right_cover = record {
      trees = trees;
      listed = pass.1.1;
      cases = pass.1.2.0;
      cases_listed = pass.1.2.1;
      shows = record {
        covers = record {
          covers = λ i player is. cover_of i player is;
          named_items = λ i player is. names_of i player is;
        };
        refutes = (refutes_if game (covered game trees named) kind pass.1.2.0 pass.1.2.2).0;
      };
    }

    narrow_covers : HasWideCover game covers → ⊥
    narrow_covers w =
        let items = items_of w.i w.player w.is_player in
        let p = (pass.0 w.i w.player w.is_player (preorder w.tree) items.0 w.is_tree items.1).0 in
        let same = same_tree w.tree p.0 (sym p.1) in
        let wide = subst (IsWideCover w.player (root_leaf w.player)) same w.wide in
        (cover_if w.player p.0 p.2).1 wide

    narrow_named : HasWideNamed game named → ⊥
    narrow_named w =
        let nodes = nodes_of w.i w.player w.is_player in
        let p = (pass.0 w.i w.player w.is_player nodes.0 w.items nodes.1 w.are_items).1 in
        (p w.k w.item w.is_item).1 w.wide

    narrow_cases : HasWideProofCase game kind covers named proof → ⊥
    narrow_cases w =
        let leaves = covered game trees named in
        let same = same_trees w.trees trees (w.listed ∙ sym pass.1.1) in
        let moved = subst IsWideOver same (w.cases, w.cases_listed, w.wide) in
        let alike = are_alike leaves moved.0 pass.1.2.0 (moved.1 ∙ sym pass.1.2.1) in
        let wide = wide_alike leaves game kind (IsWideEnd game leaves) [] moved.0 pass.1.2.0 alike
        moved.2 in
        (refutes_if game leaves kind pass.1.2.0 pass.1.2.2).1 wide

    pub narrow_cover : VerdictIsWide game kind (CoverVerdict covers named proof) → ⊥
    narrow_cover w =
        ⊎_elim narrow_covers
        (λ (v : HasWideNamed game named ⊎ HasWideProofCase game kind covers named proof).
        ⊎_elim narrow_named narrow_cases v) w

  module _ (right : IsRightCover game kind covers named proof)
      (narrow : VerdictIsWide game kind (CoverVerdict covers named proof) → ⊥) where
    covers_pass : CoversPass game covers named
    covers_pass i player is nodes items at_nodes at_items =
        let c = right.shows.covers.covers i player is in
        let n = nodes_at right.trees covers right.listed i c.0 c.1 in
        let e = get_or_from_slice_get named i items [] at_items in
        let all = subst (All (IsNamed player)) e (right.shows.covers.named_items i player is) in (
          (
            c.0,
            one covers i (preorder c.0) nodes n at_nodes,
            passes_if (KeepsCover player) (IsWideForCover player) player c.0 (root_leaf player)
                c.2 (λ w. narrow (inl (record {
                  i = i;
                  player = player;
                  is_player = is;
                  tree = c.0;
                  is_tree = n;
                  wide = w;
                }))),
          ),
          λ k item here. (
            all_found (IsNamed player) items k item all here,
            λ w. narrow (inr (inl (record {
              i = i;
              player = player;
              is_player = is;
              items = items;
              are_items = at_items;
              k = k;
              item = item;
              is_item = here;
              wide = w;
            }))),
          ),
        )

    pub cover_passes : VerdictPasses game kind (CoverVerdict covers named proof)
    cover_passes = (
      covers_pass,
      (
        right.trees,
        right.listed,
        (
          right.cases,
          right.cases_listed,
          passes_where game (covered game right.trees named) kind right.cases right.shows.refutes
              (λ w. narrow (inr (inr (record {
                trees = right.trees;
                listed = right.listed;
                cases = right.cases;
                cases_listed = right.cases_listed;
                wide = w;
              })))),
        ),
      ),
    )
