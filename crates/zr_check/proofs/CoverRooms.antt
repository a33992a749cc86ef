-- The room for a refutation over the leaves of covers.
use Rattle.std.proofs.Common.{◌≡◌, ◌≤◌, ℕ, arith, sym, ap, subst, ◌∙◌, Some, None, List, [], ◌∷◌, length, map, get_or, slice_get}
use Rattle.std.proofs.lemmas.List.{length-map}
use Rattle.std.proofs.lemmas.List.Elements.{All-cons, All-nil}
use Rattle.std.proofs.lemmas.Option.{slice_get-get_or, slice_get_within}
use Rattle.zr_base.proofs.Members.{all_found}
use Rattle.zr_game.specs.Named.{NamedOf}
use Rattle.zr_game.specs.Players.{GameOf}
use Rattle.zr_game.specs.declared.kind.Kind.{Kind}
use Rattle.zr_game.proofs.Items.{at_number}
use Rattle.zr_tree.specs.Nodes.{NodeOf}
use Rattle.zr_tree.specs.Scratches.{Places}
use Rattle.zr_tree.specs.Trees.{TreeOf, preorder}
use Rattle.zr_cases.specs.Cases.{RNodeOf}
use Rattle.zr_cases.specs.Forms.{IsWhole}
use Rattle.zr_system.specs.Regions.{LeavesOf, leaves_of}
use Rattle.zr_refute.specs.Covered.{covered}
use Rattle.zr_refute.specs.Refuting.{leaf_counts}
use Rattle.zr_cert.specs.declared.fault.CertFault.{CertFault}
use Rattle.zr_cert.specs.Forms.{IsCoverForm, leaf_count}
use Rattle.zr_check.specs.declared.room.CoverRoom.{CoverRoom}
use Rattle.zr_check.specs.CoverPlaces.{FitPlayers, HasCoverPlaces, HasTreePlaces, IsCoverRoom}
use Rattle.zr_check.specs.Covers.{CasesPass, CasesRefused, CoversPass, ProofPasses, ProofRefused}
use Rattle.zr_check.proofs.CoverTrees.{counts_are, trees_of}
use Rattle.zr_check.proofs.ItemSteps.{of_length}

-- the places for all trees are enough for one of them
pub one_place : (game : GameOf) (trees : List (List NodeOf)) (places : Places) (i : ℕ)
    (nodes : List NodeOf) → HasTreePlaces game trees places → slice_get trees i ≡ Some nodes
    → HasTreePlaces game (nodes ∷ []) places
one_place game trees places i nodes has at = record {
  nodes = All-cons (λ (list : List NodeOf). length list ≤ places.nodes) nodes []
      (all_found (λ (list : List NodeOf). length list ≤ places.nodes) trees i nodes has.nodes at)
      (All-nil (λ (list : List NodeOf). length list ≤ places.nodes));
  columns = has.columns;
  vars = has.vars;
  pairs = has.pairs;
}

module _ (game : GameOf) (covers : List (List NodeOf)) (named : List (List NamedOf))
    (proof : List RNodeOf) (form : IsCoverForm (length game) covers named proof) where
  -- covers and items that pass fit the players
  pub fit_if_pass : CoversPass game covers named → FitPlayers game covers named
  fit_if_pass pass = record {
    covers_count = form.cover_count;
    named_count = form.named_count;
    lengths = λ i items at player is k d h.
        let b = slice_get_within game i player is in
        let c = form.cover_count in
        let nodes = at_number covers i (omega (arith, b, c)) in
        let p = (pass i player is nodes.0 items nodes.1 at).1 in
        of_length player (get_or items k d)
        (p k (get_or items k d) (slice_get-get_or items k d h)).0;
  }

  -- there is a room where they pass
  pub room_is_there : CoversPass game covers named
      → HasCoverPlaces game covers named proof None → ⊥
  room_is_there pass none = none (fit_if_pass pass)

  abbrev trees : List TreeOf
  trees = (trees_of covers form.cover_forms).0

  listed : map preorder trees ≡ covers
  listed = (trees_of covers form.cover_forms).1

  as_many : length trees ≡ length game
  as_many =
      let l = length-map trees preorder in
      let e = ap length listed in
      let c = form.cover_count in
      omega (arith, l, e, c)

  module _ (room : CoverRoom) (is : IsCoverRoom game covers named proof room) where
    over : leaves_of room.leaves ≡ covered game trees named
    over = is.content trees listed

    counts : map leaf_count covers ≡ leaf_counts (leaves_of room.leaves)
    counts =
        ap (map leaf_count) (sym listed) ∙ sym (counts_are game trees named as_many)
        ∙ ap leaf_counts (sym over)

    pub room_whole : IsWhole (leaf_counts (leaves_of room.leaves)) proof
    room_whole = subst (λ (ns : List ℕ). IsWhole ns proof) counts form.whole

    module _ (kind : Kind) where
      pub proof_passed : CasesPass game (leaves_of room.leaves) kind proof
          → ProofPasses game kind covers named proof
      proof_passed p =
          (trees, listed, subst (λ (l : LeavesOf). CasesPass game l kind proof) over p)

      pub proof_refused : (line : ℕ) (fault : CertFault)
          → CasesRefused game (leaves_of room.leaves) kind proof line fault
          → ProofRefused game kind covers named proof line fault
      proof_refused line fault r =
          let moved = subst (λ (l : LeavesOf). CasesRefused game l kind proof line fault) over r in
          (trees, listed, moved)
