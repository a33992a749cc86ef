-- Leaves of exact covers, and certificates of the equilibria that are drawn over them.
use Rattle.std.proofs.Common.{◌≡◌, ℕ, zero, suc, ◌+◌, ◌*◌, ◌<◌, ◌≤◌, arith, refl, sym, ap, subst, ◌∙◌, true, All, List, [], ◌∷◌, length, get_or}
use Rattle.std.proofs.lemmas.List.{length-map}
use Rattle.std.proofs.lemmas.List.Elements.{All-append, All-cons, All-head, All-map, All-nil, All-tail}
use Rattle.zr_io.specs.declared.purse.Purse.{Purse}
use Rattle.zr_game.specs.Forms.{IsGame}
use Rattle.zr_game.specs.Leaves.{LeafOf, root_leaf}
use Rattle.zr_game.specs.Players.{GameOf, PlayerOf}
use Rattle.zr_game.specs.declared.kind.Kind.{Kind}
use Rattle.zr_game.specs.declared.leaf.Side.TheVariants.{VarZero, RowZero}
use Rattle.zr_tree.specs.Covers.{CoverLeaf, cover_leaves, high_child, low_child, side_child}
use Rattle.zr_tree.specs.Nodes.{NodeOf}
use Rattle.zr_tree.specs.Trees.{TreeOf, Split, Choose, Proof, Known, Loose, preorder}
use Rattle.zr_best.specs.Best.{ArePlayed}
use Rattle.zr_cert.specs.Certs.{BoundOf, MixtureOf, ProfileVerdict, profile_with}
use Rattle.zr_cert.specs.Forms.{IsVerdictForm}
use Rattle.zr_cert.specs.Lines.{bound_lines, mixture_lines, sum_lines}
use Rattle.zr_check.specs.Right.{IsRightProfile}
use Rattle.zr_costs.specs.Costs.{AreRightBounds, HaveFewNodes, node_count}
use Rattle.zr_cover.specs.Covers.{HasNoLoose}
use Rattle.zr_draw.specs.Drawn.{IsDrawnProfile}
use Rattle.zr_refute.specs.Covered.{region_with, regions_with}
use Rattle.zr_refute.proofs.CoveredLeaves.{are_covers}
use Rattle.zr_system.specs.Covers.{AreCovers, AreExact}
use Rattle.zr_system.specs.Regions.{LeavesOf, RegionOf, no_region}
use Rattle.zr_base.specs.Points.{PointOf}
use Rattle.zr_decide.specs.Answers.{HasNamedCovers}
use Rattle.zr_decide.specs.Equilibria.{AreSettled, AreSettledLeaves, IsDrawn}
use Rattle.zr_decide.proofs.Refuting.{covers_are_right}

-- ---- exact leaves

abbrev IsExactLeaf : CoverLeaf → Type 0
IsExactLeaf item = item.exact ≡ true

exact_leaves : (player : PlayerOf) (leaf : LeafOf) (t : TreeOf) → HasNoLoose t
    → All IsExactLeaf (cover_leaves player leaf t)
exact_leaves player leaf (Split v at a b) h =
    All-append IsExactLeaf (cover_leaves player (low_child player leaf v at) a)
    (cover_leaves player (high_child player leaf v at) b)
    (exact_leaves player (low_child player leaf v at) a h.0)
    (exact_leaves player (high_child player leaf v at) b h.1)
exact_leaves player leaf (Choose p a b) h =
    All-append IsExactLeaf (cover_leaves player (side_child player leaf p VarZero) a)
    (cover_leaves player (side_child player leaf p RowZero) b)
    (exact_leaves player (side_child player leaf p VarZero) a h.0)
    (exact_leaves player (side_child player leaf p RowZero) b h.1)
exact_leaves player leaf (Proof scale mult) h = All-nil IsExactLeaf
exact_leaves player leaf (Known x) h =
    All-cons IsExactLeaf record { leaf = leaf; exact = true } [] refl (All-nil IsExactLeaf)
exact_leaves player leaf Loose h = absurd h

exact_at : (game : GameOf) (trees : List TreeOf) → AreSettled trees → (i k : ℕ)
    → k < length (get_or (regions_with game trees) i [])
    → (get_or (get_or (regions_with game trees) i []) k no_region).exact ≡ true
exact_at [] trees h i k l = absurd (omega (arith, l))
exact_at (p ∷ ps) [] h i k l = absurd (omega (arith, l))
exact_at (p ∷ ps) (t ∷ ts) h zero k l =
    All-map (λ (r : RegionOf). r.exact ≡ true) region_with (cover_leaves p (root_leaf p) t)
    (exact_leaves p (root_leaf p) t (h 0 t refl)) k no_region l
exact_at (p ∷ ps) (t ∷ ts) h (suc i) k l = exact_at ps ts (λ j u e. h (suc j) u e) i k l

module _ (game : GameOf) (covers : List (List NodeOf)) (leaves : LeavesOf)
    (s : AreSettledLeaves game covers leaves) where
  pub leaves_cover : IsGame game → AreCovers game leaves
  leaves_cover sound =
      subst (AreCovers game) (sym s.same)
      (are_covers game sound s.trees s.named (covers_are_right game s.trees s.named s.covers))

  pub leaves_exact : AreExact game leaves
  leaves_exact =
      subst (AreExact game) (sym s.same) (λ i k h l. exact_at game s.trees s.settled i k l)

  module _ (kind : Kind) (x : PointOf) (mixtures : List MixtureOf)
      (drawn : IsDrawnProfile game leaves kind x mixtures) where
    abbrev pub is_drawn : IsDrawn game kind mixtures
    is_drawn = record {
      trees = s.trees;
      named = s.named;
      covers = s.covers;
      settled = s.settled;
      x = x;
      drawn = subst (λ (l : LeavesOf). IsDrawnProfile game l kind x mixtures) s.same drawn;
    }

    pub has_covers : HasNamedCovers game
    has_covers = (s.trees, s.named, s.covers)

    pub played : ArePlayed game mixtures
    played = record { forms = drawn.forms; totals = drawn.totals; valid = drawn.equilibrium.valid }

    -- ---- the certificate

    count : length mixtures ≡ length game
    count = sym (length-map mixtures (λ m. m.parts)) ∙ drawn.equilibrium.valid.len

    module _ (bounds : List BoundOf) (right : AreRightBounds game (profile_with mixtures) bounds) where
      pub profile_form : IsVerdictForm (length game) (ProfileVerdict mixtures bounds)
      profile_form = (count, drawn.forms, right.len, right.forms)

      pub profile_right : IsRightProfile game kind mixtures bounds
      profile_right = record {
        strategies = record {
          valid = drawn.equilibrium.valid;
          of_kind = drawn.of_kind;
          totals = drawn.totals;
        };
        bounds_of = right.bounds_of;
      }

      pub profile_few : All (λ m. length m.parts ≤ 16777216) mixtures → (old new : Purse)
          → HaveFewNodes game old new bounds → new.branches ≤ 1000000000 → length game ≤ 16
          → sum_lines mixture_lines mixtures + sum_lines bound_lines bounds < 4294967292
      profile_few parts old new few limit players =
          let a = mixtures_few mixtures parts in
          let b = bounds_few bounds in
          let n = count in
          let m = right.len in
          omega (arith, a, b, n, m, few, limit, players)
        where
          mixtures_few : (ms : List MixtureOf) → All (λ m. length m.parts ≤ 16777216) ms
              → sum_lines mixture_lines ms ≤ 16777217 * length ms
          mixtures_few [] h = omega arith
          mixtures_few (m ∷ ms) h =
              let r = mixtures_few ms (All-tail (λ m. length m.parts ≤ 16777216) m ms h) in
              let l = All-head (λ m. length m.parts ≤ 16777216) m ms h in
              omega (arith, r, l)

          bounds_few : (bs : List BoundOf)
              → sum_lines bound_lines bs ≡ length bs + node_count bs
          bounds_few [] = omega arith
          bounds_few (b ∷ bs) = let r = bounds_few bs in omega (arith, r)

  -- the tree of each cover
  pub covers_count : length covers ≡ length game
  covers_count =
      ap (λ (xs : List (List NodeOf)). length xs) (sym s.listed)
      ∙ length-map s.trees preorder ∙ s.covers.small.covers.len
