-- When a certificate is right.
use Rattle.std.specs.Prelude.{◌≡◌, ℕ, ℤ, Some, List, length, map, slice_get}
use Rattle.std.specs.List.{All}
use Rattle.zr_base.specs.Fractions.{IsSame}
use Rattle.zr_game.specs.Players.{GameOf, PlayerOf}
use Rattle.zr_game.specs.Forms.{IsPlayer}
use Rattle.zr_game.specs.Leaves.{Bound, bound_with, root_leaf}
use Rattle.zr_game.specs.Profiles.{IsOfKind, IsProfile, Profile, expected_cost, total}
use Rattle.zr_game.specs.declared.kind.Kind.{Kind}
use Rattle.zr_game.specs.declared.kind.Kind.TheVariants.{Pure}
use Rattle.zr_tree.specs.Nodes.{NodeOf}
use Rattle.zr_tree.specs.Trees.{TreeOf, preorder}
use Rattle.zr_tree.specs.Right.{IsRefuted, IsRight}
use Rattle.zr_mix.specs.Checks.{IsClaimOf}
use Rattle.zr_cases.specs.Cases.{RNodeOf}
use Rattle.zr_cases.specs.Trees.{CasesOf, preorder as case_preorder}
use Rattle.zr_game.specs.Named.{NamedOf}
use Rattle.zr_refute.specs.Covered.{ShowsNone, covered}
use Rattle.zr_refute.specs.Refuting.{leaf_counts}
use Rattle.zr_cert.specs.Certs.{BoundOf, BoxVerdict, CertOf, CoverVerdict, EmptyVerdict, MixtureOf, ProfileVerdict, VerdictOf, profile_with}
use Rattle.zr_check.specs.Boxes.{AreRightBoxes}

-- the nodes are those of a tree that proves the row on all points of the player
pub record IsRowTree (player : PlayerOf) (row : Bound) (nodes : List NodeOf) : Type 0 where
  pub tree : TreeOf
  pub listed : preorder tree ≡ nodes
  pub right : IsRight player row (root_leaf player) tree

-- the nodes are those of a tree that shows that the player has no point
pub record IsEmptyTree (player : PlayerOf) (nodes : List NodeOf) : Type 0 where
  pub tree : TreeOf
  pub listed : preorder tree ≡ nodes
  pub refuted : IsRefuted player (root_leaf player) tree

-- the printed cost is the expected cost of player i, and the tree proves its claim
pub record IsRightBound (player : PlayerOf) (i : ℕ) (profile : Profile) (bound : BoundOf) : Type 0 where
  pub cost : IsSame bound.cost (expected_cost player i profile)
  pub left : List ℤ
  pub right : ℤ
  pub claim : IsClaimOf player i profile left right
  pub proof : IsRowTree player (bound_with left right) bound.tree

-- feasible strategies of the kind, with the printed totals
pub record AreRightStrategies (game : GameOf) (kind : Kind) (mixtures : List MixtureOf) : Type 0 where
  pub valid : IsProfile game (profile_with mixtures)
  pub of_kind : IsOfKind kind (profile_with mixtures)
  pub totals : All (λ m. m.total ≡ total m.parts) mixtures

-- such strategies, and each player has a right bound
pub record IsRightProfile (game : GameOf) (kind : Kind) (mixtures : List MixtureOf) (bounds : List BoundOf) : Type 0 where
  pub strategies : AreRightStrategies game kind mixtures
  pub bounds_of : (i : ℕ) (player : PlayerOf) → IsPlayer game i player
      → (bound : BoundOf) × (slice_get bounds i ≡ Some bound) × IsRightBound player i (profile_with mixtures) bound

-- the nodes are those of right covers, which hold all points, and of a refutation of the system over
-- their leaves for the kind; what is named is a feasible point or a ray at one
pub record IsRightCover (game : GameOf) (kind : Kind) (covers : List (List NodeOf))
    (named : List (List NamedOf)) (proof : List RNodeOf) : Type 0 where
  pub trees : List TreeOf
  pub listed : map preorder trees ≡ covers
  pub cases : CasesOf
  pub cases_listed : case_preorder (leaf_counts (covered game trees named)) cases ≡ proof
  pub shows : ShowsNone game kind trees named cases

-- A verdict of boxes is shown for the pure kind.
abbrev pub IsRightVerdict : GameOf → Kind → VerdictOf → Type 0
IsRightVerdict game kind (ProfileVerdict mixtures bounds) = IsRightProfile game kind mixtures bounds
IsRightVerdict game kind (CoverVerdict covers named proof) =
    IsRightCover game kind covers named proof
IsRightVerdict game kind (EmptyVerdict i nodes) = (player : PlayerOf) × IsPlayer game i player × IsEmptyTree player nodes
IsRightVerdict game kind (BoxVerdict nodes) = (kind ≡ Pure) × AreRightBoxes game nodes

-- the certificate is for as many players as the game has, and its verdict is right
pub record IsRightCert (game : GameOf) (c : CertOf) : Type 0 where
  pub players : c.players ≡ length game
  pub verdict : IsRightVerdict game c.kind c.verdict

-- the verdict is a profile of right strategies, whatever its bounds
abbrev pub IsRightHead : GameOf → Kind → VerdictOf → Type 0
IsRightHead game kind (ProfileVerdict mixtures bounds) = AreRightStrategies game kind mixtures
IsRightHead game kind (CoverVerdict covers named proof) = ⊥
IsRightHead game kind (EmptyVerdict i nodes) = ⊥
IsRightHead game kind (BoxVerdict nodes) = ⊥
