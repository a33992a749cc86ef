-- That some step of a certificate's check is too wide.
use Rattle.std.specs.Prelude.{◌≡◌, ℕ, ℤ, Some, List, [], map, slice_get, ◌⊎◌}
use Rattle.zr_base.specs.Fractions.{Fraction}
use Rattle.zr_game.specs.Players.{GameOf, PlayerOf}
use Rattle.zr_game.specs.Forms.{IsPlayer}
use Rattle.zr_game.specs.Leaves.{Bound, bound_with, root_leaf}
use Rattle.zr_game.specs.Profiles.{Part}
use Rattle.zr_game.specs.Named.{NamedOf}
use Rattle.zr_game.specs.declared.kind.Kind.{Kind}
use Rattle.zr_cases.specs.Cases.{RNodeOf}
use Rattle.zr_cases.specs.Trees.{CasesOf, preorder as case_preorder}
use Rattle.zr_refute.specs.Covered.{covered}
use Rattle.zr_refute.specs.Refuting.{leaf_counts}
use Rattle.zr_refute.specs.Steps.{HasWideCase}
use Rattle.zr_tree.specs.CoverSteps.{IsWideCover}
use Rattle.zr_tree.specs.Nodes.{NodeOf}
use Rattle.zr_tree.specs.Trees.{TreeOf, preorder}
use Rattle.zr_tree.specs.Steps.{HasWideProof}
use Rattle.zr_cert.specs.Certs.{BoundOf, BoxVerdict, CertOf, CoverVerdict, EmptyVerdict, MixtureOf, ProfileVerdict, VerdictOf}
use Rattle.zr_check.specs.Boxes.{AreWideBoxes}
use Rattle.zr_check.specs.Covers.{IsWideItem}
use Rattle.zr_check.specs.Parts.{IsOfLength, IsWidePart}
use Rattle.zr_check.specs.Bounds.{IsCostMade, IsWideCost, no_point}

-- at a part's line, whose point has a number for each variable
pub record HasWidePart (game : GameOf) (mixtures : List MixtureOf) : Type 0 where
  pub i : ℕ
  pub player : PlayerOf
  pub is_player : IsPlayer game i player
  pub mixture : MixtureOf
  pub is_mixture : slice_get mixtures i ≡ Some mixture
  pub k : ℕ
  pub part : Part
  pub is_part : slice_get mixture.parts k ≡ Some part
  pub of_length : IsOfLength player part
  pub wide : IsWidePart player mixture k part

-- at a cost line
abbrev pub HasWideCost : GameOf → List MixtureOf → Type 0
HasWideCost game mixtures = (i : ℕ) × (player : PlayerOf) × IsPlayer game i player × IsWideCost game mixtures i player

-- at a leaf of the tree
abbrev pub IsWideTree : PlayerOf → Bound → List NodeOf → Type 0
IsWideTree player row nodes = (t : TreeOf) × (preorder t ≡ nodes) × HasWideProof player row (root_leaf player) t

-- at a leaf of a bound's tree
pub record HasWideTree (game : GameOf) (mixtures : List MixtureOf) (bounds : List BoundOf) : Type 0 where
  pub i : ℕ
  pub player : PlayerOf
  pub is_player : IsPlayer game i player
  pub bound : BoundOf
  pub is_bound : slice_get bounds i ≡ Some bound
  pub value : Fraction
  pub left : List ℤ
  pub right : ℤ
  pub made : IsCostMade game mixtures i player value left right
  pub wide : IsWideTree player (bound_with left right) bound.tree

-- at a node of a player's cover
pub record HasWideCover (game : GameOf) (covers : List (List NodeOf)) : Type 0 where
  pub i : ℕ
  pub player : PlayerOf
  pub is_player : IsPlayer game i player
  pub tree : TreeOf
  pub is_tree : slice_get covers i ≡ Some (preorder tree)
  pub wide : IsWideCover player (root_leaf player) tree

-- at the line of a named point or ray
pub record HasWideNamed (game : GameOf) (named : List (List NamedOf)) : Type 0 where
  pub i : ℕ
  pub player : PlayerOf
  pub is_player : IsPlayer game i player
  pub items : List NamedOf
  pub are_items : slice_get named i ≡ Some items
  pub k : ℕ
  pub item : NamedOf
  pub is_item : slice_get items k ≡ Some item
  pub wide : IsWideItem player item

-- at a node of the refutation over the covers' leaves
pub record HasWideProofCase (game : GameOf) (kind : Kind) (covers : List (List NodeOf))
    (named : List (List NamedOf)) (proof : List RNodeOf) : Type 0 where
  pub trees : List TreeOf
  pub listed : map preorder trees ≡ covers
  pub cases : CasesOf
  pub cases_listed : case_preorder (leaf_counts (covered game trees named)) cases ≡ proof
  pub wide : HasWideCase game (covered game trees named) kind [] cases

abbrev pub VerdictIsWide : GameOf → Kind → VerdictOf → Type 0
VerdictIsWide game kind (ProfileVerdict mixtures bounds) =
    HasWidePart game mixtures ⊎ HasWideCost game mixtures ⊎ HasWideTree game mixtures bounds
VerdictIsWide game kind (CoverVerdict covers named proof) =
    HasWideCover game covers ⊎ HasWideNamed game named
    ⊎ HasWideProofCase game kind covers named proof
VerdictIsWide game kind (BoxVerdict nodes) = AreWideBoxes game nodes
VerdictIsWide game kind (EmptyVerdict i nodes) = (player : PlayerOf) × IsPlayer game i player × IsWideTree player (no_point player) nodes

-- at some line
abbrev pub HasWideStep : GameOf → CertOf → Type 0
HasWideStep game c = VerdictIsWide game c.kind c.verdict

-- at some line of the players and their parts
abbrev pub HeadIsWide : GameOf → VerdictOf → Type 0
HeadIsWide game (ProfileVerdict mixtures bounds) = HasWidePart game mixtures
HeadIsWide game (CoverVerdict covers named proof) = ⊥
HeadIsWide game (EmptyVerdict i nodes) = ⊥
HeadIsWide game (BoxVerdict nodes) = ⊥
