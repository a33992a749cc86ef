-- Certificates whose trees are open and drawn from the bases of questions.
use Rattle.std.specs.Prelude.{◌≡◌, List, [], map}
use Rattle.zr_game.specs.Forms.{IsPlayer}
use Rattle.zr_game.specs.Named.{NamedOf}
use Rattle.zr_game.specs.Players.{GameOf, PlayerOf}
use Rattle.zr_game.specs.declared.kind.Kind.{Kind}
use Rattle.zr_tree.specs.Nodes.{NodeOf}
use Rattle.zr_tree.specs.Trees.{TreeOf, preorder}
use Rattle.zr_asked.specs.Stuck.{IsPlainAim}
use Rattle.zr_cases.specs.Cases.{BNodeOf, RNodeOf}
use Rattle.zr_cases.specs.Trees.{BoxTreeOf, CasesOf, box_preorder, preorder as case_preorder}
use Rattle.zr_boxes.specs.Boxes.{root_box}
use Rattle.zr_box_search.specs.Drawn.{IsDrawnBox}
use Rattle.zr_box_search.specs.OpenBoxes.{IsOpenBox}
use Rattle.zr_cert.specs.Certs.{BoxVerdict, CertOf, CoverVerdict, EmptyVerdict, ProfileVerdict, VerdictOf, profile_with}
use Rattle.zr_choices.specs.Drawn.{AreDrawn}
use Rattle.zr_comp.specs.OpenCases.{IsOpenCases}
use Rattle.zr_costs.specs.Drawn.{AreDrawnBounds, IsDrawnTree}
use Rattle.zr_refute.specs.Covered.{covered}
use Rattle.zr_refute.specs.Refuting.{RefutesBy, leaf_counts}
use Rattle.zr_decide.specs.Equilibria.{IsDrawn}
use Rattle.zr_decide.specs.NamedCovers.{AreNamedCovers}

-- the nodes are those of an open box tree whose multipliers are drawn from questions, and whose
-- deviations are to whole points
pub record AreDrawnBoxes (game : GameOf) (nodes : List BNodeOf) : Type 0 where
  pub tree : BoxTreeOf
  pub listed : box_preorder tree ≡ nodes
  pub open_is : IsOpenBox game (root_box game) tree
  pub drawn : IsDrawnBox game (root_box game) tree

-- the nodes are those of decided covers, which are open and drawn, with what is named over their
-- leaves, and of an open tree of cases, whose multipliers are drawn from the questions of its paths
pub record IsDrawnRefutation (game : GameOf) (kind : Kind) (covers : List (List NodeOf))
    (named : List (List NamedOf)) (proof : List RNodeOf) : Type 0 where
  pub trees : List TreeOf
  pub listed : map preorder trees ≡ covers
  pub are_covers : AreNamedCovers game trees named
  pub cases : CasesOf
  pub cases_listed : case_preorder (leaf_counts (covered game trees named)) cases ≡ proof
  pub open_is : IsOpenCases game (covered game trees named) kind [] cases
  pub drawn : RefutesBy (AreDrawn game (covered game trees named)) game
      (covered game trees named) kind [] cases

-- a solution over the leaves of covers draws the profile, and the tree of each player's cost in it is
-- open and drawn; or so are the covers and the refutation, the tree of the player without a point,
-- or the box tree
abbrev pub IsDrawnVerdict : GameOf → Kind → VerdictOf → Type 0
IsDrawnVerdict game kind (ProfileVerdict mixtures bounds) =
    IsDrawn game kind mixtures × AreDrawnBounds game (profile_with mixtures) bounds
IsDrawnVerdict game kind (CoverVerdict covers named proof) =
    IsDrawnRefutation game kind covers named proof
IsDrawnVerdict game kind (EmptyVerdict i nodes) =
    (player : PlayerOf) × IsPlayer game i player × IsDrawnTree player (IsPlainAim player) nodes
IsDrawnVerdict game kind (BoxVerdict nodes) = AreDrawnBoxes game nodes

-- the certificate's verdict is drawn
abbrev pub IsDrawnCert : GameOf → CertOf → Type 0
IsDrawnCert game c = IsDrawnVerdict game c.kind c.verdict
