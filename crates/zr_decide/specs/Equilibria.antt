-- Equilibria that solutions draw over the leaves of exact covers, and what stops their bounds.
use Rattle.std.specs.Prelude.{◌≡◌, ℕ, List, [], Some, map, set, slice_get}
use Rattle.zr_base.specs.declared.step.Wide.{Wide}
use Rattle.zr_base.specs.Points.{PointOf}
use Rattle.zr_game.specs.Forms.{IsPlayer}
use Rattle.zr_game.specs.Named.{NamedOf}
use Rattle.zr_game.specs.Players.{GameOf, PlayerOf}
use Rattle.zr_game.specs.Rays.{Direction}
use Rattle.zr_game.specs.declared.kind.Kind.{Kind}
use Rattle.zr_tree.specs.Nodes.{NodeOf}
use Rattle.zr_tree.specs.Trees.{TreeOf, Loose, preorder}
use Rattle.zr_cases.specs.Trees.{CasesOf}
use Rattle.zr_asked.specs.declared.question.AskedLp.{AskedLp}
use Rattle.zr_cert.specs.Certs.{MixtureOf, profile_with}
use Rattle.zr_costs.specs.Causes.{IsOpenOwn, IsStuckOwn, IsWideCostStep}
use Rattle.zr_cover.specs.Covers.{HasNoLoose}
use Rattle.zr_draw.specs.Drawn.{IsDrawnProfile}
use Rattle.zr_system.specs.Regions.{LeavesOf}
use Rattle.zr_refute.specs.Covered.{covered}
use Rattle.zr_refute.specs.Refuting.{RefutesUnder}
use Rattle.zr_decide.specs.NamedCovers.{AreNamedCovers, AreNamedOver}

-- no cover is loose
abbrev pub AreSettled : List TreeOf → Type 0
AreSettled trees = (k : ℕ) (t : TreeOf) → slice_get trees k ≡ Some t → HasNoLoose t

-- the strategies are those that a solution over the leaves of such covers draws
pub record IsDrawn (game : GameOf) (kind : Kind) (mixtures : List MixtureOf) : Type 0 where
  pub trees : List TreeOf
  pub named : List (List NamedOf)
  pub covers : AreNamedCovers game trees named
  pub settled : AreSettled trees
  pub x : PointOf
  pub drawn : IsDrawnProfile game (covered game trees named) kind x mixtures

-- a question of a player's cost in such an equilibrium is stuck
pub record IsStuckClaim (game : GameOf) (kind : Kind) (asked : AskedLp) : Type 0 where
  pub mixtures : List MixtureOf
  pub drawn : IsDrawn game kind mixtures
  pub i : ℕ
  pub player : PlayerOf
  pub is_player : IsPlayer game i player
  pub stuck : IsStuckOwn i player (profile_with mixtures) asked

-- a step of the costs in such an equilibrium is too wide
abbrev pub IsWideClaim : GameOf → Kind → Wide → Type 0
IsWideClaim game kind w =
    (mixtures : List MixtureOf) × IsDrawn game kind mixtures × IsWideCostStep game mixtures w

-- a ray of a player's relaxation changes the whole variable, and it is open whether the player can
-- pay less than in such an equilibrium. The items are named where one loose leaf takes the place of
-- this player's leaves; there no refutation of the system is right
pub record IsOpenByClaim (game : GameOf) (kind : Kind) (i var : ℕ) (dir : Direction)
    (named : List (List NamedOf)) : Type 0 where
  pub mixtures : List MixtureOf
  pub drawn : IsDrawn game kind mixtures
  pub player : PlayerOf
  pub is_player : IsPlayer game i player
  pub least_open : IsOpenOwn i player (profile_with mixtures) var dir
  pub names : AreNamedOver game (set drawn.trees i Loose) named
  pub not_refuted : (t : CasesOf)
      → RefutesUnder game (covered game (set drawn.trees i Loose) named) kind [] t → ⊥

-- the leaves are those of such covers, which have these nodes
pub record AreSettledLeaves (game : GameOf) (nodes : List (List NodeOf)) (leaves : LeavesOf)
    : Type 0 where
  pub trees : List TreeOf
  pub listed : map preorder trees ≡ nodes
  pub named : List (List NamedOf)
  pub covers : AreNamedCovers game trees named
  pub settled : AreSettled trees
  pub same : leaves ≡ covered game trees named
