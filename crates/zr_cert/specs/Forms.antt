-- What every certificate keeps, so that it has a text.
use Rattle.std.specs.Prelude.{◌≡◌, ℕ, ◌^◌, ◌<◌, ◌≤◌, ℤ, pos, ◌≤ℤ◌, ◌+◌, List, [], ◌∷◌, length, map}
use Rattle.std.specs.List.{All}
use Rattle.zr_base.specs.Lowest.{IsLowest}
use Rattle.zr_base.specs.Points.{IsPoint, PointOf}
use Rattle.zr_base.specs.Steps.{IsNarrow}
use Rattle.zr_game.specs.Named.{NamedOf, NamedPoint, NamedRay}
use Rattle.zr_game.specs.Profiles.{Part}
use Rattle.zr_game.specs.Rays.{Direction}
use Rattle.zr_tree.specs.Form.{IsTree}
use Rattle.zr_tree.specs.Nodes.{NodeOf, SplitNode, ChooseNode, ProofNode, KnownNode, LooseNode}
use Rattle.zr_cases.specs.Cases.{RNodeOf}
use Rattle.zr_cases.specs.Forms.{AreCases, IsBoxTree, IsSomePoint, IsWhole}
use Rattle.zr_cert.specs.Certs.{BoundOf, BoxVerdict, CertOf, CoverVerdict, EmptyVerdict, MixtureOf, ProfileVerdict, VerdictOf}
use Rattle.zr_cert.specs.Lines.{line_count}

-- a weight or a total: at least 1, and narrow
abbrev pub IsWeight : ℤ → Type 0
IsWeight z = ((pos 1) ≤ℤ z) × IsNarrow z

pub record IsPartForm (part : Part) : Type 0 where
  pub weight : IsWeight part.weight
  pub some : 0 < length part.point.num
  pub point : IsPoint part.point.num part.point.den

pub record IsMixtureForm (m : MixtureOf) : Type 0 where
  pub total : IsWeight m.total
  pub some : 0 < length m.parts
  pub parts : All IsPartForm m.parts

-- a node of a bound's tree: what it names and counts is below 2^32
abbrev pub IsBoundNode : NodeOf → Type 0
IsBoundNode (SplitNode v at) = v < 2 ^ 32
IsBoundNode (ChooseNode p) = p < 2 ^ 32
IsBoundNode (ProofNode scale mult) = length mult < 2 ^ 32
IsBoundNode (KnownNode x) = ⊥
IsBoundNode LooseNode = ⊥

-- a node of an empty player's tree, whose leaves are refuted
abbrev pub IsEmptyNode : NodeOf → Type 0
IsEmptyNode (SplitNode v at) = v < 2 ^ 32
IsEmptyNode (ChooseNode p) = p < 2 ^ 32
IsEmptyNode (ProofNode scale mult) = (scale ≡ pos 0) × (length mult < 2 ^ 32)
IsEmptyNode (KnownNode x) = ⊥
IsEmptyNode LooseNode = ⊥

-- a node of a cover, whose leaves are refuted, known or loose
abbrev pub IsCoverNode : NodeOf → Type 0
IsCoverNode (SplitNode v at) = v < 2 ^ 32
IsCoverNode (ChooseNode p) = p < 2 ^ 32
IsCoverNode (ProofNode scale mult) = (scale ≡ pos 0) × (length mult < 2 ^ 32)
IsCoverNode (KnownNode x) = IsSomePoint x
IsCoverNode LooseNode = Unit {0}

-- one whole tree of such nodes
pub record IsTreeWith (IsIn : NodeOf → Type 0) (nodes : List NodeOf) : Type 0 where
  pub whole : IsTree nodes
  pub each : All IsIn nodes

pub record IsBoundForm (b : BoundOf) : Type 0 where
  pub cost : IsLowest b.cost
  pub tree : IsTreeWith IsBoundNode b.tree

-- as many numbers as the base has, and narrow ones
pub record IsDirectionForm (base : PointOf) (dir : Direction) : Type 0 where
  pub len : length dir ≡ length base.num
  pub narrow : All IsNarrow dir

-- a point of at least one number, or a ray from one
abbrev pub IsNamedForm : NamedOf → Type 0
IsNamedForm (NamedPoint x) = IsSomePoint x
IsNamedForm (NamedRay base dir) = IsSomePoint base × IsDirectionForm base dir

-- points and rays, each of this form
abbrev pub AreNamed : List NamedOf → Type 0
AreNamed items = All IsNamedForm items

-- 1 for a leaf that covers points: one with a known point, or a loose one
abbrev pub leaf_number : NodeOf → ℕ
leaf_number (SplitNode v at) = 0
leaf_number (ChooseNode p) = 0
leaf_number (ProofNode scale mult) = 0
leaf_number (KnownNode x) = 1
leaf_number LooseNode = 1

-- how many such leaves a cover has
abbrev pub leaf_count : List NodeOf → ℕ
leaf_count [] = 0
leaf_count (node ∷ nodes) = leaf_number node + leaf_count nodes

-- a cover and a list of named points and rays for each player, and a refutation that is whole over the covers' leaves
pub record IsCoverForm (players : ℕ) (covers : List (List NodeOf)) (named : List (List NamedOf)) (proof : List RNodeOf) : Type 0 where
  pub cover_count : length covers ≡ players
  pub cover_forms : All (IsTreeWith IsCoverNode) covers
  pub named_count : length named ≡ players
  pub named_forms : All AreNamed named
  pub cases : AreCases proof
  pub whole : IsWhole (map leaf_count covers) proof

abbrev pub IsVerdictForm : ℕ → VerdictOf → Type 0
IsVerdictForm players (ProfileVerdict mixtures bounds) =
    (length mixtures ≡ players) × All IsMixtureForm mixtures × (length bounds ≡ players) × All IsBoundForm bounds
IsVerdictForm players (CoverVerdict covers named proof) = IsCoverForm players covers named proof
IsVerdictForm players (EmptyVerdict player tree) = (player < 2 ^ 32) × IsTreeWith IsEmptyNode tree
IsVerdictForm players (BoxVerdict nodes) = IsBoxTree nodes

pub record IsCert (c : CertOf) : Type 0 where
  pub some_player : 1 ≤ c.players
  pub player_count : c.players ≤ 16
  pub verdict : IsVerdictForm c.players c.verdict
  pub few : line_count c < 2 ^ 32
