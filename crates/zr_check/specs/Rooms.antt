-- The places of a room for checks.
use Rattle.std.specs.Prelude.{ℕ, ◌≤◌, Option, List, [], ◌∷◌, length, map}
use Rattle.std.specs.List.{All}
use Rattle.zr_game.specs.Players.{GameOf}
use Rattle.zr_tree.specs.Nodes.{NodeOf}
use Rattle.zr_tree.specs.Scratches.{Places, most_pairs, most_vars}
use Rattle.zr_mix.specs.Steps.{var_total}
use Rattle.zr_cases.specs.Cases.{BNodeOf}
use Rattle.zr_boxes.specs.Places.{BoxPlaces, FitsGame}
use Rattle.zr_cert.specs.Certs.{BoxVerdict, CertOf, CoverVerdict, EmptyVerdict, ProfileVerdict, VerdictOf}
use Rattle.zr_check.specs.CoverPlaces.{HasPlacesFor}
use Rattle.zr_check.specs.declared.room.CoverRoom.{CoverRoom}

-- a scratch for trees, places for the means of all players, a slope and a claim, a scratch for box
-- trees, and maybe the leaves of covers with a room for a refutation over them
pub record RoomOf : Type 0 where
  pub scratch : Places
  pub means : ℕ
  pub slopes : ℕ
  pub claims : ℕ
  pub boxes : BoxPlaces
  pub covers : Option CoverRoom

-- the trees of a verdict whose nodes are checked
abbrev pub trees_of : VerdictOf → List (List NodeOf)
trees_of (ProfileVerdict mixtures bounds) = map (λ b. b.tree) bounds
trees_of (CoverVerdict covers named proof) = covers
trees_of (EmptyVerdict i nodes) = nodes ∷ []
trees_of (BoxVerdict nodes) = []

-- the box trees of a verdict
abbrev pub box_trees_of : VerdictOf → List (List BNodeOf)
box_trees_of (ProfileVerdict mixtures bounds) = []
box_trees_of (CoverVerdict covers named proof) = []
box_trees_of (EmptyVerdict i nodes) = []
box_trees_of (BoxVerdict nodes) = nodes ∷ []

-- the places are enough for the certificate's check
pub record HasRoom (game : GameOf) (c : CertOf) (room : RoomOf) : Type 0 where
  pub trees : All (λ nodes. length nodes ≤ room.scratch.nodes) (trees_of c.verdict)
  pub columns : most_vars game ≤ room.scratch.columns
  pub vars : most_vars game ≤ room.scratch.vars
  pub pairs : most_pairs game ≤ room.scratch.pairs
  pub means : var_total game ≤ room.means
  pub slopes : most_vars game ≤ room.slopes
  pub claims : most_vars game ≤ room.claims
  pub boxes : All (λ nodes. length nodes ≤ room.boxes.nodes) (box_trees_of c.verdict)
  pub leaves : FitsGame game room.boxes
  pub covers : HasPlacesFor game c.verdict room.covers
