-- The places for checks of covers, and of refutations over their leaves.
use Rattle.std.specs.Prelude.{◌≡◌, ℕ, ◌≤◌, Option, Some, None, List, length, map, slice_get}
use Rattle.std.specs.List.{All}
use Rattle.zr_game.specs.Forms.{IsPlayer}
use Rattle.zr_game.specs.Named.{NamedOf}
use Rattle.zr_game.specs.Players.{GameOf, PlayerOf}
use Rattle.zr_tree.specs.Nodes.{NodeOf}
use Rattle.zr_tree.specs.Scratches.{Places, most_pairs, most_vars}
use Rattle.zr_tree.specs.Trees.{TreeOf, preorder}
use Rattle.zr_cases.specs.Cases.{RNodeOf}
use Rattle.zr_system.specs.Asked.{AreLeaves}
use Rattle.zr_system.specs.Regions.{leaves_of}
use Rattle.zr_refute.specs.Covered.{covered}
use Rattle.zr_refute.specs.Rooms.{IsRoomFor}
use Rattle.zr_cert.specs.Certs.{BoxVerdict, CoverVerdict, EmptyVerdict, ProfileVerdict, VerdictOf}
use Rattle.zr_check.specs.Covers.{IsItemOfLength}
use Rattle.zr_check.specs.declared.room.CoverRoom.{CoverRoom}

-- the places are enough for each of the trees, over every player of the game
pub record HasTreePlaces (game : GameOf) (trees : List (List NodeOf)) (scratch : Places) : Type 0
  where
    pub nodes : All (λ nodes. length nodes ≤ scratch.nodes) trees
    pub columns : most_vars game ≤ scratch.columns
    pub vars : most_vars game ≤ scratch.vars
    pub pairs : most_pairs game ≤ scratch.pairs

-- each item of a player has as many numbers as the player has variables
abbrev pub AreOfLengths : GameOf → List (List NamedOf) → Type 0
AreOfLengths game named =
    (i : ℕ) (items : List NamedOf) → slice_get named i ≡ Some items
    → (player : PlayerOf) → IsPlayer game i player → All (IsItemOfLength (length player.vars)) items

-- there is a cover and a list of items for each player, and the items are of the players' lengths
pub record FitPlayers (game : GameOf) (covers : List (List NodeOf)) (named : List (List NamedOf)) :
    Type 0 where
  pub covers_count : length covers ≡ length game
  pub named_count : length named ≡ length game
  pub lengths : AreOfLengths game named

-- the room has the covers' leaves, with what is named, and places for the refutation over them
pub record IsCoverRoom (game : GameOf) (covers : List (List NodeOf)) (named : List (List NamedOf))
    (proof : List RNodeOf) (room : CoverRoom) : Type 0 where
  pub leaves : AreLeaves game room.leaves
  pub content : (trees : List TreeOf) → map preorder trees ≡ covers
      → leaves_of room.leaves ≡ covered game trees named
  pub cases : IsRoomFor game (leaves_of room.leaves) room.cases
  pub choices : length proof ≤ room.cases.choices

-- there is such a room where covers and items fit the players
abbrev pub HasCoverPlaces : GameOf → List (List NodeOf) → List (List NamedOf) → List RNodeOf
    → Option CoverRoom → Type 0
HasCoverPlaces game covers named proof None = FitPlayers game covers named → ⊥
HasCoverPlaces game covers named proof (Some room) = IsCoverRoom game covers named proof room

-- a verdict of covers has it
abbrev pub HasPlacesFor : GameOf → VerdictOf → Option CoverRoom → Type 0
HasPlacesFor game (ProfileVerdict mixtures bounds) places = Unit {0}
HasPlacesFor game (CoverVerdict covers named proof) places =
    HasCoverPlaces game covers named proof places
HasPlacesFor game (EmptyVerdict i nodes) places = Unit {0}
HasPlacesFor game (BoxVerdict nodes) places = Unit {0}
