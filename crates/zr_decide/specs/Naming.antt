-- What is named of the players, one after another.
use Rattle.std.specs.Prelude.{◌≡◌, ℕ, ◌+◌, ◌*◌, ◌<◌, ◌≤◌, List, [], ◌∷◌, length, slice_index_or}
use Rattle.std.specs.List.{All}
use Rattle.zr_game.specs.Forms.{IsPlayer}
use Rattle.zr_game.specs.Named.{NamedOf}
use Rattle.zr_game.specs.Players.{GameOf, PlayerOf}
use Rattle.zr_naming.specs.Items.{AreNamedItems, IsNamedItem}
use Rattle.zr_refute.specs.Covered.{covered}
use Rattle.zr_system.specs.Regions.{LeavesOf}
use Rattle.zr_system.specs.System.{cell_count}
use Rattle.zr_system.specs.Unknowns.{columns}
use Rattle.zr_tree.specs.Nodes.{NodeOf, LooseNode}
use Rattle.zr_tree.specs.Trees.{TreeOf}
use Rattle.zr_decide.specs.declared.stop.DecideStop.{DecideStop}
use Rattle.zr_decide.specs.declared.stop.DecideStop.TheVariants as AStop
use Rattle.zr_decide.specs.Causes.{IsStuckCover}
use Rattle.zr_decide.specs.Decided.{cell_limit}
use Rattle.zr_decide.specs.NamedCovers.{AreLooseItems, AreNamedCovers}

-- the cover is one loose leaf
abbrev pub IsLooseList : List NodeOf → Type 0
IsLooseList nodes = nodes ≡ LooseNode ∷ []

-- what is named of the player: nothing, unless its cover is one loose leaf
pub record IsNaming (game : GameOf) (i : ℕ) (player : PlayerOf) (nodes : List NodeOf)
    (items : List NamedOf) : Type 0 where
  pub each : All (IsNamedItem game i player) items
  pub few : length items ≤ 65
  pub loose : IsLooseList nodes → AreNamedItems game i player items
  pub others : (IsLooseList nodes → ⊥) → items ≡ []

-- as many of the items as there was room for; `left` more would have room
pub record IsCutNaming (left : ℕ) (game : GameOf) (i : ℕ) (player : PlayerOf)
    (nodes : List NodeOf) (items : List NamedOf) : Type 0 where
  pub each : All (IsNamedItem game i player) items
  pub few : length items ≤ 65
  pub loose : IsLooseList nodes → AreLooseItems (left ≡ 0) game i player items
  pub others : (IsLooseList nodes → ⊥) → items ≡ []

-- how many items there are
abbrev pub item_count : List (List NamedOf) → ℕ
item_count [] = 0
item_count (items ∷ lists) = length items + item_count lists

-- what is named of the first n players, by the nodes of their covers, of the room in rows
pub record AreNamingsTo (game : GameOf) (covers : List (List NodeOf)) (n room left : ℕ)
    (named : List (List NamedOf)) : Type 0 where
  pub len : length named ≡ n
  pub each : (i : ℕ) (player : PlayerOf) → IsPlayer game i player → i < n
      → IsCutNaming left game i player (slice_index_or covers i []) (slice_index_or named i [])
  pub room_is : item_count named + left ≡ room

-- of all players
abbrev pub AreNamings : GameOf → List (List NodeOf) → ℕ → List (List NamedOf) → Type 0
AreNamings game covers room named =
    (left : ℕ) × AreNamingsTo game covers (length game) room left named

-- of all players, as much as there is room for over these leaves, of which nothing is named
pub record AreNamingsOver (game : GameOf) (covers : List (List NodeOf)) (leaves : LeavesOf)
    (named : List (List NamedOf)) : Type 0 where
  pub room : ℕ
  pub namings : AreNamings game covers room named
  pub within : cell_count game leaves ≤ cell_limit
      → cell_count game leaves + room * length (columns game leaves) ≤ cell_limit
  pub most : cell_limit
      < cell_count game leaves + room * length (columns game leaves) + length (columns game leaves)

-- a question of what is named is stuck
abbrev pub IsNamingStop : GameOf → DecideStop → Type 0
IsNamingStop game AStop.Spent = ⊥
IsNamingStop game (AStop.Wide asked) = IsStuckCover game asked
IsNamingStop game (AStop.Step wide) = ⊥
IsNamingStop game (AStop.Endless i var dir named) = ⊥
IsNamingStop game (AStop.TooLarge cells) = ⊥
IsNamingStop game AStop.NoMemory = Unit {0}

-- the leaves are those of such covers with what is named
pub record IsNamedSystem (game : GameOf) (trees : List TreeOf) (named : List (List NamedOf))
    (leaves : LeavesOf) : Type 0 where
  pub covers : AreNamedCovers game trees named
  pub same : leaves ≡ covered game trees named
