-- Open box trees, and the units of their work.
use Rattle.std.specs.Prelude.{◌≡◌, ℕ, ◌+◌, ◌<◌, ℤ, Some, [], ◌∷◌, length, ◌⊎◌}
use Rattle.zr_game.specs.Players.{GameOf, PlayerOf}
use Rattle.zr_game.specs.Forms.{IsPlayer}
use Rattle.zr_game.specs.Leaves.{HasPoint, LeafOf}
use Rattle.zr_asked.specs.OpenTrees.{Work, units}
use Rattle.zr_asked.specs.Paths.{IsSplit}
use Rattle.zr_cases.specs.Trees.{BoxTreeOf, Cut, Empty, Deviate}
use Rattle.zr_boxes.specs.Boxes.{BoxOf, cut_above, cut_below}

-- the rows of each player have a solution within the box
abbrev pub HasPoints : GameOf → BoxOf → Type 0
HasPoints game box =
    (k : ℕ) (player : PlayerOf) → IsPlayer game k player → HasPoint player (box k)

-- a split of a player's whole variable, both of whose boxes differ from the box
abbrev pub IsBoxSplit : GameOf → BoxOf → ℕ → ℕ → ℤ → Type 0
IsBoxSplit game box i v at =
    (player : PlayerOf) × IsPlayer game i player × IsSplit player (box i) v at

-- each inner node is such a split, in a box in which the rows of each player have a solution;
-- nothing is asked of ends
abbrev pub IsOpenBox : GameOf → BoxOf → BoxTreeOf → Type 0
IsOpenBox game box (Cut i v at first second) =
    HasPoints game box × IsBoxSplit game box i v at
    × IsOpenBox game (cut_below box i v at) first × IsOpenBox game (cut_above box i v at) second
IsOpenBox game box (Empty i mult) = Unit {0}
IsOpenBox game box (Deviate i x) = Unit {0}

-- the bounds of variable v are one value
abbrev pub HasOneValue : LeafOf → ℕ → Type 0
HasOneValue leaf v = (value : ℤ) × (leaf.low v ≡ Some value) × (leaf.high v ≡ Some value)

-- a single profile: each variable has one value in the box, and there each player's rows hold
pub record IsSingle (game : GameOf) (box : BoxOf) : Type 0 where
  pub values : (k : ℕ) (player : PlayerOf) → IsPlayer game k player → (v : ℕ)
      → v < length player.vars → HasOneValue (box k) v
  pub points : HasPoints game box

-- one open tree over the points of each player has so many units together
abbrev pub HaveUnits : GameOf → ℕ → Type 0
HaveUnits [] n = n ≡ 0
HaveUnits (player ∷ players) n =
    (work : Work player) × (m : ℕ) × HaveUnits players m × (n ≡ units work.tree + m)

-- the units of work at an end: none, or in a single profile those of one open tree per player
abbrev pub HasEndUnits : GameOf → BoxOf → ℕ → Type 0
HasEndUnits game box n = (n ≡ 0) ⊎ (IsSingle game box × HaveUnits game n)

-- the units of work of a box tree: its inner nodes, and those at its ends
abbrev pub HasUnits : GameOf → BoxOf → BoxTreeOf → ℕ → Type 0
HasUnits game box (Cut i v at first second) n =
    (a : ℕ) × (b : ℕ) × HasUnits game (cut_below box i v at) first a
    × HasUnits game (cut_above box i v at) second b × (n ≡ 1 + a + b)
HasUnits game box (Empty i mult) n = HasEndUnits game box n
HasUnits game box (Deviate i x) n = HasEndUnits game box n
