-- What the check of one player's bound is given, and what its sums give.
use Rattle.std.specs.Prelude.{◌≡◌, ℕ, ◌≤◌, ℤ, Result, Ok, Err, List, length}
use Rattle.zr_base.specs.declared.step.Wide.{Wide}
use Rattle.zr_base.specs.Fractions.{Fraction}
use Rattle.zr_game.specs.Players.{GameOf}
use Rattle.zr_tree.specs.Scratches.{most_pairs, most_vars}
use Rattle.zr_tree.specs.declared.fault.Fault.{Fault}
use Rattle.zr_tree.specs.declared.fault.Fault.TheVariants as nodes
use Rattle.zr_check.specs.declared.room.Bench.{Bench}

-- the places are enough for each player of the game
pub record HasBench (game : GameOf) (bench : Bench) : Type 0 where
  pub columns : most_vars game ≤ bench.scratch.columns
  pub vars : most_vars game ≤ bench.scratch.vars
  pub pairs : most_pairs game ≤ bench.scratch.pairs
  pub slopes : most_vars game ≤ length bench.slopes.items
  pub left : most_vars game ≤ length bench.left.items

-- both have the same numbers of places
pub record IsSameBench (old new : Bench) : Type 0 where
  pub scratch : new.scratch ≡ old.scratch
  pub slopes : length new.slopes.items ≡ length old.slopes.items
  pub left : length new.left.items ≡ length old.left.items

-- the cost and the right side of the claim were made, and its left side was written; or a step was too wide
abbrev pub GivesCost : Result (Fraction × (List ℤ × ℤ)) Wide → Result (Fraction × ℤ) Wide → List ℤ → Type 0
GivesCost (Ok made) result left = (result ≡ Ok (made.0, made.1.1)) × (left ≡ made.1.0)
GivesCost (Err w) result left = result ≡ Err w

-- the number of the node at fault
abbrev pub node_number : Fault → ℕ
node_number (nodes.Bad k) = k
node_number (nodes.Wide k) = k
