-- Numbers that meet one side of each choice.
use Rattle.std.proofs.Common.{◌≡◌, ℕ, ◌<◌, ℤ, pos, ◌<ℤ◌, true, IsTrue, length, ◌⊎◌}
use Rattle.zr_base.proofs.Worth.{Each}
use Rattle.zr_game.specs.Feasible.{IsFeasible}
use Rattle.zr_game.specs.Players.{GameOf}
use Rattle.zr_base.specs.Points.{PointOf}
use Rattle.zr_game.specs.declared.choice.Choice.{Choice}
use Rattle.zr_game.specs.declared.choice.Choice.TheVariants.{On, Off, Zero, Tight, Which}
use Rattle.zr_game.specs.declared.kind.Kind.{Kind}
use Rattle.zr_game.specs.declared.kind.Kind.TheVariants.{Pure}
use Rattle.zr_system.specs.declared.line.Line.{Line}
use Rattle.zr_system.specs.declared.unknown.Unknown.{Unknown}
use Rattle.zr_system.specs.declared.unknown.Unknown.TheVariants.{Weight}
use Rattle.zr_system.specs.Forms.{FormHolds}
use Rattle.zr_system.specs.Lines.{choice_lines, row_of_line}
use Rattle.zr_system.specs.Regions.{LeavesOf, is_exact, is_present, leaf_count, player_at, slot_count}

-- what is feasible for player i
abbrev pub Feasible : GameOf → ℕ → PointOf → Type 0
Feasible game i = IsFeasible (player_at game i)

-- the numbers x meet the row
abbrev pub LineHolds : GameOf → LeavesOf → (Unknown → ℤ) → Line → Type 0
LineHolds game leaves x line = FormHolds x (row_of_line game leaves line)

-- they meet the rows of the choice
abbrev pub Meets : GameOf → LeavesOf → (Unknown → ℤ) → Choice → Type 0
Meets game leaves x c = Each (LineHolds game leaves x) (choice_lines game leaves c)

pub record MeetsChoices (game : GameOf) (leaves : LeavesOf) (kind : Kind) (x : Unknown → ℤ) : Type
    0 where
  pub leaf : (i k : ℕ) → i < length game → k < leaf_count leaves i
      → Meets game leaves x (On i k) ⊎ Meets game leaves x (Off i k)
  pub slot : (i k s : ℕ) → i < length game → k < leaf_count leaves i → is_exact leaves i k ≡ true
      → s < slot_count game leaves i k → IsTrue (is_present game leaves i k s)
      → (pos 0) <ℤ x (Weight i k)
      → Meets game leaves x (Zero i k s) ⊎ Meets game leaves x (Tight i k s)
  pub one : kind ≡ Pure → (i : ℕ) → i < length game
      → (k : ℕ) × (k < leaf_count leaves i) × Meets game leaves x (Which i k)
