-- Linear programs that ask whether rows, some of them strict, have a solution.
use Rattle.std.specs.Prelude.{◌≡◌, ℕ, ◌+◌, ◌<◌, pos, negsuc, Bool, List}
use Rattle.zr_lin.specs.Ineqs.{IneqOf}
use Rattle.zr_simplex.specs.declared.program.Lp.{Lp}
use Rattle.zr_simplex.specs.Programs.{lp_rows, numbers}
use Rattle.zr_choices.specs.Parted.{parted_rows, place}

-- the program is to raise the last column over the parts of the unknowns
pub record Asks (free : ℕ → Bool) (unknowns : ℕ) (rows : List IneqOf) (lp : Lp) : Type 0 where
  pub width : lp.columns ≡ place free unknowns + 1
  pub parts : lp_rows lp ≡ parted_rows free unknowns rows
  pub aim : (j : ℕ) → j < place free unknowns → numbers lp.aim.items j ≡ pos 0
  pub last : numbers lp.aim.items (place free unknowns) ≡ negsuc 0
