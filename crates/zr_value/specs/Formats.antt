-- The two formats of a game's text, and what only the second has.
use Rattle.std.specs.Prelude.{ℤ, neg_ℤ, List, ℕ, bytes_eq, Ok, codes, if◌then◌else◌}
use Rattle.serde_json.specs.Data.{Data}
use Rattle.zr_base.specs.Terms.{Terms}
use Rattle.zr_value.specs.declared.fault.GameFault.TheVariants.{Format}
use Rattle.zr_value.specs.Faults.{Read, fault, ◌>>=◌}
use Rattle.zr_value.specs.Values.{text_in, number_in, optional}
use Rattle.zr_value.specs.Terms.{opposite}
use Rattle.zr_value.specs.declared.format.GameFormat.{GameFormat}
use Rattle.zr_value.specs.declared.format.GameFormat.TheVariants.{First, Second}
use Rattle.zr_value.specs.declared.format.Aim.{Aim}
use Rattle.zr_value.specs.declared.format.Aim.TheVariants.{Min, Max}

abbrev pub format_in : Data → Read GameFormat
format_in d = do
  s ← text_in d
  if bytes_eq s (codes "zero-game/1") then Ok First
      else (if bytes_eq s (codes "zero-game/2") then Ok Second else fault Format)

-- a member that only the second format has, or what stands for it where it is missing; the first
-- format passes it over
abbrev pub since_second : {A : Type 0} → GameFormat → List ℕ → A → (Data → Read A) → Data → Read A
since_second First name missing read d = Ok missing
since_second Second name missing read d = optional name missing read d

-- whether a cost is to be small or a payoff great
abbrev pub aim_in : Data → Read Aim
aim_in d = do
  s ← text_in d
  if bytes_eq s (codes "min") then Ok Min
      else (if bytes_eq s (codes "max") then Ok Max else fault Format)

-- the aim of a player or follower
abbrev pub aim_of_in : GameFormat → Data → Read Aim
aim_of_in f d = since_second f (codes "aim") Min aim_in d

-- a number of a cost: that of a payoff counts with the other sign
abbrev pub by_aim : Aim → ℤ → ℤ
by_aim Min z = z
by_aim Max z = neg_ℤ z

abbrev pub cost_number_in : Aim → Data → Read ℤ
cost_number_in aim d = do
  z ← number_in d
  Ok (by_aim aim z)

-- the terms of a cost
abbrev pub aimed : Aim → Terms → Terms
aimed Min ts = ts
aimed Max ts = opposite ts
