-- What a sink was handed.
use Rattle.std.specs.Prelude.{◌≡◌, ℕ, ◌≤◌, ◌++◌, length, take, Option, Some}
use Rattle.zr_io.specs.Contents.{Bytes}

-- the piece went to the end of what was written, where that is told
abbrev pub Appends : Option Bytes → Bytes → Option Bytes → Type 0
Appends before piece after = (xs : Bytes) → before ≡ Some xs → after ≡ Some (xs ++ piece)

-- a prefix of the piece went there, and nothing else
abbrev pub AppendsPrefix : Option Bytes → Bytes → Option Bytes → Type 0
AppendsPrefix before piece after = (k : ℕ) × (k ≤ length piece) × Appends before (take k piece) after
