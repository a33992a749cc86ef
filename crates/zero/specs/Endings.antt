-- How a line ends.
use Rattle.std.specs.Prelude.{[], ◌∷◌, ◌++◌}
use Rattle.zr_io.specs.Contents.{Bytes}

-- the text and a line feed
abbrev pub line : Bytes → Bytes
line s = s ++ 10 ∷ []
