-- Where lines stand in the text of a certificate. Lines are counted from 1; the form, the kind and the verdict have one
-- each, so what shows the verdict begins at line 4.
use Rattle.std.specs.Prelude.{ℕ, ◌+◌, List, take}
use Rattle.zr_game.specs.Named.{NamedOf}
use Rattle.zr_tree.specs.Nodes.{NodeOf}
use Rattle.zr_cert.specs.Certs.{BoundOf, MixtureOf}
use Rattle.zr_cert.specs.Lines.{bound_lines, mixture_lines, named_lines, sum_lines, tree_lines}

-- the line of player i, which those of its parts follow
abbrev pub player_line_number : List MixtureOf → ℕ → ℕ
player_line_number mixtures i = 4 + sum_lines mixture_lines (take i mixtures)

-- the line of the cost of player i, which those of its tree follow
abbrev pub cost_line_number : List MixtureOf → List BoundOf → ℕ → ℕ
cost_line_number mixtures bounds i =
    4 + sum_lines mixture_lines mixtures + sum_lines bound_lines (take i bounds)

-- the first line of the cover of player i, which the count of its points and rays and their lines follow
abbrev pub cover_line_number : List (List NodeOf) → List (List NamedOf) → ℕ → ℕ
cover_line_number covers named i =
    4 + sum_lines tree_lines (take i covers) + sum_lines named_lines (take i named)

-- the first line of the refutation over the covers
abbrev pub case_line_number : List (List NodeOf) → List (List NamedOf) → ℕ
case_line_number covers named = 4 + sum_lines tree_lines covers + sum_lines named_lines named
