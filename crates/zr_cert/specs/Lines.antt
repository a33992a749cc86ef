-- How many lines the text of a certificate has. The player and part lines begin at line 4.
use Rattle.std.specs.Prelude.{ℕ, ◌+◌, List, [], ◌∷◌, length}
use Rattle.zr_game.specs.Named.{NamedOf}
use Rattle.zr_tree.specs.Nodes.{NodeOf}
use Rattle.zr_cert.specs.Certs.{BoundOf, BoxVerdict, CertOf, CoverVerdict, EmptyVerdict, MixtureOf, ProfileVerdict, VerdictOf}

-- a player's line, and one line for each part
abbrev pub mixture_lines : MixtureOf → ℕ
mixture_lines m = 1 + length m.parts

-- a line of the cost, and one line for each node
abbrev pub bound_lines : BoundOf → ℕ
bound_lines b = 1 + length b.tree

-- one line for each node
abbrev pub tree_lines : List NodeOf → ℕ
tree_lines nodes = length nodes

-- a line of the count, and one for each point or ray
abbrev pub named_lines : List NamedOf → ℕ
named_lines items = 1 + length items

abbrev pub sum_lines : {A : Type 0} → (A → ℕ) → List A → ℕ
sum_lines count [] = 0
sum_lines count (x ∷ xs) = count x + sum_lines count xs

abbrev pub verdict_lines : VerdictOf → ℕ
verdict_lines (ProfileVerdict mixtures bounds) = sum_lines mixture_lines mixtures + sum_lines bound_lines bounds
verdict_lines (CoverVerdict covers named proof) = sum_lines tree_lines covers + (sum_lines named_lines named + length proof)
verdict_lines (EmptyVerdict player tree) = length tree
verdict_lines (BoxVerdict nodes) = length nodes

-- the lines of the form, the kind and the verdict, those that the verdict has, and the line of the end
abbrev pub line_count : CertOf → ℕ
line_count c = 4 + verdict_lines c.verdict
