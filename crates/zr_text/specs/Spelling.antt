-- The lines of a certificate, and its text.
use Rattle.std.specs.Prelude.{ℕ, ℤ, List, [], ◌∷◌, ◌++◌, length, map, codes}
use Rattle.std.specs.List.{zip}
use Rattle.zr_base.specs.Fractions.{Fraction}
use Rattle.zr_game.specs.Named.{NamedOf}
use Rattle.zr_game.specs.declared.kind.Kind.{Kind}
use Rattle.zr_game.specs.declared.kind.Kind.TheVariants.{Pure, Mixed}
use Rattle.zr_game.specs.Profiles.{Part}
use Rattle.zr_tree.specs.Nodes.{NodeOf}
use Rattle.zr_cert.specs.Certs.{BoundOf, BoxVerdict, CertOf, CoverVerdict, EmptyVerdict, MixtureOf, ProfileVerdict, VerdictOf}
use Rattle.zr_form.specs.Lines.{concat, line_with}
use Rattle.zr_form.specs.Numbers.{decimal, signed}
use Rattle.zr_form.specs.Reading.{Bytes, spell_from}
use Rattle.zr_lines.specs.Spelling.{box_line, case_line, named_lines, node_line, point_fields}

-- the line of a part
abbrev pub part_line : Part → Bytes
part_line part = line_with (codes "part" ∷ signed part.weight ∷ point_fields part.point)

-- player i's total, and how many parts follow
abbrev pub player_line : ℕ → ℤ → ℕ → Bytes
player_line i total count =
    line_with (codes "player" ∷ decimal i ∷ codes "total" ∷ signed total ∷ codes "parts" ∷ decimal count ∷ [])

-- the lines of player i's strategy
abbrev pub strategy_lines : ℕ → MixtureOf → List Bytes
strategy_lines i m = player_line i m.total (length m.parts) ∷ map part_line m.parts

-- player i's cost
abbrev pub cost_line : ℕ → Fraction → Bytes
cost_line i f = line_with (codes "cost" ∷ decimal i ∷ signed f.num ∷ signed f.den ∷ [])

-- the lines of player i's bound
abbrev pub bound_lines : ℕ → BoundOf → List Bytes
bound_lines i b = cost_line i b.cost ∷ map node_line b.tree

-- the lines of a player's cover and of its named points and rays; the player's number isn't among them
abbrev pub cover_lines : ℕ → List NodeOf × List NamedOf → List Bytes
cover_lines i c = map node_line c.0 ++ named_lines c.1

-- the verdict's line
abbrev pub profile_line : Bytes
profile_line = line_with (codes "verdict" ∷ codes "profile" ∷ [])

abbrev pub cover_line : Bytes
cover_line = line_with (codes "verdict" ∷ codes "none" ∷ codes "cover" ∷ [])

abbrev pub empty_line : ℕ → Bytes
empty_line player = line_with (codes "verdict" ∷ codes "none" ∷ codes "empty" ∷ decimal player ∷ [])

abbrev pub boxes_line : Bytes
boxes_line = line_with (codes "verdict" ∷ codes "none" ∷ codes "boxes" ∷ [])

-- the last line
abbrev pub end_line : Bytes
end_line = line_with (codes "end" ∷ [])

-- all strategies, and then all bounds; each player's cover with its points and rays, and then the refutation; or the tree
abbrev pub body_lines : VerdictOf → List Bytes
body_lines (ProfileVerdict mixtures bounds) = spell_from strategy_lines 0 mixtures ++ spell_from bound_lines 0 bounds
body_lines (CoverVerdict covers named proof) = spell_from cover_lines 0 (zip covers named) ++ map case_line proof
body_lines (EmptyVerdict player tree) = map node_line tree
body_lines (BoxVerdict nodes) = map box_line nodes

-- which of these lines the verdict has
abbrev pub verdict_line : VerdictOf → Bytes
verdict_line (ProfileVerdict mixtures bounds) = profile_line
verdict_line (CoverVerdict covers named proof) = cover_line
verdict_line (EmptyVerdict player tree) = empty_line player
verdict_line (BoxVerdict nodes) = boxes_line

-- the name of the kind
abbrev pub kind_word : Kind → Bytes
kind_word Pure = codes "pure"
kind_word Mixed = codes "mixed"

-- the second line
abbrev pub kind_line : Kind → ℕ → Bytes
kind_line kind players = line_with (codes "kind" ∷ kind_word kind ∷ decimal players ∷ [])

-- the first line
abbrev pub form_line : Bytes
form_line = line_with (codes "zero-cert/1" ∷ [])

-- the lines of a certificate
abbrev pub cert_lines : CertOf → List Bytes
cert_lines c = form_line ∷ kind_line c.kind c.players ∷ verdict_line c.verdict ∷ (body_lines c.verdict ++ end_line ∷ [])

-- the text of a certificate
abbrev pub text_of : CertOf → Bytes
text_of c = concat (cert_lines c)
