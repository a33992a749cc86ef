-- Reading a certificate from left to right, line after line.
use Rattle.std.specs.Prelude.{ℕ, ℤ, List, map, Bool, true, false, ◌==◌, if◌then◌else◌, Option, Some, None, option_map, bytes_eq, codes}
use Rattle.zr_base.specs.Fractions.{ratio}
use Rattle.zr_base.specs.Points.{PointOf}
use Rattle.zr_game.specs.Named.{NamedOf}
use Rattle.zr_game.specs.declared.kind.Kind.{Kind}
use Rattle.zr_game.specs.declared.kind.Kind.TheVariants.{Pure, Mixed}
use Rattle.zr_game.specs.Profiles.{Part}
use Rattle.zr_tree.specs.Nodes.{NodeOf}
use Rattle.zr_cert.specs.Certs.{BoundOf, BoxVerdict, CertOf, CoverVerdict, EmptyVerdict, MixtureOf, ProfileVerdict, VerdictOf}
use Rattle.zr_cert.specs.Forms.{leaf_count}
use Rattle.zr_form.specs.Bounds.{is_count, is_index, is_narrow, is_positive}
use Rattle.zr_form.specs.Fields.{alone, ended, integer_read, join_whole, natural_read, only_if, pair, skip, word_read}
use Rattle.zr_form.specs.Lines.{by_fields}
use Rattle.zr_form.specs.Reading.{Bytes, Read, items_read, join_read, many_read, one_read}
use Rattle.zr_lines.specs.declared.ends.Ends.TheVariants.{Proofs, Refuted, Covered}
use Rattle.zr_lines.specs.Reader.{boxes_read, by_word, cases_read, named_read, point_at, tree_read}
use Rattle.zr_lines.specs.Words.{or_else}
use Rattle.zr_text.specs.declared.words.NoneWord.{NoneWord}
use Rattle.zr_text.specs.declared.words.NoneWord.TheVariants.{Cover, Empty, Boxes}
use Rattle.zr_text.specs.Fits.{is_player_count, is_lowest}

-- ---- lines, by their fields

abbrev pub weighing : ℤ → PointOf → Part
weighing weight point = record { weight = weight; point = point }

-- a weight and a point
unfoldable pub part_at : Bool → List Bytes → Option Part
part_at strict = join_whole weighing (skip (codes "part") (integer_read (is_positive strict))) (λ weight. point_at strict)

-- the number of the player, which is i, the total, and how many parts follow
unfoldable pub player_at : Bool → ℕ → List Bytes → Option (ℕ × (ℤ × ℕ))
player_at strict i fs =
    ended (skip (codes "player") (pair (natural_read (λ n. n == i)) (skip (codes "total") (pair (integer_read (is_positive strict)) (skip (codes "parts") (natural_read (is_count strict)))))) fs)

-- the number of the player, which is i, and the cost
unfoldable pub cost_at : Bool → ℕ → List Bytes → Option (ℕ × (ℤ × ℤ))
cost_at strict i fs =
    only_if (λ h. is_lowest h.1.0 h.1.1) (ended (skip (codes "cost") (pair (natural_read (λ n. n == i)) (pair (integer_read (is_narrow strict)) (integer_read (is_positive strict)))) fs))

-- the kind that has this name
abbrev pub kind_named : Bytes → Option Kind
kind_named f = if bytes_eq f (codes "pure") then Some Pure else (if bytes_eq f (codes "mixed") then Some Mixed else None)

-- the kind and the number of players
unfoldable pub kind_at : Bool → List Bytes → Option (Kind × ℕ)
kind_at strict fs = ended (skip (codes "kind") (pair (one_read kind_named) (natural_read (is_player_count strict))) fs)

-- what the verdict's line says
pub data VerdictLine : Type 0 where
  OfProfile : VerdictLine
  OfCover : VerdictLine
  OfEmpty : ℕ → VerdictLine
  OfBoxes : VerdictLine

-- whether it is a profile
abbrev pub verdict_line_word : Bytes → Option Bool
verdict_line_word f = if bytes_eq f (codes "profile") then Some true else (if bytes_eq f (codes "none") then Some false else None)

-- what shows that there is no equilibrium
abbrev pub none_word : Bytes → Option NoneWord
none_word f = or_else f (codes "cover") Cover (or_else f (codes "empty") Empty (or_else f (codes "boxes") Boxes None))

abbrev pub none_word_text : NoneWord → Bytes
none_word_text Cover = codes "cover"
none_word_text Empty = codes "empty"
none_word_text Boxes = codes "boxes"

unfoldable pub none_rest : Bool → NoneWord → List Bytes → Option VerdictLine
none_rest strict Cover fs = alone OfCover fs
none_rest strict Empty fs = option_map (λ i. OfEmpty i) (ended (natural_read (is_index strict) fs))
none_rest strict Boxes fs = alone OfBoxes fs

unfoldable pub none_at : Bool → List Bytes → Option VerdictLine
none_at strict = by_word none_word (none_rest strict)

-- what follows the word after `verdict`
unfoldable pub verdict_line_rest : Bool → Bool → List Bytes → Option VerdictLine
verdict_line_rest strict true fs = alone OfProfile fs
verdict_line_rest strict false fs = none_at strict fs

-- what the line of the verdict says
unfoldable pub verdict_line_at : Bool → List Bytes → Option VerdictLine
verdict_line_at strict = join_whole (λ w c. c) (skip (codes "verdict") (one_read verdict_line_word)) (verdict_line_rest strict)

-- nothing but this word
unfoldable pub word_at : Bytes → List Bytes → Option Bytes
word_at word fs = ended (word_read word fs)

-- ---- the text, by its lines

-- player i's strategy: its line, and as many parts as that says
unfoldable pub strategy_read : Bool → ℕ → Read MixtureOf
strategy_read strict i =
    join_read (λ h parts. record { total = h.1.0; parts = parts }) (one_read (by_fields (player_at strict i))) (λ h ls. items_read (by_fields (part_at strict)) (λ p. 0) ls h.1.1)

-- player i's cost and its tree
unfoldable pub bound_read : Bool → ℕ → Read BoundOf
bound_read strict i = join_read (λ h tree. record { cost = ratio h.1.0 h.1.1; tree = tree }) (one_read (by_fields (cost_at strict i))) (λ h. tree_read strict Proofs)

-- a cover, and named points and rays
unfoldable pub cover_read : Bool → Read (List NodeOf × List NamedOf)
cover_read strict = join_read (λ tree items. (tree, items)) (tree_read strict Covered) (λ tree. named_read strict)

-- the last line
unfoldable pub end_read : Read Bytes
end_read = one_read (by_fields (word_at (codes "end")))

-- all strategies, and then all bounds
unfoldable pub profile_read : Bool → ℕ → Read VerdictOf
profile_read strict players =
    join_read (λ mixtures bounds. ProfileVerdict mixtures bounds) (many_read (strategy_read strict) players 0) (λ m. many_read (bound_read strict) players 0)

abbrev pub covers_in : List (List NodeOf × List NamedOf) → List (List NodeOf)
covers_in cs = map (λ c. c.0) cs

abbrev pub named_in : List (List NodeOf × List NamedOf) → List (List NamedOf)
named_in cs = map (λ c. c.1) cs

-- each player's cover with its points and rays, and then the refutation over the covers' leaves
unfoldable pub cover_proof_read : Bool → ℕ → Read VerdictOf
cover_proof_read strict players =
    join_read (λ cs proof. CoverVerdict (covers_in cs) (named_in cs) proof) (many_read (λ i. cover_read strict) players 0) (λ cs. cases_read strict (map leaf_count (covers_in cs)))

-- what follows the verdict's line
unfoldable pub body_read : Bool → ℕ → VerdictLine → Read VerdictOf
body_read strict players OfProfile = join_read (λ v e. v) (profile_read strict players) (λ v. end_read)
body_read strict players OfCover = join_read (λ v e. v) (cover_proof_read strict players) (λ v. end_read)
body_read strict players (OfEmpty player) = join_read (λ tree e. EmptyVerdict player tree) (tree_read strict Refuted) (λ tree. end_read)
body_read strict players OfBoxes = join_read (λ nodes e. BoxVerdict nodes) (boxes_read strict) (λ nodes. end_read)

-- the verdict's line and what follows it
unfoldable pub verdict_read : Bool → ℕ → Read VerdictOf
verdict_read strict players = join_read (λ c v. v) (one_read (by_fields (verdict_line_at strict))) (body_read strict players)

-- the kind's line and what follows it
unfoldable pub kind_read : Bool → Read CertOf
kind_read strict = join_read (λ h v. record { kind = h.0; players = h.1; verdict = v }) (one_read (by_fields (kind_at strict))) (λ h. verdict_read strict h.1)

-- the whole certificate
unfoldable pub cert_read : Bool → Read CertOf
cert_read strict = join_read (λ w c. c) (one_read (by_fields (word_at (codes "zero-cert/1")))) (λ w. kind_read strict)
