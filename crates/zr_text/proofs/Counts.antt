-- How many lines a certificate has.
use Rattle.std.proofs.Common.{◌≡◌, ℕ, suc, ◌+◌, ◌<◌, List, [], ◌∷◌, map, length, true, refl, arith}
use Rattle.std.specs.List.{AllByRecursion}
use Rattle.std.proofs.lemmas.List.{length-append, length-map}
use Rattle.zr_cert.specs.Certs.{BoundOf, BoxVerdict, CertOf, CoverVerdict, EmptyVerdict, MixtureOf, ProfileVerdict, VerdictOf}
use Rattle.zr_cert.specs.Lines.{bound_lines as bound_count, line_count, mixture_lines as mixture_count, named_lines as named_count, sum_lines, tree_lines, verdict_lines as verdict_count}
use Rattle.zr_form.specs.Reading.{Bytes, spell_from}
use Rattle.zr_text.specs.Spelling.{body_lines, bound_lines, cert_lines, cover_lines, end_line, part_line, strategy_lines}
use Rattle.zr_lines.specs.Spelling.{box_line, case_line, named_line, named_lines, node_line}
use Rattle.zr_game.specs.Named.{NamedOf}
use Rattle.zr_tree.specs.Nodes.{NodeOf}
use Rattle.zr_text.specs.Fits.{Fits, FitsVerdict}
use Rattle.std.specs.List.{zip}

pub lines_of_all : {X : Type 0} (spell : ℕ → X → List Bytes) (count : X → ℕ) → ((i : ℕ) (x : X) → length (spell i x) ≡ count x) → (i : ℕ) (xs : List X) → length (spell_from spell i xs) ≡ sum_lines count xs
lines_of_all spell count each i [] = refl
lines_of_all spell count each i (x ∷ xs) = omega (arith, length-append (spell i x) (spell_from spell (suc i) xs), each i x, lines_of_all spell count each (suc i) xs)

pub lines_of_strategy : (i : ℕ) (m : MixtureOf) → length (strategy_lines i m) ≡ mixture_count m
lines_of_strategy i m = omega (arith, length-map m.parts part_line)

pub lines_of_bound : (i : ℕ) (b : BoundOf) → length (bound_lines i b) ≡ bound_count b
lines_of_bound i b = omega (arith, length-map b.tree node_line)

-- a cover's lines and those of its points and rays
pub lines_of_covers : (i : ℕ) (covers : List (List NodeOf)) (named : List (List NamedOf)) → length covers ≡ length named → length (spell_from cover_lines i (zip covers named)) ≡ sum_lines tree_lines covers + sum_lines named_count named
lines_of_covers i [] [] e = refl
lines_of_covers i [] (n ∷ named) e = absurd (omega (arith, e))
lines_of_covers i (c ∷ covers) [] e = absurd (omega (arith, e))
lines_of_covers i (c ∷ covers) (n ∷ named) e =
    omega (arith, length-append (cover_lines i (c, n)) (spell_from cover_lines (suc i) (zip covers named)), length-append (map node_line c) (named_lines n), length-map c node_line, length-map n named_line, lines_of_covers (suc i) covers named (omega (arith, e)))

lines_of_body : (players : ℕ) (v : VerdictOf) → FitsVerdict true players v → length (body_lines v) ≡ verdict_count v
lines_of_body players (ProfileVerdict m b) f =
    omega (arith, length-append (spell_from strategy_lines 0 m) (spell_from bound_lines 0 b), lines_of_all strategy_lines mixture_count lines_of_strategy 0 m, lines_of_all bound_lines bound_count lines_of_bound 0 b)
lines_of_body players (CoverVerdict covers named proof) f =
    let a = f.cover_count in
    let b = f.named_count in
    omega (arith, length-append (spell_from cover_lines 0 (zip covers named)) (map case_line proof), length-map proof case_line, lines_of_covers 0 covers named (omega (arith, a, b)))
lines_of_body players (EmptyVerdict p tree) f = length-map tree node_line
lines_of_body players (BoxVerdict nodes) f = length-map nodes box_line

pub as_many_lines : (c : CertOf) → Fits true c → length (cert_lines c) ≡ line_count c
as_many_lines c f = omega (arith, length-append (body_lines c.verdict) (end_line ∷ []), lines_of_body c.players c.verdict f.verdict)

-- each of the counts is at most their sum
pub each_below : {X : Type 0} (count : X → ℕ) (limit : ℕ) (xs : List X) → sum_lines count xs < limit → AllByRecursion (λ x. count x < limit) xs
each_below count limit [] lt = tt
each_below count limit (x ∷ xs) lt = (omega arith, each_below count limit xs (omega arith))
