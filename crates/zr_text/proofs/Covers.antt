-- The lines of a cover, its points and rays are a form, and so are those of all covers and the refutation over them.
use Rattle.std.proofs.Common.{◌≡◌, ℕ, suc, Bool, List, [], ◌∷◌, ◌++◌, map, length, take, drop, sym, refl, ap, ap₂, ◌∙◌, subst, arith}
use Rattle.std.specs.List.{AllByRecursion, zip}
use Rattle.std.specs.Global.{Vec}
use Rattle.std.proofs.Math.Seq.{take-append_seam}
use Rattle.std.proofs.lemmas.List.{length-map}
use Rattle.zr_game.specs.declared.named.Named.{Named}
use Rattle.zr_game.specs.Named.{NamedOf}
use Rattle.zr_tree.specs.declared.tree.Tree.{Tree}
use Rattle.zr_tree.specs.Nodes.{NodeOf}
use Rattle.zr_cases.specs.Cases.{RNodeOf}
use Rattle.zr_cert.specs.Certs.{CoverVerdict, named_list, nodes_of}
use Rattle.zr_cert.specs.Forms.{leaf_count}
use Rattle.zr_form.specs.Reading.{EachFrom, Read, many_read, spell_from}
use Rattle.zr_form.proofs.Forms.{IsForm, ManyFit, join_form, many_form, many_some}
use Rattle.zr_form.proofs.Lines.{IsLine}
use Rattle.zr_lines.specs.declared.ends.Ends.TheVariants.{Covered}
use Rattle.zr_lines.specs.Fits.{FitsCases, FitsNamedList, FitsTree}
use Rattle.zr_lines.specs.Reader.{named_read, tree_read}
use Rattle.zr_lines.specs.Spelling.{named_lines, node_line}
use Rattle.zr_lines.proofs.Named.{named_form, named_some}
use Rattle.zr_lines.proofs.Nodes.{tree_form, tree_some}
use Rattle.zr_text.specs.Fits.{FitsCoverProof}
use Rattle.zr_text.specs.Reader.{cover_read, covers_in, named_in}
use Rattle.zr_text.specs.Spelling.{cover_lines}

abbrev pub CoverOf : Type 0
CoverOf = List NodeOf × List NamedOf

abbrev pub FitsCover : Bool → CoverOf → Type 0
FitsCover strict c = FitsTree strict Covered c.0 × FitsNamedList strict c.1

pub cover_form : (strict : Bool) (i : ℕ) → IsForm IsLine (FitsCover strict) (cover_lines i) (cover_read strict)
unfolding cover_read
cover_form strict i =
    join_form IsLine {X = List NodeOf} {Y = List NamedOf} {Z = CoverOf} (λ tree items. (tree, items)) (FitsTree strict Covered) (map node_line) (tree_read strict Covered)
    (λ tree. FitsNamedList strict) (λ tree. named_lines) (λ tree. named_read strict) (FitsCover strict) (cover_lines i)
    (tree_form strict Covered) (λ tree f. named_form strict) (λ tree f. named_some strict)
    (λ tree items f g. ((f, g), refl)) (λ c f. (c.0, c.1, f.0, f.1, refl, refl))

pub cover_some : (strict : Bool) → (c : CoverOf) × FitsCover strict c
cover_some strict =
    let t = tree_some strict Covered in
    let n = named_some strict in
    ((t.0, n.0), (t.1, n.1))

abbrev pub CoversFit : Bool → ℕ → List CoverOf → Type 0
CoversFit strict players = ManyFit (λ i. FitsCover strict) players 0

abbrev pub covers_read : Bool → ℕ → Read (List CoverOf)
covers_read strict players = many_read (λ i. cover_read strict) players 0

pub covers_form : (strict : Bool) (players : ℕ) → IsForm IsLine (CoversFit strict players) (spell_from cover_lines 0) (covers_read strict players)
covers_form strict players = many_form IsLine (λ i. FitsCover strict) cover_lines (λ i. cover_read strict) (cover_form strict) (λ i. cover_some strict) players 0

pub covers_some : (strict : Bool) (players : ℕ) → (cs : List CoverOf) × CoversFit strict players cs
covers_some strict players = many_some (λ i. FitsCover strict) (λ i. cover_some strict) players 0

-- ---- covers and lists of points and rays, side by side

pub zip_in : (cs : List CoverOf) → zip (covers_in cs) (named_in cs) ≡ cs
zip_in [] = refl
zip_in (c ∷ cs) = ap (λ (z : List CoverOf). c ∷ z) (zip_in cs)

pub covers_in_zip : (covers : List (List NodeOf)) (named : List (List NamedOf)) → length named ≡ length covers → covers_in (zip covers named) ≡ covers
covers_in_zip [] named e = refl
covers_in_zip (c ∷ covers) [] e = absurd (omega (arith, e))
covers_in_zip (c ∷ covers) (n ∷ named) e = ap (λ (z : List (List NodeOf)). c ∷ z) (covers_in_zip covers named (omega (arith, e)))

pub named_in_zip : (covers : List (List NodeOf)) (named : List (List NamedOf)) → length named ≡ length covers → named_in (zip covers named) ≡ named
named_in_zip [] [] e = refl
named_in_zip [] (n ∷ named) e = absurd (omega (arith, e))
named_in_zip (c ∷ covers) [] e = absurd (omega (arith, e))
named_in_zip (c ∷ covers) (n ∷ named) e = ap (λ (z : List (List NamedOf)). n ∷ z) (named_in_zip covers named (omega (arith, e)))

pub covers_length : (cs : List CoverOf) → length (covers_in cs) ≡ length cs
covers_length [] = refl
covers_length (c ∷ cs) = ap suc (covers_length cs)

named_length : (cs : List CoverOf) → length (named_in cs) ≡ length cs
named_length [] = refl
named_length (c ∷ cs) = ap suc (named_length cs)

zip_length : (covers : List (List NodeOf)) (named : List (List NamedOf)) → length named ≡ length covers → length (zip covers named) ≡ length covers
zip_length [] named e = refl
zip_length (c ∷ covers) [] e = absurd (omega (arith, e))
zip_length (c ∷ covers) (n ∷ named) e = ap suc (zip_length covers named (omega (arith, e)))

trees_of : (strict : Bool) (i : ℕ) (cs : List CoverOf) → EachFrom (λ j. FitsCover strict) i cs → AllByRecursion (FitsTree strict Covered) (covers_in cs)
trees_of strict i [] f = tt
trees_of strict i (c ∷ cs) f = (f.0.0, trees_of strict (suc i) cs f.1)

lists_of : (strict : Bool) (i : ℕ) (cs : List CoverOf) → EachFrom (λ j. FitsCover strict) i cs → AllByRecursion (FitsNamedList strict) (named_in cs)
lists_of strict i [] f = tt
lists_of strict i (c ∷ cs) f = (f.0.1, lists_of strict (suc i) cs f.1)

pairs_of : (strict : Bool) (i : ℕ) (covers : List (List NodeOf)) (named : List (List NamedOf)) → AllByRecursion (FitsTree strict Covered) covers → AllByRecursion (FitsNamedList strict) named → EachFrom (λ j. FitsCover strict) i (zip covers named)
pairs_of strict i [] named f g = tt
pairs_of strict i (c ∷ covers) [] f g = tt
pairs_of strict i (c ∷ covers) (n ∷ named) f g = ((f.0, g.0), pairs_of strict (suc i) covers named f.1 g.1)

-- ---- and the refutation over them

pub cover_made : (strict : Bool) (players : ℕ) (cs : List CoverOf) (proof : List RNodeOf) → CoversFit strict players cs → FitsCases strict (map leaf_count (covers_in cs)) proof → FitsCoverProof strict players (covers_in cs) (named_in cs) proof
cover_made strict players cs proof f g = record {
  cover_count = covers_length cs ∙ f.0;
  cover_trees = trees_of strict 0 cs f.1;
  named_count = named_length cs ∙ f.0;
  named_lists = lists_of strict 0 cs f.1;
  cases = g;
}

pub verdict_zipped : (covers : List (List NodeOf)) (named : List (List NamedOf)) (proof : List RNodeOf) → length named ≡ length covers → CoverVerdict (covers_in (zip covers named)) (named_in (zip covers named)) proof ≡ CoverVerdict covers named proof
verdict_zipped covers named proof same = ap₂ (λ (x : List (List NodeOf)) (y : List (List NamedOf)). CoverVerdict x y proof) (covers_in_zip covers named same) (named_in_zip covers named same)

-- covers and lists that are as many
module _ (strict : Bool) (players : ℕ) (covers : List (List NodeOf)) (named : List (List NamedOf)) (proof : List RNodeOf) (f : FitsCoverProof strict players covers named proof) where
  same : length named ≡ length covers
  same = f.named_count ∙ sym f.cover_count

  pub covers_fit : CoversFit strict players (zip covers named)
  covers_fit = (zip_length covers named same ∙ f.cover_count, pairs_of strict 0 covers named f.cover_trees f.named_lists)

  pub cases_fit : FitsCases strict (map leaf_count (covers_in (zip covers named))) proof
  cases_fit = subst (λ (z : List (List NodeOf)). FitsCases strict (map leaf_count z) proof) (sym (covers_in_zip covers named same)) f.cases

  pub verdict_again : CoverVerdict (covers_in (zip covers named)) (named_in (zip covers named)) proof ≡ CoverVerdict covers named proof
  verdict_again = verdict_zipped covers named proof same

-- ---- in code

mapped_same : (covers : List Tree) (named : List (Vec Named)) → length named ≡ length covers → length (map named_list named) ≡ length (map nodes_of covers)
mapped_same covers named same = length-map named named_list ∙ same ∙ sym (length-map covers nodes_of)

pub counted_leaves : (covers : List Tree) (named : List (Vec Named)) (leaves : List ℕ) → length named ≡ length covers → leaves ≡ map leaf_count (map nodes_of covers) → leaves ≡ map leaf_count (covers_in (zip (map nodes_of covers) (map named_list named)))
counted_leaves covers named leaves same e =
    e ∙ ap (map leaf_count) (sym (covers_in_zip (map nodes_of covers) (map named_list named) (mapped_same covers named same)))

pub verdict_made : (covers : List Tree) (named : List (Vec Named)) (proof : List RNodeOf) → length named ≡ length covers
    → CoverVerdict (covers_in (zip (map nodes_of covers) (map named_list named))) (named_in (zip (map nodes_of covers) (map named_list named))) proof ≡ CoverVerdict (map nodes_of covers) (map named_list named) proof
verdict_made covers named proof same = verdict_zipped (map nodes_of covers) (map named_list named) proof (mapped_same covers named same)

-- the counts that were written into a list of as many places
pub leaves_written : (now covers : List Tree) (new places read : List ℕ) (len : ℕ) → new ≡ map leaf_count (map nodes_of now) → now ≡ covers → read ≡ take len (new ++ drop (length new) places) → len ≡ length now → read ≡ map leaf_count (map nodes_of covers)
leaves_written now covers new places read len e p r n =
    let size : len ≡ length new = n ∙ sym (ap length e ∙ length-map (map nodes_of now) leaf_count ∙ length-map now nodes_of) in
    r ∙ ap (λ (k : ℕ). take k (new ++ drop (length new) places)) size ∙ take-append_seam new (drop (length new) places) ∙ e ∙ ap (λ (ts : List Tree). map leaf_count (map nodes_of ts)) p
