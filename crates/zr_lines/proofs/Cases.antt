-- The lines of a refutation's nodes are forms, and so is a refutation.
use Rattle.std.proofs.Common.{◌≡◌, ℕ, Bool, true, false, List, [], ◌∷◌, ◌++◌, map, length, Some, refl}
use Rattle.std.specs.Prelude.{codes, nat_lt}
use Rattle.zr_tree.specs.Nodes.{Multipliers}
use Rattle.zr_cases.specs.Cases.{RNodeOf, OnOffNode, RowNode, WhichNode, CloseNode}
use Rattle.zr_cases.specs.Forms.{case_count}
use Rattle.zr_form.specs.Bounds.{Passes, is_index}
use Rattle.zr_form.specs.Fields.{ended, natural_read, pair}
use Rattle.zr_form.specs.Lines.{by_fields, line_with}
use Rattle.zr_form.specs.Numbers.{decimal}
use Rattle.zr_form.specs.Reading.{Bytes}
use Rattle.zr_form.proofs.Fields.{ended_whole, map_whole, natural_exact}
use Rattle.zr_form.proofs.Forms.{IsForm, IsOne, items_form, items_some}
use Rattle.zr_form.proofs.Lines.{IsField, IsLine, IsWhole}
use Rattle.zr_form.proofs.Words.{no_break_field, pair_exact}
use Rattle.zr_lines.specs.declared.words.CaseWord.{CaseWord}
use Rattle.zr_lines.specs.declared.words.CaseWord.TheVariants.{OnOff, Row, Which, Close}
use Rattle.zr_lines.specs.Fits.{FitsCase, FitsCases, FitsCounting}
use Rattle.zr_lines.specs.Reader.{case_at, case_rest, cases_read, counting}
use Rattle.zr_lines.specs.Spelling.{case_line, counting_fields}
use Rattle.zr_lines.specs.Words.{case_word, case_word_text}
use Rattle.zr_lines.proofs.Multipliers.{counting_whole}
use Rattle.zr_lines.proofs.Worded.{AreWords, FitsWord as FitsWordOf, by_word_line, by_word_whole, no_text, or_text, respelled}

case_word_sound : (f : Bytes) (w : CaseWord) → case_word f ≡ Some w → f ≡ case_word_text w
case_word_sound f w e =
    or_text case_word_text f OnOff _ w e (λ w1 e1. or_text case_word_text f Row _ w1 e1 (λ w2 e2. or_text case_word_text f Which _ w2 e2 (λ w3 e3. or_text case_word_text f Close _ w3 e3 (no_text case_word_text f))))

case_word_again : (w : CaseWord) → case_word (case_word_text w) ≡ Some w
case_word_again OnOff = refl
case_word_again Row = refl
case_word_again Which = refl
case_word_again Close = refl

case_word_clean : (w : CaseWord) → IsField (case_word_text w)
case_word_clean OnOff = no_break_field (codes "onoff") refl
case_word_clean Row = no_break_field (codes "row") refl
case_word_clean Which = no_break_field (codes "which") refl
case_word_clean Close = no_break_field (codes "close") refl

case_words : AreWords case_word_text case_word
case_words = record { sound = case_word_sound; again = case_word_again; clean = case_word_clean }

abbrev pub word_for : RNodeOf → CaseWord
word_for (OnOffNode i k) = OnOff
word_for (RowNode i k slot) = Row
word_for (WhichNode i) = Which
word_for (CloseNode mult) = Close

abbrev pub other_fields : RNodeOf → List Bytes
other_fields (OnOffNode i k) = decimal i ∷ decimal k ∷ []
other_fields (RowNode i k slot) = decimal i ∷ decimal k ∷ decimal slot ∷ []
other_fields (WhichNode i) = decimal i ∷ []
other_fields (CloseNode mult) = counting_fields mult

abbrev pub case_fields : RNodeOf → List Bytes
case_fields n = case_word_text (word_for n) ∷ other_fields n

line_is : (n : RNodeOf) → line_with (case_fields n) ≡ case_line n
line_is (OnOffNode i k) = refl
line_is (RowNode i k slot) = refl
line_is (WhichNode i) = refl
line_is (CloseNode mult) = refl

abbrev FitsWord : Bool → ℕ → CaseWord → RNodeOf → Type 0
FitsWord strict players = FitsWordOf (FitsCase strict players) word_for

abbrev Index : Bool → ℕ → Type 0
Index strict = Passes (is_index strict)

on_off_parts : (strict : Bool) (players : ℕ) (n : RNodeOf) → FitsWord strict players OnOff n
    → (h : ℕ × ℕ) × (Index strict h.0 × Index strict h.1) × (OnOffNode h.0 h.1 ≡ n) × (other_fields n ≡ (decimal h.0 ∷ []) ++ (decimal h.1 ∷ []))
on_off_parts strict players (OnOffNode i k) f = ((i, k), f.0, refl, refl)
on_off_parts strict players (RowNode i k slot) f = absurd (let e = f.1 in cc)
on_off_parts strict players (WhichNode i) f = absurd (let e = f.1 in cc)
on_off_parts strict players (CloseNode mult) f = absurd (let e = f.1 in cc)

row_parts : (strict : Bool) (players : ℕ) (n : RNodeOf) → FitsWord strict players Row n
    → (h : ℕ × (ℕ × ℕ)) × (Index strict h.0 × (Index strict h.1.0 × Index strict h.1.1)) × (RowNode h.0 h.1.0 h.1.1 ≡ n) × (other_fields n ≡ (decimal h.0 ∷ []) ++ ((decimal h.1.0 ∷ []) ++ (decimal h.1.1 ∷ [])))
row_parts strict players (OnOffNode i k) f = absurd (let e = f.1 in cc)
row_parts strict players (RowNode i k slot) f = ((i, (k, slot)), f.0, refl, refl)
row_parts strict players (WhichNode i) f = absurd (let e = f.1 in cc)
row_parts strict players (CloseNode mult) f = absurd (let e = f.1 in cc)

which_parts : (strict : Bool) (players : ℕ) (n : RNodeOf) → FitsWord strict players Which n → (i : ℕ) × Passes (λ m. nat_lt m players) i × (WhichNode i ≡ n) × (other_fields n ≡ decimal i ∷ [])
which_parts strict players (OnOffNode i k) f = absurd (let e = f.1 in cc)
which_parts strict players (RowNode i k slot) f = absurd (let e = f.1 in cc)
which_parts strict players (WhichNode i) f = (i, f.0, refl, refl)
which_parts strict players (CloseNode mult) f = absurd (let e = f.1 in cc)

close_parts : (strict : Bool) (players : ℕ) (n : RNodeOf) → FitsWord strict players Close n → (mult : Multipliers) × FitsCounting strict mult × (CloseNode mult ≡ n) × (other_fields n ≡ counting_fields mult)
close_parts strict players (OnOffNode i k) f = absurd (let e = f.1 in cc)
close_parts strict players (RowNode i k slot) f = absurd (let e = f.1 in cc)
close_parts strict players (WhichNode i) f = absurd (let e = f.1 in cc)
close_parts strict players (CloseNode mult) f = (mult, f.0, refl, refl)

case_rest_whole : (strict : Bool) (players : ℕ) (w : CaseWord) → IsWhole (FitsWord strict players w) other_fields (case_rest strict players w)
unfolding case_rest
case_rest_whole strict players OnOff =
    map_whole {X = ℕ × ℕ} {Y = RNodeOf} (λ h. OnOffNode h.0 h.1) (λ h. Index strict h.0 × Index strict h.1) (λ h. (decimal h.0 ∷ []) ++ (decimal h.1 ∷ [])) (λ fs. ended (pair (natural_read (is_index strict)) (natural_read (is_index strict)) fs)) (FitsWord strict players OnOff) other_fields
    (ended_whole _ _ _ (pair_exact _ _ _ _ _ _ (natural_exact (is_index strict)) (natural_exact (is_index strict))))
    (λ h f. ((f, refl), refl)) (on_off_parts strict players)
case_rest_whole strict players Row =
    map_whole {X = ℕ × (ℕ × ℕ)} {Y = RNodeOf} (λ h. RowNode h.0 h.1.0 h.1.1) (λ h. Index strict h.0 × (Index strict h.1.0 × Index strict h.1.1)) (λ h. (decimal h.0 ∷ []) ++ ((decimal h.1.0 ∷ []) ++ (decimal h.1.1 ∷ [])))
    (λ fs. ended (pair (natural_read (is_index strict)) (pair (natural_read (is_index strict)) (natural_read (is_index strict))) fs)) (FitsWord strict players Row) other_fields
    (ended_whole _ _ _ (pair_exact _ _ _ _ _ _ (natural_exact (is_index strict)) (pair_exact _ _ _ _ _ _ (natural_exact (is_index strict)) (natural_exact (is_index strict)))))
    (λ h f. ((f, refl), refl)) (row_parts strict players)
case_rest_whole strict players Which =
    map_whole {X = ℕ} {Y = RNodeOf} (λ i. WhichNode i) (Passes (λ m. nat_lt m players)) (λ i. decimal i ∷ []) (λ fs. ended (natural_read (λ m. nat_lt m players) fs)) (FitsWord strict players Which) other_fields
    (ended_whole (Passes (λ m. nat_lt m players)) (λ i. decimal i ∷ []) (natural_read (λ m. nat_lt m players)) (natural_exact (λ m. nat_lt m players)))
    (λ i f. ((f, refl), refl)) (which_parts strict players)
case_rest_whole strict players Close =
    map_whole {X = Multipliers} {Y = RNodeOf} (λ mult. CloseNode mult) (FitsCounting strict) counting_fields (counting strict) (FitsWord strict players Close) other_fields
    (counting_whole strict) (λ mult f. ((f, refl), refl)) (close_parts strict players)

pub case_whole : (strict : Bool) (players : ℕ) → IsWhole (FitsCase strict players) case_fields (case_at strict players)
unfolding case_at
case_whole strict players =
    by_word_whole case_word_text case_word case_words (FitsCase strict players) word_for other_fields (case_rest strict players) (case_rest_whole strict players)

case_one : (strict : Bool) (players : ℕ) → IsOne IsLine (FitsCase strict players) case_line (by_fields (case_at strict players))
unfolding case_at
case_one strict players =
    respelled (FitsCase strict players) (λ n. line_with (case_fields n)) case_line (by_fields (case_at strict players)) line_is
    (by_word_line case_word_text case_word case_words (FitsCase strict players) word_for other_fields (case_rest strict players) (case_rest_whole strict players))

-- ---- refutations

abbrev a_close : RNodeOf
a_close = CloseNode []

a_close_fits : (strict : Bool) (players : ℕ) → FitsCase strict players a_close
a_close_fits true players = (refl, record { length = refl; each = tt; ascends = refl })
a_close_fits false players = (refl, record { length = refl; each = tt; ascends = refl })

pub cases_form : (strict : Bool) (leaves : List ℕ) → IsForm IsLine (FitsCases strict leaves) (map case_line) (cases_read strict leaves)
unfolding cases_read
cases_form strict leaves =
    items_form IsLine (FitsCase strict (length leaves)) case_line (by_fields (case_at strict (length leaves))) (case_count leaves) (case_one strict (length leaves)) a_close (a_close_fits strict (length leaves)) refl 1

pub cases_some : (strict : Bool) (leaves : List ℕ) → (nodes : List RNodeOf) × FitsCases strict leaves nodes
cases_some strict leaves = items_some (FitsCase strict (length leaves)) (case_count leaves) a_close (a_close_fits strict (length leaves)) refl 1
