-- The lines of a box tree's nodes are forms, and so is a box tree.
use Rattle.std.proofs.Common.{◌≡◌, ℕ, ℤ, Bool, true, false, List, [], ◌∷◌, ◌++◌, map, Some, refl}
use Rattle.std.specs.Prelude.{codes}
use Rattle.zr_base.specs.Points.{PointOf}
use Rattle.zr_tree.specs.Nodes.{Multipliers}
use Rattle.zr_cases.specs.Cases.{BNodeOf, CutNode, EmptyNode, DeviateNode}
use Rattle.zr_cases.specs.Forms.{box_count}
use Rattle.zr_form.specs.Bounds.{Passes, is_index}
use Rattle.zr_form.specs.Fields.{ended, integer_read, natural_read, pair}
use Rattle.zr_form.specs.Lines.{by_fields, line_with}
use Rattle.zr_form.specs.Numbers.{decimal, signed}
use Rattle.zr_form.specs.Reading.{Bytes}
use Rattle.zr_form.proofs.Fields.{ended_whole, integer_exact, join_whole_form, map_whole, natural_exact}
use Rattle.zr_form.proofs.Forms.{IsForm, IsOne, items_form, items_some}
use Rattle.zr_form.proofs.Lines.{IsField, IsLine, IsWhole}
use Rattle.zr_form.proofs.Words.{no_break_field, pair_exact}
use Rattle.zr_lines.specs.declared.words.BoxWord.{BoxWord}
use Rattle.zr_lines.specs.declared.words.BoxWord.TheVariants.{Split, Empty, Deviate}
use Rattle.zr_lines.specs.Fits.{FitsBox, FitsBoxes, FitsCounting, FitsPoint, is_at}
use Rattle.zr_lines.specs.Reader.{box_at, box_rest, boxes_read, counting, point_at}
use Rattle.zr_lines.specs.Spelling.{box_line, counting_fields, point_fields}
use Rattle.zr_lines.specs.Words.{box_word, box_word_text}
use Rattle.zr_lines.proofs.Multipliers.{counting_whole}
use Rattle.zr_lines.proofs.Points.{point_whole}
use Rattle.zr_lines.proofs.Worded.{AreWords, FitsWord as FitsWordOf, by_word_line, by_word_whole, no_text, or_text, respelled}

box_word_sound : (f : Bytes) (w : BoxWord) → box_word f ≡ Some w → f ≡ box_word_text w
box_word_sound f w e =
    or_text box_word_text f Split _ w e (λ w1 e1. or_text box_word_text f Empty _ w1 e1 (λ w2 e2. or_text box_word_text f Deviate _ w2 e2 (no_text box_word_text f)))

box_word_again : (w : BoxWord) → box_word (box_word_text w) ≡ Some w
box_word_again Split = refl
box_word_again Empty = refl
box_word_again Deviate = refl

box_word_clean : (w : BoxWord) → IsField (box_word_text w)
box_word_clean Split = no_break_field (codes "split") refl
box_word_clean Empty = no_break_field (codes "empty") refl
box_word_clean Deviate = no_break_field (codes "deviate") refl

box_words : AreWords box_word_text box_word
box_words = record { sound = box_word_sound; again = box_word_again; clean = box_word_clean }

abbrev pub word_for : BNodeOf → BoxWord
word_for (CutNode i v at) = Split
word_for (EmptyNode i mult) = Empty
word_for (DeviateNode i x) = Deviate

abbrev pub other_fields : BNodeOf → List Bytes
other_fields (CutNode i v at) = decimal i ∷ decimal v ∷ signed at ∷ []
other_fields (EmptyNode i mult) = decimal i ∷ counting_fields mult
other_fields (DeviateNode i x) = decimal i ∷ point_fields x

abbrev pub box_fields : BNodeOf → List Bytes
box_fields n = box_word_text (word_for n) ∷ other_fields n

line_is : (n : BNodeOf) → line_with (box_fields n) ≡ box_line n
line_is (CutNode i v at) = refl
line_is (EmptyNode i mult) = refl
line_is (DeviateNode i x) = refl

abbrev FitsWord : Bool → BoxWord → BNodeOf → Type 0
FitsWord strict = FitsWordOf (FitsBox strict) word_for

abbrev Index : Bool → ℕ → Type 0
Index strict = Passes (is_index strict)

split_parts : (strict : Bool) (n : BNodeOf) → FitsWord strict Split n
    → (h : ℕ × (ℕ × ℤ)) × (Index strict h.0 × (Index strict h.1.0 × Passes (is_at strict) h.1.1)) × (CutNode h.0 h.1.0 h.1.1 ≡ n) × (other_fields n ≡ (decimal h.0 ∷ []) ++ ((decimal h.1.0 ∷ []) ++ (signed h.1.1 ∷ [])))
split_parts strict (CutNode i v at) f = ((i, (v, at)), f.0, refl, refl)
split_parts strict (EmptyNode i mult) f = absurd (let e = f.1 in cc)
split_parts strict (DeviateNode i x) f = absurd (let e = f.1 in cc)

empty_parts : (strict : Bool) (n : BNodeOf) → FitsWord strict Empty n
    → (i : ℕ) × (mult : Multipliers) × Index strict i × FitsCounting strict mult × (EmptyNode i mult ≡ n) × (other_fields n ≡ (decimal i ∷ []) ++ counting_fields mult)
empty_parts strict (CutNode i v at) f = absurd (let e = f.1 in cc)
empty_parts strict (EmptyNode i mult) f = (i, mult, f.0.0, f.0.1, refl, refl)
empty_parts strict (DeviateNode i x) f = absurd (let e = f.1 in cc)

deviate_parts : (strict : Bool) (n : BNodeOf) → FitsWord strict Deviate n
    → (i : ℕ) × (x : PointOf) × Index strict i × FitsPoint strict x × (DeviateNode i x ≡ n) × (other_fields n ≡ (decimal i ∷ []) ++ point_fields x)
deviate_parts strict (CutNode i v at) f = absurd (let e = f.1 in cc)
deviate_parts strict (EmptyNode i mult) f = absurd (let e = f.1 in cc)
deviate_parts strict (DeviateNode i x) f = (i, x, f.0.0, f.0.1, refl, refl)

box_rest_whole : (strict : Bool) (w : BoxWord) → IsWhole (FitsWord strict w) other_fields (box_rest strict w)
unfolding box_rest
box_rest_whole strict Split =
    map_whole {X = ℕ × (ℕ × ℤ)} {Y = BNodeOf} (λ h. CutNode h.0 h.1.0 h.1.1) (λ h. Index strict h.0 × (Index strict h.1.0 × Passes (is_at strict) h.1.1)) (λ h. (decimal h.0 ∷ []) ++ ((decimal h.1.0 ∷ []) ++ (signed h.1.1 ∷ [])))
    (λ fs. ended (pair (natural_read (is_index strict)) (pair (natural_read (is_index strict)) (integer_read (is_at strict))) fs)) (FitsWord strict Split) other_fields
    (ended_whole _ _ _ (pair_exact _ _ _ _ _ _ (natural_exact (is_index strict)) (pair_exact _ _ _ _ _ _ (natural_exact (is_index strict)) (integer_exact (is_at strict)))))
    (λ h f. ((f, refl), refl)) (split_parts strict)
box_rest_whole strict Empty =
    join_whole_form {X = ℕ} {Y = Multipliers} {Z = BNodeOf} (λ i mult. EmptyNode i mult) (Index strict) (λ i. decimal i ∷ []) (natural_read (is_index strict))
    (λ i. FitsCounting strict) (λ i. counting_fields) (λ i. counting strict) (FitsWord strict Empty) other_fields
    (natural_exact (is_index strict)) (λ i f. counting_whole strict) (λ i mult f g. (((f, g), refl), refl)) (empty_parts strict)
box_rest_whole strict Deviate =
    join_whole_form {X = ℕ} {Y = PointOf} {Z = BNodeOf} (λ i x. DeviateNode i x) (Index strict) (λ i. decimal i ∷ []) (natural_read (is_index strict))
    (λ i. FitsPoint strict) (λ i. point_fields) (λ i. point_at strict) (FitsWord strict Deviate) other_fields
    (natural_exact (is_index strict)) (λ i f. point_whole strict) (λ i x f g. (((f, g), refl), refl)) (deviate_parts strict)

pub box_whole : (strict : Bool) → IsWhole (FitsBox strict) box_fields (box_at strict)
unfolding box_at
box_whole strict = by_word_whole box_word_text box_word box_words (FitsBox strict) word_for other_fields (box_rest strict) (box_rest_whole strict)

box_one : (strict : Bool) → IsOne IsLine (FitsBox strict) box_line (by_fields (box_at strict))
unfolding box_at
box_one strict =
    respelled (FitsBox strict) (λ n. line_with (box_fields n)) box_line (by_fields (box_at strict)) line_is
    (by_word_line box_word_text box_word box_words (FitsBox strict) word_for other_fields (box_rest strict) (box_rest_whole strict))

-- ---- box trees

abbrev a_box : BNodeOf
a_box = EmptyNode 0 []

a_box_fits : (strict : Bool) → FitsBox strict a_box
a_box_fits true = (refl, (refl, record { length = refl; each = tt; ascends = refl }))
a_box_fits false = (refl, (refl, record { length = refl; each = tt; ascends = refl }))

pub boxes_form : (strict : Bool) → IsForm IsLine (FitsBoxes strict) (map box_line) (boxes_read strict)
unfolding boxes_read
boxes_form strict = items_form IsLine (FitsBox strict) box_line (by_fields (box_at strict)) box_count (box_one strict) a_box (a_box_fits strict) refl 1

pub boxes_some : (strict : Bool) → (nodes : List BNodeOf) × FitsBoxes strict nodes
boxes_some strict = items_some (FitsBox strict) box_count a_box (a_box_fits strict) refl 1
