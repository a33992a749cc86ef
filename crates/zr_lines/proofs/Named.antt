-- The lines of named points and rays are forms.
use Rattle.std.proofs.Common.{◌≡◌, ℕ, Bool, true, false, List, [], ◌∷◌, ◌++◌, map, length, Some, sym, refl, ap, subst, pos, arith}
use Rattle.std.specs.Prelude.{codes}
use Rattle.zr_base.specs.Points.{PointOf}
use Rattle.zr_game.specs.Named.{NamedOf, NamedPoint, NamedRay}
use Rattle.zr_form.specs.Bounds.{Passes, is_index}
use Rattle.zr_form.specs.Fields.{natural_read, skip}
use Rattle.zr_form.specs.Lines.{by_fields, line_with}
use Rattle.zr_form.specs.Numbers.{decimal}
use Rattle.zr_form.specs.Reading.{Bytes, items_read, one_read}
use Rattle.zr_form.proofs.Fields.{ended_whole, map_whole, natural_exact}
use Rattle.zr_form.proofs.Forms.{IsForm, IsOne, ItemsFit, items_form, items_some, join_form, one_form}
use Rattle.zr_form.proofs.Lines.{IsField, IsLine, IsWhole, line_form}
use Rattle.zr_form.proofs.Words.{closes_all, closes_length, no_break_field, skip_exact}
use Rattle.zr_lines.specs.declared.words.NamedWord.{NamedWord}
use Rattle.zr_lines.specs.declared.words.NamedWord.TheVariants.{Point, Ray}
use Rattle.zr_lines.specs.Fits.{FitsNamed, FitsNamedList, FitsPoint}
use Rattle.zr_lines.specs.Reader.{named_at, named_count_at, named_read, named_rest, point_at}
use Rattle.zr_lines.specs.Spelling.{named_count_line, named_line, named_lines, point_fields}
use Rattle.zr_lines.specs.Words.{named_word, named_word_text}
use Rattle.zr_lines.proofs.Points.{FitsRayOf, point_whole, ray_fields, ray_whole}
use Rattle.zr_lines.proofs.Worded.{AreWords, FitsWord as FitsWordOf, by_word_line, by_word_whole, no_text, or_text, respelled}

named_word_sound : (f : Bytes) (w : NamedWord) → named_word f ≡ Some w → f ≡ named_word_text w
named_word_sound f w e =
    or_text named_word_text f Point _ w e (λ w1 e1. or_text named_word_text f Ray _ w1 e1 (no_text named_word_text f))

named_word_again : (w : NamedWord) → named_word (named_word_text w) ≡ Some w
named_word_again Point = refl
named_word_again Ray = refl

named_word_clean : (w : NamedWord) → IsField (named_word_text w)
named_word_clean Point = no_break_field (codes "point") refl
named_word_clean Ray = no_break_field (codes "ray") refl

named_words : AreWords named_word_text named_word
named_words = record { sound = named_word_sound; again = named_word_again; clean = named_word_clean }

abbrev pub word_for : NamedOf → NamedWord
word_for (NamedPoint x) = Point
word_for (NamedRay base dir) = Ray

abbrev pub named_fields : NamedOf → List Bytes
named_fields item = named_word_text (word_for item) ∷ ray_fields item

line_is : (item : NamedOf) → line_with (named_fields item) ≡ named_line item
line_is (NamedPoint x) = refl
line_is (NamedRay base dir) = refl

abbrev FitsWord : Bool → NamedWord → NamedOf → Type 0
FitsWord strict = FitsWordOf (FitsNamed strict) word_for

point_parts : (strict : Bool) (item : NamedOf) → FitsWord strict Point item → (x : PointOf) × FitsPoint strict x × (NamedPoint x ≡ item) × (ray_fields item ≡ point_fields x)
point_parts strict (NamedPoint x) f = (x, f.0, refl, refl)
point_parts strict (NamedRay base dir) f = absurd (let k = f.1 in cc)

ray_told : (strict : Bool) (item : NamedOf) → FitsRayOf strict item → FitsWord strict Ray item
ray_told strict (NamedPoint x) f = absurd f
ray_told strict (NamedRay base dir) f = (f, refl)

ray_tells : (strict : Bool) (item : NamedOf) → FitsWord strict Ray item → FitsRayOf strict item
ray_tells strict (NamedPoint x) f = absurd (let k = f.1 in cc)
ray_tells strict (NamedRay base dir) f = f.0

named_rest_whole : (strict : Bool) (w : NamedWord) → IsWhole (FitsWord strict w) ray_fields (named_rest strict w)
unfolding named_rest
named_rest_whole strict Point =
    map_whole {X = PointOf} {Y = NamedOf} (λ x. NamedPoint x) (FitsPoint strict) point_fields (point_at strict) (FitsWord strict Point) ray_fields
    (point_whole strict) (λ x f. ((f, refl), refl)) (point_parts strict)
named_rest_whole strict Ray =
    let w = ray_whole strict in
    record {
      sound = λ fs item e. let h = w.sound fs item e in (ray_told strict item h.0, h.1);
      again = λ item f. w.again item (ray_tells strict item f);
      clean = λ item f. w.clean item (ray_tells strict item f);
    }

pub named_whole : (strict : Bool) → IsWhole (FitsNamed strict) named_fields (named_at strict)
unfolding named_at
named_whole strict = by_word_whole named_word_text named_word named_words (FitsNamed strict) word_for ray_fields (named_rest strict) (named_rest_whole strict)

named_one : (strict : Bool) → IsOne IsLine (FitsNamed strict) named_line (by_fields (named_at strict))
unfolding named_at
named_one strict =
    respelled (FitsNamed strict) (λ item. line_with (named_fields item)) named_line (by_fields (named_at strict)) line_is
    (by_word_line named_word_text named_word named_words (FitsNamed strict) word_for ray_fields (named_rest strict) (named_rest_whole strict))

-- ---- a count, and so many

pub named_count_whole : (strict : Bool) → IsWhole (Passes (is_index strict)) (λ n. codes "named" ∷ decimal n ∷ []) (named_count_at strict)
unfolding named_count_at
named_count_whole strict =
    ended_whole {X = ℕ} (Passes (is_index strict)) (λ n. codes "named" ∷ decimal n ∷ []) (skip (codes "named") (natural_read (is_index strict)))
    (skip_exact (codes "named") refl (Passes (is_index strict)) (λ n. decimal n ∷ []) (natural_read (is_index strict)) (natural_exact (is_index strict)))

zero_fits : (strict : Bool) → Passes (is_index strict) 0
zero_fits true = refl
zero_fits false = refl

named_count_form : (strict : Bool) → IsForm IsLine (Passes (is_index strict)) (λ n. named_count_line n ∷ []) (one_read (by_fields (named_count_at strict)))
named_count_form strict =
    one_form IsLine (Passes (is_index strict)) named_count_line (by_fields (named_count_at strict))
    (line_form (Passes (is_index strict)) (λ n. codes "named") (λ n. decimal n ∷ []) (named_count_at strict) (named_count_whole strict)) 0 (zero_fits strict)

abbrev a_point : NamedOf
a_point = NamedPoint (record { num = pos 0 ∷ []; den = pos 1 })

a_point_fits : (strict : Bool) → FitsNamed strict a_point
a_point_fits true = record { den = refl; some = omega arith; nums = (refl, tt) }
a_point_fits false = record { den = refl; some = omega arith; nums = (refl, tt) }

named_made : (strict : Bool) (n : ℕ) (items : List NamedOf) → Passes (is_index strict) n → ItemsFit (FitsNamed strict) (λ item. 0) n items
    → FitsNamedList strict items × (named_lines items ≡ (named_count_line n ∷ []) ++ map named_line items)
named_made strict n items f g =
    let e = closes_length items n g.0 in
    ((subst (Passes (is_index strict)) (sym e) f, g.1), ap (λ (z : ℕ). named_count_line z ∷ map named_line items) e)

pub named_form : (strict : Bool) → IsForm IsLine (FitsNamedList strict) named_lines (named_read strict)
unfolding named_read
named_form strict =
    join_form IsLine {X = ℕ} {Y = List NamedOf} {Z = List NamedOf} (λ count items. items) (Passes (is_index strict)) (λ n. named_count_line n ∷ []) (one_read (by_fields (named_count_at strict)))
    (λ n. ItemsFit (FitsNamed strict) (λ item. 0) n) (λ n. map named_line) (λ n ls. items_read (by_fields (named_at strict)) (λ item. 0) ls n) (FitsNamedList strict) named_lines
    (named_count_form strict) (λ n f. items_form IsLine (FitsNamed strict) named_line (by_fields (named_at strict)) (λ item. 0) (named_one strict) a_point (a_point_fits strict) refl n)
    (λ n f. items_some (FitsNamed strict) (λ item. 0) a_point (a_point_fits strict) refl n)
    (named_made strict) (λ items f. (length items, items, f.0, (closes_all items, f.1), refl, refl))

pub named_some : (strict : Bool) → (items : List NamedOf) × FitsNamedList strict items
named_some strict = ([], (zero_fits strict, tt))
