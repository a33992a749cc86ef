-- A line that begins with one of some words, and what follows each of them.
use Rattle.std.proofs.Common.{◌≡◌, inl, inr, List, [], ◌∷◌, Option, Some, None, sym, refl, ap, ◌∙◌, subst}
use Rattle.std.specs.Prelude.{option_map}
use Rattle.zr_form.specs.Lines.{by_fields, line_with}
use Rattle.zr_form.specs.Reading.{Bytes, one_read}
use Rattle.zr_form.proofs.Fields.{join_whole_form}
use Rattle.zr_form.proofs.Forms.{IsOne, one_exact}
use Rattle.zr_form.proofs.Lines.{IsField, IsLine, IsWhole, line_form}
use Rattle.zr_form.proofs.Words.{or_word}
use Rattle.zr_lines.specs.Reader.{by_word}
use Rattle.zr_lines.specs.Words.{or_else}

-- the words are read as they are spelled
pub record AreWords {W : Type 0} (text : W → Bytes) (word : Bytes → Option W) : Type 0 where
  pub sound : (f : Bytes) (w : W) → word f ≡ Some w → f ≡ text w
  pub again : (w : W) → word (text w) ≡ Some w
  pub clean : (w : W) → IsField (text w)

-- the field is this word, or what the others give
pub or_text : {W : Type 0} (text : W → Bytes) (f : Bytes) (k : W) (others : Option W) (w : W) → or_else f (text k) k others ≡ Some w → ((v : W) → others ≡ Some v → f ≡ text v) → f ≡ text w
or_text text f k others w e more =
    elim (or_word f (text k) k others w e) [
      | inl h ↦ h.0 ∙ ap text h.1
      | inr h ↦ more w h
    ]

pub no_text : {W : Type 0} (text : W → Bytes) (f : Bytes) (v : W) → None ≡ Some v → f ≡ text v
no_text text f v e = absurd cc

abbrev AnyWord : {W : Type 0} → W → Type 0
AnyWord w = Unit {0}

-- an item fits, and its line begins with the word
abbrev pub FitsWord : {W X : Type 0} → (X → Type 0) → (X → W) → W → X → Type 0
FitsWord Fits word_for w x = Fits x × (word_for x ≡ w)

module _ {W X : Type 0} (text : W → Bytes) (word : Bytes → Option W) (words : AreWords text word) (Fits : X → Type 0) (word_for : X → W) (others : X → List Bytes) (rest : W → List Bytes → Option X) (each : (w : W) → IsWhole (FitsWord Fits word_for w) others (rest w)) where
  abbrev fields : X → List Bytes
  fields x = text (word_for x) ∷ others x

  word_one : IsOne IsField AnyWord text word
  word_one = record { sound = λ f w e. (tt, words.sound f w e); again = λ w f. words.again w; clean = λ w f. words.clean w }

  pub by_word_whole : IsWhole Fits fields (by_word word rest)
  by_word_whole =
      join_whole_form {X = W} {Y = X} {Z = X} (λ w x. x) AnyWord (λ w. text w ∷ []) (one_read word) (FitsWord Fits word_for) (λ w. others) rest Fits fields
      (one_exact IsField AnyWord text word word_one) (λ w f. each w)
      (λ w x f g. (g.0, ap (λ (z : W). text z ∷ others x) g.1)) (λ x f. (word_for x, x, tt, (f, refl), refl, refl))

  pub by_word_line : IsOne IsLine Fits (λ x. line_with (fields x)) (by_fields (by_word word rest))
  by_word_line = line_form Fits (λ x. text (word_for x)) others (by_word word rest) by_word_whole

-- pieces that are spelled alike
pub respelled : {X : Type 0} (Fits : X → Type 0) (piece other : X → Bytes) (one : Bytes → Option X) → ((x : X) → piece x ≡ other x) → IsOne IsLine Fits piece one → IsOne IsLine Fits other one
respelled Fits piece other one same o = record {
  sound = λ l x e. let h = o.sound l x e in (h.0, h.1 ∙ same x);
  again = λ x f. ap one (sym (same x)) ∙ o.again x f;
  clean = λ x f. subst IsLine (same x) (o.clean x f);
}

-- ---- in code

same_option : {X : Type 0} (o : Option X) → option_map (λ x. x) o ≡ o
same_option None = refl
same_option (Some x) = refl

module _ {W X : Type 0} (word : Bytes → Option W) (rest : W → List Bytes → Option X) (fs : List Bytes) (f : Bytes) (gs : List Bytes) (cut : fs ≡ f ∷ gs) where
  pub word_known : (w : W) → word f ≡ Some w → by_word word rest fs ≡ rest w gs
  unfolding one_read
  word_known w k = ap (by_word word rest) cut ∙ rw k (same_option (rest w gs))

  pub word_unknown : word f ≡ None → by_word word rest fs ≡ None
  unfolding one_read
  word_unknown k = ap (by_word word rest) cut ∙ rw k refl

-- nothing is read where nothing is left
pub word_absent : {W X : Type 0} (word : Bytes → Option W) (rest : W → List Bytes → Option X) (fs : List Bytes) → fs ≡ [] → by_word word rest fs ≡ None
unfolding one_read
word_absent word rest fs e = rw e refl
