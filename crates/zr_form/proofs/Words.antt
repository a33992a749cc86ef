-- Words as fields, fields one after the other, and lines of one word.
use Rattle.std.proofs.Common.{◌≡◌, ℕ, zero, suc, ◌+◌, ◌⊎◌, inl, inr, Bool, true, false, cond, ◌==◌, List, [], ◌∷◌, ◌++◌, length, Option, Some, None, sym, refl, ap, subst, arith}
use Rattle.std.specs.Prelude.{bytes_eq, ◌&&◌, not}
use Rattle.std.proofs.lemmas.Bool.{eqb-false}
use Rattle.std.proofs.lemmas.Slice.Eq.{bytes_eq-Decides}
use Rattle.zr_form.specs.Reading.{Bytes, Read, one_read, Closes}
use Rattle.zr_form.specs.Lines.{by_fields, line_with}
use Rattle.zr_form.specs.Fields.{word_read, ended, skip, pair}
use Rattle.zr_form.proofs.Forms.{IsExact, IsForm, one_form, join_exact}
use Rattle.zr_form.proofs.Lines.{IsField, IsLine, line_form}
use Rattle.zr_form.proofs.Fields.{word_exact, ended_whole}

abbrev pub no_break : List ℕ → Bool
no_break [] = true
no_break (b ∷ bytes) = not (b == 32) && (not (b == 10) && no_break bytes)

pub both_true : (a b : Bool) → (a && b) ≡ true → (a ≡ true) × (b ≡ true)
both_true true true e = (refl, refl)
both_true true false e = absurd cc
both_true false b e = absurd cc

pub not_true : (a : Bool) → not a ≡ true → a ≡ false
not_true true e = absurd cc
not_true false e = refl

pub no_break_field : (bytes : List ℕ) → no_break bytes ≡ true → IsField bytes
no_break_field [] e = record { one_field = tt; one_line = tt }
no_break_field (b ∷ bytes) e =
    let p = both_true (not (b == 32)) (not (b == 10) && no_break bytes) e in
    let q = both_true (not (b == 10)) (no_break bytes) p.1 in
    let c = no_break_field bytes q.1 in
    record { one_field = (eqb-false b 32 (not_true (b == 32) p.0), c.one_field); one_line = (eqb-false b 10 (not_true (b == 10) q.0), c.one_line) }

pub skip_exact : {X : Type 0} (word : Bytes) → no_break word ≡ true → (F : X → Type 0) (s : X → List Bytes) (r : Read X) → IsExact IsField F s r → IsExact IsField F (λ x. word ∷ s x) (skip word r)
skip_exact {X = X} word clean F s r e =
    join_exact IsField {X = Bytes} {Y = X} {Z = X} (λ w x. x) (λ f. f ≡ word) (λ f. f ∷ []) (word_read word) (λ w. F) (λ w. s) (λ w. r) F (λ x. word ∷ s x)
    (word_exact word (no_break_field word clean)) (λ w f. e)
    (λ w x f g. (g, ap (λ (z : Bytes). z ∷ s x) (sym f))) (λ x f. (word, x, refl, f, refl, refl))

pub pair_exact : {X Y : Type 0} (F : X → Type 0) (s : X → List Bytes) (r : Read X) (G : Y → Type 0) (t : Y → List Bytes) (q : Read Y) → IsExact IsField F s r → IsExact IsField G t q
    → IsExact IsField (λ (p : X × Y). F p.0 × G p.1) (λ p. s p.0 ++ t p.1) (pair r q)
pair_exact {X = X} {Y = Y} F s r G t q d e =
    join_exact IsField {X = X} {Y = Y} {Z = X × Y} (λ x y. (x, y)) F s r (λ x. G) (λ x. t) (λ x. q) (λ p. F p.0 × G p.1) (λ p. s p.0 ++ t p.1) d (λ x f. e)
    (λ x y f g. ((f, g), refl)) (λ p f. (p.0, p.1, f.0, f.1, refl, refl))

pub closes_length : {X : Type 0} (xs : List X) (n : ℕ) → Closes (λ x. 0) xs n → length xs ≡ n
closes_length [] zero c = refl
closes_length [] (suc n) c = absurd c
closes_length (x ∷ xs) zero c = absurd c
closes_length (x ∷ xs) (suc n) c = let h = closes_length xs (0 + n) c in omega (arith, h)

pub closes_all : {X : Type 0} (xs : List X) → Closes (λ x. 0) xs (length xs)
closes_all [] = tt
closes_all (x ∷ xs) = let k : length xs ≡ 0 + length xs = omega arith in subst (λ (n : ℕ). Closes (λ y. 0) xs n) k (closes_all xs)

pub chosen : {A : Type 0} (b : Bool) (x y z : A) → cond b x y ≡ z → ((b ≡ true) × (x ≡ z)) ⊎ ((b ≡ false) × (y ≡ z))
chosen true x y z e = inl (refl, e)
chosen false x y z e = inr (refl, e)

pub some_is : {X : Type 0} (x y : X) → Some x ≡ Some y → x ≡ y
some_is x y e = cc

pub or_word : {K : Type 0} (f word : Bytes) (k : K) (others : Option K) (w : K) → cond (bytes_eq f word) (Some k) others ≡ Some w → ((f ≡ word) × (k ≡ w)) ⊎ (others ≡ Some w)
or_word {K = K} f word k others w e =
    elim (chosen (bytes_eq f word) (Some k) others (Some w) e) [
      | inl h ↦ inl ((bytes_eq-Decides f word).0 h.0, some_is k w h.1)
      | inr h ↦ inr h.1
    ]

pub no_more : {X : Type 0} (x : X) → None ≡ Some x → ⊥
no_more x e = cc

pub word_line_form : (word : Bytes) → no_break word ≡ true → IsForm IsLine (λ f. f ≡ word) (λ f. line_with (f ∷ []) ∷ []) (one_read (by_fields (λ fs. ended (word_read word fs))))
word_line_form word clean =
    one_form IsLine (λ f. f ≡ word) (λ f. line_with (f ∷ [])) (by_fields (λ fs. ended (word_read word fs)))
    (line_form (λ f. f ≡ word) (λ f. f) (λ f. []) (λ fs. ended (word_read word fs)) (ended_whole (λ f. f ≡ word) (λ f. f ∷ []) (word_read word) (word_exact word (no_break_field word clean)))) word refl
