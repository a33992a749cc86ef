-- The number that a text within its range is read as.
use Rattle.std.proofs.Common.{◌≡◌, ℕ, ◌<◌, ◌≤◌, ◌^◌, ℤ, pos, ◌≤ℤ◌, neg_ℤ, Bool, true, false, cond, List, [], ◌∷◌, drop, length, Option, Some, None, Result, Ok, Err, refl, sym, ap, ◌∙◌, subst, arith, ◌==◌, slice_get}
use Rattle.std.specs.Prelude.{unwrap_or}
use Rattle.std.specs.Str.Parse.{IsNumeral, ParsesUnsigned, digits_value, signed_digits_value, starts_with_minus, without_leading_plus}
use Rattle.std.proofs.lemmas.Int.{ints}
use Rattle.std.proofs.lemmas.Str.Parse.{digit_from_value}
use Rattle.std.proofs.lemmas.Bool.{ne_eqb}
use Rattle.clap.specs.Words.{without_minus}
use Rattle.clap.specs.Matches.{ReadsOne}
use Rattle.clap.specs.Values.{IsSignedIn}
use Rattle.zr_words.specs.Words.{Text}
use Rattle.zr_words.specs.Commands.{IsNumber}

without_minus-cond : (t : List ℕ) → without_minus t ≡ cond (starts_with_minus t) (drop 1 t) t
without_minus-cond [] = refl
without_minus-cond (x ∷ xs) = go (x == 45)
  where
    go : (b : Bool) → unwrap_or (cond b (Some xs) None) (x ∷ xs) ≡ cond b xs (x ∷ xs)
    go true = refl
    go false = refl

no_plus : (ds : List ℕ) → IsNumeral 10 ds → without_leading_plus ds ≡ ds
no_plus [] h = refl
no_plus (d ∷ ds) h =
    let plus : (d == 43) ≡ false = ne_eqb _ _ (λ e. omega (arith, digit_from_value d h.1.0)) in
    ap (λ (b : Bool). drop (cond b 1 0) (d ∷ ds)) plus

zero_only : (z : ℤ) (d : ℕ) → z ≡ neg_ℤ (pos d) → (pos 0) ≤ℤ z → d ≡ 0
zero_only z d e low = let k : (pos 0) ≤ℤ neg_ℤ (pos d) = rw (← e) low in omega (arith, ints)

pub reads_number : (E : Type 0) (G : List ℕ → Result ℕ E → Type 0) (k most : ℕ) (t : List ℕ) (r : Option ℕ)
    → ReadsOne G (without_minus t) r → ((u : List ℕ) (x : Result ℕ E) → G u x → ParsesUnsigned k 10 u x) → most < 2 ^ k
    → IsSignedIn (pos 0) (pos most) t → (n : ℕ) × (r ≡ Some n) × IsNumber most t n
reads_number E G k most t r read only fits passed =
    go (starts_with_minus t) refl r (subst (λ (u : List ℕ). ReadsOne G u r) (without_minus-cond t) read)
  where
    go : (b : Bool) → starts_with_minus t ≡ b → (o : Option ℕ) → ReadsOne G (cond (starts_with_minus t) (drop 1 t) t) o
        → (n : ℕ) × (o ≡ Some n) × IsNumber most t n
    go true minus (Some v) h =
        let low : (pos 0) ≤ℤ signed_digits_value 10 t = passed.2 in
        let numeral : IsNumeral 10 (drop 1 t) = rw minus at passed.0 in
        let parsed = only (drop 1 t) (Ok v) (rw minus at h) in
        let is : v ≡ digits_value 10 (drop 1 t) = parsed.1 ∙ ap (digits_value 10) (no_plus (drop 1 t) numeral) in
        let value : signed_digits_value 10 t ≡ neg_ℤ (pos (digits_value 10 (drop 1 t))) = rw minus refl in
        let none : digits_value 10 (drop 1 t) ≡ 0 = zero_only _ _ value low in
        let nothing : v ≡ 0 = is ∙ none in
        (v, refl, record { digits = passed.0; value = value ∙ ap (λ (n : ℕ). neg_ℤ (pos n)) none ∙ ap (λ (n : ℕ). pos n) (sym nothing); within = omega arith })
    go true minus None h =
        let low : (pos 0) ≤ℤ signed_digits_value 10 t = passed.2 in
        let numeral : IsNumeral 10 (drop 1 t) = rw minus at passed.0 in
        let same = no_plus (drop 1 t) numeral in
        let value : signed_digits_value 10 t ≡ neg_ℤ (pos (digits_value 10 (drop 1 t))) = rw minus refl in
        let none : digits_value 10 (drop 1 t) ≡ 0 = zero_only _ _ value low in
        let small : digits_value 10 (drop 1 t) < 2 ^ k = omega arith in
        absurd (only (drop 1 t) (Err h.0) (rw minus at h.1) (rw same numeral, rw same small))
    go false minus (Some v) h =
        let high : signed_digits_value 10 t ≤ℤ (pos most) = passed.3 in
        let parsed = only t (Ok v) (rw minus at h) in
        let value : signed_digits_value 10 t ≡ pos (digits_value 10 (without_leading_plus t)) = rw minus refl in
        let is : v ≡ digits_value 10 (without_leading_plus t) = parsed.1 in
        let within : pos (digits_value 10 (without_leading_plus t)) ≤ℤ (pos most) = rw (← value) high in
        (v, refl, record { digits = passed.0; value = value ∙ ap (λ (n : ℕ). pos n) (sym is); within = omega (arith, ints) })
    go false minus None h =
        let high : signed_digits_value 10 t ≤ℤ (pos most) = passed.3 in
        let numeral = rw minus at passed.0 in
        let value : signed_digits_value 10 t ≡ pos (digits_value 10 (without_leading_plus t)) = rw minus refl in
        let within : pos (digits_value 10 (without_leading_plus t)) ≤ℤ (pos most) = rw (← value) high in
        absurd (only t (Err h.0) (rw minus at h.1) (numeral, omega (arith, ints)))

-- ---- texts by their places

pub two_texts : (ts : List Text) (a b : Text) → Some a ≡ slice_get ts 0 → Some b ≡ slice_get ts 1 → None ≡ slice_get ts 2 → a ∷ b ∷ [] ≡ ts
two_texts [] a b e f g = absurd cc
two_texts (x ∷ []) a b e f g = absurd cc
two_texts (x ∷ y ∷ []) a b e f g = cc
two_texts (x ∷ y ∷ z ∷ ts) a b e f g = absurd cc

pub three_texts : (ts : List Text) (a b c : Text) → Some a ≡ slice_get ts 0 → Some b ≡ slice_get ts 1 → Some c ≡ slice_get ts 2 → length ts ≤ 3 → a ∷ b ∷ c ∷ [] ≡ ts
three_texts [] a b c e f g h = absurd cc
three_texts (x ∷ []) a b c e f g h = absurd cc
three_texts (x ∷ y ∷ []) a b c e f g h = absurd cc
three_texts (x ∷ y ∷ z ∷ []) a b c e f g h = cc
three_texts (x ∷ y ∷ z ∷ w ∷ ts) a b c e f g h = absurd (omega arith)
