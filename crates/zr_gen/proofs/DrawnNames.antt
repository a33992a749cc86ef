-- A letter and a number is a name, and different numbers make different names.
use Rattle.std.proofs.Common.{◌≡◌, ◌≢◌, ℕ, ◌+◌, ◌<◌, ◌≤◌, ◌^◌, ◌%◌, arith, refl, sym, ap, ◌∙◌, Bool, true, ◌&&◌, nat_le, IsTrue, List, [], ◌∷◌, ◌++◌, map, length, drop, AllPairs}
use Rattle.std.proofs.lemmas.Bool.Decides.{nat_tests}
use Rattle.std.proofs.lemmas.Fmt.{decimal_by_steps, decimal_is_IsNumeral, length-decimal-le}
use Rattle.std.proofs.lemmas.List.Folds.{list_all-append}
use Rattle.std.proofs.lemmas.List.FromFn.{get_or-map-range_with_len, length-map-range_with_len}
use Rattle.std.specs.Fmt.{decimal}
use Rattle.std.specs.List.{list_all, range_with_len}
use Rattle.std.specs.Str.Parse.{digits_value}
use Rattle.zr_source.specs.Names.{AreNames, is_name, is_name_byte}
use Rattle.zr_gen.proofs.Lists.{all_range}

digit_byte : (b : ℕ) → 48 ≤ b → b ≤ 57 → is_name_byte b ≡ true
digit_byte b low high = grind (arith, nat_tests)

-- the digits of a number are bytes of a name
digit_bytes : (n : ℕ) → n < 2 ^ 64 → list_all is_name_byte (decimal n) ≡ true
digit_bytes = decimal_by_steps (λ n ds. list_all is_name_byte ds ≡ true) one more
  where
    one : (n : ℕ) → n < 10 → list_all is_name_byte ((48 + n) ∷ []) ≡ true
    one n h = rw (digit_byte (48 + n) (omega arith) (omega arith)) refl

    more : (n : ℕ) (ds : List ℕ) → 10 ≤ n → list_all is_name_byte ds ≡ true
        → list_all is_name_byte (ds ++ ((48 + n % 10) ∷ [])) ≡ true
    more n ds l h =
        list_all-append is_name_byte ds ((48 + n % 10) ∷ []) ∙ rw (h, digit_byte (48 + n % 10) (omega arith) (omega arith)) refl

three : (a b c : Bool) → a ≡ true → b ≡ true → c ≡ true → IsTrue (a && b && c)
three a b c e f g = rw (e, f, g) refl

numbered_name : (letter n : ℕ) → is_name_byte letter ≡ true → n < 64
    → IsTrue (is_name (letter ∷ decimal n))
numbered_name letter n is h =
    let short = length-decimal-le 2 n (omega arith) (omega arith) (omega arith) in
    let bytes = digit_bytes n (omega arith) in
    let some : nat_le 1 (length (letter ∷ decimal n)) ≡ true = grind (arith, nat_tests) in
    let few : nat_le (length (letter ∷ decimal n)) 32 ≡ true = grind (arith, nat_tests) in
    let all : list_all is_name_byte (letter ∷ decimal n) ≡ true = rw (is, bytes) refl in
    three _ _ _ some few all

one_number : (letter m n : ℕ) → m < 64 → n < 64 → letter ∷ decimal m ≡ letter ∷ decimal n → m ≡ n
one_number letter m n h l e =
    let first = (decimal_is_IsNumeral m (omega arith)).1 in
    let second = (decimal_is_IsNumeral n (omega arith)).1 in
    let ds : decimal m ≡ decimal n = ap (drop 1) e in
    sym first ∙ ap (digits_value 10) ds ∙ second

pub numbered_names : (letter n : ℕ) → is_name_byte letter ≡ true → n ≤ 64
    → AreNames (map (λ k. letter ∷ decimal k) (range_with_len 0 n))
numbered_names letter n is h = record {
  rule = all_range (λ s. IsTrue (is_name s)) (λ k. letter ∷ decimal k) n
      (λ k l. numbered_name letter k is (omega (arith, l)));
  differ = differ;
}
  where
    differ : AllPairs (λ s t. s ≢ t) (map (λ k. letter ∷ decimal k) (range_with_len 0 n))
    differ i j d before within e =
        let name = λ (k : ℕ). letter ∷ decimal k in
        let end : j < n = omega (arith, length-map-range_with_len name 0 n, within) in
        let first = get_or-map-range_with_len name 0 n i i d (omega arith) (omega arith) in
        let second = get_or-map-range_with_len name 0 n j j d end (omega arith) in
        let same = one_number letter i j (omega arith) (omega arith) (sym first ∙ e ∙ second) in
        omega (arith, same, before)
