-- Steps of the code that reads numbers.
use Rattle.std.proofs.Common.{◌≡◌, ◌≢◌, ℕ, zero, suc, ◌+◌, ◌-◌, ◌*◌, ◌^◌, ◌<◌, ◌≤◌, ◌⊎◌, inl, inr, Bool, true, false, ◌==◌, List, [], ◌∷◌, length, get_or, drop, Option, Some, None, sym, refl, ap, ◌∙◌, arith, ℤ, pos, negsuc}
use Rattle.std.specs.Prelude.{option_map, nat_lt, nat_le, ◌&&◌, unsigned_abs}
use Rattle.std.proofs.lemmas.Bool.{cond-true, cond-false, cases_lt, le-ltb, lt-ltb, le-leb, lt-leb, ne_eqb}
use Rattle.std.proofs.lemmas.List.{drop_more, drop_all}
use Rattle.zr_form.specs.Numbers.{more_digits, natural, integer, negated}
use Rattle.zr_form.specs.Fields.{only_if}
use Rattle.zr_form.specs.Code.{narrow_integer}

abbrev pub narrow : Option ℕ → Option ℕ
narrow o = only_if (λ n. nat_lt n (2 ^ 127)) o

digit_not : (d : ℕ) → (d < 48) → (nat_le 48 d && nat_lt d 58) ≡ false
digit_not d lt = rw (lt-leb 48 d lt) refl

digit_high : (d : ℕ) → 57 < d → (nat_le 48 d && nat_lt d 58) ≡ false
digit_high d lt = let k : nat_lt d 58 ≡ false = le-ltb d 58 (omega arith) in let l : nat_le 48 d ≡ true = le-leb 48 d (omega arith) in rw (l, k) refl

digit_is : (d : ℕ) → 48 ≤ d → d ≤ 57 → (nat_le 48 d && nat_lt d 58) ≡ true
digit_is d low high = let k : nat_lt d 58 ≡ true = lt-ltb d 58 (omega arith) in let l : nat_le 48 d ≡ true = le-leb 48 d (omega arith) in rw (l, k) refl

more_not : (n d : ℕ) (ds : List ℕ) → (nat_le 48 d && nat_lt d 58) ≡ false → more_digits n (d ∷ ds) ≡ None
unfolding more_digits
more_not n d ds e = cond-false _ _ _ e

more_is : (n d : ℕ) (ds : List ℕ) → (nat_le 48 d && nat_lt d 58) ≡ true → more_digits n (d ∷ ds) ≡ more_digits (n * 10 + (d - 48)) ds
unfolding more_digits
more_is n d ds e = cond-true _ _ _ e

pub bad_low : (n : ℕ) (xs : List ℕ) (i : ℕ) (total : Option ℕ) → i < length xs → get_or xs i 0 < 48 → more_digits n (drop i xs) ≡ total → None ≡ narrow total
bad_low n xs i total inside lt so_far = ap narrow (sym (more_not n (get_or xs i 0) (drop (i + 1) xs) (digit_not (get_or xs i 0) lt)) ∙ ap (more_digits n) (sym (drop_more xs i 0 inside)) ∙ so_far)

pub bad_high : (n : ℕ) (xs : List ℕ) (i : ℕ) (total : Option ℕ) → i < length xs → 57 < get_or xs i 0 → more_digits n (drop i xs) ≡ total → None ≡ narrow total
bad_high n xs i total inside lt so_far = ap narrow (sym (more_not n (get_or xs i 0) (drop (i + 1) xs) (digit_high (get_or xs i 0) lt)) ∙ ap (more_digits n) (sym (drop_more xs i 0 inside)) ∙ so_far)

pub one_step : (n : ℕ) (xs : List ℕ) (i : ℕ) (total : Option ℕ) → i < length xs → 48 ≤ get_or xs i 0 → get_or xs i 0 ≤ 57 → more_digits n (drop i xs) ≡ total → more_digits (n * 10 + (get_or xs i 0 - 48)) (drop (i + 1) xs) ≡ total
one_step n xs i total inside low high so_far = sym (more_is n (get_or xs i 0) (drop (i + 1) xs) (digit_is (get_or xs i 0) low high)) ∙ ap (more_digits n) (sym (drop_more xs i 0 inside)) ∙ so_far

too_big_step : (m d : ℕ) (ds : List ℕ) → narrow (more_digits (m * 10 + (d - 48)) ds) ≡ None → (t : Bool) → (nat_le 48 d && nat_lt d 58) ≡ t → narrow (more_digits m (d ∷ ds)) ≡ None
too_big_step m d ds h true t = ap narrow (more_is m d ds t) ∙ h
too_big_step m d ds h false t = ap narrow (more_not m d ds t)

-- digits only add
too_big : (m : ℕ) (ds : List ℕ) → 2 ^ 127 ≤ m → narrow (more_digits m ds) ≡ None
unfolding more_digits
too_big m [] le = cond-false _ _ _ (le-ltb m (2 ^ 127) le)
too_big m (d ∷ ds) le = too_big_step m d ds (too_big (m * 10 + (d - 48)) ds (omega arith)) (nat_le 48 d && nat_lt d 58) refl

pub bad_big : (n : ℕ) (xs : List ℕ) (i : ℕ) (total : Option ℕ) → i < length xs → 48 ≤ get_or xs i 0 → get_or xs i 0 ≤ 57 → 2 ^ 127 ≤ n * 10 + (get_or xs i 0 - 48) → more_digits n (drop i xs) ≡ total → None ≡ narrow total
bad_big n xs i total inside low high big so_far = sym (too_big (n * 10 + (get_or xs i 0 - 48)) (drop (i + 1) xs) big) ∙ ap narrow (one_step n xs i total inside low high so_far)

pub all_done : (n : ℕ) (xs : List ℕ) (i : ℕ) (total : Option ℕ) → length xs ≤ i → n < 2 ^ 127 → more_digits n (drop i xs) ≡ total → Some n ≡ narrow total
unfolding more_digits
all_done n xs i total le lt so_far =
    let k : Some n ≡ total = ap (more_digits n) (sym (drop_all i xs le)) ∙ so_far in
    sym (cond-true _ _ _ (lt-ltb n (2 ^ 127) lt)) ∙ ap narrow k

pub natural_nothing : (f : List ℕ) → length f ≡ 0 → None ≡ narrow (natural f)
unfolding natural
natural_nothing [] e = refl
natural_nothing (d ∷ ds) e = absurd (omega (arith, e))

pub natural_zero : (f : List ℕ) → get_or f 0 0 ≡ 48 → length f ≡ 1 → Some 0 ≡ narrow (natural f)
unfolding natural
natural_zero [] e l = absurd (omega (arith, l))
natural_zero (d ∷ []) e l = rw e refl
natural_zero (d ∷ c ∷ ds) e l = absurd (omega (arith, l))

pub natural_padded : (f : List ℕ) → get_or f 0 0 ≡ 48 → length f ≢ 1 → None ≡ narrow (natural f)
unfolding natural
natural_padded [] e l = refl
natural_padded (d ∷ []) e l = absurd (l refl)
natural_padded (d ∷ c ∷ ds) e l = rw e refl

natural_step : (d : ℕ) (ds : List ℕ) → d ≢ 48 → (d < 48) ⊎ (48 ≤ d) → narrow (more_digits 0 (d ∷ ds)) ≡ narrow (natural (d ∷ ds))
unfolding natural more_digits
natural_step d ds e (inl lt) =
    let a : nat_le 48 d ≡ false = lt-leb 48 d lt in
    let b : nat_lt 48 d ≡ false = le-ltb 48 d (omega arith) in
    let c : (d == 48) ≡ false = ne_eqb d 48 e in
    rw (a, b, c) refl
natural_step d ds e (inr le) =
    let a : nat_le 48 d ≡ true = le-leb 48 d le in
    let b : nat_lt 48 d ≡ true = lt-ltb 48 d (omega arith) in
    let c : (d == 48) ≡ false = ne_eqb d 48 e in
    let z : 0 + (d - 48) ≡ d - 48 = omega arith in
    rw (a, b, c, z) refl

pub natural_digits : (f : List ℕ) → length f ≢ 0 → get_or f 0 0 ≢ 48 → narrow (more_digits 0 f) ≡ narrow (natural f)
unfolding natural more_digits
natural_digits [] l e = absurd (l refl)
natural_digits (d ∷ ds) l e = natural_step d ds e (cases_lt d 48)

-- ---- signed

abbrev pub narrow_z : Option ℤ → Option ℤ
narrow_z o = only_if (λ z. nat_lt (unsigned_abs z) (2 ^ 127)) o

is_wide : (n : ℕ) → 2 ^ 127 ≤ n → nat_lt n (2 ^ 127) ≡ false
is_wide n le = le-ltb n (2 ^ 127) le

fits : (n : ℕ) → n < 2 ^ 127 → nat_lt n (2 ^ 127) ≡ true
fits n lt = lt-ltb n (2 ^ 127) lt

number_is : (m n : ℕ) → Some m ≡ Some n → m ≡ n
number_is m n e = cc

no_number : (n : ℕ) → None ≡ Some n → ⊥
no_number n e = cc

none_below_step : (n : ℕ) → (suc n < 2 ^ 127) ⊎ (2 ^ 127 ≤ suc n) → None ≡ narrow (Some (suc n)) → None ≡ narrow_z (negated (Some (suc n)))
none_below_step n (inl lt) e = absurd (no_number (suc n) (e ∙ cond-true _ _ _ (fits (suc n) lt)))
none_below_step n (inr le) e = sym (cond-false _ _ _ (is_wide (suc n) le))

zero_below_step : (n : ℕ) → (suc n < 2 ^ 127) ⊎ (2 ^ 127 ≤ suc n) → Some 0 ≡ narrow (Some (suc n)) → None ≡ narrow_z (negated (Some (suc n)))
zero_below_step n (inl lt) e = absurd (omega (arith, number_is 0 (suc n) (e ∙ cond-true _ _ _ (fits (suc n) lt))))
zero_below_step n (inr le) e = sym (cond-false _ _ _ (is_wide (suc n) le))

some_below_step : (m n : ℕ) → (suc m < 2 ^ 127) ⊎ (2 ^ 127 ≤ suc m) → Some (suc n) ≡ narrow (Some (suc m)) → Some (negsuc n) ≡ narrow_z (negated (Some (suc m)))
some_below_step m n (inl lt) e =
    let k : suc n ≡ suc m = number_is (suc n) (suc m) (e ∙ cond-true _ _ _ (fits (suc m) lt)) in
    let l : n ≡ m = omega arith in
    ap (λ (z : ℕ). Some (negsuc z)) l ∙ sym (cond-true _ _ _ (fits (suc m) lt))
some_below_step m n (inr le) e = absurd (no_number (suc n) (sym (e ∙ cond-false _ _ _ (is_wide (suc m) le))))

none_above_step : (n : ℕ) → (n < 2 ^ 127) ⊎ (2 ^ 127 ≤ n) → None ≡ narrow (Some n) → None ≡ narrow_z (option_map pos (Some n))
none_above_step n (inl lt) e = absurd (no_number n (e ∙ cond-true _ _ _ (fits n lt)))
none_above_step n (inr le) e = sym (cond-false _ _ _ (is_wide n le))

some_above_step : (m n : ℕ) → (m < 2 ^ 127) ⊎ (2 ^ 127 ≤ m) → Some n ≡ narrow (Some m) → Some (pos n) ≡ narrow_z (option_map pos (Some m))
some_above_step m n (inl lt) e =
    let k : n ≡ m = number_is n m (e ∙ cond-true _ _ _ (fits m lt)) in
    ap (λ (z : ℕ). Some (pos z)) k ∙ sym (cond-true _ _ _ (fits m lt))
some_above_step m n (inr le) e = absurd (no_number n (sym (e ∙ cond-false _ _ _ (is_wide m le))))

pub none_below : (o : Option ℕ) → None ≡ narrow o → None ≡ narrow_z (negated o)
none_below None e = refl
none_below (Some zero) e = refl
none_below (Some (suc n)) e = none_below_step n (cases_lt (suc n) (2 ^ 127)) e

pub zero_below : (o : Option ℕ) → Some 0 ≡ narrow o → None ≡ narrow_z (negated o)
zero_below None e = absurd cc
zero_below (Some zero) e = refl
zero_below (Some (suc n)) e = zero_below_step n (cases_lt (suc n) (2 ^ 127)) e

pub some_below : (o : Option ℕ) (n : ℕ) → Some (suc n) ≡ narrow o → Some (negsuc n) ≡ narrow_z (negated o)
some_below None n e = absurd cc
some_below (Some zero) n e = absurd (let k : Some (suc n) ≡ Some 0 = e in cc)
some_below (Some (suc m)) n e = some_below_step m n (cases_lt (suc m) (2 ^ 127)) e

pub none_above : (o : Option ℕ) → None ≡ narrow o → None ≡ narrow_z (option_map pos o)
none_above None e = refl
none_above (Some n) e = none_above_step n (cases_lt n (2 ^ 127)) e

pub some_above : (o : Option ℕ) (n : ℕ) → Some n ≡ narrow o → Some (pos n) ≡ narrow_z (option_map pos o)
some_above None n e = absurd cc
some_above (Some m) n e = some_above_step m n (cases_lt m (2 ^ 127)) e

pub integer_nothing : (f : List ℕ) → length f ≡ 0 → None ≡ narrow_integer f
unfolding integer
integer_nothing [] e = refl
integer_nothing (b ∷ bs) e = absurd (omega (arith, e))

pub integer_minus : (f : List ℕ) → length f ≢ 0 → get_or f 0 0 ≡ 45 → narrow_z (negated (natural (drop 1 f))) ≡ narrow_integer f
unfolding integer
integer_minus [] l e = absurd (l refl)
integer_minus (b ∷ bs) l e = rw e refl

pub integer_plain : (f : List ℕ) → length f ≢ 0 → get_or f 0 0 ≢ 45 → narrow_z (option_map pos (natural f)) ≡ narrow_integer f
unfolding integer
integer_plain [] l e = absurd (l refl)
integer_plain (b ∷ bs) l e = ap narrow_z (sym (cond-false _ _ _ (ne_eqb b 45 e)))
