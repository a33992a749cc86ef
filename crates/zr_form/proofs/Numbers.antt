-- A number is read exactly where it is spelled.
use Rattle.std.proofs.Common.{◌≡◌, ℕ, zero, suc, ◌+◌, ◌-◌, ◌*◌, ◌/◌, ◌%◌, ◌^◌, ◌<◌, ◌≤◌, ◌⊎◌, inl, inr, Bool, true, false, cond, List, [], ◌∷◌, ◌++◌, Option, Some, None, ℤ, pos, negsuc, refl, sym, ap, ◌∙◌, append_assoc, arith}
use Rattle.std.specs.Prelude.{nat_lt, nat_le, ◌&&◌, ◌==◌, option_map, unsigned_abs}
use Rattle.std.specs.List.{AllByRecursion}
use Rattle.std.proofs.lemmas.Bool.{cases_lt, le-ltb, ltb-true, lt-ltb, leb-true, le-leb, eqb-true, ne_eqb}
use Rattle.std.proofs.lemmas.List.{append-nil}
use Rattle.std.specs.Fmt.{decimal as std_decimal, signed_decimal}
use Rattle.std.proofs.lemmas.Fmt.{decimal_by_steps_wide}
use Rattle.zr_form.specs.Numbers.{digits, decimal, more_digits, natural, is_end, signed, integer, negated}

-- more room changes nothing
same_digits : (a b n : ℕ) → n < a → n < b → digits a n ≡ digits b n
unfolding digits
same_digits zero b n p q = absurd (omega arith)
same_digits (suc a) zero n p q = absurd (omega arith)
same_digits (suc a) (suc b) n p q =
    elim (cases_lt n 10) [
      | inl lt ↦ let k : nat_lt n 10 ≡ true = lt-ltb n 10 lt in rw k refl
      | inr le ↦ let k : nat_lt n 10 ≡ false = le-ltb n 10 le in rw k (ap (λ z. z ++ (48 + n % 10) ∷ []) (same_digits a b (n / 10) (omega arith) (omega arith)))
    ]

pub decimal_small : (n : ℕ) → n < 10 → decimal n ≡ (48 + n) ∷ []
unfolding decimal digits
decimal_small n lt = let k : nat_lt n 10 ≡ true = lt-ltb n 10 lt in rw k refl

pub decimal_more : (n d : ℕ) → 0 < n → d < 10 → decimal (n * 10 + d) ≡ decimal n ++ (48 + d) ∷ []
unfolding decimal digits
decimal_more n d positive lt =
    let k : nat_lt (n * 10 + d) 10 ≡ false = le-ltb (n * 10 + d) 10 (omega arith) in
    let q : (n * 10 + d) / 10 ≡ n = omega arith in
    let r : (n * 10 + d) % 10 ≡ d = omega arith in
    let s : digits (n * 10 + d) n ≡ decimal n = same_digits (n * 10 + d) (suc n) n (omega arith) (omega arith) in
    rw (k, q, r) (ap (λ z. z ++ (48 + d) ∷ []) s)

pub decimal_more_is : (n d m : ℕ) → 0 < n → d < 10 → m ≡ n * 10 + d → decimal m ≡ decimal n ++ (48 + d) ∷ []
decimal_more_is n d m positive lt e = ap decimal e ∙ decimal_more n d positive lt

-- ---- what is read is spelled so

both_true : (a b : Bool) → (a && b) ≡ true → (a ≡ true) × (b ≡ true)
both_true true true e = (refl, refl)
both_true true false e = absurd cc
both_true false b e = absurd cc

chosen : {A : Type 0} (b : Bool) (x y z : A) → cond b x y ≡ z → ((b ≡ true) × (x ≡ z)) ⊎ ((b ≡ false) × (y ≡ z))
chosen true x y z e = inl (refl, e)
chosen false x y z e = inr (refl, e)

pub more_spelled : (n : ℕ) (ds : List ℕ) (m : ℕ) → 0 < n → more_digits n ds ≡ Some m → decimal m ≡ decimal n ++ ds
unfolding more_digits
more_spelled n [] m positive e = let k : n ≡ m = cc in ap decimal (sym k) ∙ sym (append-nil (decimal n))
more_spelled n (d ∷ ds) m positive e =
    elim (chosen (nat_le 48 d && nat_lt d 58) (more_digits (n * 10 + (d - 48)) ds) None (Some m) e) [
      | inl h ↦
          let t = both_true (nat_le 48 d) (nat_lt d 58) h.0 in
          let low : 48 ≤ d = leb-true 48 d t.0 in
          let high : d < 58 = ltb-true d 58 t.1 in
          let k : 48 + (d - 48) ≡ d = omega arith in
          more_spelled (n * 10 + (d - 48)) ds m (omega arith) h.1 ∙ ap (λ z. z ++ ds) (decimal_more n (d - 48) positive (omega arith)) ∙ append_assoc (decimal n) ((48 + (d - 48)) ∷ []) ds ∙ ap (λ z. decimal n ++ (z ∷ ds)) k
      | inr h ↦ absurd (let q = h.1 in cc)
    ]

nothing : (ds : List ℕ) → is_end ds ≡ true → ds ≡ []
nothing [] e = refl
nothing (d ∷ ds) e = absurd cc

pub natural_spelled : (ds : List ℕ) (m : ℕ) → natural ds ≡ Some m → ds ≡ decimal m
unfolding natural
natural_spelled [] m e = absurd cc
natural_spelled (d ∷ ds) m e =
    elim (chosen (nat_lt 48 d && nat_lt d 58) (more_digits (d - 48) ds) (cond ((d == 48) && is_end ds) (Some 0) None) (Some m) e) [
      | inl h ↦
          let t = both_true (nat_lt 48 d) (nat_lt d 58) h.0 in
          let low : 48 < d = ltb-true 48 d t.0 in
          let high : d < 58 = ltb-true d 58 t.1 in
          let k : 48 + (d - 48) ≡ d = omega arith in
          sym (more_spelled (d - 48) ds m (omega arith) h.1 ∙ ap (λ z. z ++ ds) (decimal_small (d - 48) (omega arith)) ∙ ap (λ z. z ∷ ds) k)
      | inr h ↦
          elim (chosen ((d == 48) && is_end ds) (Some 0) None (Some m) h.1) [
            | inl g ↦
                let t = both_true (d == 48) (is_end ds) g.0 in
                let k : d ≡ 48 = eqb-true d 48 t.0 in
                let z : 0 ≡ m = let q = g.1 in cc in
                ap (λ (w : List ℕ). d ∷ w) (nothing ds t.1) ∙ ap (λ (w : ℕ). w ∷ []) k ∙ sym (decimal_small 0 (omega arith)) ∙ ap decimal z
            | inr g ↦ absurd (let q = g.1 in cc)
          ]
    ]

-- ---- what is spelled is read

-- the number is read back from its digits, of which the first isn't 0
pub record Begins (m : ℕ) : Type 0 where
  pub first : ℕ
  pub rest : List ℕ
  pub low : 0 < first
  pub high : first < 10
  pub spelled : decimal m ≡ (48 + first) ∷ rest
  pub back : more_digits first rest ≡ Some m

one_more : (n : ℕ) (ds : List ℕ) (m c : ℕ) → c < 10 → more_digits n ds ≡ Some m → more_digits n (ds ++ (48 + c) ∷ []) ≡ Some (m * 10 + c)
unfolding more_digits
one_more n [] m c lt e =
    let k : n ≡ m = cc in
    let a : nat_le 48 (48 + c) ≡ true = le-leb 48 (48 + c) (omega arith) in
    let b : nat_lt (48 + c) 58 ≡ true = lt-ltb (48 + c) 58 (omega arith) in
    let d : n * 10 + ((48 + c) - 48) ≡ m * 10 + c = omega arith in
    rw (a, b) (ap (λ (z : ℕ). Some z) d)
one_more n (d ∷ ds) m c lt e =
    elim (chosen (nat_le 48 d && nat_lt d 58) (more_digits (n * 10 + (d - 48)) ds) None (Some m) e) [
      | inl h ↦ let t = h.0 in rw t (one_more (n * 10 + (d - 48)) ds m c lt h.1)
      | inr h ↦ absurd (let q = h.1 in cc)
    ]

begins : (most m : ℕ) → m < most → 0 < m → Begins m
begins zero m lt positive = absurd (omega arith)
begins (suc most) m lt positive =
    elim (cases_lt m 10) [
      | inl small ↦ record { first = m; rest = []; low = positive; high = small; spelled = decimal_small m small; back = unfold more_digits in refl }
      | inr big ↦
          let b = begins most (m / 10) (omega arith) (omega arith) in
          let whole : m ≡ (m / 10) * 10 + m % 10 = omega arith in
          record {
            first = b.first;
            rest = b.rest ++ (48 + m % 10) ∷ [];
            low = b.low;
            high = b.high;
            spelled = decimal_more_is (m / 10) (m % 10) m (omega arith) (omega arith) whole ∙ ap (λ z. z ++ (48 + m % 10) ∷ []) b.spelled;
            back = one_more b.first b.rest (m / 10) (m % 10) (omega arith) b.back ∙ ap (λ (z : ℕ). Some z) (sym whole);
          }
    ]

natural_positive : (m : ℕ) → Begins m → natural (decimal m) ≡ Some m
unfolding natural
natural_positive m b =
    let a : nat_lt 48 (48 + b.first) ≡ true = let l = b.low in lt-ltb 48 (48 + b.first) (omega arith) in
    let c : nat_lt (48 + b.first) 58 ≡ true = let l = b.high in lt-ltb (48 + b.first) 58 (omega arith) in
    let d : (48 + b.first) - 48 ≡ b.first = omega arith in
    ap natural b.spelled ∙ rw (a, c, d) b.back

pub natural_again : (m : ℕ) → natural (decimal m) ≡ Some m
unfolding natural
natural_again zero = ap natural (decimal_small 0 (omega arith))
natural_again (suc m) = natural_positive (suc m) (begins (suc (suc m)) (suc m) (omega arith) (omega arith))

-- ---- signed

not_minus : (m : ℕ) → Begins m → (b : ℕ) (bs : List ℕ) → decimal m ≡ b ∷ bs → (b == 45) ≡ false
not_minus m begin b bs e =
    let k : 48 + begin.first ≡ b = let s = begin.spelled in cc in
    ne_eqb b 45 (λ z. omega arith)

no_natural : (m : ℕ) → natural [] ≡ Some m → ⊥
unfolding natural
no_natural m e = cc

pub integer_natural : (m : ℕ) (bs : List ℕ) → bs ≡ decimal m → integer bs ≡ Some (pos m)
unfolding integer
integer_natural m [] e = absurd (no_natural m (ap natural e ∙ natural_again m))
integer_natural zero (b ∷ bs) e =
    let h : b ≡ 48 = let s = decimal_small 0 (omega arith) in cc in
    let k : (b == 45) ≡ false = ne_eqb b 45 (λ z. omega arith) in
    let n : natural (b ∷ bs) ≡ Some 0 = ap natural e ∙ natural_again 0 in
    rw (k, n) refl
integer_natural (suc m) (b ∷ bs) e =
    let k : (b == 45) ≡ false = not_minus (suc m) (begins (suc (suc m)) (suc m) (omega arith) (omega arith)) b bs (sym e) in
    let n : natural (b ∷ bs) ≡ Some (suc m) = ap natural e ∙ natural_again (suc m) in
    rw (k, n) refl

pub integer_again : (z : ℤ) → integer (signed z) ≡ Some z
unfolding signed
integer_again (pos m) = integer_natural m (decimal m) refl
integer_again (negsuc m) = unfold integer in rw (natural_again (suc m)) refl

negated_is : (o : Option ℕ) (z : ℤ) → negated o ≡ Some z → (n : ℕ) × (o ≡ Some (suc n)) × (negsuc n ≡ z)
negated_is None z e = absurd cc
negated_is (Some zero) z e = absurd cc
negated_is (Some (suc n)) z e = (n, refl, cc)

map_is : (o : Option ℕ) (z : ℤ) → option_map pos o ≡ Some z → (n : ℕ) × (o ≡ Some n) × (pos n ≡ z)
map_is None z e = absurd cc
map_is (Some n) z e = (n, refl, cc)

pub integer_spelled : (bs : List ℕ) (z : ℤ) → integer bs ≡ Some z → bs ≡ signed z
unfolding integer
integer_spelled [] z e = absurd cc
integer_spelled (b ∷ bs) z e =
    elim (chosen (b == 45) (negated (natural bs)) (option_map pos (natural (b ∷ bs))) (Some z) e) [
      | inl h ↦
          let t = negated_is (natural bs) z h.1 in
          let k : b ≡ 45 = eqb-true b 45 h.0 in
          let l : bs ≡ decimal (suc t.0) = natural_spelled bs (suc t.0) t.1 in
          let m : signed (negsuc t.0) ≡ 45 ∷ decimal (suc t.0) = unfold signed in refl in
          ap (λ (w : ℕ). w ∷ bs) k ∙ ap (λ (w : List ℕ). 45 ∷ w) l ∙ sym m ∙ ap signed t.2
      | inr h ↦
          let t = map_is (natural (b ∷ bs)) z h.1 in
          let m : signed (pos t.0) ≡ decimal t.0 = unfold signed in refl in
          natural_spelled (b ∷ bs) t.0 t.1 ∙ sym m ∙ ap signed t.2
    ]

-- ---- digits alone

abbrev AreDigits : List ℕ → Type 0
AreDigits ds = AllByRecursion (λ d. (48 ≤ d) × (d < 58)) ds

digits_append : (xs ys : List ℕ) → AreDigits xs → AreDigits ys → AreDigits (xs ++ ys)
digits_append [] ys p q = q
digits_append (x ∷ xs) ys p q = (p.0, digits_append xs ys p.1 q)

digits_room : (most n : ℕ) → AreDigits (digits most n)
unfolding digits
digits_room zero n = tt
digits_room (suc most) n =
    elim (cases_lt n 10) [
      | inl lt ↦ let k : nat_lt n 10 ≡ true = lt-ltb n 10 lt in rw k ((omega arith, omega arith), tt)
      | inr le ↦ let k : nat_lt n 10 ≡ false = le-ltb n 10 le in rw k (digits_append (digits most (n / 10)) ((48 + n % 10) ∷ []) (digits_room most (n / 10)) ((omega arith, omega arith), tt))
    ]

pub digits_all : (n : ℕ) → AreDigits (decimal n)
unfolding decimal
digits_all n = digits_room (suc n) n

-- ---- what std writes

pub same_decimal : (n : ℕ) → n < 10 ^ 64 → decimal n ≡ std_decimal n
same_decimal n lt =
    decimal_by_steps_wide (λ m ds. decimal m ≡ ds) (λ m small. decimal_small m small)
    (λ m ds le h. decimal_more_is (m / 10) (m % 10) m (omega arith) (omega arith) (omega arith) ∙ ap (λ (z : List ℕ). z ++ (48 + m % 10) ∷ []) h) n lt

pub same_signed : (z : ℤ) → unsigned_abs z < 10 ^ 64 → signed z ≡ signed_decimal z
unfolding signed
same_signed (pos n) lt = same_decimal n lt
same_signed (negsuc n) lt = ap (λ (z : List ℕ). 45 ∷ z) (same_decimal (suc n) lt)
