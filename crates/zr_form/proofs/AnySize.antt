-- Fields that spell numbers of any size, and the order of such numbers.
use Rattle.std.proofs.Common.{◌≡◌, ◌≢◌, ℕ, zero, suc, ◌+◌, ◌-◌, ◌*◌, ◌<◌, ◌≤◌, ◌⊎◌, ◌↔◌, inl, inr, Bool, true, false, cond, ◌==◌, IsTrue, List, [], ◌∷◌, length, get_or, drop, All, Option, Some, None, Result, Ok, Err, sym, refl, ap, ◌∙◌, subst, arith, ℤ, pos, negsuc, Bor}
use Rattle.std.specs.Prelude.{option_map, option_copied, is_some, IsSome, nat_lt, nat_le, int_le, ◌&&◌}
use Rattle.std.proofs.lemmas.Bool.{cond-true, cond-false, cases_lt, le-ltb, lt-ltb, leb-true, ltb-true, le-leb, lt-leb, ne_eqb, eqb-true, eqb-false}
use Rattle.std.proofs.lemmas.List.Elements.{All-nil, All-cons, All-head, All-tail}
use Rattle.std.specs.Ordering.{nat_cmp, is_lt, is_some_and}
use Rattle.std.specs.Cmp.Lexicographic.{slice_partial_cmp}
use Rattle.std.proofs.lemmas.Cmp.{same_from_slice_cmp_tested}
use Rattle.std.proofs.lemmas.Bool.Decides.{nat_tests}
use Rattle.zr_form.specs.Reading.{Bytes, or_stop, one_read}
use Rattle.zr_form.specs.Lines.{split_once}
use Rattle.zr_form.specs.Numbers.{more_digits, natural, integer, negated, is_end, signed}
use Rattle.zr_form.specs.Fields.{only_if, natural_read, integer_read}
use Rattle.zr_form.specs.Code.{left_of, positive, TakesField}
use Rattle.zr_form.proofs.Numbers.{natural_spelled, natural_again, integer_natural, integer_spelled, decimal_small}
use Rattle.zr_form.proofs.Fields.{only_again, only_some}
use Rattle.zr_form.proofs.Atomic.{first, read_none, read_some, atom_end, atom_none}

-- ---- digits

some_is : {X : Type 0} (x y : X) → Some x ≡ Some y → x ≡ y
some_is x y e = cc

no_some : {X : Type 0} (x : X) → None ≡ Some x → ⊥
no_some x e = cc

abbrev IsDigit : ℕ → Type 0
IsDigit d = (48 ≤ d) × (d < 58)

digit_step : (n d m : ℕ) (ds : List ℕ) (a b : Bool) → nat_le 48 d ≡ a → nat_lt d 58 ≡ b → cond (nat_le 48 d && nat_lt d 58) (more_digits (n * 10 + (d - 48)) ds) None ≡ Some m → (48 ≤ d) × (d < 58) × (more_digits (n * 10 + (d - 48)) ds ≡ Some m)
digit_step n d m ds true true p q e = (leb-true 48 d p, ltb-true d 58 q, sym (rw (p, q) refl) ∙ e)
digit_step n d m ds true false p q e = absurd (no_some m (sym (rw (p, q) refl) ∙ e))
digit_step n d m ds false b p q e = absurd (no_some m (sym (rw p refl) ∙ e))

-- the first of digits that stand for a number
one_digit : (n d m : ℕ) (ds : List ℕ) → more_digits n (d ∷ ds) ≡ Some m → (48 ≤ d) × (d < 58) × (more_digits (n * 10 + (d - 48)) ds ≡ Some m)
unfolding more_digits
one_digit n d m ds e = digit_step n d m ds (nat_le 48 d) (nat_lt d 58) refl refl e

more_digit : (n d : ℕ) (ds : List ℕ) → 48 ≤ d → d < 58 → more_digits n (d ∷ ds) ≡ more_digits (n * 10 + (d - 48)) ds
unfolding more_digits
more_digit n d ds low high =
    let a : nat_le 48 d ≡ true = le-leb 48 d low in
    let b : nat_lt d 58 ≡ true = lt-ltb d 58 high in
    rw (a, b) refl

digits_some : (n : ℕ) (ds : List ℕ) → All IsDigit ds → IsSome (more_digits n ds)
unfolding more_digits
digits_some n [] h = refl
digits_some n (d ∷ ds) h =
    let p = All-head IsDigit d ds h in
    ap is_some (more_digit n d ds p.0 p.1) ∙ digits_some (n * 10 + (d - 48)) ds (All-tail IsDigit d ds h)

some_digits : (n m : ℕ) (ds : List ℕ) → more_digits n ds ≡ Some m → All IsDigit ds
some_digits n m [] e = All-nil IsDigit
some_digits n m (d ∷ ds) e =
    let h = one_digit n d m ds e in
    All-cons IsDigit d ds (h.0, h.1) (some_digits (n * 10 + (d - 48)) m ds h.2)

some_digits_of : (n : ℕ) (ds : List ℕ) (o : Option ℕ) → more_digits n ds ≡ o → IsSome o → All IsDigit ds
some_digits_of n ds (Some m) e h = some_digits n m ds e
some_digits_of n ds None e h = absurd cc

same_bool : (a b : Bool) → (a ≡ true → b ≡ true) → (b ≡ true → a ≡ true) → a ≡ b
same_bool true b f g = sym (f refl)
same_bool false true f g = g refl
same_bool false false f g = refl

-- whether all are digits tells whether they stand for a number
are_digits_some : (n : ℕ) (ds : List ℕ) (all : Bool) → (IsTrue all ↔ All IsDigit ds) → all ≡ is_some (more_digits n ds)
are_digits_some n ds all h = same_bool all (is_some (more_digits n ds)) (λ t. digits_some n ds (h.0 t)) (λ t. h.1 (some_digits_of n ds (more_digits n ds) refl t))

-- digits only add
more_least : (n m : ℕ) (ds : List ℕ) → more_digits n ds ≡ Some m → n ≤ m
unfolding more_digits
more_least n m [] e = omega (arith, some_is n m e)
more_least n m (d ∷ ds) e =
    let h = one_digit n d m ds e in
    let k : n * 10 + (d - 48) ≤ m = more_least (n * 10 + (d - 48)) m ds h.2 in
    omega arith

-- ---- numbers from 0 on

leads_step : (d : ℕ) (ds : List ℕ) → d ≢ 48 → (d < 48) ⊎ (48 ≤ d) → natural (d ∷ ds) ≡ more_digits 0 (d ∷ ds)
unfolding natural more_digits
leads_step d ds e (inl lt) =
    let a : nat_le 48 d ≡ false = lt-leb 48 d lt in
    let b : nat_lt 48 d ≡ false = le-ltb 48 d (omega arith) in
    let c : (d == 48) ≡ false = ne_eqb d 48 e in
    rw (a, b, c) refl
leads_step d ds e (inr le) =
    let a : nat_le 48 d ≡ true = le-leb 48 d le in
    let b : nat_lt 48 d ≡ true = lt-ltb 48 d (omega arith) in
    let c : (d == 48) ≡ false = ne_eqb d 48 e in
    let z : 0 + (d - 48) ≡ d - 48 = omega arith in
    rw (a, b, c, z) refl

leads : (d : ℕ) (ds : List ℕ) → d ≢ 48 → natural (d ∷ ds) ≡ more_digits 0 (d ∷ ds)
leads d ds e = leads_step d ds e (cases_lt d 48)

padded : (d : ℕ) (ds : List ℕ) → d ≡ 48 → natural (d ∷ ds) ≡ cond (is_end ds) (Some 0) None
unfolding natural
padded d ds e = rw e refl

above_zero_step : (d : ℕ) (ds : List ℕ) (o : Option ℕ) → d ≢ 48 → more_digits 0 (d ∷ ds) ≡ o → only_if (nat_le 1) o ≡ o
above_zero_step d ds None e p = refl
above_zero_step d ds (Some m) e p =
    let h = one_digit 0 d m ds p in
    let k : 0 * 10 + (d - 48) ≤ m = more_least (0 * 10 + (d - 48)) m ds h.2 in
    let l : 48 ≤ d = h.0 in
    cond-true _ _ _ (le-leb 1 m (omega arith))

pub nothing_above : (f : List ℕ) → length f ≡ 0 → false ≡ is_some (only_if (nat_le 1) (natural f))
unfolding natural
nothing_above [] e = refl
nothing_above (d ∷ ds) e = absurd (omega (arith, e))

pub digits_above : (f : List ℕ) (all : Bool) → length f ≢ 0 → get_or f 0 0 ≢ 48 → (IsTrue all ↔ All IsDigit f) → all ≡ is_some (only_if (nat_le 1) (natural f))
digits_above [] all l e h = absurd (l refl)
digits_above (d ∷ ds) all l e h =
    are_digits_some 0 (d ∷ ds) all h ∙ ap is_some (sym (ap (only_if (nat_le 1)) (leads d ds e) ∙ above_zero_step d ds (more_digits 0 (d ∷ ds)) e refl))

padded_above : (b : Bool) → is_some (only_if (nat_le 1) (cond b (Some 0) None)) ≡ false
padded_above true = refl
padded_above false = refl

pub zero_above : (f : List ℕ) → length f ≢ 0 → get_or f 0 0 ≡ 48 → false ≡ is_some (only_if (nat_le 1) (natural f))
zero_above [] l e = absurd (l refl)
zero_above (d ∷ ds) l e = sym (ap (λ (z : Option ℕ). is_some (only_if (nat_le 1) z)) (padded d ds e) ∙ padded_above (is_end ds))

pub zero_natural : (f : List ℕ) → f ≡ 48 ∷ [] → true ≡ is_some (natural f)
unfolding natural
zero_natural f e = rw e refl

other_step : (f : List ℕ) (o : Option ℕ) → natural f ≡ o → f ≢ 48 ∷ [] → is_some (only_if (nat_le 1) o) ≡ is_some o
other_step f None e h = refl
other_step f (Some zero) e h = absurd (h (natural_spelled f 0 e ∙ decimal_small 0 (omega arith)))
other_step f (Some (suc n)) e h = ap is_some (cond-true _ _ _ (le-leb 1 (suc n) (omega arith)))

pub other_natural : (f : List ℕ) → f ≢ 48 ∷ [] → is_some (only_if (nat_le 1) (natural f)) ≡ is_some (natural f)
other_natural f h = other_step f (natural f) refl h

-- ---- numbers below 0

pub nothing_integer : (f : List ℕ) → length f ≡ 0 → false ≡ is_some (integer f)
unfolding integer
nothing_integer [] e = refl
nothing_integer (b ∷ bs) e = absurd (omega (arith, e))

negated_some : (o : Option ℕ) → is_some (only_if (nat_le 1) o) ≡ is_some (negated o)
negated_some None = refl
negated_some (Some zero) = refl
negated_some (Some (suc n)) = ap is_some (cond-true _ _ _ (le-leb 1 (suc n) (omega arith)))

pub minus_integer : (f : List ℕ) → length f ≢ 0 → get_or f 0 0 ≡ 45 → is_some (only_if (nat_le 1) (natural (drop 1 f))) ≡ is_some (integer f)
unfolding integer
minus_integer [] l e = absurd (l refl)
minus_integer (b ∷ bs) l e = negated_some (natural bs) ∙ rw e refl

mapped_some : (o : Option ℕ) → is_some o ≡ is_some (option_map pos o)
mapped_some None = refl
mapped_some (Some n) = refl

pub plain_integer : (f : List ℕ) → length f ≢ 0 → get_or f 0 0 ≢ 45 → is_some (natural f) ≡ is_some (integer f)
unfolding integer
plain_integer [] l e = absurd (l refl)
plain_integer (b ∷ bs) l e = mapped_some (natural (b ∷ bs)) ∙ ap is_some (sym (cond-false _ _ _ (ne_eqb b 45 e)))

-- ---- numbers from 1 on

positive_mapped : (o : Option ℕ) → is_some (only_if (nat_le 1) o) ≡ is_some (only_if (λ z. int_le (pos 1) z) (option_map pos o))
positive_mapped None = refl
positive_mapped (Some zero) = refl
positive_mapped (Some (suc n)) = let k : nat_le 1 (suc n) ≡ true = le-leb 1 (suc n) (omega arith) in rw k refl

positive_negated : (o : Option ℕ) → is_some (only_if (λ z. int_le (pos 1) z) (negated o)) ≡ false
positive_negated None = refl
positive_negated (Some zero) = refl
positive_negated (Some (suc n)) = refl

minus_natural : (b : ℕ) (bs : List ℕ) → b ≡ 45 → natural (b ∷ bs) ≡ None
unfolding natural
minus_natural b bs e = rw e refl

positive_step : (b : ℕ) (bs : List ℕ) (t : Bool) → (b == 45) ≡ t → is_some (only_if (nat_le 1) (natural (b ∷ bs))) ≡ is_some (only_if (λ z. int_le (pos 1) z) (cond (b == 45) (negated (natural bs)) (option_map pos (natural (b ∷ bs)))))
positive_step b bs true t =
    ap (λ (z : Option ℕ). is_some (only_if (nat_le 1) z)) (minus_natural b bs (eqb-true b 45 t)) ∙ sym (positive_negated (natural bs)) ∙ ap (λ (o : Option ℤ). is_some (only_if (λ z. int_le (pos 1) z) o)) (sym (cond-true _ _ _ t))
positive_step b bs false t = positive_mapped (natural (b ∷ bs)) ∙ ap (λ (o : Option ℤ). is_some (only_if (λ z. int_le (pos 1) z) o)) (sym (cond-false _ _ _ t))

pub positive_natural : (f : List ℕ) → is_some (only_if (nat_le 1) (natural f)) ≡ is_some (positive f)
unfolding integer natural
positive_natural [] = refl
positive_natural (b ∷ bs) = positive_step b bs (b == 45) refl

-- ---- the order of numbers

-- the same number of further digits, or more, doesn't make up for a smaller start
stays_less : (n m s t : ℕ) (ds es : List ℕ) → n < m → length ds ≤ length es → more_digits n ds ≡ Some s → more_digits m es ≡ Some t → s < t
unfolding more_digits
stays_less n m s t [] es lt le p q =
    let k : m ≤ t = more_least m t es q in
    omega (arith, some_is n s p)
stays_less n m s t (d ∷ ds) [] lt le p q = absurd (omega arith)
stays_less n m s t (d ∷ ds) (e ∷ es) lt le p q =
    let h = one_digit n d s ds p in
    let k = one_digit m e t es q in
    let a : d < 58 = h.1 in
    stays_less (n * 10 + (d - 48)) (m * 10 + (e - 48)) s t ds es (omega arith) (omega arith) h.2 k.2

zero_digits : (ds : List ℕ) (m : ℕ) → cond (is_end ds) (Some 0) None ≡ Some m → more_digits 0 ds ≡ Some m
unfolding more_digits
zero_digits [] m e = e
zero_digits (d ∷ ds) m e = absurd (no_some m e)

all_digits_step : (d : ℕ) (ds : List ℕ) (m : ℕ) (t : Bool) → (d == 48) ≡ t → natural (d ∷ ds) ≡ Some m → more_digits 0 (d ∷ ds) ≡ Some m
all_digits_step d ds m true t e =
    let k : d ≡ 48 = eqb-true d 48 t in
    let z : 0 * 10 + (d - 48) ≡ 0 = omega arith in
    more_digit 0 d ds (omega arith) (omega arith) ∙ ap (λ (n : ℕ). more_digits n ds) z ∙ zero_digits ds m (sym (padded d ds k) ∙ e)
all_digits_step d ds m false t e = sym (leads d ds (eqb-false d 48 t)) ∙ e

-- what a number is read of, read from 0 on
all_digits : (f : List ℕ) (m : ℕ) → natural f ≡ Some m → more_digits 0 f ≡ Some m
unfolding natural
all_digits [] m e = absurd cc
all_digits (d ∷ ds) m e = all_digits_step d ds m (d == 48) refl e

nothing : natural [] ≡ None
unfolding natural
nothing = refl

long_starts_step : (e g : ℕ) (es : List ℕ) (n : ℕ) (t : Bool) → (e == 48) ≡ t → natural (e ∷ g ∷ es) ≡ Some n → 48 < e
long_starts_step e g es n true t q = absurd (no_some n (sym (padded e (g ∷ es) (eqb-true e 48 t)) ∙ q))
long_starts_step e g es n false t q =
    let h = one_digit 0 e n (g ∷ es) (all_digits (e ∷ g ∷ es) n q) in
    let ne : e ≢ 48 = eqb-false e 48 t in
    let le : 48 ≤ e = h.0 in
    grind arith

-- a number of several digits doesn't begin with 0
long_starts : (e g : ℕ) (es : List ℕ) (n : ℕ) → natural (e ∷ g ∷ es) ≡ Some n → 48 < e
long_starts e g es n q = long_starts_step e g es n (e == 48) refl q

pub fewer_less : (a b : List ℕ) (m n : ℕ) → natural a ≡ Some m → natural b ≡ Some n → length a < length b → m < n
fewer_less [] b m n p q lt = absurd (no_some m (sym nothing ∙ p))
fewer_less (d ∷ ds) [] m n p q lt = absurd (omega arith)
fewer_less (d ∷ ds) (e ∷ []) m n p q lt = absurd (omega arith)
fewer_less (d ∷ ds) (e ∷ g ∷ es) m n p q lt =
    let h = one_digit 0 d m ds (all_digits (d ∷ ds) m p) in
    let k = one_digit 0 e n (g ∷ es) (all_digits (e ∷ g ∷ es) n q) in
    let l = one_digit (0 * 10 + (e - 48)) g n es k.2 in
    let a : d < 58 = h.1 in
    let b : 48 < e = long_starts e g es n q in
    stays_less (0 * 10 + (d - 48)) ((0 * 10 + (e - 48)) * 10 + (g - 48)) m n ds es (omega arith) (omega arith) h.2 l.2

-- numbers of as many digits are in the order of their texts
abbrev before : List ℕ → List ℕ → Bool
before [] [] = false
before [] (y ∷ ys) = true
before (x ∷ xs) [] = false
before (x ∷ xs) (y ∷ ys) = cond (x == y) (before xs ys) (nat_lt x y)

in_order : (xs ys : List ℕ) (r : Bool) → r ≡ is_some_and is_lt (slice_partial_cmp (λ x y. Some (nat_cmp x y)) xs ys) → r ≡ before xs ys
in_order = same_from_slice_cmp_tested nat_cmp is_lt before refl (λ _ _. refl) (λ _ _. refl) (λ x y xs ys o h. grind (arith, nat_tests))

order_apart : (n d e s t : ℕ) (ds es : List ℕ) → length ds ≡ length es → d ≢ e → more_digits n (d ∷ ds) ≡ Some s → more_digits n (e ∷ es) ≡ Some t → (d < e) ⊎ (e ≤ d) → nat_lt d e ≡ nat_lt s t
order_apart n d e s t ds es same ne p q (inl lt) =
    let h = one_digit n d s ds p in
    let k = one_digit n e t es q in
    let low : 48 ≤ d = h.0 in
    let less : s < t = stays_less (n * 10 + (d - 48)) (n * 10 + (e - 48)) s t ds es (omega arith) (omega arith) h.2 k.2 in
    lt-ltb d e lt ∙ sym (lt-ltb s t less)
order_apart n d e s t ds es same ne p q (inr le) =
    let h = one_digit n d s ds p in
    let k = one_digit n e t es q in
    let low : 48 ≤ e = k.0 in
    let gt : e < d = grind arith in
    let less : t < s = stays_less (n * 10 + (e - 48)) (n * 10 + (d - 48)) t s es ds (omega arith) (omega arith) k.2 h.2 in
    le-ltb d e le ∙ sym (le-ltb s t (omega arith))

order_step : (n d e s t : ℕ) (ds es : List ℕ) → ((k : ℕ) → more_digits k ds ≡ Some s → more_digits k es ≡ Some t → before ds es ≡ nat_lt s t) → length ds ≡ length es → more_digits n (d ∷ ds) ≡ Some s → more_digits n (e ∷ es) ≡ Some t
    → (b : Bool) → (d == e) ≡ b → before (d ∷ ds) (e ∷ es) ≡ nat_lt s t
order_step n d e s t ds es more same p q true b =
    let h = one_digit n d s ds p in
    let k = one_digit n e t es q in
    let m : e ≡ d = sym (eqb-true d e b) in
    cond-true _ _ _ b ∙ more (n * 10 + (d - 48)) h.2 (subst (λ (z : ℕ). more_digits (n * 10 + (z - 48)) es ≡ Some t) m k.2)
order_step n d e s t ds es more same p q false b = cond-false _ _ _ b ∙ order_apart n d e s t ds es same (eqb-false d e b) p q (cases_lt d e)

order : (n s t : ℕ) (ds es : List ℕ) → length ds ≡ length es → more_digits n ds ≡ Some s → more_digits n es ≡ Some t → before ds es ≡ nat_lt s t
unfolding more_digits
order n s t [] [] same p q = sym (le-ltb s t (omega (arith, some_is n s p, some_is n t q)))
order n s t [] (e ∷ es) same p q = absurd (omega (arith, same))
order n s t (d ∷ ds) [] same p q = absurd (omega (arith, same))
order n s t (d ∷ ds) (e ∷ es) same p q = order_step n d e s t ds es (λ k. order k s t ds es (omega (arith, same))) (omega (arith, same)) p q (d == e) refl

fewer_step : (a b : List ℕ) (m n : ℕ) → length a ≢ length b → natural a ≡ Some m → natural b ≡ Some n → m < n → (length a < length b) ⊎ (length b ≤ length a) → length a < length b
fewer_step a b m n ne p q lt (inl h) = h
fewer_step a b m n ne p q lt (inr h) =
    let shorter : length b < length a = grind arith in
    let less : n < m = fewer_less b a n m q p shorter in
    absurd (omega arith)

pub less_if_fewer : (a b : List ℕ) (m n : ℕ) → length a ≢ length b → natural a ≡ Some m → natural b ≡ Some n → IsTrue (nat_lt (length a) (length b)) ↔ (m < n)
less_if_fewer a b m n ne p q = (
  λ t. fewer_less a b m n p q (ltb-true (length a) (length b) t),
  λ lt. lt-ltb (length a) (length b) (fewer_step a b m n ne p q lt (cases_lt (length a) (length b))),
)

pub less_in_order : (a b : List ℕ) (m n : ℕ) (r : Bool) → length a ≡ length b → r ≡ is_some_and is_lt (slice_partial_cmp (λ x y. Some (nat_cmp x y)) a b) → natural a ≡ Some m → natural b ≡ Some n → IsTrue r ↔ (m < n)
less_in_order a b m n r same e p q =
    let k : r ≡ nat_lt m n = in_order a b r e ∙ order 0 m n a b same (all_digits a m p) (all_digits b n q) in
    (λ t. ltb-true m n (sym k ∙ t), λ lt. k ∙ lt-ltb m n lt)

-- ---- what was taken, in the words of the reading

some_of : {X : Type 0} (o : Option X) → IsSome o → (x : X) × (o ≡ Some x)
some_of (Some x) h = (x, refl)
some_of None h = absurd cc

pub taken_reads : {N : Type 0} (number : Bytes → Option N) (left : Option (Bor Bytes)) (field : Bor Bytes) (rest : Option (Bor Bytes)) (n : N) → TakesField number left (Some (field, rest)) → number field.now ≡ Some n
    → one_read number (left_of (option_copied left)) ≡ Ok (n, left_of (option_copied rest))
taken_reads number left field rest n h e = ap (one_read number) h.1 ∙ read_some number field.now (left_of (option_copied rest)) n e

-- the field that was taken is read where its number passes the test
pub taken_passes : {N : Type 0} (number : Bytes → Option N) (test : N → Bool) (left : Option (Bor Bytes)) (field : Bor Bytes) (rest : Option (Bor Bytes)) (n : N) → TakesField number left (Some (field, rest)) → number field.now ≡ Some n → test n ≡ true
    → one_read (λ f. only_if test (number f)) (left_of (option_copied left)) ≡ Ok (n, left_of (option_copied rest))
taken_passes number test left field rest n h e t = ap (one_read (λ f. only_if test (number f))) h.1 ∙ read_some (λ f. only_if test (number f)) field.now (left_of (option_copied rest)) n (only_again test (number field.now) n e t)

abbrev stopped_at : {A : Type 0} → List Bytes → Result A (List Bytes)
stopped_at z = Err z

-- and not read where it doesn't
pub taken_fails : {N : Type 0} (number : Bytes → Option N) (test : N → Bool) (left : Option (Bor Bytes)) (field : Bor Bytes) (rest : Option (Bor Bytes)) (n : N) → TakesField number left (Some (field, rest)) → number field.now ≡ Some n → test n ≡ false
    → one_read (λ f. only_if test (number f)) (left_of (option_copied left)) ≡ Err (left_of (option_copied left))
taken_fails {N = N} number test left field rest n h e t =
    ap (one_read (λ f. only_if test (number f))) h.1 ∙ read_none (λ f. only_if test (number f)) field.now (left_of (option_copied rest)) (ap (only_if test) e ∙ cond-false _ _ _ t)
    ∙ ap (λ (z : List Bytes). stopped_at {A = N × List Bytes} z) (sym h.1)

not_read_step : {N : Type 0} (number : Bytes → Option N) (test : N → Bool) (f : Bytes) (fs : List Bytes) (o : Option N) → number f ≡ o → or_stop o f fs ≡ Err (f ∷ fs) → one_read (λ g. only_if test (number g)) (f ∷ fs) ≡ Err (f ∷ fs)
not_read_step number test f fs (Some n) e h = absurd cc
not_read_step number test f fs None e h = read_none (λ g. only_if test (number g)) f fs (ap (only_if test) e)

not_read : {N : Type 0} (number : Bytes → Option N) (test : N → Bool) (fs : List Bytes) → one_read number fs ≡ Err fs → one_read (λ g. only_if test (number g)) fs ≡ Err fs
unfolding one_read
not_read number test [] h = refl
not_read number test (f ∷ fs) h = not_read_step number test f fs (number f) refl h

-- where none was taken none is read
pub none_taken : {N : Type 0} (number : Bytes → Option N) (test : N → Bool) (left : Option (Bor Bytes)) → TakesField number left None → one_read (λ f. only_if test (number f)) (left_of (option_copied left)) ≡ Err (left_of (option_copied left))
none_taken number test left h = not_read number test (left_of (option_copied left)) h

-- the number of a field that was taken
pub taken_number : {N : Type 0} (number : Bytes → Option N) (left : Option (Bor Bytes)) (field : Bor Bytes) (rest : Option (Bor Bytes)) → TakesField number left (Some (field, rest)) → (n : N) × (number field.now ≡ Some n)
taken_number number left field rest h = some_of (number field.now) h.0

-- a number from 0 on is spelled the same with and without a sign
pub natural_integer : (f : Bytes) (n : ℕ) → natural f ≡ Some n → integer f ≡ Some (pos n)
natural_integer f n e = integer_natural n f (natural_spelled f n e)

pub integer_above : (f : Bytes) (n : ℕ) → integer f ≡ Some (pos n) → natural f ≡ Some n
unfolding signed
integer_above f n e = ap natural (integer_spelled f (pos n) e) ∙ natural_again n

-- ---- a number from 0 on, read as a signed one

as_integer : (left : Option (Bor Bytes)) (field : Bor Bytes) (rest : Option (Bor Bytes)) (n : ℕ) → TakesField natural left (Some (field, rest)) → natural field.now ≡ Some n → TakesField integer left (Some (field, rest))
as_integer left field rest n h e = (ap is_some (natural_integer field.now n e), h.1)

pub above_passes : (test : ℤ → Bool) (left : Option (Bor Bytes)) (field : Bor Bytes) (rest : Option (Bor Bytes)) (n : ℕ) → TakesField natural left (Some (field, rest)) → natural field.now ≡ Some n → test (pos n) ≡ true
    → integer_read test (left_of (option_copied left)) ≡ Ok (pos n, left_of (option_copied rest))
unfolding integer_read
above_passes test left field rest n h e t = taken_passes integer test left field rest (pos n) (as_integer left field rest n h e) (natural_integer field.now n e) t

pub above_fails : (test : ℤ → Bool) (left : Option (Bor Bytes)) (field : Bor Bytes) (rest : Option (Bor Bytes)) (n : ℕ) → TakesField natural left (Some (field, rest)) → natural field.now ≡ Some n → test (pos n) ≡ false
    → integer_read test (left_of (option_copied left)) ≡ Err (left_of (option_copied left))
unfolding integer_read
above_fails test left field rest n h e t = taken_fails integer test left field rest (pos n) (as_integer left field rest n h e) (natural_integer field.now n e) t

not_above : (test : ℤ → Bool) (f : Bytes) (o : Option ℤ) → integer f ≡ o → ((n : ℕ) → test (negsuc n) ≡ false) → natural f ≡ None → only_if test o ≡ None
not_above test f None e below h = refl
not_above test f (Some (pos n)) e below h = absurd (no_some n (sym h ∙ integer_above f n e))
not_above test f (Some (negsuc n)) e below h = cond-false _ _ _ (below n)

refused_is : {X : Type 0} (o : Option X) (f : Bytes) (fs : List Bytes) → or_stop o f fs ≡ Err (f ∷ fs) → o ≡ None
refused_is None f fs h = refl
refused_is (Some x) f fs h = absurd cc

none_above_step : (test : ℤ → Bool) (fs : List Bytes) → ((n : ℕ) → test (negsuc n) ≡ false) → one_read natural fs ≡ Err fs → integer_read test fs ≡ Err fs
unfolding integer_read one_read
none_above_step test [] below h = refl
none_above_step test (f ∷ fs) below h = read_none (λ g. only_if test (integer g)) f fs (not_above test f (integer f) refl below (refused_is (natural f) f fs h))

-- a test that no number below 0 passes
pub none_above : (test : ℤ → Bool) (left : Option (Bor Bytes)) → ((n : ℕ) → test (negsuc n) ≡ false) → TakesField natural left None → integer_read test (left_of (option_copied left)) ≡ Err (left_of (option_copied left))
none_above test left below h = none_above_step test (left_of (option_copied left)) below h

-- ---- a number from 1 on, read without a sign

no_count : false ≡ true → ⊥
no_count e = cc

from_one : (f : Bytes) (m : ℕ) → natural f ≡ Some m → nat_le 1 m ≡ true → (n : ℕ) × (natural f ≡ Some (suc n))
from_one f zero e h = absurd (no_count h)
from_one f (suc n) e h = (n, e)

-- the number of a field that was taken
pub counted_number : (left : Option (Bor Bytes)) (field : Bor Bytes) (rest : Option (Bor Bytes)) → TakesField positive left (Some (field, rest)) → (n : ℕ) × (natural field.now ≡ Some (suc n))
counted_number left field rest h =
    let o = some_of (only_if (nat_le 1) (natural field.now)) (positive_natural field.now ∙ h.0) in
    let p = only_some (nat_le 1) (natural field.now) o.0 o.1 in
    from_one field.now o.0 p.0 p.1

pub counted_passes : (test : ℕ → Bool) (left : Option (Bor Bytes)) (field : Bor Bytes) (rest : Option (Bor Bytes)) (n : ℕ) → TakesField positive left (Some (field, rest)) → natural field.now ≡ Some n → test n ≡ true
    → natural_read test (left_of (option_copied left)) ≡ Ok (n, left_of (option_copied rest))
unfolding natural_read
counted_passes test left field rest n h e t = taken_passes natural test left field rest n (ap is_some e, h.1) e t

pub counted_fails : (test : ℕ → Bool) (left : Option (Bor Bytes)) (field : Bor Bytes) (rest : Option (Bor Bytes)) (n : ℕ) → TakesField positive left (Some (field, rest)) → natural field.now ≡ Some n → test n ≡ false
    → natural_read test (left_of (option_copied left)) ≡ Err (left_of (option_copied left))
unfolding natural_read
counted_fails test left field rest n h e t = taken_fails natural test left field rest n (ap is_some e, h.1) e t

not_counted : (test : ℕ → Bool) (o : Option ℕ) → test 0 ≡ false → is_some (only_if (nat_le 1) o) ≡ false → only_if test o ≡ None
not_counted test None t h = refl
not_counted test (Some zero) t h = cond-false _ _ _ t
not_counted test (Some (suc n)) t h = absurd (no_count (sym h ∙ ap is_some (cond-true _ _ _ (le-leb 1 (suc n) (omega arith)))))

none_counted_step : (test : ℕ → Bool) (fs : List Bytes) → test 0 ≡ false → one_read positive fs ≡ Err fs → natural_read test fs ≡ Err fs
unfolding natural_read one_read
none_counted_step test [] t h = refl
none_counted_step test (f ∷ fs) t h =
    read_none (λ g. only_if test (natural g)) f fs (not_counted test (natural f) t (positive_natural f ∙ ap is_some (refused_is (positive f) f fs h)))

-- a test that 0 doesn't pass
pub none_counted : (test : ℕ → Bool) (left : Option (Bor Bytes)) → test 0 ≡ false → TakesField positive left None → natural_read test (left_of (option_copied left)) ≡ Err (left_of (option_copied left))
none_counted test left t h = none_counted_step test (left_of (option_copied left)) t h

-- ---- the code that takes a field

pub nothing_taken : {N : Type 0} (number : Bytes → Option N) (left : Option (Bor Bytes)) → left ≡ None → TakesField number left None
nothing_taken number left e = atom_end number left e

pub field_taken : {N : Type 0} (number : Bytes → Option N) (left : Option (Bor Bytes)) (line field : Bor Bytes) (rest : Option (Bor Bytes)) (t : Bool) → left ≡ Some line → field.now ≡ (split_once 32 line.now).0 → option_copied rest ≡ (split_once 32 line.now).1
    → t ≡ is_some (number field.now) → t ≡ true → TakesField number left (Some (field, rest))
field_taken number left line field rest t e b a s h = (sym s ∙ h, first left line field.now rest e b a)

no_number : {N : Type 0} (o : Option N) (t : Bool) → t ≡ is_some o → t ≡ false → o ≡ None
no_number None t e h = refl
no_number (Some n) t e h = absurd cc

pub field_refused : {N : Type 0} (number : Bytes → Option N) (left : Option (Bor Bytes)) (line field : Bor Bytes) (rest : Option (Bor Bytes)) (t : Bool) → left ≡ Some line → field.now ≡ (split_once 32 line.now).0 → option_copied rest ≡ (split_once 32 line.now).1
    → t ≡ is_some (number field.now) → t ≡ false → TakesField number left None
field_refused number left line field rest t e b a s h = atom_none number left line field.now rest e b a (no_number (number field.now) t s h)
