-- Steps of the code that reads lines by their fields.
use Rattle.std.proofs.Common.{◌≡◌, ℕ, suc, ◌+◌, ◌-◌, ◌<◌, ◌≤◌, Bool, true, false, cond, List, [], ◌∷◌, ◌++◌, Option, Some, None, Result, Ok, Err, sym, refl, ap, ◌∙◌, arith, append_assoc, ℤ, Bor}
use Rattle.std.specs.Prelude.{option_copied, ◌&&◌, is_some}
use Rattle.std.proofs.lemmas.Bool.{cond-true, cond-false}
use Rattle.std.proofs.lemmas.List.{append-nil}
use Rattle.zr_form.specs.Reading.{Bytes, Read, ◌>>=◌, or_stop, one_read, many_read}
use Rattle.zr_form.specs.Lines.{split_once, fields_of}
use Rattle.zr_form.specs.Numbers.{natural, integer}
use Rattle.zr_form.specs.Fields.{only_if, natural_read, integer_read, alone}
use Rattle.zr_form.specs.Code.{left_of}
use Rattle.zr_form.proofs.Forms.{ok_is}
use Rattle.zr_form.proofs.Lines.{first_field}
use Rattle.zr_form.proofs.Fields.{only_some}

-- ---- a further test

abbrev taken : {A : Type 0} → A → List Bytes → Result (A × List Bytes) (List Bytes)
taken x fs = Ok (x, fs)

abbrev refused : {A : Type 0} → List Bytes → Result (A × List Bytes) (List Bytes)
refused fs = Err fs

no_number : (n : ℤ) → None ≡ Some n → ⊥
no_number n e = cc

same_pair : (z n : ℤ) (fs rest : List Bytes) → taken z fs ≡ Ok (n, rest) → (z ≡ n) × (fs ≡ rest)
same_pair z n fs rest e = let k : (z, fs) ≡ (n, rest) = cc in (ap (λ (q : ℤ × List Bytes). q.0) k, ap (λ (q : ℤ × List Bytes). q.1) k)

never : (n : ℤ) (f : Bytes) (fs rest : List Bytes) → refused (f ∷ fs) ≡ Ok (n, rest) → ⊥
never n f fs rest e = cc

never_err : (z : ℤ) (f : Bytes) (fs rest : List Bytes) → taken z fs ≡ Err rest → ⊥
never_err z f fs rest e = cc

also_step : (a : ℤ → Bool) (z : ℤ) (f : Bytes) (fs : List Bytes) (n : ℤ) (rest : List Bytes) (b : Bool) → a z ≡ b → or_stop (cond (a z) (Some z) None) f fs ≡ Ok (n, rest) → (Some z ≡ Some n) × (a n ≡ true) × (fs ≡ rest)
also_step a z f fs n rest true p e =
    let h = same_pair z n fs rest (sym (ap (λ (o : Option ℤ). or_stop o f fs) (cond-true _ _ _ p)) ∙ e) in
    (ap (λ (w : ℤ). Some w) h.0, ap a (sym h.0) ∙ p, h.1)
also_step a z f fs n rest false p e = absurd (never n f fs rest (sym (ap (λ (o : Option ℤ). or_stop o f fs) (cond-false _ _ _ p)) ∙ e))

only_none_step : (a t : ℤ → Bool) (z : ℤ) (f : Bytes) (fs rest : List Bytes) (b : Bool) → a z ≡ b → or_stop (cond (a z) (Some z) None) f fs ≡ Err rest → cond (a z && t z) (Some z) None ≡ None
only_none_step a t z f fs rest true p e = absurd (never_err z f fs rest (sym (ap (λ (o : Option ℤ). or_stop o f fs) (cond-true _ _ _ p)) ∙ e))
only_none_step a t z f fs rest false p e = rw p refl

also_one : (a t : ℤ → Bool) (o : Option ℤ) (f : Bytes) (fs : List Bytes) (n : ℤ) (rest : List Bytes) → or_stop (only_if a o) f fs ≡ Ok (n, rest) → (o ≡ Some n) × (a n ≡ true) × (fs ≡ rest)
also_one a t None f fs n rest e = absurd cc
also_one a t (Some z) f fs n rest e = also_step a z f fs n rest (a z) refl e

also_read : (a t : ℤ → Bool) (o : Option ℤ) (n : ℤ) → o ≡ Some n → a n ≡ true → (b : Bool) → t n ≡ b → only_if (λ z. a z && t z) o ≡ cond b (Some n) None
also_read a t o n e p b q = ap (only_if (λ z. a z && t z)) e ∙ rw (p, q) refl

pub also_ok : (a t : ℤ → Bool) (fs : List Bytes) (n : ℤ) (rest : List Bytes) → integer_read a fs ≡ Ok (n, rest) → t n ≡ true → integer_read (λ z. a z && t z) fs ≡ Ok (n, rest)
unfolding integer_read one_read
also_ok a t [] n rest e q = absurd cc
also_ok a t (f ∷ fs) n rest e q =
    let h = also_one a t (integer f) f fs n rest e in
    let k : only_if (λ z. a z && t z) (integer f) ≡ Some n = also_read a t (integer f) n h.0 h.1 true q in
    rw k (ap (λ (z : List Bytes). taken n z) h.2)

pub also_not : (a t : ℤ → Bool) (fs : List Bytes) (n : ℤ) (rest : List Bytes) → integer_read a fs ≡ Ok (n, rest) → t n ≡ false → integer_read (λ z. a z && t z) fs ≡ Err fs
unfolding integer_read one_read
also_not a t [] n rest e q = refl
also_not a t (f ∷ fs) n rest e q =
    let h = also_one a t (integer f) f fs n rest e in
    let k : only_if (λ z. a z && t z) (integer f) ≡ None = also_read a t (integer f) n h.0 h.1 false q in
    rw k refl

only_none : (a t : ℤ → Bool) (o : Option ℤ) (f : Bytes) (fs rest : List Bytes) → or_stop (only_if a o) f fs ≡ Err rest → only_if (λ z. a z && t z) o ≡ None
only_none a t None f fs rest e = refl
only_none a t (Some z) f fs rest e = only_none_step a t z f fs rest (a z) refl e

pub also_err : (a t : ℤ → Bool) (fs rest : List Bytes) → integer_read a fs ≡ Err rest → integer_read (λ z. a z && t z) fs ≡ Err fs
unfolding integer_read one_read
also_err a t [] rest e = refl
also_err a t (f ∷ fs) rest e = let k = only_none a t (integer f) f fs rest e in rw k refl

-- ---- a further test of a number from 0 on

below_read : {N : Type 0} (a t : N → Bool) (o : Option N) (n : N) → only_if a o ≡ Some n → (b : Bool) → t n ≡ b → only_if (λ z. a z && t z) o ≡ cond b (Some n) None
below_read a t o n e b q = let h = only_some a o n e in ap (only_if (λ z. a z && t z)) h.0 ∙ rw (h.1, q) refl

below_none_step : {N : Type 0} (a t : N → Bool) (n : N) (b : Bool) → a n ≡ b → only_if a (Some n) ≡ None → only_if (λ z. a z && t z) (Some n) ≡ None
below_none_step a t n true p e = absurd (let k : Some n ≡ None = sym (cond-true _ _ _ p) ∙ e in cc)
below_none_step a t n false p e = rw p refl

below_none : {N : Type 0} (a t : N → Bool) (o : Option N) → only_if a o ≡ None → only_if (λ z. a z && t z) o ≡ None
below_none a t None e = refl
below_none a t (Some n) e = below_none_step a t n (a n) refl e

stop_some : {N : Type 0} (o : Option N) (f : Bytes) (fs rest : List Bytes) (n : N) → or_stop o f fs ≡ Ok (n, rest) → (o ≡ Some n) × (fs ≡ rest)
stop_some {N = N} (Some m) f fs rest n e =
    let k : (m, fs) ≡ (n, rest) = ok_is {A = N × List Bytes} (m, fs) (n, rest) e in
    (ap (λ (q : N × List Bytes). Some q.0) k, ap (λ (q : N × List Bytes). q.1) k)
stop_some None f fs rest n e = absurd cc

stop_none : {N : Type 0} (o : Option N) (f : Bytes) (fs rest : List Bytes) → or_stop o f fs ≡ Err rest → o ≡ None
stop_none None f fs rest e = refl
stop_none (Some n) f fs rest e = absurd cc

pub natural_also_ok : (a t : ℕ → Bool) (fs : List Bytes) (n : ℕ) (rest : List Bytes) → natural_read a fs ≡ Ok (n, rest) → t n ≡ true → natural_read (λ m. a m && t m) fs ≡ Ok (n, rest)
unfolding natural_read one_read
natural_also_ok a t [] n rest e q = absurd cc
natural_also_ok a t (f ∷ fs) n rest e q =
    let h = stop_some (only_if a (natural f)) f fs rest n e in
    let k : only_if (λ m. a m && t m) (natural f) ≡ Some n = below_read a t (natural f) n h.0 true q in
    rw k (ap (λ (z : List Bytes). taken n z) h.1)

pub natural_also_not : (a t : ℕ → Bool) (fs : List Bytes) (n : ℕ) (rest : List Bytes) → natural_read a fs ≡ Ok (n, rest) → t n ≡ false → natural_read (λ m. a m && t m) fs ≡ Err fs
unfolding natural_read one_read
natural_also_not a t [] n rest e q = refl
natural_also_not a t (f ∷ fs) n rest e q =
    let h = stop_some (only_if a (natural f)) f fs rest n e in
    let k : only_if (λ m. a m && t m) (natural f) ≡ None = below_read a t (natural f) n h.0 false q in
    rw k refl

pub natural_also_err : (a t : ℕ → Bool) (fs rest : List Bytes) → natural_read a fs ≡ Err rest → natural_read (λ m. a m && t m) fs ≡ Err fs
unfolding natural_read one_read
natural_also_err a t [] rest e = refl
natural_also_err a t (f ∷ fs) rest e = let k : only_if (λ m. a m && t m) (natural f) ≡ None = below_none a t (natural f) (stop_none (only_if a (natural f)) f fs rest e) in rw k refl

-- ---- the end of a line

pub alone_end : {X : Type 0} (x : X) (left : Option (Bor Bytes)) → left ≡ None → alone x (left_of (option_copied left)) ≡ Some x
alone_end x left e = rw e refl

pub alone_more : {X : Type 0} (x : X) (left : Option (Bor Bytes)) (r : Bor Bytes) → left ≡ Some r → alone x (left_of (option_copied left)) ≡ None
alone_more x left r e = rw e (ap (alone x) (first_field r.now))

pub not_alone : {X : Type 0} (x : X) (left : Option (Bor Bytes)) → is_some left ≡ true → alone x (left_of (option_copied left)) ≡ None
not_alone x (Some r) e = ap (alone x) (first_field r.now)
not_alone x None e = absurd cc

pub is_alone : {X : Type 0} (x : X) (left : Option (Bor Bytes)) → is_some left ≡ false → alone x (left_of (option_copied left)) ≡ Some x
is_alone x (Some r) e = absurd cc
is_alone x None e = refl

pub fields_first : (line f : Bytes) (rest : Option (Bor Bytes)) → f ≡ (split_once 32 line).0 → option_copied rest ≡ (split_once 32 line).1 → fields_of line ≡ f ∷ left_of (option_copied rest)
fields_first line f rest b a = first_field line ∙ ap (λ (z : Bytes). z ∷ left_of (split_once 32 line).1) (sym b) ∙ ap (λ (z : Option Bytes). f ∷ left_of z) (sym a)

-- ---- so many things, read by a loop

-- what was read before, and what is still read
abbrev pub with_front : {X : Type 0} → List X → Result (List X × List Bytes) (List Bytes) → Result (List X × List Bytes) (List Bytes)
with_front front read = read >>= λ x. Ok (front ++ x.0, x.1)

pub regroup : {X : Type 0} (front : List X) (n : X) (read : Result (List X × List Bytes) (List Bytes)) → with_front front (read >>= λ x. Ok (n ∷ x.0, x.1)) ≡ with_front (front ++ n ∷ []) read
regroup {X = X} front n (Ok x) = ap (λ (ns : List X). taken ns x.1) (sym (append_assoc front (n ∷ []) x.0))
regroup front n (Err f) = refl

pub goes_on : {X : Type 0} (item : ℕ → Read X) (front : List X) (count i : ℕ) (ls : List Bytes) (x : X) (after : List Bytes) (total : Result (List X × List Bytes) (List Bytes)) → i < count → item i ls ≡ Ok (x, after)
    → with_front front (many_read item (count - i) i ls) ≡ total → with_front (front ++ x ∷ []) (many_read item (count - (i + 1)) (i + 1) after) ≡ total
unfolding many_read
goes_on item front count i ls x after total lt h so_far =
    let k : count - i ≡ suc (count - (i + 1)) = omega arith in
    let m : suc i ≡ i + 1 = omega arith in
    let one : with_front front (many_read item (count - i) i ls) ≡ with_front (front ++ x ∷ []) (many_read item (count - (i + 1)) (suc i) after) = rw (k, h) (regroup front x (many_read item (count - (i + 1)) (suc i) after)) in
    ap (λ (z : ℕ). with_front (front ++ x ∷ []) (many_read item (count - (i + 1)) z after)) (sym m) ∙ sym one ∙ so_far

pub ends : {X : Type 0} (item : ℕ → Read X) (front : List X) (count i : ℕ) (ls e : List Bytes) (total : Result (List X × List Bytes) (List Bytes)) → i < count → item i ls ≡ Err e
    → with_front front (many_read item (count - i) i ls) ≡ total → total ≡ Err e
unfolding many_read
ends {X = X} item front count i ls e total lt h so_far =
    let k : count - i ≡ suc (count - (i + 1)) = omega arith in
    let one : with_front front (many_read item (count - i) i ls) ≡ Err e = rw (k, h) refl in
    sym so_far ∙ one

pub is_done : {X : Type 0} (item : ℕ → Read X) (front : List X) (count i : ℕ) (ls : List Bytes) (total : Result (List X × List Bytes) (List Bytes)) → count ≤ i → with_front front (many_read item (count - i) i ls) ≡ total → total ≡ Ok (front, ls)
unfolding many_read
is_done {X = X} item front count i ls total le so_far =
    let k : count - i ≡ 0 = omega arith in
    let one : with_front front (many_read item (count - i) i ls) ≡ Ok (front, ls) = rw k (ap (λ (ns : List X). taken ns ls) (append-nil front)) in
    sym so_far ∙ one
