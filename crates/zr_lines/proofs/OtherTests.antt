-- A number that was read under one test is read under another.
use Rattle.std.proofs.Common.{◌≡◌, ℕ, ℤ, Bool, true, false, cond, List, [], ◌∷◌, Option, Some, None, Result, Ok, Err, sym, refl, ap, ◌∙◌}
use Rattle.std.proofs.lemmas.Bool.{cond-true, cond-false}
use Rattle.zr_form.specs.Fields.{integer_read, natural_read, only_if}
use Rattle.zr_form.specs.Numbers.{integer, natural}
use Rattle.zr_form.specs.Reading.{Bytes, or_stop, one_read}
use Rattle.zr_form.proofs.Fields.{only_again, only_some}

abbrev took : {X : Type 0} → X → List Bytes → Result (X × List Bytes) (List Bytes)
took x fs = Ok (x, fs)

same_rest : {X : Type 0} (x y : X) (fs rest : List Bytes) → took x fs ≡ Ok (y, rest) → (x ≡ y) × (fs ≡ rest)
same_rest {X = X} x y fs rest e =
    let k : (x, fs) ≡ (y, rest) = cc in
    (ap (λ (q : X × List Bytes). q.0) k, ap (λ (q : X × List Bytes). q.1) k)

some_is : {X : Type 0} (o : Option X) (f : Bytes) (fs rest : List Bytes) (x : X) → or_stop o f fs ≡ Ok (x, rest) → (o ≡ Some x) × (fs ≡ rest)
some_is (Some y) f fs rest x e = let h = same_rest y x fs rest e in (ap Some h.0, h.1)
some_is None f fs rest x e = absurd cc

none_is : {X : Type 0} (o : Option X) (f : Bytes) (fs rest : List Bytes) → or_stop o f fs ≡ Err rest → o ≡ None
none_is (Some y) f fs rest e = absurd cc
none_is None f fs rest e = refl

not_none : {X : Type 0} (x : X) → Some x ≡ None → ⊥
not_none x e = cc

none_step : {X : Type 0} (a t : X → Bool) (x : X) → (t x ≡ true → a x ≡ true) → cond (a x) (Some x) None ≡ None → (b : Bool) → t x ≡ b → cond (t x) (Some x) None ≡ None
none_step a t x wider e true q = absurd (not_none x (sym (cond-true _ _ _ (wider q)) ∙ e))
none_step a t x wider e false q = cond-false _ _ _ q

none_more : {X : Type 0} (a t : X → Bool) (o : Option X) → ((x : X) → t x ≡ true → a x ≡ true) → only_if a o ≡ None → only_if t o ≡ None
none_more a t None wider e = refl
none_more a t (Some x) wider e = none_step a t x (wider x) e (t x) refl

-- the number passes the other test
one_passes : {X : Type 0} (parse : Bytes → Option X) (a t : X → Bool) (fs rest : List Bytes) (x : X) → one_read (λ f. only_if a (parse f)) fs ≡ Ok (x, rest) → t x ≡ true → one_read (λ f. only_if t (parse f)) fs ≡ Ok (x, rest)
unfolding one_read
one_passes parse a t [] rest x e q = absurd cc
one_passes parse a t (f ∷ fs) rest x e q =
    let h = some_is (only_if a (parse f)) f fs rest x e in
    let s = only_some a (parse f) x h.0 in
    rw (only_again t (parse f) x s.0 q) (ap (λ (z : List Bytes). took x z) h.1)

-- the number fails the other test
one_fails : {X : Type 0} (parse : Bytes → Option X) (a t : X → Bool) (fs rest : List Bytes) (x : X) → one_read (λ f. only_if a (parse f)) fs ≡ Ok (x, rest) → t x ≡ false → one_read (λ f. only_if t (parse f)) fs ≡ Err fs
unfolding one_read
one_fails parse a t [] rest x e q = absurd cc
one_fails parse a t (f ∷ fs) rest x e q =
    let h = some_is (only_if a (parse f)) f fs rest x e in
    let s = only_some a (parse f) x h.0 in
    let k : only_if t (parse f) ≡ None = ap (only_if t) s.0 ∙ cond-false _ _ _ q in
    rw k refl

-- no number was there for the wider test
one_lacks : {X : Type 0} (parse : Bytes → Option X) (a t : X → Bool) (fs rest : List Bytes) → ((x : X) → t x ≡ true → a x ≡ true) → one_read (λ f. only_if a (parse f)) fs ≡ Err rest → one_read (λ f. only_if t (parse f)) fs ≡ Err fs
unfolding one_read
one_lacks parse a t [] rest wider e = refl
one_lacks parse a t (f ∷ fs) rest wider e = rw (none_more a t (parse f) wider (none_is (only_if a (parse f)) f fs rest e)) refl

pub integer_passes : (a t : ℤ → Bool) (fs rest : List Bytes) (z : ℤ) → integer_read a fs ≡ Ok (z, rest) → t z ≡ true → integer_read t fs ≡ Ok (z, rest)
unfolding integer_read
integer_passes a t fs rest z e q = one_passes integer a t fs rest z e q

pub integer_fails : (a t : ℤ → Bool) (fs rest : List Bytes) (z : ℤ) → integer_read a fs ≡ Ok (z, rest) → t z ≡ false → integer_read t fs ≡ Err fs
unfolding integer_read
integer_fails a t fs rest z e q = one_fails integer a t fs rest z e q

pub integer_lacks : (a t : ℤ → Bool) (fs rest : List Bytes) → ((z : ℤ) → t z ≡ true → a z ≡ true) → integer_read a fs ≡ Err rest → integer_read t fs ≡ Err fs
unfolding integer_read
integer_lacks a t fs rest wider e = one_lacks integer a t fs rest wider e

pub natural_passes : (a t : ℕ → Bool) (fs rest : List Bytes) (n : ℕ) → natural_read a fs ≡ Ok (n, rest) → t n ≡ true → natural_read t fs ≡ Ok (n, rest)
unfolding natural_read
natural_passes a t fs rest n e q = one_passes natural a t fs rest n e q

pub natural_fails : (a t : ℕ → Bool) (fs rest : List Bytes) (n : ℕ) → natural_read a fs ≡ Ok (n, rest) → t n ≡ false → natural_read t fs ≡ Err fs
unfolding natural_read
natural_fails a t fs rest n e q = one_fails natural a t fs rest n e q

pub natural_lacks : (a t : ℕ → Bool) (fs rest : List Bytes) → ((n : ℕ) → t n ≡ true → a n ≡ true) → natural_read a fs ≡ Err rest → natural_read t fs ≡ Err fs
unfolding natural_read
natural_lacks a t fs rest wider e = one_lacks natural a t fs rest wider e

-- ---- what was read of a list's first field

pub one_front : {X : Type 0} (one : Bytes → Option X) (fs rest : List Bytes) (x : X) → one_read one fs ≡ Ok (x, rest) → (f : Bytes) × (fs ≡ f ∷ rest) × (one f ≡ Some x)
unfolding one_read
one_front one [] rest x e = absurd cc
one_front one (f ∷ fs) rest x e = let h = some_is (one f) f fs rest x e in (f, ap (λ (z : List Bytes). f ∷ z) h.1, h.0)

one_missing : {X : Type 0} (one : Bytes → Option X) (f : Bytes) (fs rest : List Bytes) → one_read one (f ∷ fs) ≡ Err rest → one f ≡ None
unfolding one_read
one_missing one f fs rest e = none_is (one f) f fs rest e

pub natural_front : (test : ℕ → Bool) (fs rest : List Bytes) (n : ℕ) → natural_read test fs ≡ Ok (n, rest) → (f : Bytes) × (fs ≡ f ∷ rest) × (only_if test (natural f) ≡ Some n)
unfolding natural_read
natural_front test fs rest n e = one_front (λ f. only_if test (natural f)) fs rest n e

pub natural_missing : (test : ℕ → Bool) (f : Bytes) (fs rest : List Bytes) → natural_read test (f ∷ fs) ≡ Err rest → only_if test (natural f) ≡ None
unfolding natural_read
natural_missing test f fs rest e = one_missing (λ g. only_if test (natural g)) f fs rest e

pub integer_front : (test : ℤ → Bool) (fs rest : List Bytes) (z : ℤ) → integer_read test fs ≡ Ok (z, rest) → (f : Bytes) × (fs ≡ f ∷ rest) × (only_if test (integer f) ≡ Some z)
unfolding integer_read
integer_front test fs rest z e = one_front (λ f. only_if test (integer f)) fs rest z e

pub integer_missing : (test : ℤ → Bool) (f : Bytes) (fs rest : List Bytes) → integer_read test (f ∷ fs) ≡ Err rest → only_if test (integer f) ≡ None
unfolding integer_read
integer_missing test f fs rest e = one_missing (λ g. only_if test (integer g)) f fs rest e

pub integer_passed : (test : ℤ → Bool) (fs rest : List Bytes) (z : ℤ) → integer_read test fs ≡ Ok (z, rest) → test z ≡ true
integer_passed test fs rest z e = let h = integer_front test fs rest z e in (only_some test (integer h.0) z h.2).1

pub natural_passed : (test : ℕ → Bool) (fs rest : List Bytes) (n : ℕ) → natural_read test fs ≡ Ok (n, rest) → test n ≡ true
natural_passed test fs rest n e = let h = natural_front test fs rest n e in (only_some test (natural h.0) n h.2).1
