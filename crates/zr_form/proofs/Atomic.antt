-- One field at the front of what is left of a line.
use Rattle.std.proofs.Common.{◌≡◌, ℕ, ◌^◌, ◌<◌, ◌≤◌, ◌⊎◌, inl, inr, true, List, ◌∷◌, Option, Some, None, Result, Ok, Err, sym, refl, ap, ◌∙◌, arith, Bor}
use Rattle.std.specs.Prelude.{option_copied, nat_lt}
use Rattle.std.proofs.lemmas.Bool.{cond-true, cond-false, cases_lt, le-ltb, lt-ltb}
use Rattle.zr_form.specs.Reading.{Bytes, one_read}
use Rattle.zr_form.specs.Lines.{split_once}
use Rattle.zr_form.specs.Fields.{only_if}
use Rattle.zr_form.specs.Bounds.{below}
use Rattle.zr_form.specs.Code.{left_of}
use Rattle.zr_form.proofs.Lines.{first_field}
use Rattle.zr_form.proofs.Fields.{only_some, only_again}
use Rattle.zr_form.proofs.Steps.{narrow}

pub atom_end : {X : Type 0} (one : Bytes → Option X) (left : Option (Bor Bytes)) → left ≡ None → one_read one (left_of (option_copied left)) ≡ Err (left_of (option_copied left))
unfolding one_read
atom_end one left e = rw e refl

pub first : (left : Option (Bor Bytes)) (line : Bor Bytes) (f : Bytes) (rest : Option (Bor Bytes)) → left ≡ Some line → f ≡ (split_once 32 line.now).0 → option_copied rest ≡ (split_once 32 line.now).1
    → left_of (option_copied left) ≡ f ∷ left_of (option_copied rest)
first left line f rest e b a = ap (λ (z : Option (Bor Bytes)). left_of (option_copied z)) e ∙ first_field line.now ∙ ap (λ (z : Bytes). z ∷ left_of (split_once 32 line.now).1) (sym b) ∙ ap (λ (z : Option Bytes). f ∷ left_of z) (sym a)

pub read_none : {X : Type 0} (one : Bytes → Option X) (f : Bytes) (fs : List Bytes) → one f ≡ None → one_read one (f ∷ fs) ≡ Err (f ∷ fs)
unfolding one_read
read_none one f fs e = rw e refl

pub read_some : {X : Type 0} (one : Bytes → Option X) (f : Bytes) (fs : List Bytes) (x : X) → one f ≡ Some x → one_read one (f ∷ fs) ≡ Ok (x, fs)
unfolding one_read
read_some one f fs x e = rw e refl

abbrev stopped : {A : Type 0} → List Bytes → Result A (List Bytes)
stopped z = Err z

pub atom_none : {X : Type 0} (one : Bytes → Option X) (left : Option (Bor Bytes)) (line : Bor Bytes) (f : Bytes) (rest : Option (Bor Bytes)) → left ≡ Some line → f ≡ (split_once 32 line.now).0 → option_copied rest ≡ (split_once 32 line.now).1
    → one f ≡ None → one_read one (left_of (option_copied left)) ≡ Err (left_of (option_copied left))
atom_none {X = X} one left line f rest e b a n =
    let k : left_of (option_copied left) ≡ f ∷ left_of (option_copied rest) = first left line f rest e b a in
    ap (one_read one) k ∙ read_none one f (left_of (option_copied rest)) n ∙ ap (λ (z : List Bytes). stopped {A = X × List Bytes} z) (sym k)

pub atom_some : {X : Type 0} (one : Bytes → Option X) (left : Option (Bor Bytes)) (line : Bor Bytes) (f : Bytes) (rest : Option (Bor Bytes)) (x : X) → left ≡ Some line → f ≡ (split_once 32 line.now).0 → option_copied rest ≡ (split_once 32 line.now).1
    → one f ≡ Some x → one_read one (left_of (option_copied left)) ≡ Ok (x, left_of (option_copied rest))
atom_some one left line f rest x e b a s = ap (one_read one) (first left line f rest e b a) ∙ read_some one f (left_of (option_copied rest)) x s

-- ---- numbers below a limit

pub small_some : (limit : ℕ) (o : Option ℕ) (n : ℕ) → Some n ≡ narrow o → n < limit → only_if (below true limit) o ≡ Some n
small_some limit o n e lt = only_again (below true limit) o n (only_some (λ m. nat_lt m (2 ^ 127)) o n (sym e)).0 (lt-ltb n limit lt)

pub small_high : (limit : ℕ) (o : Option ℕ) (n : ℕ) → Some n ≡ narrow o → limit ≤ n → only_if (below true limit) o ≡ None
small_high limit o n e le = ap (only_if (below true limit)) (only_some (λ m. nat_lt m (2 ^ 127)) o n (sym e)).0 ∙ cond-false _ _ _ (le-ltb n limit le)

no_number : (n : ℕ) → None ≡ Some n → ⊥
no_number n e = cc

small_none_step : (limit m : ℕ) → limit ≤ 2 ^ 127 → (m < 2 ^ 127) ⊎ (2 ^ 127 ≤ m) → None ≡ narrow (Some m) → only_if (below true limit) (Some m) ≡ None
small_none_step limit m le (inl lt) e = absurd (no_number m (e ∙ cond-true _ _ _ (lt-ltb m (2 ^ 127) lt)))
small_none_step limit m le (inr ge) e = cond-false _ _ _ (le-ltb m limit (omega arith))

pub small_none : (limit : ℕ) (o : Option ℕ) → limit ≤ 2 ^ 127 → None ≡ narrow o → only_if (below true limit) o ≡ None
small_none limit None le e = refl
small_none limit (Some m) le e = small_none_step limit m le (cases_lt m (2 ^ 127)) e
