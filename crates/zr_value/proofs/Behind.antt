-- What stands behind a value that was read.
use Rattle.std.proofs.Common.{◌≡◌, ◌≢◌, ℕ, ◌+◌, ◌≤◌, List, [], ◌∷◌, length, refl, subst, Ok, Err, Option, Some, None, Bool, true, false, cond, arith}
use Rattle.std.specs.Prelude.{decimal, nat_le, ◌&&◌, ◌==◌}
use Rattle.std.specs.List.{sum_by}
use Rattle.std.proofs.lemmas.Bool.Decides.{nat_tests}
use Rattle.std.proofs.lemmas.List.Sums.{sum_by-cons}
use Rattle.serde_json.specs.Data.{Data}
use Rattle.serde_json.specs.Find.{get, at}
use Rattle.zr_value.specs.declared.fault.GameFault.{GameFault}
use Rattle.zr_value.specs.declared.fault.GameFault.TheVariants.{Count}
use Rattle.zr_value.specs.Faults.{Read, fault, under, ◌>>=◌}
use Rattle.zr_value.specs.Values.{there, there_or, needed, optional, part, items_in, listed, each}

pub bind_ok : {A B : Type 0} (r : Read A) (f : A → Read B) (y : B) → (r >>= f) ≡ Ok y → (x : A) × (r ≡ Ok x) × (f x ≡ Ok y)
bind_ok (Ok x) f y h = (x, refl, h)
bind_ok (Err e) f y h = absurd (cc)

-- no fault where a test fails
pub guard_ok : {A : Type 0} (what : GameFault) (b : Bool) (x y : A) → (let r : Read A = cond b (fault what) (Ok x) in r ≡ Ok y) → (b ≡ false) × (x ≡ y)
guard_ok what true x y h = absurd (cc)
guard_ok what false x y h = (refl, cc)

-- a fault unless a test passes
pub only_ok : {A : Type 0} (what : GameFault) (b : Bool) (x y : A) → (let r : Read A = cond b (Ok x) (fault what) in r ≡ Ok y) → (b ≡ true) × (x ≡ y)
only_ok what false x y h = absurd (cc)
only_ok what true x y h = (refl, cc)

pub under_ok : {A : Type 0} (step : List ℕ) (r : Read A) (x : A) → under step r ≡ Ok x → r ≡ Ok x
under_ok step (Ok y) x h = h
under_ok step (Err e) x h = absurd (cc)

there_ok : {A : Type 0} (read : Data → Read A) (o : Option Data) (x : A) → there read o ≡ Ok x → (d : Data) × (read d ≡ Ok x)
there_ok read None x h = absurd (cc)
there_ok read (Some d) x h = (d, h)

pub part_ok : {A : Type 0} (k : ℕ) (read : Data → Read A) (d : Data) (x : A) → part k read d ≡ Ok x → (e : Data) × (read e ≡ Ok x)
part_ok k read d x h = there_ok read (at k d) x (under_ok (decimal k) (there read (at k d)) x h)

pub needed_ok : {A : Type 0} (name : List ℕ) (read : Data → Read A) (d : Data) (x : A) → needed name read d ≡ Ok x → (e : Data) × (read e ≡ Ok x)
needed_ok name read d x h = there_ok read (get name d) x (under_ok name (there read (get name d)) x h)

there_or_keeps : {A : Type 0} (P : A → Type 0) (missing : A) (read : Data → Read A) (o : Option Data) (x : A) → P missing → ((e : Data) (y : A) → read e ≡ Ok y → P y) → there_or missing read o ≡ Ok x → P x
there_or_keeps P missing read None x m keeps h = let e : missing ≡ x = cc in subst P e m
there_or_keeps P missing read (Some d) x m keeps h = keeps d x h

-- what a value keeps that is there, and so does the one that stands for it
pub optional_keeps : {A : Type 0} (P : A → Type 0) (name : List ℕ) (missing : A) (read : Data → Read A) (d : Data) (x : A) → P missing → ((e : Data) (y : A) → read e ≡ Ok y → P y) → optional name missing read d ≡ Ok x → P x
optional_keeps P name missing read d x m keeps h = there_or_keeps P missing read (get name d) x m keeps (under_ok name (there_or missing read (get name d)) x h)

-- ---- lists

-- what each item keeps stands at the end
pub each_keeps : {S A : Type 0} (P : S → Type 0) (add : S → A → Read S)
    → ((s : S) (d : A) (t : S) → P s → add s d ≡ Ok t → P t)
    → (i : ℕ) (s : S) (ds : List A) (t : S) → P s → each add i s ds ≡ Ok t → P t
each_keeps P add keeps i s [] t p h = let e : s ≡ t = cc in subst P e p
each_keeps P add keeps i s (d ∷ ds) t p h =
    let b = bind_ok (under (decimal i) (add s d)) (λ more. each add (i + 1) more ds) t h in
    each_keeps P add keeps (i + 1) b.0 ds t
    (keeps s d b.0 p (under_ok (decimal i) (add s d) b.0 b.1)) b.2

-- a size grows by at most so much with each item
pub each_grows : {S A : Type 0} (size : S → ℕ) (more : A → ℕ) (add : S → A → Read S)
    → ((s : S) (d : A) (t : S) → add s d ≡ Ok t → size t ≤ size s + more d)
    → (i : ℕ) (s : S) (ds : List A) (t : S) → each add i s ds ≡ Ok t
    → size t ≤ size s + sum_by more ds
each_grows size more add grows i s [] t h =
    let e : s ≡ t = cc in subst (λ t. size t ≤ size s + 0) e (omega arith)
each_grows size more add grows i s (d ∷ ds) t h =
    let b = bind_ok (under (decimal i) (add s d)) (λ more. each add (i + 1) more ds) t h in
    let first = grows s d b.0 (under_ok (decimal i) (add s d) b.0 b.1) in
    let rest = each_grows size more add grows (i + 1) b.0 ds t b.2 in
    let whole = sum_by-cons more d ds in
    omega (arith, first, rest, whole)

-- where each item adds one, as many are added as there are items
pub each_counts : {A B : Type 0} (add : List B → A → Read (List B))
    → ((s : List B) (d : A) (t : List B) → add s d ≡ Ok t → length t ≡ length s + 1)
    → (i : ℕ) (s : List B) (ds : List A) (t : List B) → each add i s ds ≡ Ok t
    → length t ≡ length s + length ds
each_counts add one i s [] t h =
    let e : s ≡ t = cc in subst (λ t. length t ≡ length s + 0) e (omega arith)
each_counts add one i s (d ∷ ds) t h =
    let b = bind_ok (under (decimal i) (add s d)) (λ more. each add (i + 1) more ds) t h in
    let first = one s d b.0 (under_ok (decimal i) (add s d) b.0 b.1) in
    let rest = each_counts add one (i + 1) b.0 ds t b.2 in
    omega (arith, first, rest)

pub both_true : (a b : Bool) → (a && b) ≡ true → (a ≡ true) × (b ≡ true)
both_true true true h = (refl, refl)
both_true true false h = absurd (cc)
both_true false b h = absurd (cc)

pub le_from_test : (m n : ℕ) → nat_le m n ≡ true → m ≤ n
le_from_test m n h = grind (arith, nat_tests)

pub eq_from_test : (m n : ℕ) → (m == n) ≡ false → m ≢ n
eq_from_test m n h = grind (arith, nat_tests)

-- a list that was read has as many items as it has to
pub listed_ok : (least most : ℕ) (d : Data) (ds : List Data) → listed least most d ≡ Ok ds
    → (least ≤ length ds) × (length ds ≤ most)
listed_ok least most d ds h =
    let b = bind_ok (items_in d) _ ds h in
    let o = only_ok Count (nat_le least (length b.0) && nat_le (length b.0) most) b.0 ds b.2 in
    let two = both_true (nat_le least (length b.0)) (nat_le (length b.0) most) o.0 in
    subst (λ ds. (least ≤ length ds) × (length ds ≤ most)) o.1
    (le_from_test least (length b.0) two.0, le_from_test (length b.0) most two.1)
